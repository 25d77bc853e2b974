-- How compilations end, and that they have one end.
use Rattle.std.proofs.Common.{◌≡◌, ℕ, ℤ, List, [], ◌∷◌, slice_get, Option, Some, None, Result, Ok, Err, refl, sym, ap, ◌∙◌, subst, inl, inr}
use Rattle.std.specs.Prelude.{◌⊎◌}
use Rattle.std.specs.Arc.{arc_value}
use Rattle.sdf_level.specs.View.{LevelView}
use Rattle.job_compiler.specs.Compilation.{Compilation, IsCompiled}
use Rattle.level_schedule.specs.Schedules.{IsScheduled}
use Rattle.level_schedule.specs.declared.scheduling.LevelSchedule.{LevelSchedule}
use Rattle.param_resolver.specs.declared.level_set.LevelSet.{LevelSet}
use Rattle.pisdf_model.specs.declared.graph.Graph.{Graph}
use Rattle.param_resolver.specs.LevelOf.{level_faults}
use Rattle.param_resolver.specs.Refusal as part
use Rattle.pisdf_meaning.specs.Causes.{part_cause, unless_refused}
use Rattle.pisdf_meaning.specs.Endings.{Then}
use Rattle.pisdf_meaning.specs.Preparing.{Schedules, level_in, rated, resolved}
use Rattle.pisdf_meaning.specs.TopLevel.{IsLevelSet}
use Rattle.pisdf_meaning.specs.declared.firing.Configured.{Configured}
use Rattle.pisdf_meaning.specs.declared.firing.Firing.{Firing}
use Rattle.pisdf_meaning.specs.declared.refusal.Cause.{Cause}
use Rattle.pisdf_meaning.specs.declared.refusal.Refusal.{Refusal}
use Rattle.pisdf_meaning.proofs.OneMeaning.{schedules_once, then_once}
use Rattle.job_rules.specs.Doing as doing
use Rattle.job_rules.specs.Doing.{LeadsToSchedule, scheduled}
use Rattle.job_rules.specs.Items.{graph_of}
use Rattle.job_rules.specs.Words as words
use Rattle.job_preparing.specs.CompileTasks.{IsEndOf, IsReadyAs, IsReadyWith, schedule_of}
use Rattle.job_preparing.specs.Unscheduled.{IsUnscheduledAs}
use Rattle.job_preparing.specs.declared.compiling.CompileEnd.{CompileEnd}
use Rattle.job_preparing.specs.declared.compiling.CompileEnd.TheVariants.{Ready, Refused, Memory}

-- the law of compilations
abbrev pub OneCompilation : Type 0
OneCompilation = (one other : Compilation) → IsCompiled one → IsCompiled other → one.level ≡ other.level → one.workers ≡ other.workers → one ≡ other

abbrev err_of : Refusal → Result LevelSchedule Refusal
err_of refusal = Err refusal

answer_err : (end : Result LevelSchedule Refusal) (refusal : Refusal) → words.Refuses refusal ≡ scheduled end → end ≡ Err refusal
answer_err (Ok s) refusal e = absurd (cc)
answer_err (Err other) refusal e = let same : refusal ≡ other = cc in ap Err (sym same)

same_cause : (a b : Refusal) → err_of a ≡ err_of b → a.cause ≡ b.cause
same_cause a b e = let same : a ≡ b = cc in ap (λ (r : Refusal). r.cause) same

one_set : (graphs : List Graph) (g : Graph) (firing : Firing) (values : List ℤ) (a b : LevelSet) → IsLevelSet graphs g firing values a → IsLevelSet graphs g firing values b → a ≡ b
one_set graphs g firing values a b f h =
    let level = f.level ∙ sym h.level in
    let origins = f.origins ∙ sym h.origins in
    let places = f.places ∙ sym h.places in
    let args = f.args ∙ sym h.args in
    let outs = f.outs ∙ sym h.outs in
    let children = f.children ∙ sym h.children in
    λ k. record { level = level k; origins = origins k; places = places k; args = args k; outs = outs k; children = children k }

module _ (graphs : List Graph) (firing : Firing) (left : List Configured) where
  abbrev g : Graph
  g = graph_of graphs firing

  abbrev OfLevel : List ℤ → Result LevelSchedule Refusal → Type 0
  OfLevel values end = Schedules g firing (level_in graphs g firing values) end

  abbrev OfValues : List ℤ → Result LevelSchedule Refusal → Type 0
  OfValues values end = Then OfLevel (rated graphs g firing values) end

  -- ---- one after the other

  pub leads_once : (a b : Result LevelSchedule Refusal) → LeadsToSchedule graphs g firing left a → LeadsToSchedule graphs g firing left b → a ≡ b
  leads_once a b f h =
      then_once OfValues (λ values a b f h. then_once OfLevel (λ values a b f h. schedules_once g firing (level_in graphs g firing values) a b f h) (rated graphs g firing values) a b f h)
      (resolved graphs g firing left) a b f h

  pub leads_by_level : (values : List ℤ) (end : Result LevelSchedule Refusal) → resolved graphs g firing left ≡ Ok values → rated graphs g firing values ≡ Ok values → OfLevel values end → LeadsToSchedule graphs g firing left end
  leads_by_level values end resolved_is rated_is is =
      let P : Result (List ℤ) Refusal → Type 0 = λ r. Then OfValues r end in
      let Q : Result (List ℤ) Refusal → Type 0 = λ r. Then OfLevel r end in
      subst P (sym resolved_is) (subst Q (sym rated_is) is)

  -- a compilation has the schedule of the level
  pub ready_leads : (workers : ℕ) (c : Compilation) (set : LevelSet) (values : List ℤ) → IsReadyWith graphs workers firing left c set values → LeadsToSchedule graphs g firing left (Ok (schedule_of c))
  ready_leads workers c set values ready =
      let at : c.level ≡ level_in graphs g firing values = ready.level_is ∙ ready.set_is.level in
      let P : LevelView → Type 0 = λ l. IsScheduled l (schedule_of c) in
      let own : IsScheduled c.level (schedule_of c) = record { repetition = ready.compiled.repetition; within = ready.compiled.within; order = ready.compiled.order_is } in
      leads_by_level values (Ok (schedule_of c)) ready.values_are ready.rated_so (subst P at own)

  module _ (here : slice_get graphs firing.graph ≡ Some g) where
    -- what is ready is what the firing is compiled to
    pub ready_compiled : (workers : ℕ) (c : Compilation) (set : LevelSet) (values : List ℤ) → IsReadyWith graphs workers firing left c set values → doing.IsCompiled graphs firing left (words.Schedules (schedule_of c))
    ready_compiled workers c set values ready = record { g = g; here = here; end = Ok (schedule_of c); leads = ready_leads workers c set values ready; answer_is = refl }

    refused_with : (refusal : Refusal) → LeadsToSchedule graphs g firing left (Err refusal) → doing.IsCompiled graphs firing left (words.Refuses refusal)
    refused_with refusal leads = record { g = g; here = here; end = Err refusal; leads = leads; answer_is = refl }

    -- refused for its parameters, its rates, or its schedule
    pub refused_values : (refusal : Refusal) → Err refusal ≡ resolved graphs g firing left → doing.IsCompiled graphs firing left (words.Refuses refusal)
    refused_values refusal e =
        let P : Result (List ℤ) Refusal → Type 0 = λ r. Then OfValues r (Err refusal) in
        let first : Then OfValues (Err refusal) (Err refusal) = refl in
        refused_with refusal (subst P e first)

    pub refused_rates : (values : List ℤ) (refusal : Refusal) → resolved graphs g firing left ≡ Ok values → rated graphs g firing values ≡ Err refusal → doing.IsCompiled graphs firing left (words.Refuses refusal)
    refused_rates values refusal resolved_is e =
        let P : Result (List ℤ) Refusal → Type 0 = λ r. Then OfValues r (Err refusal) in
        let Q : Result (List ℤ) Refusal → Type 0 = λ r. Then OfLevel r (Err refusal) in
        let first : Then OfLevel (Err refusal) (Err refusal) = refl in
        refused_with refusal (subst P (sym resolved_is) (subst Q (sym e) first))

    pub refused_schedule : (values : List ℤ) (level : LevelView) (refusal : Refusal) → resolved graphs g firing left ≡ Ok values → rated graphs g firing values ≡ Ok values → level ≡ level_in graphs g firing values →
        IsUnscheduledAs g firing level refusal → doing.IsCompiled graphs firing left (words.Refuses refusal)
    refused_schedule values level refusal resolved_is rated_is level_is is =
        let P : LevelView → Type 0 = λ l. IsUnscheduledAs g firing l refusal in
        let at : IsUnscheduledAs g firing (level_in graphs g firing values) refusal = subst P level_is is in
        refused_with refusal (leads_by_level values (Err refusal) resolved_is rated_is (at.fault, at.unscheduled, at.refusal_is))

    -- ---- the only end

    err_leads : (refusal : Refusal) → doing.IsCompiled graphs firing left (words.Refuses refusal) → LeadsToSchedule graphs g firing left (Err refusal)
    err_leads refusal is =
        let same : is.g ≡ g = let e : Some is.g ≡ Some g = sym is.here ∙ here in cc in
        let end_is = answer_err is.end refusal is.answer_is in
        let P : Graph → Type 0 = λ x. LeadsToSchedule graphs x firing left is.end in
        let Q : Result LevelSchedule Refusal → Type 0 = λ r. LeadsToSchedule graphs g firing left r in
        subst Q end_is (subst P same is.leads)

    -- a refusal stands at the firing's path
    at_path : (faults : List part.Refusal) (values : List ℤ) (refusal : Refusal) → unless_refused graphs g firing.path faults values ≡ Err refusal → refusal.path ≡ firing.path
    at_path [] values refusal e = absurd (cc)
    at_path (fault ∷ faults) values refusal e =
        let own : Refusal = record { path = firing.path; cause = part_cause graphs (Some g) fault } in
        let same : own ≡ refusal = cc in
        sym (ap (λ (r : Refusal). r.path) same)

    schedule_path : (values : List ℤ) (r : Result (List ℤ) Refusal) (refusal : Refusal) → ((x : Refusal) → r ≡ Err x → x.path ≡ firing.path) → Then OfLevel r (Err refusal) → refusal.path ≡ firing.path
    schedule_path values (Ok v) refusal at is = ap (λ (r : Refusal). r.path) is.2
    schedule_path values (Err other) refusal at is = let same : refusal ≡ other = cc in ap (λ (r : Refusal). r.path) same ∙ at other refl

    values_path : (r : Result (List ℤ) Refusal) (refusal : Refusal) → ((x : Refusal) → r ≡ Err x → x.path ≡ firing.path) → Then OfValues r (Err refusal) → refusal.path ≡ firing.path
    values_path (Ok v) refusal at is = schedule_path v (rated graphs g firing v) refusal (λ x e. at_path (level_faults graphs g v) v x e) is
    values_path (Err other) refusal at is = let same : refusal ≡ other = cc in ap (λ (r : Refusal). r.path) same ∙ at other refl

    pub refusal_path : (refusal : Refusal) → doing.IsCompiled graphs firing left (words.Refuses refusal) → refusal.path ≡ firing.path
    refusal_path refusal is = values_path (resolved graphs g firing left) refusal (λ x e. at_path _ _ x e) (err_leads refusal is)

    both_ways : (workers : ℕ) (c : Compilation) (set : LevelSet) (values : List ℤ) (refusal : Refusal) → IsReadyWith graphs workers firing left c set values → doing.IsCompiled graphs firing left (words.Refuses refusal) → ⊥
    both_ways workers c set values refusal ready is =
        let e : Ok (schedule_of c) ≡ err_of refusal = leads_once (Ok (schedule_of c)) (Err refusal) (ready_leads workers c set values ready) (err_leads refusal is) in cc

    pub only_ready : OneCompilation → (workers : ℕ) (end : CompileEnd) → IsEndOf graphs workers firing left end → (c : Compilation) (set : LevelSet) (values : List ℤ) → IsReadyWith graphs workers firing left c set values →
        IsReadyAs c set values end ⊎ (end ≡ Memory)
    only_ready one workers (Ready level) is c set values ready =
        let made = (arc_value level).made in
        let own = is.made in
        let same : made.values ≡ values = let e : Ok made.values ≡ Ok values = sym own.values_are ∙ ready.values_are in cc in
        let P : List ℤ → Type 0 = λ v. IsLevelSet graphs g firing v made.set in
        let sets : made.set ≡ set = one_set graphs g firing values made.set set (subst P same own.set_is) ready.set_is in
        inl (one (arc_value made.compiled) c own.compiled ready.compiled (own.level_is ∙ ap (λ (s : LevelSet). s.level) sets ∙ sym ready.level_is) (own.workers_are ∙ sym ready.workers_are), sets, same)
    only_ready one workers (Refused cause) is c set values ready = absurd (both_ways workers c set values _ ready is)
    only_ready one workers Memory is c set values ready = inr refl

    pub only_refused : (workers : ℕ) (end : CompileEnd) → IsEndOf graphs workers firing left end → (cause : Cause) → doing.IsCompiled graphs firing left (words.Refuses record { path = firing.path; cause = cause }) →
        (end ≡ Refused cause) ⊎ (end ≡ Memory)
    only_refused workers (Ready level) is cause refused = let made = (arc_value level).made in absurd (both_ways workers (arc_value made.compiled) made.set made.values _ is.made refused)
    only_refused workers (Refused other) is cause refused =
        let own : Refusal = record { path = firing.path; cause = other } in
        let wanted : Refusal = record { path = firing.path; cause = cause } in
        inl (ap Refused (same_cause own wanted (leads_once (Err own) (Err wanted) (err_leads own is) (err_leads wanted refused))))
    only_refused workers Memory is cause refused = inr refl
