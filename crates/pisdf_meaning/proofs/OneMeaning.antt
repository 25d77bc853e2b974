-- A firing of a graph ends in one way.
use Rattle.std.proofs.Common.{◌≡◌, ⊎_elim, inl, ℕ, zero, suc, ◌+◌, ◌<◌, Bool, cond, ℤ, List, [], ◌∷◌, ◌++◌, drop, slice_get, slice_index, Option, Some, None, Result, Ok, Err, IfOk, OnOk, refl, ap, sym, ◌∙◌, subst, arith}
use Rattle.sdf_level.specs.View.{LevelView}
use Rattle.sdf_level.specs.Firings.{EachFiring, firings}
use Rattle.sdf_level.specs.LevelRun.{Ended, IsEnd, end_of}
use Rattle.sdf_level.specs.Run.{GoesOn, Runs, RunsFrom, inputs, put}
use Rattle.sdf_level.proofs.Branches.{OnOk-map}
use Rattle.sdf_level.proofs.FiringLists.{firing_at}
use Rattle.sdf_level.proofs.OnlyOne.{order_only}
use Rattle.level_schedule.proofs.OneAnswer.{answers_fault, answers_schedule}
use Rattle.level_schedule.specs.Schedules.{IsScheduled, IsUnscheduled}
use Rattle.level_schedule.specs.declared.scheduling.LevelSchedule.{LevelSchedule}
use Rattle.level_schedule.specs.declared.unscheduled.Unscheduled.{Unscheduled}
use Rattle.level_schedule.specs.declared.unscheduled.Unscheduled.TheVariants.{Memory}
use Rattle.param_resolver.specs.LevelOf.{level_args}
use Rattle.param_resolver.specs.Numbering.{acting, has_state}
use Rattle.pisdf_model.specs.InterfaceWires.{is_configuration}
use Rattle.pisdf_model.specs.Parts.{input_count}
use Rattle.pisdf_model.specs.declared.actor.Actor.{Actor}
use Rattle.pisdf_model.specs.declared.actor.Body.{Body}
use Rattle.pisdf_model.specs.declared.actor.Body.TheVariants.{Kernel, Config, Child, ConfigChild}
use Rattle.pisdf_model.specs.declared.graph.Graph.{Graph}
use Rattle.pisdf_meaning.specs.Causes.{schedule_cause}
use Rattle.pisdf_meaning.specs.Configuring.{Configuration, LeaveAll, Leaves, child_leaves, config_firing, configurations, with_first}
use Rattle.pisdf_meaning.specs.Endings.{End, Ends, Then}
use Rattle.pisdf_meaning.specs.Meaning.{FiresGraph, Means, MeansWithin}
use Rattle.pisdf_meaning.specs.Preparing.{Schedules, level_in, rated, resolved}
use Rattle.pisdf_meaning.specs.Running.{Fires, FiresActor, FiresBody, RunsLevel, Traces, child_fires, child_firing, child_rows, chosen_rows, given_by, link_starts, source_tokens, trace_of_first, traces_below}
use Rattle.pisdf_meaning.specs.States.{tokens_at}
use Rattle.pisdf_meaning.specs.declared.firing.Configured.{Configured}
use Rattle.pisdf_meaning.specs.declared.firing.Firing.{Firing}
use Rattle.pisdf_meaning.specs.declared.outcome.TraceRow.{TraceRow}
use Rattle.pisdf_meaning.specs.declared.refusal.Refusal.{Refusal}

-- each firing ends in one way
abbrev EndOnce : Ends → Type 0
EndOnce ends = (firing : Firing) (a b : End) → ends firing a → ends firing b → a ≡ b

-- ---- answers

always : {T E P : Type 0} (r : Result T E) → P → OnOk r P
always (Ok x) p = p
always (Err e) p = tt

both : {T E P Q R : Type 0} (r : Result T E) → (P → Q → R) → OnOk r P → OnOk r Q → OnOk r R
both (Ok x) f p q = f p q
both (Err e) f p q = tt

pub then_once : {S T : Type 0} (next : S → Result T Refusal → Type 0) → ((s : S) (a b : Result T Refusal) → next s a → next s b → a ≡ b) → (r : Result S Refusal) (a b : Result T Refusal) → Then next r a → Then next r b → a ≡ b
then_once next once (Ok s) a b f h = once s a b f h
then_once next once (Err refusal) a b f h = f ∙ sym h

-- ---- traces

traces_same : (f h : ℕ → List TraceRow) (n : ℕ) → ((j : ℕ) → j < n → f j ≡ h j) → traces_below f n ≡ traces_below h n
traces_same f h zero same = refl
traces_same f h (suc n) same = rw (traces_same f h n (λ j below. same j (omega arith)), same n (omega arith)) refl

module _ (counts : List ℕ) (t u : Traces) (same : (b : ℕ) → traces_below (t b) (slice_index counts b) ≡ traces_below (u b) (slice_index counts b)) where
  rows_same : (b : ℕ) (actors : List Actor) (configured : List Configured) → child_rows counts t b actors configured ≡ child_rows counts u b actors configured
  rows_same b [] configured = refl
  rows_same b (x ∷ actors) configured =
      let own = λ (r : List TraceRow) (s : List TraceRow). cond (is_configuration x.body) (trace_of_first configured ++ r) s in
      ap (λ (r : List TraceRow). own r (traces_below (t b) (slice_index counts b) ++ child_rows counts t (b + 1) actors configured)) (rows_same b actors (drop 1 configured))
      ∙ ap (λ (s : List TraceRow). own (child_rows counts u b actors (drop 1 configured)) s)
      (ap (λ (r : List TraceRow). r ++ child_rows counts t (b + 1) actors configured) (same b) ∙ ap (λ (r : List TraceRow). traces_below (u b) (slice_index counts b) ++ r) (rows_same (b + 1) actors configured))

-- ---- the schedule

abbrev scheduled : LevelSchedule → Result LevelSchedule Unscheduled
scheduled s = Ok s

abbrev faulted : Unscheduled → Result LevelSchedule Unscheduled
faulted fault = Err fault

one_schedule : (level : LevelView) (s r : LevelSchedule) → IsScheduled level s → IsScheduled level r → s ≡ r
one_schedule level s r f h = ⊎_elim (λ (e : scheduled s ≡ scheduled r). cc) (λ (e : scheduled s ≡ faulted Memory). cc) (answers_schedule level (scheduled s) f tt r h)

no_fault : (level : LevelView) (s : LevelSchedule) (fault : Unscheduled) → IsScheduled level s → IsUnscheduled level fault → ⊥
no_fault level s fault f h = ⊎_elim (λ (e : scheduled s ≡ faulted fault). cc) (λ (e : scheduled s ≡ faulted Memory). cc) (answers_fault level (scheduled s) f tt fault h)

one_fault : (level : LevelView) (a b : Unscheduled) → IsUnscheduled level a → IsUnscheduled level b → a ≡ b
one_fault level a b f h =
    ⊎_elim (λ (e : faulted a ≡ faulted b). cc)
    (λ (e : faulted a ≡ faulted Memory). let m : a ≡ Memory = cc in absurd (subst (IsUnscheduled level) m f))
    (answers_fault level (faulted a) tt (inl f) b h)

pub schedules_once : (g : Graph) (firing : Firing) (level : LevelView) (a b : Result LevelSchedule Refusal) → Schedules g firing level a → Schedules g firing level b → a ≡ b
schedules_once g firing level (Ok s) (Ok r) f h = ap Ok (one_schedule level s r f h)
schedules_once g firing level (Ok s) (Err refusal) f h = absurd (no_fault level s h.0 f h.1)
schedules_once g firing level (Err refusal) (Ok r) f h = absurd (no_fault level r f.0 h f.1)
schedules_once g firing level (Err refusal) (Err other) f h =
    let same = one_fault level f.0 h.0 f.1 h.1 in
    ap Err (f.2 ∙ ap (λ (fault : Unscheduled). record { path = firing.path; cause = schedule_cause (acting g) fault }) same ∙ sym h.2)

module _ (graphs : List Graph) (ends : Ends) (once : EndOnce ends) (g : Graph) (firing : Firing) where
  -- ---- configuration actors

  leaves_once : (c : Configuration) (body : Body) (a b : Result Configured Refusal) → Leaves graphs ends g firing c body a → Leaves graphs ends g firing c body b → a ≡ b
  leaves_once c (Kernel kernel args ins outs) a b f h = absurd f
  leaves_once c (Child place args) a b f h = absurd f
  leaves_once c (Config kernel args ins outs sets) a b f h = f ∙ sym h
  leaves_once c (ConfigChild place args sets) a b f h = f.2 ∙ ap child_leaves (once (config_firing graphs g firing c place) f.0 h.0 f.1 h.1) ∙ sym h.2

  pub all_once : (cs : List Configuration) (a b : Result (List Configured) Refusal) → LeaveAll graphs ends g firing cs a → LeaveAll graphs ends g firing cs b → a ≡ b
  all_once [] a b f h = f ∙ sym h
  all_once (c ∷ cs) a b f h =
      let next : Configured → Result (List Configured) Refusal → Type 0 = λ one all. (others : Result (List Configured) Refusal) × LeaveAll graphs ends g firing cs others × (all ≡ with_first one others) in
      let same : h.0 ≡ f.0 = leaves_once c c.body h.0 f.0 h.1 f.1 in
      let P : Result Configured Refusal → Type 0 = λ left. Then next left b in
      then_once next (λ one x y p q. p.2 ∙ ap (with_first one) (all_once cs p.0 q.0 p.1 q.1) ∙ sym q.2) f.0 a b f.2 (subst P same h.2)

  -- ---- one firing of an actor

  module _ (values args : List ℤ) (k : ℕ) (trace other : List TraceRow) (read : List (List ℤ)) (a b : Result (List (List ℤ)) Refusal) where
    child_traces : (end last : End) (keeps : Bool) → end ≡ last → IfOk end (λ given. trace ≡ given.trace) → IfOk last (λ given. other ≡ given.trace) → a ≡ child_fires keeps end → OnOk a (trace ≡ other)
    child_traces (Ok given) last keeps same f h e =
        let P : End → Type 0 = λ x. IfOk x (λ given. other ≡ given.trace) in
        let theirs : other ≡ given.trace = subst P (sym same) h in
        always a (f ∙ sym theirs)
    child_traces (Err refusal) last keeps same f h e = let P : Result (List (List ℤ)) Refusal → Type 0 = λ r. OnOk r (trace ≡ other) in subst P (sym e) tt

    body_once : (actor : Actor) (body : Body) → FiresBody graphs ends firing values args actor body k trace read a → FiresBody graphs ends firing values args actor body k other read b → (a ≡ b) × OnOk a (trace ≡ other)
    body_once actor (Kernel kernel exprs ins outs) f h =
        let same : a ≡ b = f.1 ∙ sym h.1 in
        let P : Result (List (List ℤ)) Refusal → Type 0 = λ r. OnOk r (other ≡ []) in
        let join : trace ≡ [] → other ≡ [] → trace ≡ other = λ p q. p ∙ sym q in
        (same, both a join f.0 (subst P (sym same) h.0))
    body_once actor (Child place exprs) f h =
        let same : f.0 ≡ h.0 = once (child_firing graphs firing actor.name k args (has_state graphs actor) place (input_count graphs actor.body) read) f.0 h.0 f.1 h.1 in
        (f.3 ∙ ap (child_fires (has_state graphs actor)) same ∙ sym h.3, child_traces f.0 h.0 (has_state graphs actor) same f.2 h.2 f.3)
    body_once actor (Config kernel exprs ins outs sets) f h = absurd f
    body_once actor (ConfigChild place exprs sets) f h = absurd f

    actor_once : (actor : Option Actor) → FiresActor graphs ends firing values args actor k trace read a → FiresActor graphs ends firing values args actor k other read b → (a ≡ b) × OnOk a (trace ≡ other)
    actor_once None f h = absurd f
    actor_once (Some actor) f h = body_once actor actor.body f h

  -- ---- the run of the level

  module _ (values : List ℤ) (level : LevelView) (sources : List (List ℤ)) (t u : Traces) where
    abbrev Same : List ℕ → ℕ → Type 0
    Same before b = t b (firings b before) ≡ u b (firings b before)

    onward : (before rest : List ℕ) (b : ℕ) (x y : Result (List (List ℤ)) Refusal) (N M : List (List ℤ) → Type 0) →
        ((outs : List (List ℤ)) → N outs → M outs → (x ≡ y) × OnOk x (EachFiring Same (before ++ b ∷ []) rest)) →
        (answer : Result (List (List ℤ)) Refusal) → OnOk answer (Same before b) → GoesOn N x answer → GoesOn M y answer → (x ≡ y) × OnOk x (EachFiring Same before (b ∷ rest))
    onward before rest b x y N M again (Ok outs) same f h = let more = again outs f h in (more.0, OnOk-map x (λ each. (same, each)) more.1)
    onward before rest b x y N M again (Err fault) same f h =
        let P : Result (List (List ℤ)) Refusal → Type 0 = λ r. OnOk r (EachFiring Same before (b ∷ rest)) in
        (f ∙ sym h, subst P (sym f) tt)

    runs_once : (before : List ℕ) (lines : List (List ℤ)) (rest : List ℕ) (x y : Result (List (List ℤ)) Refusal) →
        RunsFrom level (Fires graphs ends g firing values t) sources before lines rest x → RunsFrom level (Fires graphs ends g firing values u) sources before lines rest y →
        (x ≡ y) × OnOk x (EachFiring Same before rest)
    runs_once before lines [] x y f h = (f ∙ sym h, always x tt)
    runs_once before lines (b ∷ rest) x y f h =
        let here = actor_once values (tokens_at (level_args g values) b) (firings b before) (t b (firings b before)) (u b (firings b before)) (inputs sources b (firings b before) level.links lines) f.0 h.0 (slice_get (acting g) b) f.1 h.1 in
        let N : List (List ℤ) → Type 0 = λ outs. RunsFrom level (Fires graphs ends g firing values t) sources (before ++ b ∷ []) (put b outs level.links lines) rest x in
        let M : List (List ℤ) → Type 0 = λ outs. RunsFrom level (Fires graphs ends g firing values u) sources (before ++ b ∷ []) (put b outs level.links lines) rest y in
        let P : Result (List (List ℤ)) Refusal → Type 0 = λ r. GoesOn M y r in
        onward before rest b x y N M (λ outs p q. runs_once (before ++ b ∷ []) (put b outs level.links lines) rest x y p q) f.0 here.1 f.2 (subst P (sym here.0) h.2)

    below_same : (counts list : List ℕ) → ((a : ℕ) → firings a list ≡ slice_index counts a) → EachFiring Same [] list → (b : ℕ) → traces_below (t b) (slice_index counts b) ≡ traces_below (u b) (slice_index counts b)
    below_same counts list whole each b = traces_same (t b) (u b) (slice_index counts b) (λ k inside.
        let count = whole b in
        let found = firing_at Same [] list b k each (omega arith) (omega arith) in
        let P : ℕ → Type 0 = λ j. t b j ≡ u b j in
        subst P found.1 found.2)

  module _ (configured : List Configured) (values : List ℤ) (counts : List ℕ) where
    abbrev level : LevelView
    level = level_in graphs g firing values

    abbrev gives : Traces → Ended ℤ → End → Type 0
    gives t ended end = end ≡ Ok (given_by graphs g firing configured values counts t ended)

    given_once : (t u : Traces) (ended : Ended ℤ) → ((b : ℕ) → traces_below (t b) (slice_index counts b) ≡ traces_below (u b) (slice_index counts b)) →
        given_by graphs g firing configured values counts t ended ≡ given_by graphs g firing configured values counts u ended
    given_once t u ended same =
        ap (λ (rows : List TraceRow). record (given_by graphs g firing configured values counts t ended) { trace = chosen_rows firing.path values 0 g.params ++ rows }) (rows_same counts t u same 0 g.actors configured)

    ended_once : (t u : Traces) (list : List ℕ) → ((a : ℕ) → firings a list ≡ slice_index counts a) → (lines other : Result (List (List ℤ)) Refusal) (x y : Result (Ended ℤ) Refusal) (a b : End) →
        lines ≡ other → OnOk lines (EachFiring (Same values level (source_tokens g firing configured) t u) [] list) → IsEnd level counts lines x → IsEnd level counts other y → Then (gives t) x a → Then (gives u) y b → a ≡ b
    ended_once t u list whole (Ok lines) other x y a b same each f h p q =
        let E : Result (List (List ℤ)) Refusal → Type 0 = λ r. IsEnd level counts r y in
        let theirs : y ≡ Ok (end_of level counts lines) = subst E (sym same) h in
        let P : Result (Ended ℤ) Refusal → Type 0 = λ r. Then (gives t) r a in
        let Q : Result (Ended ℤ) Refusal → Type 0 = λ r. Then (gives u) r b in
        let ours : a ≡ Ok (given_by graphs g firing configured values counts t (end_of level counts lines)) = subst P f p in
        let others : b ≡ Ok (given_by graphs g firing configured values counts u (end_of level counts lines)) = subst Q theirs q in
        ours ∙ ap Ok (given_once t u (end_of level counts lines) (below_same values level (source_tokens g firing configured) t u counts list whole each)) ∙ sym others
    ended_once t u list whole (Err fault) other x y a b same each f h p q =
        let E : Result (List (List ℤ)) Refusal → Type 0 = λ r. IsEnd level counts r y in
        let theirs : y ≡ Err fault = subst E (sym same) h in
        let P : Result (Ended ℤ) Refusal → Type 0 = λ r. Then (gives t) r a in
        let Q : Result (Ended ℤ) Refusal → Type 0 = λ r. Then (gives u) r b in
        let ours : a ≡ Err fault = subst P f p in
        let others : b ≡ Err fault = subst Q theirs q in
        ours ∙ sym others

    level_once : (a b : End) → RunsLevel graphs ends g firing configured values counts a → RunsLevel graphs ends g firing configured values counts b → a ≡ b
    level_once a b f h =
        let list = order_only level counts h.level_run.list f.level_run.list h.level_run.order f.level_run.order in
        let sources = source_tokens g firing configured in
        let P : List ℕ → Type 0 = λ l. Runs level (Fires graphs ends g firing values h.traces) sources (link_starts graphs g firing) l h.level_run.ends.lines in
        let theirs = subst P list h.level_run.ends.runs in
        let same = runs_once values level sources f.traces h.traces [] (link_starts graphs g firing) f.level_run.list f.level_run.ends.lines h.level_run.ends.lines f.level_run.ends.runs theirs in
        ended_once f.traces h.traces f.level_run.list f.level_run.order.admissible.counts f.level_run.ends.lines h.level_run.ends.lines f.run h.run a b same.0 same.1 f.level_run.ends.is_end h.level_run.ends.is_end f.gives h.gives

  -- ---- the whole firing

  module _ (configured : List Configured) where
    abbrev AfterRates : List ℤ → End → Type 0
    AfterRates values end =
        (schedule : Result LevelSchedule Refusal) × Schedules g firing (level_in graphs g firing values) schedule ×
        Then (λ s end. RunsLevel graphs ends g firing configured values s.counts end) schedule end

    rates_once : (values : List ℤ) (a b : End) → AfterRates values a → AfterRates values b → a ≡ b
    rates_once values a b f h =
        let next : LevelSchedule → End → Type 0 = λ s end. RunsLevel graphs ends g firing configured values s.counts end in
        let same = schedules_once g firing (level_in graphs g firing values) h.0 f.0 h.1 f.1 in
        let P : Result LevelSchedule Refusal → Type 0 = λ r. Then next r b in
        then_once next (λ s x y p q. level_once configured values s.counts x y p q) f.0 a b f.2 (subst P same h.2)

    abbrev AfterValues : List ℤ → End → Type 0
    AfterValues values end = Then AfterRates (rated graphs g firing values) end

    abbrev AfterActors : End → Type 0
    AfterActors end = Then AfterValues (resolved graphs g firing configured) end

    actors_once : (a b : End) → AfterActors a → AfterActors b → a ≡ b
    actors_once a b f h = then_once AfterValues (λ values x y p q. then_once AfterRates rates_once (rated graphs g firing values) x y p q) (resolved graphs g firing configured) a b f h

  pub graph_once : (a b : End) → FiresGraph graphs ends g firing a → FiresGraph graphs ends g firing b → a ≡ b
  graph_once a b f h =
      let same = all_once (configurations g) h.0 f.0 h.1 f.1 in
      let P : Result (List Configured) Refusal → Type 0 = λ r. Then AfterActors r b in
      then_once AfterActors actors_once f.0 a b f.2 (subst P same h.2)

pub within_once : (n : ℕ) (graphs : List Graph) → EndOnce (MeansWithin n graphs)
within_once zero graphs firing a b f h = absurd f
within_once (suc n) graphs firing a b f h =
    let same : h.0 ≡ f.0 = let both : Some h.0 ≡ Some f.0 = sym h.1 ∙ f.1 in cc in
    let P : Graph → Type 0 = λ g. FiresGraph graphs (MeansWithin n graphs) g firing b in
    graph_once graphs (MeansWithin n graphs) (within_once n graphs) f.0 firing a b f.2 (subst P same h.2)

pub means_once : (graphs : List Graph) (firing : Firing) (a b : End) → Means graphs firing a → Means graphs firing b → a ≡ b
means_once graphs firing a b f h = within_once 8 graphs firing a b f h
