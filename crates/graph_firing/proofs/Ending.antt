-- When a job is quiet, and how it ends.
use Rattle.std.proofs.Common.{◌≡◌, ◌≢◌, ℕ, suc, ◌+◌, ◌<◌, ◌⊎◌, inl, inr, ⊎_elim, true, List, [], ◌∷◌, length, get_or, Option, Some, None, is_some, refl, sym, ap, ◌∙◌, subst, arith}
use Rattle.std.proofs.lemmas.Option.{get_or_from_slice_get, slice_get-get_or}
use Rattle.level_schedule.specs.declared.scheduling.LevelSchedule.{LevelSchedule}
use Rattle.nested_jobs.specs.Marks as mark
use Rattle.nested_jobs.specs.Marks.{Mark, Free, Busy, Open, Done}
use Rattle.nested_jobs.specs.Rules.{Task, Values}
use Rattle.nested_jobs.specs.Steps.{is_settled}
use Rattle.nested_jobs.proofs.Nesting.{below_all}
use Rattle.pisdf_model.specs.InterfaceWires.{is_configuration}
use Rattle.pisdf_model.specs.declared.actor.Actor.{Actor}
use Rattle.pisdf_model.specs.declared.actor.Body.{Body}
use Rattle.pisdf_model.specs.declared.actor.Body.TheVariants.{Kernel, Config, Child, ConfigChild}
use Rattle.pisdf_model.specs.declared.graph.Graph.{Graph}
use Rattle.pisdf_meaning.specs.Configuring.{Configuration, configurations}
use Rattle.pisdf_meaning.specs.Sound.{no_actor}
use Rattle.pisdf_meaning.specs.declared.firing.Configured.{Configured}
use Rattle.pisdf_meaning.specs.declared.firing.Firing.{Firing}
use Rattle.pisdf_meaning.specs.declared.refusal.Refusal.{Refusal}
use Rattle.job_rules.specs.Words as words
use Rattle.job_rules.specs.Words.{Answer, Gives, Schedules, Refuses}
use Rattle.job_rules.specs.Items.{both, compile_number, compile_rule, config_task, first_refusal, leaves, left_from, node_base, outcome_of, refusal_or, schedule_of}
use Rattle.job_rules.proofs.Parts.{both_are}
use Rattle.job_rules.proofs.Sources.{found}
use Rattle.job_preparing.specs.Handing.{answers, mark_at}
use Rattle.job_preparing.specs.View as preparing
use Rattle.job_preparing.specs.View.{ConfiguringView, task_of}
use Rattle.graph_firing.specs.View.{IsQuiet, OpenView, answered, count_of, outcome_in, task}
use Rattle.graph_firing.specs.Invariants.{KeepsWith, compile_mark, node_marks, view_with}
use Rattle.graph_firing.specs.declared.stage.Stage.{Stage}
use Rattle.graph_firing.proofs.Cut.{all_from}
use Rattle.graph_firing.proofs.Early as early
use Rattle.graph_firing.proofs.Ends.{refusals_agree, refused_early, refused_later}
use Rattle.graph_firing.proofs.Offered as offered
use Rattle.graph_firing.proofs.Offered.{IsAfter, where_is}
use Rattle.graph_firing.proofs.Rules as rules

-- ---- settled items

-- a free item that has a task isn't settled
pub free_unsettled : (m : Mark Firing Answer) (t : Option (Task Firing words.Work)) (x : Task Firing words.Work) → t ≡ Some x → is_settled m t ≡ true → (a : Answer) × (m ≡ Done a)
free_unsettled Free None x is settled = absurd (cc)
free_unsettled Free (Some y) x is settled = absurd (cc)
free_unsettled Busy t x is settled = absurd (cc)
free_unsettled (Open job) t x is settled = absurd (cc)
free_unsettled (Done answer) t x is settled = (answer, refl)

-- ---- each configuration actor has a task

body_has_task : (graphs : List Graph) (g : Graph) (firing : Firing) (c : Configuration) (body : Body) → is_configuration body ≡ true → (t : Task Firing words.Work) × (config_task graphs g firing c body ≡ Some t)
body_has_task graphs g firing c (Kernel kernel args ins outs) is = absurd (cc)
body_has_task graphs g firing c (Child place args) is = absurd (cc)
body_has_task graphs g firing c (Config kernel args ins outs sets) is = (_, refl)
body_has_task graphs g firing c (ConfigChild place args sets) is = (_, refl)

no_configuration : Configuration
no_configuration = record { number = 0; place = 0; name = []; body = Kernel 0 [] [] [] }

pub actor_has_task : (c : ConfiguringView) (i : ℕ) → i < compile_number (preparing.graph_in c) → (t : Task Firing words.Work) × (preparing.task c i ≡ Some t)
actor_has_task c i below =
    let g = preparing.graph_in c in
    let there = slice_get-get_or (configurations g) i no_configuration below in
    let one : Configuration = get_or (configurations g) i no_configuration in
    let at = (found g i one there).0 in
    let own = get_or_from_slice_get g.actors one.place record { name = one.name; body = one.body } no_actor at.there in
    let config : is_configuration one.body ≡ true = ap (λ (x : Actor). is_configuration x.body) (sym own) ∙ at.is.is in
    let has = body_has_task c.graphs.graphs g c.firing one one.body config in
    (has.0, ap (task_of c.graphs.graphs g c.firing) there ∙ has.1)

-- ---- refusals among configuration actors

-- where all gave something, none was refused
given_unrefused : (o : Option Answer) (one : Configured) (later : Option Refusal) → leaves o ≡ Some one → refusal_or o later ≡ later
given_unrefused None one later is = absurd (cc)
given_unrefused (Some (Gives given)) one later is = refl
given_unrefused (Some (Schedules schedule)) one later is = refl
given_unrefused (Some (Refuses refusal)) one later is = absurd (cc)

pub none_refused : (v : Values Answer) (i : ℕ) (cs : List Configuration) (left : List Configured) → left_from v i cs ≡ Some left → first_refusal v i (length cs) ≡ None
none_refused v i [] left is = refl
none_refused v i (c ∷ cs) left is =
    let parts = both_are (leaves (v i)) (left_from v (i + 1) cs) left is in
    given_unrefused (v i) parts.first (first_refusal v (i + 1) (length cs)) parts.first_is ∙ none_refused v (i + 1) cs parts.rest parts.rest_is

both_none : {X : Type 0} (one : Option X) (more : Option (List X)) → both one more ≡ None → (one ≡ None) ⊎ (more ≡ None)
both_none None more is = inl refl
both_none (Some one) None is = inr refl
both_none (Some one) (Some more) is = absurd (cc)

-- an answer that leaves nothing is a refusal, where it is no schedule
leaves_none : (o : Option Answer) (a : Answer) → o ≡ Some a → ((s : LevelSchedule) → o ≢ Some (Schedules s)) → leaves o ≡ None → (r : Refusal) × (o ≡ Some (Refuses r))
leaves_none None a is none empty = absurd (cc)
leaves_none (Some (Gives given)) a is none empty = absurd (cc)
leaves_none (Some (Schedules schedule)) a is none empty = absurd (none schedule refl)
leaves_none (Some (Refuses refusal)) a is none empty = (refusal, refl)

later_refused : (o : Option Answer) (later : Option Refusal) (r : Refusal) → later ≡ Some r → (q : Refusal) × (refusal_or o later ≡ Some q)
later_refused None later r is = (r, is)
later_refused (Some (Gives given)) later r is = (r, is)
later_refused (Some (Schedules schedule)) later r is = (r, is)
later_refused (Some (Refuses refusal)) later r is = (refusal, refl)

-- where all are finished and not all gave something, one was refused
some_refused : (v : Values Answer) (i : ℕ) (cs : List Configuration) → ((j : ℕ) → j < length cs → (a : Answer) × (v (i + j) ≡ Some a)) → ((j : ℕ) (s : LevelSchedule) → v j ≢ Some (Schedules s)) → left_from v i cs ≡ None → (r : Refusal) × (first_refusal v i (length cs) ≡ Some r)
some_refused v i [] all none empty = absurd (cc)
some_refused v i (c ∷ cs) all none empty = ⊎_elim
    (λ (here : leaves (v i) ≡ None).
    let first = all 0 (omega arith) in
    let e : i + 0 ≡ i = omega arith in
    let refused = leaves_none (v i) first.0 (ap v (sym e) ∙ first.1) (none i) here in
    (refused.0, ap (λ o. refusal_or o (first_refusal v (i + 1) (length cs))) refused.1))
    (λ (rest : left_from v (i + 1) cs ≡ None).
    let more = some_refused v (i + 1) cs (λ j below. let e : i + suc j ≡ i + 1 + j = omega arith in let one = all (suc j) (omega arith) in (one.0, ap v (sym e) ∙ one.1)) none rest in
    later_refused (v i) (first_refusal v (i + 1) (length cs)) more.0 more.1)
    (both_none (leaves (v i)) (left_from v (i + 1) cs) empty)

-- ---- before the nodes are there

none_of : {T : Type 0} (o : Option T) → (is_some o ≡ true → ⊥) → o ≡ None
none_of None never = refl
none_of (Some x) never = absurd (never refl)

module _ (c : ConfiguringView) (workers : ℕ) (stage : Stage) (keeps : KeepsWith c workers stage) (no_schedule : schedule_of (mark.answer_of (compile_mark stage)) ≡ None) where
  abbrev v : OpenView
  v = view_with c workers stage

  abbrev k : ℕ
  k = compile_number (preparing.graph_in c)

  pub count_here : count_of v ≡ node_base (preparing.graph_in c) + 0
  count_here = rules.count_before c.graphs.graphs c.firing c.marks (compile_mark stage) (node_marks stage) keeps.marks_many (offered.unprepared_so c workers stage keeps.marks_many no_schedule)

  -- settled is what is finished of configuration actors
  pub actor_settled : IsQuiet v → (i : ℕ) → i < k → (a : Answer) × (mark_at c.marks i ≡ Done a)
  actor_settled quiet i below =
      let count = count_here in
      let settled = below_all (count_of v) (λ j. is_settled (mark_at v.marks j) (task v j)) quiet.settled i (omega arith) in
      let has = actor_has_task c i below in
      let done = free_unsettled (mark_at v.marks i) (task v i) has.0 (early.task_before c workers stage keeps.marks_many i below ∙ has.1) settled in
      (done.0, sym (early.mark_before c workers stage keeps.marks_many i below) ∙ done.1)

  pub compile_settled : IsQuiet v → is_settled (compile_mark stage) (compile_rule c.firing (preparing.left_if_ready c)) ≡ true
  compile_settled quiet =
      let count = count_here in
      let settled = below_all (count_of v) (λ j. is_settled (mark_at v.marks j) (task v j)) quiet.settled k (omega arith) in
      let P : Mark Firing Answer → Type 0 = λ m. is_settled m (task v k) ≡ true in
      let Q : Option (Task Firing words.Work) → Type 0 = λ t. is_settled (compile_mark stage) t ≡ true in
      let R : Option (List Configured) → Type 0 = λ o. is_settled (compile_mark stage) (compile_rule c.firing o) ≡ true in
      subst R (early.left_same c workers stage keeps.marks_many) (subst Q (early.task_here c workers stage keeps.marks_many) (subst P (early.mark_here c workers stage keeps.marks_many) settled))

  -- and so the job is quiet where they are, and nothing will come of the compilation
  pub quiet_here : ((i : ℕ) → i < k → (a : Answer) × (mark_at c.marks i ≡ Done a)) → is_settled (compile_mark stage) (compile_rule c.firing (preparing.left_if_ready c)) ≡ true → IsQuiet v
  quiet_here actors compile =
      let count = count_here in
      record {
        settled = all_from (count_of v) (λ j. is_settled (mark_at v.marks j) (task v j)) (λ i below. ⊎_elim
            (λ (before : i < k).
            let done = actors i before in
            let P : Mark Firing Answer → Type 0 = λ m. is_settled m (task v i) ≡ true in
            subst P (sym (early.mark_before c workers stage keeps.marks_many i before ∙ done.1)) refl)
            (λ (rest : (i ≡ k) ⊎ IsAfter k i). ⊎_elim
            (λ (here : i ≡ k).
            let P : Mark Firing Answer → Type 0 = λ m. is_settled m (task v k) ≡ true in
            let Q : Option (Task Firing words.Work) → Type 0 = λ t. is_settled (compile_mark stage) t ≡ true in
            let R : Option (List Configured) → Type 0 = λ o. is_settled (compile_mark stage) (compile_rule c.firing o) ≡ true in
            let S : ℕ → Type 0 = λ j. is_settled (mark_at v.marks j) (task v j) ≡ true in
            subst S (sym here) (subst P (sym (early.mark_here c workers stage keeps.marks_many)) (subst Q (sym (early.task_here c workers stage keeps.marks_many)) (subst R (sym (early.left_same c workers stage keeps.marks_many)) compile))))
            (λ (after : IsAfter k i). absurd (let at = after.number in omega arith))
            rest)
            (where_is k i));
      }

  -- the first refusal of a configuration actor is that of the job
  pub early_outcome : (r : Refusal) → first_refusal (answers c.marks) 0 k ≡ Some r → outcome_in v ≡ Refuses r
  early_outcome r is =
      let g = preparing.graph_in c in
      let e : count_of v ≡ k + 1 = count_here ∙ (let same : node_base g + 0 ≡ k + 1 = omega arith in same) in
      let own = refusals_agree (answered v) (answers c.marks) 0 0 k (λ j below. rules.answer_before c.graphs.graphs c.firing c.marks (compile_mark stage) (node_marks stage) keeps.marks_many (0 + j) (omega arith)) in
      ap (outcome_of c.graphs.graphs g c.firing (answered v)) (ap (first_refusal (answered v) 0) e ∙ refused_early (answered v) r 0 k 1 (own ∙ is))

  -- that of the compilation is, where they all gave something
  pub compile_outcome : (r : Refusal) → preparing.IsReady c → compile_mark stage ≡ Done (Refuses r) → outcome_in v ≡ Refuses r
  compile_outcome r ready is =
      let g = preparing.graph_in c in
      let left = offered.some_is (preparing.left_if_ready c) ready in
      let e : count_of v ≡ k + 1 = count_here ∙ (let same : node_base g + 0 ≡ k + 1 = omega arith in same) in
      let own = refusals_agree (answered v) (answers c.marks) 0 0 k (λ j below. rules.answer_before c.graphs.graphs c.firing c.marks (compile_mark stage) (node_marks stage) keeps.marks_many (0 + j) (omega arith)) in
      let none : first_refusal (answers c.marks) 0 k ≡ None = none_refused (answers c.marks) 0 (configurations g) left.0 left.1 in
      let f : 0 + k ≡ k = omega arith in
      let at : answered v (0 + k) ≡ Some (Refuses r) = ap (answered v) f ∙ rules.answer_at c.graphs.graphs c.firing c.marks (compile_mark stage) (node_marks stage) keeps.marks_many ∙ ap mark.answer_of is in
      ap (outcome_of c.graphs.graphs g c.firing (answered v)) (ap (first_refusal (answered v) 0) e ∙ refused_later (answered v) 0 k 1 (own ∙ none) ∙ ap (λ o. refusal_or o None) at)

-- where all configuration actors are finished and not all gave something, one was refused
pub actor_refused : (c : ConfiguringView) (workers : ℕ) (stage : Stage) → KeepsWith c workers stage → ((i : ℕ) → i < compile_number (preparing.graph_in c) → (a : Answer) × (mark_at c.marks i ≡ Done a)) → (preparing.IsReady c → ⊥) →
    (r : Refusal) × (first_refusal (answers c.marks) 0 (compile_number (preparing.graph_in c)) ≡ Some r)
actor_refused c workers stage keeps all unready =
    some_refused (answers c.marks) 0 (configurations (preparing.graph_in c))
    (λ j below. let e : 0 + j ≡ j = omega arith in let done = all j below in (done.0, ap (answers c.marks) e ∙ ap mark.answer_of done.1))
    (λ j s is. keeps.gave j s (offered.not_finished (mark_at c.marks j) (Schedules s) is))
    (none_of (preparing.left_if_ready c) unready)
