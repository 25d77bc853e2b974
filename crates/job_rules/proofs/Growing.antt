-- A task of a job stays when more of its items are finished.
use Rattle.std.proofs.Common.{◌≡◌, ℕ, zero, suc, ◌+◌, ◌&&◌, true, nat_lt, ℤ, List, [], ◌∷◌, length, Option, Some, None, refl, sym, ap, ◌∙◌, ltb-true}
use Rattle.std.specs.Option.{option_map}
use Rattle.std.proofs.lemmas.Bool.{and_from, and_parts, lt-ltb}
use Rattle.pisdf_model.specs.declared.graph.Graph.{Graph}
use Rattle.pisdf_meaning.specs.Configuring.{Configuration, configurations}
use Rattle.pisdf_meaning.specs.declared.firing.Configured.{Configured}
use Rattle.pisdf_meaning.specs.declared.firing.Firing.{Firing}
use Rattle.pisdf_meaning.specs.declared.refusal.Refusal.{Refusal}
use Rattle.nested_jobs.specs.Rules.{Task, Values}
use Rattle.nested_jobs.specs.Meanings.{Within}
use Rattle.job_flow.specs.Frames as flow
use Rattle.job_flow.specs.Frames.{inputs, lens}
use Rattle.job_flow.specs.Graphs.{node_at}
use Rattle.job_flow.specs.Events.{Grows, IsReady}
use Rattle.job_flow.specs.Laws.{InputsStay, ReadyStays}
use Rattle.job_rules.specs.Words.{Answer, Work}
use Rattle.job_rules.specs.Items.{Prepared, actor_of, compile_number, compile_rule, edges_in, graph_of, is_ready_by, job_graph, keeps_state, leaves, left_from, left_in, node_base, node_result, node_rule, node_task, node_values, nodes_in, prepared_in, ready_task, rule, rule_from, schedule_of, values_in}
use Rattle.job_rules.proofs.Parts.{both_are, before_ready, passed, prepared_is, ready_before}

-- what is made of an answer stays
stays : {X : Type 0} (f : Option Answer → Option X) → f None ≡ None → (o p : Option Answer) → ((a : Answer) → o ≡ Some a → p ≡ Some a) → (x : X) → f o ≡ Some x → f p ≡ Some x
stays f none None p same x is = absurd (let e : None ≡ Some x = sym none ∙ is in cc)
stays f none (Some a) p same x is = ap f (same a refl) ∙ is

-- the job graph of a node whose task is there, and that it is ready
pub ready_is : (graphs : List Graph) (g : Graph) (firing : Firing) (p : Prepared) (values : flow.Values ℤ Refusal) (n : ℕ) →
    (nat_lt n (length (nodes_in graphs g firing p)) && is_ready_by (edges_in graphs g firing p) values n) ≡ true → IsReady (job_graph graphs g firing p) values n
ready_is graphs g firing p values n is =
    let parts = and_parts (nat_lt n (length (nodes_in graphs g firing p))) (is_ready_by (edges_in graphs g firing p) values n) is in
    record { there = ltb-true n (length (nodes_in graphs g firing p)) parts.0; before = ready_before values n (edges_in graphs g firing p) parts.1 }

pub is_ready : (graphs : List Graph) (g : Graph) (firing : Firing) (p : Prepared) (values : flow.Values ℤ Refusal) (n : ℕ) →
    IsReady (job_graph graphs g firing p) values n → (nat_lt n (length (nodes_in graphs g firing p)) && is_ready_by (edges_in graphs g firing p) values n) ≡ true
is_ready graphs g firing p values n ready =
    and_from (nat_lt n (length (nodes_in graphs g firing p))) (is_ready_by (edges_in graphs g firing p) values n) (lt-ltb n (length (nodes_in graphs g firing p)) ready.there) (before_ready values n (edges_in graphs g firing p) ready.before)

module _ (graphs : List Graph) (firing : Firing) (v w : Values Answer) (within : Within v w) where
  left_stays : (i : ℕ) (cs : List Configuration) (left : List Configured) → left_from v i cs ≡ Some left → left_from w i cs ≡ Some left
  left_stays i [] left is = is
  left_stays i (c ∷ cs) left is =
      let parts = both_are (leaves (v i)) (left_from v (i + 1) cs) left is in
      let first = stays leaves refl (v i) (w i) (within i) parts.first parts.first_is in
      let rest = left_stays (i + 1) cs parts.rest parts.rest_is in
      rw (first, rest) (ap (λ (l : List Configured). Some l) (sym parts.all_are))

  module _ (g : Graph) where
    prepared_stays : (p : Prepared) → prepared_in g v ≡ Some p → prepared_in g w ≡ Some p
    prepared_stays p is =
        let parts = prepared_is (left_in g v) (schedule_of (v (compile_number g))) p is in
        let left = left_stays 0 (configurations g) p.left parts.left_is in
        let schedule = stays schedule_of refl (v (compile_number g)) (w (compile_number g)) (within (compile_number g)) p.schedule parts.schedule_is in
        rw (left, schedule) refl

    compile_stays : (left : Option (List Configured)) → left_in g v ≡ left → (t : Task Firing Work) → compile_rule firing left ≡ Some t → compile_rule firing (left_in g w) ≡ Some t
    compile_stays None e t is = absurd (cc)
    compile_stays (Some left) e t is = ap (compile_rule firing) (left_stays 0 (configurations g) left e) ∙ is

    module _ (p : Prepared) where
      values_grow : Grows (node_values graphs g firing p v) (node_values graphs g firing p w)
      values_grow n answer is =
          stays (option_map (node_result (keeps_state graphs (actor_of g (node_at (nodes_in graphs g firing p) n))))) refl (v (node_base g + n)) (w (node_base g + n)) (within (node_base g + n)) answer is

      module _ (ready_stays : ReadyStays ℤ Refusal) (inputs_stay : InputsStay ℤ Refusal) where
        ready_task_stays : (n : ℕ) (t : Task Firing Work) → ready_task graphs g firing p (node_values graphs g firing p v) n ≡ Some t → ready_task graphs g firing p (node_values graphs g firing p w) n ≡ Some t
        ready_task_stays n t is =
            let here = node_values graphs g firing p v in
            let there = node_values graphs g firing p w in
            let job = job_graph graphs g firing p in
            let task : List (List ℤ) → Option (Task Firing Work) = λ read. node_task graphs g firing (values_in g firing p) (node_at (nodes_in graphs g firing p) n) read (lens job n) in
            let parts = passed (nat_lt n (length (nodes_in graphs g firing p)) && is_ready_by (edges_in graphs g firing p) here n) (task (inputs job here n)) t is in
            let ready = ready_is graphs g firing p here n parts.test_is in
            let still = is_ready graphs g firing p there n (ready_stays job here there n values_grow ready) in
            let same : inputs job there n ≡ inputs job here n = inputs_stay job here there n values_grow ready in
            rw (still, same) parts.is

    module _ (ready_stays : ReadyStays ℤ Refusal) (inputs_stay : InputsStay ℤ Refusal) where
      node_stays : (n : ℕ) (o : Option Prepared) → prepared_in g v ≡ o → (t : Task Firing Work) → node_rule graphs g firing v n o ≡ Some t → node_rule graphs g firing w n (prepared_in g w) ≡ Some t
      node_stays n None e t is = absurd (cc)
      node_stays n (Some p) e t is = rw (prepared_stays p e) (ready_task_stays p ready_stays inputs_stay n t is)

      rule_stays : (cs : List Configuration) (i : ℕ) (t : Task Firing Work) → rule_from graphs g firing v cs i ≡ Some t → rule_from graphs g firing w cs i ≡ Some t
      rule_stays [] zero t is = compile_stays (left_in g v) refl t is
      rule_stays [] (suc n) t is = node_stays n (prepared_in g v) refl t is
      rule_stays (c ∷ cs) zero t is = is
      rule_stays (c ∷ cs) (suc i) t is = rule_stays cs i t is

  pub task_stays : ReadyStays ℤ Refusal → InputsStay ℤ Refusal → (i : ℕ) (t : Task Firing Work) → rule graphs firing v i ≡ Some t → rule graphs firing w i ≡ Some t
  task_stays ready_stays inputs_stay i t is = rule_stays (graph_of graphs firing) ready_stays inputs_stay (configurations (graph_of graphs firing)) i t is
