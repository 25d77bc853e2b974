-- What the items of a job are to do, by their numbers.
use Rattle.std.proofs.Common.{◌≡◌, ℕ, ◌+◌, ◌-◌, ◌<◌, ◌≤◌, ◌&&◌, nat_lt, Bool, List, length, slice_get, Option, Some, None, sym, ap, ◌∙◌, arith, ⊎_elim, ltb-true}
use Rattle.std.proofs.lemmas.Bool.{and_parts, cases_lt}
use Rattle.job_flow.specs.Frames as flow
use Rattle.job_rules.specs.Items.{Prepared, compile_number, compile_rule, config_task, count, edges_in, graph_of, is_ready_by, left_in, node_base, node_rule, node_values, nodes_after, nodes_in, prepared_in, ready_task, rule}
use Rattle.job_rules.specs.Words as words
use Rattle.job_rules.specs.Words.{Answer}
use Rattle.job_rules.proofs.Numbers.{rule_of_compilation, rule_of_configuration, rule_of_node}
use Rattle.job_rules.proofs.Parts.{passed}
use Rattle.nested_jobs.specs.Rules.{Task, Values}
use Rattle.pisdf_meaning.specs.Configuring.{Configuration, configurations}
use Rattle.pisdf_meaning.specs.declared.firing.Firing.{Firing}
use Rattle.pisdf_meaning.specs.declared.refusal.Refusal.{Refusal}
use Rattle.pisdf_model.specs.declared.graph.Graph.{Graph}
use Rattle.std.proofs.Common.{ℤ}

-- a node with a task is there
pub node_inside : (graphs : List Graph) (g : Graph) (firing : Firing) (p : Prepared) (values : flow.Values ℤ Refusal) (n : ℕ) (t : Task Firing words.Work) → ready_task graphs g firing p values n ≡ Some t → n < length (nodes_in graphs g firing p)
node_inside graphs g firing p values n t is =
    let test : Bool = is_ready_by (edges_in graphs g firing p) values n in
    let parts = passed (nat_lt n (length (nodes_in graphs g firing p)) && test) _ t is in
    ltb-true n (length (nodes_in graphs g firing p)) (and_parts (nat_lt n (length (nodes_in graphs g firing p))) test parts.test_is).0

module _ (graphs : List Graph) (firing : Firing) (v : Values Answer) where
  abbrev g : Graph
  g = graph_of graphs firing

  pub rule_before : (i : ℕ) (c : Configuration) → slice_get (configurations g) i ≡ Some c → rule graphs firing v i ≡ config_task graphs g firing c c.body
  rule_before i c is = rule_of_configuration graphs g firing v (configurations g) i c is

  pub rule_at : (i : ℕ) → i ≡ compile_number g → rule graphs firing v i ≡ compile_rule firing (left_in g v)
  rule_at i at = ap (rule graphs firing v) at ∙ rule_of_compilation graphs g firing v (configurations g)

  pub rule_after : (i n : ℕ) → i ≡ node_base g + n → rule graphs firing v i ≡ node_rule graphs g firing v n (prepared_in g v)
  rule_after i n at = ap (rule graphs firing v) at ∙ rule_of_node graphs g firing v (configurations g) n

  module _ (p : Prepared) (is : prepared_in g v ≡ Some p) where
    pub node_task_is : (i n : ℕ) → i ≡ node_base g + n → rule graphs firing v i ≡ ready_task graphs g firing p (node_values graphs g firing p v) n
    node_task_is i n at = rule_after i n at ∙ ap (node_rule graphs g firing v n) is

    pub count_is : count graphs firing v ≡ node_base g + length (nodes_in graphs g firing p)
    count_is = ap (λ o. node_base g + length (nodes_after graphs g firing o)) is

  module _ (is : prepared_in g v ≡ None) where
    pub no_node_task : (i n : ℕ) → i ≡ node_base g + n → rule graphs firing v i ≡ None
    no_node_task i n at = rule_after i n at ∙ ap (node_rule graphs g firing v n) is

    pub count_before : count graphs firing v ≡ node_base g
    count_before = ap (λ o. node_base g + length (nodes_after graphs g firing o)) is ∙ (let e : node_base g + 0 ≡ node_base g = omega arith in e)

  node_there : (n : ℕ) (t : Task Firing words.Work) (o : Option Prepared) → node_rule graphs g firing v n o ≡ Some t → n < length (nodes_after graphs g firing o)
  node_there n t None is = absurd (cc)
  node_there n t (Some p) is = node_inside graphs g firing p (node_values graphs g firing p v) n t is

  -- an item with a task is there
  pub item_there : (i : ℕ) (t : Task Firing words.Work) → rule graphs firing v i ≡ Some t → i < count graphs firing v
  item_there i t is = ⊎_elim
      (λ (early : i < node_base g). omega arith)
      (λ (late : node_base g ≤ i).
      let at : i ≡ node_base g + (i - node_base g) = omega arith in
      let inside = node_there (i - node_base g) t (prepared_in g v) (sym (rule_after i (i - node_base g) at) ∙ is) in
      omega arith)
      (cases_lt i (node_base g))
