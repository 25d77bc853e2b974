-- What the items of a job are to do, part by part: its configuration actors, its compilation, its nodes.
use Rattle.std.proofs.Common.{◌≡◌, ℕ, zero, suc, ◌+◌, ◌<◌, List, [], ◌∷◌, ◌++◌, length, slice_get, Some, None, refl, ap, ◌∙◌, arith}
use Rattle.nested_jobs.specs.Marks as mark
use Rattle.nested_jobs.specs.Marks.{Mark}
use Rattle.nested_jobs.specs.Rules.{Values}
use Rattle.pisdf_model.specs.declared.graph.Graph.{Graph}
use Rattle.pisdf_meaning.specs.Configuring.{Configuration, configurations}
use Rattle.pisdf_meaning.specs.declared.firing.Firing.{Firing}
use Rattle.job_rules.specs.Words.{Answer}
use Rattle.job_rules.specs.Items.{Prepared, both, compile_number, compile_rule, count, graph_of, leaves, left_from, left_in, node_base, node_rule, node_values, nodes_after, nodes_in, prepared_by, prepared_in, ready_task, rule, rule_from, schedule_of}
use Rattle.job_rules.proofs.Numbers.{rule_of_compilation, rule_of_node}
use Rattle.job_preparing.specs.Handing.{ItemMarks, answers}
use Rattle.job_preparing.specs.View.{task_of}
use Rattle.graph_firing.proofs.Cut.{read_after, read_before, read_seam, same_function}

-- ---- what configuration actors left, by their answers alone

left_agrees : (v w : Values Answer) (i : ℕ) (cs : List Configuration) → ((j : ℕ) → j < i + length cs → v j ≡ w j) → left_from v i cs ≡ left_from w i cs
left_agrees v w i [] same = refl
left_agrees v w i (c ∷ cs) same =
    ap (λ o. both (leaves o) (left_from v (i + 1) cs)) (same i (omega arith)) ∙ ap (both (leaves (w i))) (left_agrees v w (i + 1) cs (λ j below. same j (omega arith)))

-- ---- rules by number

module _ (graphs : List Graph) (g : Graph) (firing : Firing) (v : Values Answer) where
  config_from : (cs : List Configuration) (i : ℕ) → i < length cs → rule_from graphs g firing v cs i ≡ task_of graphs g firing (slice_get cs i)
  config_from [] i below = absurd (omega arith)
  config_from (c ∷ cs) zero below = refl
  config_from (c ∷ cs) (suc i) below = config_from cs i (omega arith)

module _ (graphs : List Graph) (firing : Firing) (v : Values Answer) where
  abbrev g : Graph
  g = graph_of graphs firing

  pub rule_before : (i : ℕ) → i < compile_number g → rule graphs firing v i ≡ task_of graphs g firing (slice_get (configurations g) i)
  rule_before i below = config_from graphs g firing v (configurations g) i below

  pub rule_at : rule graphs firing v (compile_number g) ≡ compile_rule firing (left_in g v)
  rule_at = rule_of_compilation graphs g firing v (configurations g)

  pub rule_after : (n : ℕ) → rule graphs firing v (node_base g + n) ≡ node_rule graphs g firing v n (prepared_in g v)
  rule_after n = rule_of_node graphs g firing v (configurations g) n

-- ---- values by number

-- nodes whose answers are these, from the first on
module _ (graphs : List Graph) (g : Graph) (firing : Firing) (p : Prepared) (v : Values Answer) (own : Values Answer) (same : (n : ℕ) → v (node_base g + n) ≡ own n) where
  abbrev shifted : Values Answer
  shifted n = v (node_base g + n)

  pub shifted_is : shifted ≡ own
  shifted_is = same_function shifted own same

-- ---- the whole, cut at the compilation

module _ (graphs : List Graph) (firing : Firing) (before : ItemMarks) (m : Mark Firing Answer) (after : ItemMarks) (long : length before ≡ compile_number (graph_of graphs firing)) where
  abbrev h : Graph
  h = graph_of graphs firing

  abbrev v : Values Answer
  v = answers (before ++ m ∷ after)

  pub answer_before : (i : ℕ) → i < compile_number h → v i ≡ answers before i
  answer_before i below = ap mark.answer_of (read_before before m after mark.Free i (omega arith))

  pub answer_at : v (compile_number h) ≡ mark.answer_of m
  answer_at = ap mark.answer_of (read_seam before m after mark.Free (compile_number h) long)

  pub answer_after : (n : ℕ) → v (node_base h + n) ≡ answers after n
  answer_after n = ap mark.answer_of (read_after before m after mark.Free (node_base h) n (omega arith))

  pub left_is : left_in h v ≡ left_in h (answers before)
  left_is = left_agrees v (answers before) 0 (configurations h) (λ j below. answer_before j (omega arith))

  pub prepared_are : prepared_in h v ≡ prepared_by (left_in h (answers before)) (schedule_of (mark.answer_of m))
  prepared_are = ap (λ o. prepared_by o (schedule_of (v (compile_number h)))) left_is ∙ ap (λ o. prepared_by (left_in h (answers before)) (schedule_of o)) answer_at

  module _ (p : Prepared) (is : prepared_by (left_in h (answers before)) (schedule_of (mark.answer_of m)) ≡ Some p) where
    pub prepared_so : prepared_in h v ≡ Some p
    prepared_so = prepared_are ∙ is

    -- what nodes are to do, and how many there are
    pub node_task_is : (n : ℕ) → rule graphs firing v (node_base h + n) ≡ ready_task graphs h firing p (node_values graphs h firing p v) n
    node_task_is n = rule_after graphs firing v n ∙ ap (node_rule graphs h firing v n) prepared_so

    pub count_is : count graphs firing v ≡ node_base h + length (nodes_in graphs h firing p)
    count_is = ap (λ o. node_base h + length (nodes_after graphs h firing o)) prepared_so

  module _ (is : prepared_by (left_in h (answers before)) (schedule_of (mark.answer_of m)) ≡ None) where
    pub unprepared : prepared_in h v ≡ None
    unprepared = prepared_are ∙ is

    pub no_node_task : (n : ℕ) → rule graphs firing v (node_base h + n) ≡ None
    no_node_task n = rule_after graphs firing v n ∙ ap (node_rule graphs h firing v n) unprepared

    pub count_before : count graphs firing v ≡ node_base h + 0
    count_before = ap (λ o. node_base h + length (nodes_after graphs h firing o)) unprepared
