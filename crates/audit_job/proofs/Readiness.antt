-- When a node waits for no edge.
use Rattle.std.proofs.Common.{◌≡◌, ℕ, ◌+◌, ◌<◌, ◌≤◌, ◌==◌, ◌&&◌, nat_lt, not, Bool, true, false, List, [], ◌∷◌, ℤ, length, Option, None, refl, ap, ◌∙◌, arith, if◌then◌else◌}
use Rattle.job_flow.specs.Frames as flow
use Rattle.std.proofs.lemmas.Bool.{le-ltb, lt-ltb}
use Rattle.job_flow.specs.Frames.{inputs, lens}
use Rattle.job_flow.specs.Graphs.{node_at}
use Rattle.job_rules.specs.Items.{Prepared, edges_in, is_done, is_ready_by, job_graph, node_task, nodes_in, ready_task, values_in}
use Rattle.job_rules.specs.Words as words
use Rattle.nested_jobs.specs.Rules.{Task}
use Rattle.pisdf_meaning.specs.declared.firing.Firing.{Firing}
use Rattle.pisdf_model.specs.declared.graph.Graph.{Graph}
use Rattle.pisdf_meaning.specs.declared.refusal.Refusal.{Refusal}
use Rattle.sdf_level.specs.declared.single_rate.Edge.{Edge}
use Rattle.audit_job.specs.Waiting.{waiting}

abbrev pub done_in : flow.Values ℤ Refusal → ℕ → Bool
done_in v m = is_done (v m)

one_edge : (a d : Bool) (w : ℕ) (r : Bool) → (w ≡ 0 → r ≡ true) → (if a && not d then 1 else 0) + w ≡ 0 → ((if a then d else true) && r) ≡ true
one_edge true true w r rest is = rest (omega arith)
one_edge true false w r rest is = absurd (omega arith)
one_edge false d w r rest is = rest (omega arith)

not_edge : (a d : Bool) (w : ℕ) (r : Bool) → (0 < w → r ≡ false) → 0 < (if a && not d then 1 else 0) + w → ((if a then d else true) && r) ≡ false
not_edge true true w r rest is = rest (omega arith)
not_edge true false w r rest is = refl
not_edge false d w r rest is = rest (omega arith)

module _ (v : flow.Values ℤ Refusal) (n : ℕ) where
  pub ready_so : (edges : List Edge) → waiting edges (done_in v) n ≡ 0 → is_ready_by edges v n ≡ true
  ready_so [] is = refl
  ready_so (e ∷ edges) is = one_edge (e.head == n) (is_done (v e.tail)) (waiting edges (done_in v) n) (is_ready_by edges v n) (ready_so edges) is

  pub not_ready : (edges : List Edge) → 0 < waiting edges (done_in v) n → is_ready_by edges v n ≡ false
  not_ready [] is = absurd (omega arith)
  not_ready (e ∷ edges) is = not_edge (e.head == n) (is_done (v e.tail)) (waiting edges (done_in v) n) (is_ready_by edges v n) (not_ready edges) is

-- ---- what a node is to do

and_none : {X : Type 0} (a : Bool) (x : Option X) → (if a && false then x else None) ≡ None
and_none true x = refl
and_none false x = refl

module _ (graphs : List Graph) (g : Graph) (firing : Firing) (p : Prepared) (values : flow.Values ℤ Refusal) (n : ℕ) where
  abbrev task : Option (Task Firing words.Work)
  task = node_task graphs g firing (values_in g firing p) (node_at (nodes_in graphs g firing p) n) (inputs (job_graph graphs g firing p) values n) (lens (job_graph graphs g firing p) n)

  abbrev there : Bool
  there = nat_lt n (length (nodes_in graphs g firing p))

  pub past_none : length (nodes_in graphs g firing p) ≤ n → ready_task graphs g firing p values n ≡ None
  past_none past = ap (λ b. if b && is_ready_by (edges_in graphs g firing p) values n then task else None) (le-ltb n (length (nodes_in graphs g firing p)) past)

  pub waits_none : 0 < waiting (edges_in graphs g firing p) (done_in values) n → ready_task graphs g firing p values n ≡ None
  waits_none waits = ap (λ b. if there && b then task else None) (not_ready values n (edges_in graphs g firing p) waits) ∙ and_none there task

  pub ready_task_is : n < length (nodes_in graphs g firing p) → waiting (edges_in graphs g firing p) (done_in values) n ≡ 0 → ready_task graphs g firing p values n ≡ task
  ready_task_is inside none =
      let L = lt-ltb n (length (nodes_in graphs g firing p)) inside in
      let R = ready_so values n (edges_in graphs g firing p) none in
      λ i. if L i && R i then task else None
