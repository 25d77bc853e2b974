-- In the state that a legal journal leaves, the nodes of an open firing were claimed in the order of its edges.
use Rattle.std.proofs.Common.{◌≡◌, ⊎_elim, ℕ, zero, suc, ◌+◌, ◌<◌, ◌≤◌, Bool, true, nat_lt, List, ◌∷◌, length, ℤ, Some, refl, sym, ap, ◌∙◌, subst, arith}
use Rattle.std.specs.Prelude.{◌≢◌}
use Rattle.std.specs.Option.{option_map}
use Rattle.std.proofs.lemmas.Bool.{and_parts, cases_lt, ltb-true}
use Rattle.std.proofs.lemmas.List.{get_or_past}
use Rattle.sdf_level.specs.declared.node.Node.{Node}
use Rattle.sdf_level.specs.declared.single_rate.Edge.{Edge}
use Rattle.job_compiler.specs.Compilation.{Compilation}
use Rattle.job_flow.specs.Frames as flow
use Rattle.job_flow.specs.Graphs.{node_at}
use Rattle.job_preparing.specs.Handing.{mark_at}
use Rattle.job_rules.specs.Items.{Prepared, actor_of, edges_in, graph_of, is_done, is_ready_by, keeps_state, node_base, node_result, node_values, nodes_in, prepared_in, rule}
use Rattle.job_rules.specs.Words as words
use Rattle.job_rules.specs.Words.{Answer}
use Rattle.graph_firing.proofs.OfNodes.LentNodes.{as_nodes_at}
use Rattle.graph_firing.specs.Nodes.Leases.{as_node, as_nodes}
use Rattle.nested_jobs.specs.Invariants.{Fits, InJob}
use Rattle.nested_jobs.specs.Marks as mark
use Rattle.nested_jobs.specs.Marks.{Mark, Marks, answer_of, values}
use Rattle.nested_jobs.specs.Rules.{Call, Place, Task, Work}
use Rattle.one_job.specs.Live.{InOrder}
use Rattle.one_job.specs.Marks as one
use Rattle.one_job.specs.Places.{edge_at}
use Rattle.pisdf_model.specs.declared.graph.Graph.{Graph}
use Rattle.pisdf_meaning.specs.declared.firing.Firing.{Firing}
use Rattle.pisdf_meaning.specs.declared.refusal.Refusal.{Refusal}
use Rattle.board_rules.proofs.Known.{Known}
use Rattle.board_rules.specs.Keys.{Key, rules, top_job}
use Rattle.firing_board.proofs.OfTable.ReadyNodes.{ready_test, tail_done}
use Rattle.firing_board.specs.Table.LiveFirings.{marks_from, nodes_at}

-- a node that is done is finished
pub done_phase : (keeps : Bool) (y : Mark Firing Answer) → is_done (option_map (node_result keeps) (answer_of y)) ≡ true → one.phase_of (as_node y) ≡ one.IsFinished
done_phase keeps mark.Free done = absurd (cc)
done_phase keeps mark.Busy done = absurd (cc)
done_phase keeps (mark.Open job) done = absurd (cc)
done_phase keeps (mark.Done (words.Gives given)) done = refl
done_phase keeps (mark.Done (words.Schedules schedule)) done = refl
done_phase keeps (mark.Done (words.Refuses refusal)) done = absurd (cc)

pub one_open : (y : Mark Firing Answer) (a b : Firing) → y ≡ mark.Open a → y ≡ mark.Open b → a ≡ b
one_open y a b x z = cc

-- ---- marks in a list

module _ (m : Marks Firing Answer) (place : Place) where
  marks_are : (i count n : ℕ) → n < count → mark_at (marks_from m place i count) n ≡ m ((i + n) ∷ place)
  marks_are i zero n below = absurd (omega arith)
  marks_are i (suc count) zero below = let e : i ≡ i + 0 = omega arith in ap (λ (k : ℕ). m (k ∷ place)) e
  marks_are i (suc count) (suc n) below =
      let e : i + 1 + n ≡ i + suc n = omega arith in
      marks_are (i + 1) count n (omega arith) ∙ ap (λ (k : ℕ). m (k ∷ place)) e

  marks_long : (i count : ℕ) → length (marks_from m place i count) ≡ count
  marks_long i zero = refl
  marks_long i (suc count) = ap (λ (n : ℕ). suc n) (marks_long (i + 1) count)

  pub phase_in : (i count n : ℕ) → n < count → one.phase (as_nodes (marks_from m place i count)) n ≡ one.phase_of (as_node (m ((i + n) ∷ place)))
  phase_in i count n below = ap one.phase_of (as_nodes_at (marks_from m place i count) n ∙ ap as_node (marks_are i count n below))

  pub phase_past : (i count n : ℕ) → count ≤ n → one.phase (as_nodes (marks_from m place i count)) n ≡ one.IsFree
  phase_past i count n past = ap one.phase_of (as_nodes_at (marks_from m place i count) n
      ∙ ap as_node (get_or_past (marks_from m place i count) n mark.Free (let long = marks_long i count in omega arith)))

module _ (key : Key) (m : Marks Firing Answer) (known : Known key m) (place : Place) (job : Firing) (is_open : m place ≡ mark.Open job) (p : Prepared) (prepared_is : prepared_in (graph_of key.graphs.graphs job) (values m place) ≡ Some p) where
  abbrev G : List Graph
  G = key.graphs.graphs

  abbrev g : Graph
  g = graph_of G job

  abbrev base : ℕ
  base = node_base g

  abbrev nodes : List Node
  nodes = nodes_in G g job p

  abbrev edges : List Edge
  edges = edges_in G g job p

  abbrev vals : flow.Values ℤ Refusal
  vals = node_values G g job p (values m place)

  of_job : (i : ℕ) (t : Task Firing words.Work) → InJob (rules key) m i place t → rule G job (values m place) i ≡ Some t
  of_job i t in_job = subst (λ (d : Firing). rule G d (values m place) i ≡ Some t) (one_open (m place) in_job.job job in_job.is_open is_open) in_job.has_task

  -- an item that isn't free has a task
  has_task : (i : ℕ) (y : Mark Firing Answer) → m (i ∷ place) ≡ y → one.phase_of (as_node y) ≢ one.IsFree → (t : Task Firing words.Work) × (rule G job (values m place) i ≡ Some t)
  has_task i mark.Free is claimed = absurd (claimed refl)
  has_task i mark.Busy is claimed =
      let fits = subst (Fits (rules key) (top_job key) m (i ∷ place)) is (known.nested.fits (i ∷ place)) in
      (Work fits.0, of_job i (Work fits.0) fits.1)
  has_task i (mark.Open d) is claimed =
      let fits = subst (Fits (rules key) (top_job key) m (i ∷ place)) is (known.nested.fits (i ∷ place)) in
      (Call d, of_job i (Call d) fits)
  has_task i (mark.Done a) is claimed =
      let s = known.sound place job is_open i a (ap answer_of is) in
      (s.0, s.1)

  there : (n : ℕ) → one.phase_of (as_node (m ((base + n) ∷ place))) ≢ one.IsFree → n < length nodes
  there n claimed =
      let t = has_task (base + n) (m ((base + n) ∷ place)) refl claimed in
      ltb-true n (length nodes) (and_parts (nat_lt n (length nodes)) (is_ready_by edges vals n) (ready_test G job (values m place) p prepared_is n t.0 t.1)).0

  tail_finished : (e : ℕ) → e < length edges → one.phase_of (as_node (m ((base + (edge_at edges e).head) ∷ place))) ≢ one.IsFree → one.phase_of (as_node (m ((base + (edge_at edges e).tail) ∷ place))) ≡ one.IsFinished
  tail_finished e inside claimed =
      let n = (edge_at edges e).head in
      let t = has_task (base + n) (m ((base + n) ∷ place)) refl claimed in
      let tail = (edge_at edges e).tail in
      done_phase (keeps_state G (actor_of g (node_at nodes tail))) (m ((base + tail) ∷ place)) (tail_done G job (values m place) p prepared_is n t.0 t.1 e inside refl)

  abbrev all : List one.Mark
  all = as_nodes (marks_from m place base (length nodes))

  in_order : InOrder edges all
  in_order = λ e inside claimed. ⊎_elim
      (λ (below : (edge_at edges e).head < length nodes).
      let done = tail_finished e inside (λ free. claimed (phase_in m place base (length nodes) (edge_at edges e).head below ∙ free)) in
      let tail_in = there (edge_at edges e).tail (λ free. (let bad : one.IsFree ≡ one.IsFinished = sym free ∙ done in cc)) in
      phase_in m place base (length nodes) (edge_at edges e).tail tail_in ∙ done)
      (λ (past : length nodes ≤ (edge_at edges e).head). absurd (claimed (phase_past m place base (length nodes) (edge_at edges e).head past)))
      (cases_lt (edge_at edges e).head (length nodes))

  pub nodes_in_order : (c : Compilation) → c.graph.nodes ≡ nodes → c.graph.edges ≡ edges → InOrder c.graph.edges (nodes_at key job c m place)
  nodes_in_order c nodes_are edges_are =
      subst (λ (es : List Edge). InOrder es (nodes_at key job c m place)) (sym edges_are)
      (subst (λ (ns : List Node). InOrder edges (as_nodes (marks_from m place base (length ns)))) (sym nodes_are) in_order)
