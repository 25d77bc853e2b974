-- What is lent of the nodes of a running firing.
use Rattle.std.proofs.Common.{◌≡◌, ℕ, zero, suc, ◌<◌, ◌≤◌, ⊎_elim, ℤ, Bool, List, [], ◌∷◌, length, Option, Some, None, refl, sym, ap, ◌∙◌, subst, arith}
use Rattle.std.specs.Prelude.{Vec}
use Rattle.std.specs.Global.{Global}
use Rattle.std.proofs.lemmas.Bool.{cases_lt}
use Rattle.std.proofs.lemmas.List.{get_or_past, length-map}
use Rattle.kernel_gate.specs.Value.{Places}
use Rattle.nested_jobs.specs.Marks as mark
use Rattle.nested_jobs.specs.Marks.{Mark}
use Rattle.param_resolver.specs.Numbering.{acting}
use Rattle.pisdf_meaning.specs.declared.outcome.TraceRow.{TraceRow}
use Rattle.job_compiler.specs.Compilation.{Compilation}
use Rattle.job_flow.specs.Graphs.{JobGraph, node_at}
use Rattle.job_rules.specs.Items.{actor_of, keeps_state}
use Rattle.job_rules.specs.Words.{Spot}
use Rattle.one_job.specs.Leased.{JobCells, LendsBuffers, cells_of}
use Rattle.one_job.specs.Live.{InOrder}
use Rattle.one_job.specs.LiveLaws.{KeepsBuffers}
use Rattle.one_job.specs.Marks as one
use Rattle.one_job.specs.Places.{edge_at}
use Rattle.one_job.specs.View as leased
use Rattle.job_preparing.specs.Handing.{ItemMarks, lent_at, mark_at}
use Rattle.graph_firing.specs.Nodes.Invariants.{view_with}
use Rattle.graph_firing.specs.Nodes.Leases.{LendsNodes, as_node, as_nodes}
use Rattle.graph_firing.specs.Nodes.Parts.{Fixed, KeepsAll, fired, job_in}
use Rattle.graph_firing.specs.Nodes.Stages.{job_mark, lents_of, mark_of, marks_of, spot_of, stage_at}
use Rattle.graph_firing.specs.declared.nodes.frames.Held.{Held}
use Rattle.graph_firing.specs.declared.nodes.stage.Stage.{Stage}
use Rattle.graph_firing.specs.declared.nodes.stage.Stage.TheVariants.{Free, Busy, Lost, Open, Fired, Failed, Gave, Refused}
use Rattle.graph_firing.proofs.OfNodes.NodeMarks.{lent_busy, lent_here, mark_here, marks_long}

-- a stage tells the same of a node as of the node in the job of leases
same_phase : (keeps : Bool) (spot : Option Spot) (s : Stage) → one.phase_of (as_node (mark_of spot s)) ≡ one.phase_of (job_mark keeps s)
same_phase keeps spot Free = refl
same_phase keeps spot (Busy told) = refl
same_phase keeps spot (Lost told) = refl
same_phase keeps spot (Open job told) = refl
same_phase keeps None (Fired told) = refl
same_phase keeps (Some spot) (Fired told) = refl
same_phase keeps spot (Failed code) = refl
same_phase keeps spot (Gave told) = refl
same_phase keeps spot (Refused told) = refl

pub as_nodes_at : (marks : ItemMarks) (n : ℕ) → one.mark_at (as_nodes marks) n ≡ as_node (mark_at marks n)
as_nodes_at [] n = refl
as_nodes_at (m ∷ marks) zero = refl
as_nodes_at (m ∷ marks) (suc n) = as_nodes_at marks n

module _ (f : Fixed) (stages : List Stage) (held : List Held) (rows : List (Vec (List TraceRow) Global)) (job : leased.JobView) (keeps : KeepsAll f stages held rows job) (kept : KeepsBuffers job) where
  abbrev items : ItemMarks
  items = marks_of f.firing.path (acting (fired f)) (job_in f).nodes stages

  nodes_are : job.compilation.graph.nodes ≡ (job_in f).nodes
  nodes_are = ap (λ (x : JobGraph ℤ). x.nodes) keeps.set_up.graph_is

  edges_are : job.compilation.graph.edges ≡ (job_in f).edges
  edges_are = ap (λ (x : JobGraph ℤ). x.edges) keeps.set_up.graph_is

  item_is : (n : ℕ) → mark_at items n ≡ mark_of (spot_of f.firing.path (acting (fired f)) (node_at (job_in f).nodes n)) (stage_at stages n)
  item_is n = mark_here f.firing.path (acting (fired f)) (job_in f).nodes stages n keeps.stand.one_stage

  phases : (n : ℕ) → one.phase (as_nodes items) n ≡ one.phase job.marks n
  phases n = ⊎_elim
      (λ (inside : n < length (job_in f).nodes).
      let s = keeps.stand.each n inside in
      ap one.phase_of (as_nodes_at items n)
      ∙ (ap (λ m. one.phase_of (as_node m)) (item_is n)
      ∙ (same_phase (keeps_state f.graphs.graphs (actor_of (fired f) (node_at (job_in f).nodes n))) (spot_of f.firing.path (acting (fired f)) (node_at (job_in f).nodes n)) (stage_at stages n)
      ∙ ap one.phase_of (sym s.mark_is))))
      (λ (past : length (job_in f).nodes ≤ n).
      let a : mark_at items n ≡ mark.Free = get_or_past items n mark.Free (let l = marks_long f.firing.path (acting (fired f)) (job_in f).nodes stages keeps.stand.one_stage in omega arith) in
      let b : one.mark_at job.marks n ≡ one.Free = get_or_past job.marks n one.Free (let l = keeps.stand.one_mark in omega arith) in
      ap one.phase_of (as_nodes_at items n) ∙ (ap (λ m. one.phase_of (as_node m)) a ∙ ap one.phase_of (sym b)))
      (cases_lt n (length (job_in f).nodes))

  order : InOrder job.compilation.graph.edges (as_nodes items)
  order = λ e inside claimed. phases (edge_at job.compilation.graph.edges e).tail ∙ kept.order e inside (λ free. claimed (phases (edge_at job.compilation.graph.edges e).head ∙ free))

  claimed_with : (n : ℕ) (places : Places) → lent_at (lents_of stages) n ≡ Some places → one.mark_at job.marks n ≡ one.Claimed places
  claimed_with n places lent =
      let b = lent_busy (stage_at stages n) places (sym (lent_here stages n) ∙ lent) in
      ⊎_elim
      (λ (inside : n < length (job_in f).nodes).
      let keeps_it = keeps_state f.graphs.graphs (actor_of (fired f) (node_at (job_in f).nodes n)) in
      (keeps.stand.each n inside).mark_is ∙ (ap (job_mark keeps_it) b.stage_is ∙ ap one.Claimed b.places_are))
      (λ (past : length (job_in f).nodes ≤ n).
      let free : stage_at stages n ≡ Free = get_or_past stages n Free (let l = keeps.stand.one_stage in omega arith) in
      let bad : Busy b.told ≡ Free = sym b.stage_is ∙ free in
      absurd (cc))
      (cases_lt n (length (job_in f).nodes))

  own_cells : LendsBuffers (cells_of job) (as_nodes items) (lent_at (lents_of stages))
  own_cells = record {
    compiled = kept.compiled;
    pooled = kept.pooled;
    high = kept.high;
    one_each = length-map items as_node ∙ (marks_long f.firing.path (acting (fired f)) (job_in f).nodes stages keeps.stand.one_stage ∙ ap length (sym nodes_are));
    order = order;
    claimed = λ n places lent. phases n ∙ ap one.phase_of (claimed_with n places lent);
    leases = λ n places lent. kept.leases n places (claimed_with n places lent);
  }

  cells_are : cells_of job ≡ record { compilation = f.compilation; block = f.block }
  cells_are = λ k. record { compilation = keeps.set_up.compilation_is k; block = keeps.set_up.block_is k }

  pub lends_nodes : LendsNodes (view_with f stages)
  lends_nodes = record {
    nodes_are = ap (λ (c : Compilation). c.graph.nodes) (sym keeps.set_up.compilation_is) ∙ nodes_are;
    edges_are = ap (λ (c : Compilation). c.graph.edges) (sym keeps.set_up.compilation_is) ∙ edges_are;
    lends = subst (λ (c : JobCells). LendsBuffers c (as_nodes items) (lent_at (lents_of stages))) cells_are own_cells;
  }
