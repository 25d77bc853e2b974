-- What a finish releases.
use Rattle.std.proofs.Common.{◌≡◌, ℕ, zero, suc, ℤ, ◌-◌, ◌<◌, ◌≤◌, ⊎_elim, Bool, true, false, List, [], length, set, get_or, sym, ap, ◌∙◌, subst, arith}
use Rattle.std.specs.Prelude.{Option, Some, None, Result, Ok, Err, is_ok, if◌then◌else◌}
use Rattle.std.proofs.lemmas.Bool.{cases_lt}
use Rattle.std.proofs.lemmas.List.Elements.{All-get_or}
use Rattle.sdf_level.specs.declared.single_rate.Edge.{Edge}
use Rattle.cell_pool.specs.View.{PoolView}
use Rattle.kernel_gate.specs.Value.{FrameView}
use Rattle.kernel_gate.specs.declared.fault.KernelFault.{KernelFault}
use Rattle.one_job.specs.Marks.{Mark, Claimed, Finished, Failed, mark_at, IsClaimed, phase, phase_of}
use Rattle.one_job.specs.Places.{no_edge, edge_at}
use Rattle.one_job.specs.Ports.{row_of}
use Rattle.one_job.specs.View.{JobView, graph_of}
use Rattle.one_job.specs.Calls.{finished_with}
use Rattle.one_job.specs.Invariants.{Parts, Keeps}
use Rattle.sdf_level.specs.declared.node.Node.{Node}
use Rattle.one_job.specs.Ready.{bit, is_child_at, is_claimed, claims, KeepsReady, Releases, CanRelease}
use Rattle.one_job.specs.declared.ready.ReadyNodes.{ReadyNodes}
use Rattle.one_job.proofs.Phases.{inside_of, claimed_not_free}
use Rattle.one_job.proofs.Claiming.{In-at, In-leaves, all_out}
use Rattle.one_job.proofs.Wires.{ports_of}
use Rattle.one_job.proofs.ReadySteps.{CanFinish, IsReleased, finished_released, failed_released, release_can, finish_ready}

released_of : (edges : List Edge) (marks : List Mark) (n : ℕ) (row : List (Option ℕ)) → CanFinish edges marks n row → (frame : FrameView) (answer : Result (Unit {0}) KernelFault) (b : Bool) → b ≡ is_ok answer → IsReleased edges marks n (finished_with frame answer) (if b then row else [])
released_of edges marks n row can frame (Ok done) b is =
    subst (λ q. IsReleased edges marks n (Finished frame.outputs) (if q then row else [])) (sym is) (finished_released edges marks n row can frame.outputs)
released_of edges marks n row can frame (Err fault) b is =
    subst (λ q. IsReleased edges marks n (Failed fault.code) (if q then row else [])) (sym is) (failed_released edges marks n row can fault.code)

-- a node that is claimed is counted
claims_some : (marks : List Mark) (n k : ℕ) → n < k → phase marks n ≡ IsClaimed → 1 ≤ claims marks k
claims_some marks n zero below is = absurd (let bad : ⊥ = omega arith in bad)
claims_some marks n (suc k) below is = ⊎_elim
    (λ (before : n < k). let rest = claims_some marks n k before is in omega arith)
    (λ (up : k ≤ n).
    let last : n ≡ k = omega arith in
    let one : bit (is_claimed (phase marks k)) ≡ 1 = ap (λ p. bit (is_claimed p)) (subst (λ q. phase marks q ≡ IsClaimed) last is) in
    omega arith)
    (cases_lt n k)

module _ (j : JobView) (p : Parts) (pool : PoolView) (outs left : List (List ℤ)) (keeps : Keeps j p pool outs left) (waiting : List ℕ) (claimed : ℕ) (ready : ReadyNodes) (kept : KeepsReady j waiting claimed ready) (n : ℕ) (frame : FrameView) (is_claimed_node : mark_at j.marks n ≡ Claimed frame.places) where
  abbrev edges : List Edge
  edges = j.compilation.graph.edges

  abbrev row : List (Option ℕ)
  row = row_of p.leaving n

  phase_is : phase j.marks n ≡ IsClaimed
  phase_is = ap phase_of is_claimed_node

  marked : n < length j.marks
  marked = inside_of j.marks n (claimed_not_free (phase j.marks n) phase_is)

  inside : n < length j.compilation.graph.nodes
  inside = subst (λ k. n < k) keeps.one_each marked

  can_finish : CanFinish edges j.marks n row
  can_finish = record {
    order = keeps.order;
    claimed = phase_is;
    leaves = keeps.wired.leaves n inside;
    all = all_out edges n (row_of p.entering n) row (ports_of (graph_of j) p.entering p.leaving n keeps.wired inside);
  }

  pub some_claimed : 1 ≤ claimed
  some_claimed = let some = claims_some j.marks n (length j.marks) marked phase_is in let is = kept.claims_are in omega arith

  ports_inside : (b : Bool) (k e : ℕ) → get_or (if b then row else []) k None ≡ Some e → (e < length edges) × ((edge_at edges e).head < length j.compilation.graph.nodes)
  ports_inside true k e is =
      let leaves = In-leaves edges n 0 e row (keeps.wired.leaves n inside) (In-at row k e is) in
      (leaves.0, (All-get_or (λ (x : Edge). (x.tail < length j.compilation.graph.nodes) × (x.head < length j.compilation.graph.nodes)) edges e no_edge leaves.0 keeps.compiled.expanded.sound.ends).1)
  ports_inside false k e is = absurd (cc)

  module _ (answer : Result (Unit {0}) KernelFault) (b : Bool) (b_is : b ≡ is_ok answer) (edges_read : List Edge) (ports : List (Option ℕ)) (waiting_read : List ℕ) (nodes_read : List Node) (kinds_read : List (Option ℕ))
      (edges_are : edges_read ≡ edges) (ports_are : ports ≡ (if b then row else [])) (waiting_is : waiting_read ≡ waiting) (nodes_are : nodes_read ≡ j.compilation.graph.nodes) (kinds_are : kinds_read ≡ j.kinds) where
    abbrev m : Mark
    m = finished_with frame answer

    released : IsReleased edges j.marks n m (if b then row else [])
    released = released_of edges j.marks n row can_finish frame answer b b_is

    pub nodes_long : length nodes_read ≡ length waiting_read
    nodes_long = ap length nodes_are ∙ (sym kept.long ∙ sym (ap length waiting_is))

    pub release_asks : CanRelease (is_child_at nodes_read kinds_read) edges_read ports waiting_read ready
    release_asks = subst (λ (t : Type 0). t) (λ t. CanRelease (is_child_at (sym nodes_are t) (sym kinds_are t)) (sym edges_are t) (sym ports_are t) (sym waiting_is t) ready)
        (release_can j keeps.one_each waiting claimed ready kept n m (if b then row else []) released (ports_inside b))

    pub release_keeps : (waiting_now : List ℕ) (ready_now : ReadyNodes) → Releases (is_child_at nodes_read kinds_read) edges_read ports [] waiting_read waiting_now ready ready_now → KeepsReady (record j { marks = set j.marks n m }) waiting_now (claimed - 1) ready_now
    release_keeps waiting_now ready_now releases =
        finish_ready j keeps.one_each waiting claimed ready kept n m (if b then row else []) released waiting_now ready_now
        (subst (λ (t : Type 0). t) (λ t. Releases (is_child_at (nodes_are t) (kinds_are t)) (edges_are t) (ports_are t) [] (waiting_is t) waiting_now ready ready_now) releases)
