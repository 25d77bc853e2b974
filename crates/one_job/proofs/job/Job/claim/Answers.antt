use Rattle.std.proofs.Common.{◌≡◌, ◌+◌, false, [], length, map, set, get_or, refl, sym, ap, ap₂, ◌∙◌, subst, arith}
use Rattle.std.proofs.lemmas.List.{map-set, get_or_default}
use Rattle.split_block.specs.View.{lease_place}
use Rattle.cell_pool.specs.View.{PoolView}
use Rattle.kernel_gate.specs.Rooms.{size_of}
use Rattle.kernel_gate.specs.Value.{FrameView, Places, lengths}
use Rattle.kernel_gate.specs.declared.frame.Lent.{Lent}
use Rattle.job_compiler.specs.Compilation.{Compilation}
use Rattle.job_compiler.specs.Wired.{entering, leaving}
use Rattle.job_flow.specs.Graphs.{node_at}
use Rattle.job_flow.specs.Frames.{inputs, lens}
use Rattle.one_job.specs.Marks.{Claimed, values}
use Rattle.one_job.specs.Places.{buffer_at}
use Rattle.one_job.specs.Ports.{reads_stored, writes_stored, row_of}
use Rattle.one_job.specs.Taking.{IsStored, TakesBehind, taken}
use Rattle.one_job.specs.declared.stage.Stage.TheVariants as stage
use Rattle.one_job.specs.Staged.{mark_of}
use Rattle.one_job.specs.View.{JobView, IsEnabled, graph_of}
use Rattle.one_job.specs.Calls.{LieAtBuffers}
use Rattle.one_job.specs.Invariants.{Parts, view_of, parts_of, Keeps}
use Rattle.ready_heap.specs.Heaps.{Holds}
use Rattle.one_job.specs.Pick.{is_child}
use Rattle.one_job.specs.Ready.{side, put, is_child_at, KeepsReady}
use Rattle.one_job.proofs.ReadySteps.{claim_ready, claims_few}
use Rattle.one_job.proofs.JobClaim.{HasBegun, HasRead, HasTaken, begun_here, can_take_ins, can_take_outs, ins_taken, outs_also_taken, last_canonical, claim_keeps, inputs_hold, outputs_fit, lie_at_buffers}
use Rattle.one_job.proofs.job.Job.claim.Goals as goal

pub overflow_add-self : goal.overflow_add-self
overflow_add-self c =
    let i = c.self.inside in
    let keeps = c.self.invariant.0 in
    omega (arith, claims_few (view_of i).marks (length (view_of i).marks), c.self.invariant.1.claims_are, keeps.one_each, keeps.compiled.expanded.sound.small.few_nodes)

pub row-requires : goal.row-requires
row-requires c =
    let i = c.self.inside in
    let n = c.args.node in
    let enabled : IsEnabled (view_of i) n = subst (λ v. IsEnabled v n) (sym c.self.view_is) c.requires.enabled in
    let rows = c.wiring.ensures.entering ∙ ap (λ (k : Compilation). entering k.level k.graph) c.deref-4.ensures in
    omega (arith, ap length rows, c.self.invariant.0.wired.rows_in, enabled.ready.there)

pub row-requires-2 : goal.row-requires-2
row-requires-2 c =
    let i = c.self.inside in
    let n = c.args.node in
    let enabled : IsEnabled (view_of i) n = subst (λ v. IsEnabled v n) (sym c.self.view_is) c.requires.enabled in
    let rows = c.wiring-2.ensures.leaving ∙ ap (λ (k : Compilation). leaving k.level k.graph) c.deref-5.ensures in
    omega (arith, ap length rows, c.self.invariant.0.wired.rows_out, enabled.ready.there)

pub take_ports-requires-clause-can : goal.take_ports-requires-clause-can
take_ports-requires-clause-can c =
    let i = c.self.inside in
    let n = c.args.node in
    let enabled : IsEnabled (view_of i) n = subst (λ v. IsEnabled v n) (sym c.self.view_is) c.requires.enabled in
    can_take_ins (view_of i) (parts_of i) i.pool i.outs.items i.left.items c.self.invariant.0 n enabled
    c.items-edges.result.now c.items-offsets.result.now c.row.result.now (row_of (parts_of i).leaving n)
    (record {
      edges_are = c.items-edges.ensures ∙ (ap (λ g. g.edges) c.graph-2.ensures.value ∙ ap (λ (k : Compilation). k.graph.edges) c.deref-2.ensures);
      offsets_are = c.items-offsets.ensures ∙ (ap (λ q. q.offsets) c.placement.ensures.value ∙ ap (λ (k : Compilation). k.placement.offsets) c.deref-3.ensures);
      ins_are = c.row.ensures ∙ ap (λ rows. row_of rows n) (c.wiring.ensures.entering ∙ ap (λ (k : Compilation). entering k.level k.graph) c.deref-4.ensures);
      outs_are = refl;
    })

pub take_ports-requires-2-clause-can : goal.take_ports-requires-2-clause-can
take_ports-requires-2-clause-can c =
    let i = c.self.inside in
    let n = c.args.node in
    let enabled : IsEnabled (view_of i) n = subst (λ v. IsEnabled v n) (sym c.self.view_is) c.requires.enabled in
    can_take_outs (view_of i) (parts_of i) i.pool i.outs.items i.left.items c.self.invariant.0 n enabled
    c.items-edges.result.now c.items-offsets.result.now c.row.result.now c.row-2.result.now
    (record {
      edges_are = c.items-edges.ensures ∙ (ap (λ g. g.edges) c.graph-2.ensures.value ∙ ap (λ (k : Compilation). k.graph.edges) c.deref-2.ensures);
      offsets_are = c.items-offsets.ensures ∙ (ap (λ q. q.offsets) c.placement.ensures.value ∙ ap (λ (k : Compilation). k.placement.offsets) c.deref-3.ensures);
      ins_are = c.row.ensures ∙ ap (λ rows. row_of rows n) (c.wiring.ensures.entering ∙ ap (λ (k : Compilation). entering k.level k.graph) c.deref-4.ensures);
      outs_are = c.row-2.ensures ∙ ap (λ rows. row_of rows n) (c.wiring-2.ensures.leaving ∙ ap (λ (k : Compilation). leaving k.level k.graph) c.deref-5.ensures);
    })
    c.take_ports.new.pool c.take_ports.ensures.pool

-- the node may be claimed
enabled_at : (c : goal.After-self-3-1) → IsEnabled (view_of c.self.inside) c.args.node
enabled_at c = subst (λ v. IsEnabled v c.args.node) (sym c.self.view_is) c.requires.enabled

read_at : (c : goal.After-self-3-1) → HasRead (view_of c.self.inside) (parts_of c.self.inside) c.self.inside.pool c.self.inside.outs.items c.self.inside.left.items c.self.invariant.0 c.args.node (enabled_at c)
    c.items-edges.result.now c.items-offsets.result.now c.row.result.now c.row-2.result.now
read_at c =
    let i = c.self.inside in
    let n = c.args.node in
    record {
      edges_are = c.items-edges.ensures ∙ (ap (λ g. g.edges) c.graph-2.ensures.value ∙ ap (λ (k : Compilation). k.graph.edges) c.deref-2.ensures);
      offsets_are = c.items-offsets.ensures ∙ (ap (λ q. q.offsets) c.placement.ensures.value ∙ ap (λ (k : Compilation). k.placement.offsets) c.deref-3.ensures);
      ins_are = c.row.ensures ∙ ap (λ rows. row_of rows n) (c.wiring.ensures.entering ∙ ap (λ (k : Compilation). entering k.level k.graph) c.deref-4.ensures);
      outs_are = c.row-2.ensures ∙ ap (λ rows. row_of rows n) (c.wiring-2.ensures.leaving ∙ ap (λ (k : Compilation). leaving k.level k.graph) c.deref-5.ensures);
    }

nodes_are : (c : goal.After-self-3-1) → c.items.result.now ≡ (view_of c.self.inside).compilation.graph.nodes
nodes_are c = c.items.ensures ∙ (ap (λ g. g.nodes) c.graph.ensures.value ∙ ap (λ (k : Compilation). k.graph.nodes) c.deref.ensures)

-- what lay ready for the node
stock_is : (c : goal.After-self-3-1) → c.index_mut.result.now ≡ get_or c.self.inside.stock.items c.args.node []
stock_is c =
    c.index_mut.ensures.value ∙ get_or_default c.self.inside.stock.items c.args.node c.index_mut.result.now [] (omega (arith, c.self.invariant.0.stocked, (enabled_at c).ready.there))

begun_at : (c : goal.After-self-3-1) → HasBegun (view_of c.self.inside) c.args.node c.begin.new.lent.inputs.items c.begin.new.lent.outputs.items
begun_at c =
    let i = c.self.inside in
    begun_here (view_of i) (parts_of i) i.pool i.outs.items i.left.items c.self.invariant.0 c.args.node (enabled_at c) c.begin.new.lent.inputs.items c.begin.new.lent.outputs.items
    (subst (λ (t : Type 0). t) (λ k. IsStored (reads_stored (node_at (nodes_are c k) c.args.node)) (stock_is c k) c.begin.new.lent.inputs.items) c.begin.ensures.inputs)
    (subst (λ (t : Type 0). t) (λ k. IsStored (writes_stored (node_at (nodes_are c k) c.args.node)) (stock_is c k) c.begin.new.lent.outputs.items) c.begin.ensures.outputs)

took_at : (c : goal.After-self-3-1) → HasTaken (view_of c.self.inside) (parts_of c.self.inside) c.self.inside.pool c.self.inside.outs.items c.self.inside.left.items c.self.invariant.0 c.args.node (enabled_at c)
    c.items-edges.result.now c.items-offsets.result.now c.row.result.now c.row-2.result.now (read_at c)
    c.begin.new.lent.inputs.items c.begin.new.lent.outputs.items c.take_ports.new.leases.items c.take_ports-2.new.leases.items c.take_ports.new.pool c.take_ports-2.new.pool
took_at c = record {
  took_in = c.take_ports.ensures.leases;
  middle_is = c.take_ports.ensures.pool;
  took_out = c.take_ports-2.ensures.leases;
  last_is = c.take_ports-2.ensures.pool;
}

ins_at : (c : goal.After-self-3-1) → TakesBehind (buffer_at (view_of c.self.inside).compilation.graph.edges (view_of c.self.inside).compilation.placement.offsets) c.self.inside.pool (row_of (parts_of c.self.inside).entering c.args.node) c.begin.new.lent.inputs.items c.take_ports.new.leases.items
ins_at c =
    let i = c.self.inside in
    ins_taken (view_of i) (parts_of i) i.pool i.outs.items i.left.items c.self.invariant.0 c.args.node (enabled_at c) _ _ _ _ (read_at c) _ _ _ _ _ _ (took_at c)

outs_at : (c : goal.After-self-3-1) → TakesBehind (buffer_at (view_of c.self.inside).compilation.graph.edges (view_of c.self.inside).compilation.placement.offsets)
    (record c.self.inside.pool { out = taken (buffer_at (view_of c.self.inside).compilation.graph.edges (view_of c.self.inside).compilation.placement.offsets) (row_of (parts_of c.self.inside).entering c.args.node) c.self.inside.pool.out })
    (row_of (parts_of c.self.inside).leaving c.args.node) c.begin.new.lent.outputs.items c.take_ports-2.new.leases.items
outs_at c =
    let i = c.self.inside in
    outs_also_taken (view_of i) (parts_of i) i.pool i.outs.items i.left.items c.self.invariant.0 c.args.node (enabled_at c) _ _ _ _ (read_at c) _ _ _ _ _ _ (took_at c)

-- what the frame is made of
abbrev lists : (c : goal.After-self-3-1) → Lent
lists c = record { kind = c.begin.new.lent.kind; args = c.begin.new.lent.args; inputs = c.take_ports.new.leases; outputs = c.take_ports-2.new.leases; sets = c.begin.new.lent.sets }

-- where the frame's leases lie
abbrev places : (c : goal.After-self-3-1) → Places
places c = record { inputs = map lease_place c.take_ports.new.leases.items; outputs = map lease_place c.take_ports-2.new.leases.items; room = size_of (lists c) }

places_are : (c : goal.After-self-3-1) → c.lend-frame.result.places ≡ places c
places_are c = ap (λ (f : FrameView). f.places) c.lend-frame.ensures

abbrev later : (c : goal.After-self-3-1) → JobView
later c = record (view_of c.self.inside) { marks = set (view_of c.self.inside).marks c.args.node (Claimed (places c)) }

abbrev later_parts : (c : goal.After-self-3-1) → Parts
later_parts c = record (parts_of c.self.inside) { stock = set c.self.inside.stock.items c.args.node c.begin.new.stock }

last_is : (c : goal.After-self-3-1) → c.take_ports-2.new.pool ≡ record c.self.inside.pool {
  out = taken (buffer_at (view_of c.self.inside).compilation.graph.edges (view_of c.self.inside).compilation.placement.offsets) (row_of (parts_of c.self.inside).leaving c.args.node)
      (taken (buffer_at (view_of c.self.inside).compilation.graph.edges (view_of c.self.inside).compilation.placement.offsets) (row_of (parts_of c.self.inside).entering c.args.node) c.self.inside.pool.out);
}
last_is c =
    let i = c.self.inside in
    last_canonical (view_of i) (parts_of i) i.pool i.outs.items i.left.items c.self.invariant.0 c.args.node (enabled_at c) _ _ _ _ (read_at c) _ _ _ _ _ _ (took_at c)

-- the view of the fields as they are then
now_is : (c : goal.After-self-3-1) → record (view_of c.self.inside) { block = c.take_ports-2.new.pool.block; marks = map mark_of (set c.self.inside.stages.items c.args.node (stage.Claimed c.told_of.result)) } ≡ later c
now_is c =
    let i = c.self.inside in
    let n = c.args.node in
    let block_is = ap (λ (q : PoolView). q.block) (last_is c) in
    let marks_is = map-set mark_of i.stages.items n (stage.Claimed c.told_of.result)
    ∙ ap (λ q. set (map mark_of i.stages.items) n (Claimed q)) (ap (λ (f : FrameView). f.places) c.told_of.ensures ∙ places_are c) in
    λ k. record (view_of i) { block = block_is k; marks = marks_is k }

-- the node is on the side of its sort
child_is : (c : goal.After-self-3-1) → c.is_child.result ≡ is_child (view_of c.self.inside) c.args.node
child_is c = c.is_child.ensures ∙ ap₂ (λ ns ks. is_child_at ns ks c.args.node) (nodes_are c) c.items-4.ensures

removed_is : (c : goal.After-self-3-1) → c.remove.new.self ≡ put c.self.inside.ready (is_child (view_of c.self.inside) c.args.node) c.args.node false
removed_is c = c.remove.ensures ∙ ap (λ b. put c.self.inside.ready b c.args.node false) (child_is c)

pub remove-requires : goal.remove-requires
remove-requires c =
    let i = c.self.inside in
    let n = c.args.node in
    let enabled : IsEnabled (view_of i) n = subst (λ v. IsEnabled v n) (sym c.self.view_is) c.requires.enabled in
    let nodes = c.items.ensures ∙ (ap (λ g. g.nodes) c.graph.ensures.value ∙ ap (λ (k : Compilation). k.graph.nodes) c.deref.ensures) in
    let child : c.is_child.result ≡ is_child (view_of i) n = c.is_child.ensures ∙ ap₂ (λ ns ks. is_child_at ns ks n) nodes c.items-4.ensures in
    subst (λ b. Holds (side i.ready b).held n) (sym child) ((c.self.invariant.1.exact n).1 enabled)

pub invariant_of-self : goal.invariant_of-self
invariant_of-self c =
    let i = c.self.inside in
    let kept = claim_keeps (view_of i) (parts_of i) i.pool i.outs.items i.left.items c.self.invariant.0 c.args.node (enabled_at c) c.begin.new.lent.inputs.items c.begin.new.lent.outputs.items (begun_at c) (size_of (lists c)) c.take_ports.new.leases.items c.take_ports-2.new.leases.items (ins_at c) (outs_at c) c.begin.new.stock in
    let then_ready = claim_ready (view_of i) c.self.invariant.0.one_each i.waiting.items i.claimed i.ready c.self.invariant.1 c.args.node (enabled_at c) (places c) in (
      subst (λ v. Keeps v (later_parts c) c.take_ports-2.new.pool i.outs.items i.left.items) (sym (now_is c))
          (subst (λ q. Keeps (later c) (later_parts c) q i.outs.items i.left.items) (sym (last_is c)) kept),
      subst (λ v. KeepsReady v i.waiting.items (i.claimed + 1) c.remove.new.self) (sym (now_is c))
          (subst (λ r. KeepsReady (later c) i.waiting.items (i.claimed + 1) r) (sym (removed_is c)) then_ready),
    )

pub returns-clause-inputs : goal.returns-clause-inputs
returns-clause-inputs c =
    let i = c.self.inside in
    ap (λ (f : FrameView). f.inputs) c.lend-frame.ensures
    ∙ (inputs_hold (view_of i) (parts_of i) i.pool i.outs.items i.left.items c.self.invariant.0 c.args.node (enabled_at c) c.begin.new.lent.inputs.items c.begin.new.lent.outputs.items (begun_at c) (size_of (lists c)) c.take_ports.new.leases.items c.take_ports-2.new.leases.items (ins_at c) (outs_at c)
    ∙ ap (λ (v : JobView). inputs (graph_of v) (values v.marks) c.args.node) c.self.view_is)

pub returns-clause-outputs : goal.returns-clause-outputs
returns-clause-outputs c =
    let i = c.self.inside in
    ap (λ (f : FrameView). lengths f.outputs) c.lend-frame.ensures
    ∙ (outputs_fit (view_of i) (parts_of i) i.pool i.outs.items i.left.items c.self.invariant.0 c.args.node (enabled_at c) c.begin.new.lent.inputs.items c.begin.new.lent.outputs.items (begun_at c) (size_of (lists c)) c.take_ports.new.leases.items c.take_ports-2.new.leases.items (ins_at c) (outs_at c)
    ∙ ap (λ (v : JobView). lens (graph_of v) c.args.node) c.self.view_is)

pub returns-clause-leases : goal.returns-clause-leases
returns-clause-leases c =
    let i = c.self.inside in
    subst (λ v. LieAtBuffers v c.args.node c.lend-frame.result.places) c.self.view_is
    (subst (LieAtBuffers (view_of i) c.args.node) (sym (places_are c))
    (lie_at_buffers (view_of i) (parts_of i) i.pool i.outs.items i.left.items c.self.invariant.0 c.args.node (enabled_at c) c.begin.new.lent.inputs.items c.begin.new.lent.outputs.items (begun_at c) (size_of (lists c)) c.take_ports.new.leases.items c.take_ports-2.new.leases.items (ins_at c) (outs_at c)))

pub returns-clause-claimed : goal.returns-clause-claimed
returns-clause-claimed c =
    now_is c
    ∙ (ap (λ q. record (view_of c.self.inside) { marks = set (view_of c.self.inside).marks c.args.node (Claimed q) }) (sym (places_are c))
    ∙ ap (λ (v : JobView). record v { marks = set v.marks c.args.node (Claimed c.lend-frame.result.places) }) c.self.view_is)
