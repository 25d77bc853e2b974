use Rattle.std.proofs.Common.{◌≡◌, ◌-◌, ◌⊎◌, ◌++◌, [], length, map, set, take, drop, sym, ap, ap₂, ◌∙◌, subst, arith}
use Rattle.std.specs.Prelude.{IsOk, if◌then◌else◌}
use Rattle.std.proofs.lemmas.List.{map-set, with_items_is}
use Rattle.cell_pool.specs.View.{PoolView}
use Rattle.kernel_gate.specs.Framed.{frame_of}
use Rattle.kernel_gate.specs.Value.{FrameView}
use Rattle.job_compiler.specs.Compilation.{Compilation}
use Rattle.job_compiler.specs.Wired.{leaving}
use Rattle.job_flow.specs.Graphs.{node_at}
use Rattle.one_job.specs.Marks.{Claimed, mark_at}
use Rattle.one_job.specs.Ready.{KeepsReady}
use Rattle.one_job.specs.Ports.{row_of, reads_stored, writes_stored, with_left, with_out}
use Rattle.one_job.specs.Taking.{with_leases}
use Rattle.one_job.specs.View.{JobView, IsFiring}
use Rattle.one_job.specs.Calls.{finished_with}
use Rattle.one_job.specs.Staged.{mark_of}
use Rattle.one_job.specs.Invariants.{view_of, parts_of, Keeps}
use Rattle.one_job.proofs.JobDone.{can_give_both, back_is, ports_part, finish_keeps, mark_stage, length-with_out, length-with_left, lent_back}
use Rattle.one_job.proofs.JobEnds.{once_of}
use Rattle.one_job.proofs.FinishReady.{some_claimed, nodes_long, release_asks, release_keeps}
use Rattle.one_job.proofs.job.Job.finish.Goals as goal

pub give_inputs-requires : goal.give_inputs-requires
give_inputs-requires c =
    let i = c.self.inside in
    let n = c.args.node in
    let nodes_are = c.items.ensures ∙ (ap (λ g. g.nodes) c.graph.ensures.value ∙ ap (λ (k : Compilation). k.graph.nodes) c.deref.ensures) in
    let claimed : mark_at (view_of i).marks n ≡ Claimed c.args.frame.places = subst (λ (v : JobView). mark_at v.marks n ≡ Claimed c.args.frame.places) (sym c.self.view_is) c.requires.claimed in
    let back = c.take_back-lent.ensures ∙ ap frame_of (sym c.deref_mut-parts.ensures.value) in
    let reads = c.reads_stored.ensures ∙ ap (λ ns. reads_stored (node_at ns n)) nodes_are in
    let both = can_give_both (view_of i) (parts_of i) i.pool i.outs.items i.left.items c.self.invariant.0 n c.args.frame claimed c.deref_mut-parts.result.now.inputs.items c.deref_mut-parts.result.now.outputs.items
    (ap (λ (f : FrameView). f.places.inputs) back) (ap (λ (f : FrameView). f.places.outputs) back) (ap (λ (f : FrameView). f.outputs) back) c.args.answer in
    record { one = λ is. both.ins_one (sym reads ∙ is); due = λ is. both.ins_due (sym reads ∙ is) }

pub give_outputs-kept-requires : goal.give_outputs-kept-requires
give_outputs-kept-requires c =
    let i = c.self.inside in
    let n = c.args.node in
    let nodes_are = c.items.ensures ∙ (ap (λ g. g.nodes) c.graph.ensures.value ∙ ap (λ (k : Compilation). k.graph.nodes) c.deref.ensures) in
    let claimed : mark_at (view_of i).marks n ≡ Claimed c.args.frame.places = subst (λ (v : JobView). mark_at v.marks n ≡ Claimed c.args.frame.places) (sym c.self.view_is) c.requires.claimed in
    let back = c.take_back-lent.ensures ∙ ap frame_of (sym c.deref_mut-parts.ensures.value) in
    let reads = c.reads_stored.ensures ∙ ap (λ ns. reads_stored (node_at ns n)) nodes_are in
    let writes = c.writes_stored.ensures ∙ ap (λ ns. writes_stored (node_at ns n)) nodes_are in
    let both = can_give_both (view_of i) (parts_of i) i.pool i.outs.items i.left.items c.self.invariant.0 n c.args.frame claimed c.deref_mut-parts.result.now.inputs.items c.deref_mut-parts.result.now.outputs.items
    (ap (λ (f : FrameView). f.places.inputs) back) (ap (λ (f : FrameView). f.places.outputs) back) (ap (λ (f : FrameView). f.outputs) back) c.args.answer in
    let middle = c.give_inputs.ensures.pool ∙ (ap (λ b. if b then i.pool else with_leases c.deref_mut-parts.result.now.inputs.items i.pool) reads ∙ back_is (reads_stored (node_at (view_of i).compilation.graph.nodes n)) c.deref_mut-parts.result.now.inputs.items i.pool) in
    record { one = λ is. both.outs_one (sym writes ∙ is); due = λ is. subst (Rattle.one_job.specs.Taking.AreDue c.deref_mut-parts.result.now.outputs.items) (sym middle) (both.outs_due (sym writes ∙ is)) }

abbrev later : (c : goal.After-close) → JobView
later c = record (view_of c.self.inside) { marks = set (view_of c.self.inside).marks c.args.node (finished_with c.args.frame c.args.answer) }

abbrev which : (c : goal.After-close) → Rattle.sdf_level.specs.declared.node.Node.Node
which c = node_at (view_of c.self.inside).compilation.graph.nodes c.args.node

kept_all : (c : goal.After-close) → Keeps (later c) (parts_of c.self.inside)
    (with_leases (ports_part (writes_stored (which c)) c.deref_mut-parts.result.now.outputs.items) (with_leases (ports_part (reads_stored (which c)) c.deref_mut-parts.result.now.inputs.items) c.self.inside.pool))
    (with_out (which c) c.give_outputs-kept.result.items c.self.inside.outs.items) (with_left (which c) c.give_outputs-kept.result.items c.self.inside.left.items)
kept_all c =
    let i = c.self.inside in
    let n = c.args.node in
    let nodes_are = c.items.ensures ∙ (ap (λ g. g.nodes) c.graph.ensures.value ∙ ap (λ (k : Compilation). k.graph.nodes) c.deref.ensures) in
    let claimed : mark_at (view_of i).marks n ≡ Claimed c.args.frame.places = subst (λ (v : JobView). mark_at v.marks n ≡ Claimed c.args.frame.places) (sym c.self.view_is) c.requires.claimed in
    let back = c.take_back-lent.ensures ∙ ap frame_of (sym c.deref_mut-parts.ensures.value) in
    let reads = c.reads_stored.ensures ∙ ap (λ ns. reads_stored (node_at ns n)) nodes_are in
    let writes = c.writes_stored.ensures ∙ ap (λ ns. writes_stored (node_at ns n)) nodes_are in
    let sound : IsFiring (which c) ⊎ IsOk c.args.answer = subst (λ (v : JobView). IsFiring (node_at v.compilation.graph.nodes n) ⊎ IsOk c.args.answer) (sym c.self.view_is) c.requires.sound in
    finish_keeps (view_of i) (parts_of i) i.pool i.outs.items i.left.items c.self.invariant.0 n c.args.frame claimed c.deref_mut-parts.result.now.inputs.items c.deref_mut-parts.result.now.outputs.items
    (ap (λ (f : FrameView). f.places.inputs) back) (ap (λ (f : FrameView). f.places.outputs) back) (ap (λ (f : FrameView). f.outputs) back) c.args.answer
    sound (once_of c.graphs_numbered.ensures.once (view_of i).compilation c.self.invariant.0.compiled n (can_give_both (view_of i) (parts_of i) i.pool i.outs.items i.left.items c.self.invariant.0 n c.args.frame claimed c.deref_mut-parts.result.now.inputs.items c.deref_mut-parts.result.now.outputs.items
    (ap (λ (f : FrameView). f.places.inputs) back) (ap (λ (f : FrameView). f.places.outputs) back) (ap (λ (f : FrameView). f.outputs) back) c.args.answer).there) c.give_outputs-kept.result.items (λ tokens is one. c.give_outputs-kept.ensures.tokens tokens (writes ∙ is) one)

-- the pool then
pool_is : (c : goal.After-close) → c.give_outputs-kept.new.pool ≡ with_leases (ports_part (writes_stored (which c)) c.deref_mut-parts.result.now.outputs.items) (with_leases (ports_part (reads_stored (which c)) c.deref_mut-parts.result.now.inputs.items) c.self.inside.pool)
pool_is c =
    let i = c.self.inside in
    let n = c.args.node in
    let nodes_are = c.items.ensures ∙ (ap (λ g. g.nodes) c.graph.ensures.value ∙ ap (λ (k : Compilation). k.graph.nodes) c.deref.ensures) in
    let reads = c.reads_stored.ensures ∙ ap (λ ns. reads_stored (node_at ns n)) nodes_are in
    let writes = c.writes_stored.ensures ∙ ap (λ ns. writes_stored (node_at ns n)) nodes_are in
    let middle = c.give_inputs.ensures.pool ∙ (ap (λ b. if b then i.pool else with_leases c.deref_mut-parts.result.now.inputs.items i.pool) reads ∙ back_is (reads_stored (which c)) c.deref_mut-parts.result.now.inputs.items i.pool) in
    c.give_outputs-kept.ensures.pool ∙ (ap₂ (λ b q. if b then q else with_leases c.deref_mut-parts.result.now.outputs.items q) writes middle ∙ back_is (writes_stored (which c)) c.deref_mut-parts.result.now.outputs.items (with_leases (ports_part (reads_stored (which c)) c.deref_mut-parts.result.now.inputs.items) i.pool))

now_is : (c : goal.After-close) → record (view_of c.self.inside) { block = c.give_outputs-kept.new.pool.block; marks = map mark_of (set c.self.inside.stages.items c.args.node c.ended_stage-stage.result) } ≡ later c
now_is c =
    let i = c.self.inside in
    let n = c.args.node in
    let block_is = ap (λ (q : PoolView). q.block) (pool_is c) ∙ ((kept_all c).cells.block) in
    let mark_is = ap mark_of c.ended_stage-stage.ensures ∙ mark_stage c.told_of.result c.args.frame c.args.answer c.told_of.ensures in
    let marks_is = map-set mark_of i.stages.items n c.ended_stage-stage.result ∙ ap (set (map mark_of i.stages.items) n) mark_is in
    λ k. record (view_of i) { block = block_is k; marks = marks_is k }

pub invariant_of-self : goal.invariant_of-self
invariant_of-self c =
    let i = c.self.inside in
    let n = c.args.node in
    let nodes_are = c.items.ensures ∙ (ap (λ g. g.nodes) c.graph.ensures.value ∙ ap (λ (k : Compilation). k.graph.nodes) c.deref.ensures) in
    let node_is = ap (λ ns. node_at ns n) nodes_are in
    let new_outs : c.keep_tokens.new.outs ≡ with_out (which c) c.give_outputs-kept.result.items i.outs.items = c.keep_tokens.ensures.outs ∙ ap₂ (λ w l. with_out w c.give_outputs-kept.result.items l) node_is c.deref_mut-2.ensures.value in
    let new_left : c.keep_tokens.new.left ≡ with_left (which c) c.give_outputs-kept.result.items i.left.items = c.keep_tokens.ensures.left ∙ ap₂ (λ w l. with_left w c.give_outputs-kept.result.items l) node_is c.deref_mut.ensures.value in
    let outs_are = lent_back i.outs c.keep_tokens.new.outs (ap length new_outs ∙ length-with_out (which c) c.give_outputs-kept.result.items i.outs.items) ∙ new_outs in
    let left_are = lent_back i.left c.keep_tokens.new.left (ap length new_left ∙ length-with_left (which c) c.give_outputs-kept.result.items i.left.items) ∙ new_left in
    let j = view_of i in
    let claimed : mark_at j.marks n ≡ Claimed c.args.frame.places = subst (λ (v : JobView). mark_at v.marks n ≡ Claimed c.args.frame.places) (sym c.self.view_is) c.requires.claimed in
    let edges_are : c.items-2.result.now ≡ j.compilation.graph.edges = c.items-2.ensures ∙ (ap (λ g. g.edges) c.graph-2.ensures.value ∙ ap (λ (k : Compilation). k.graph.edges) c.deref-2.ensures) in
    let row_is : c.row.result.now ≡ row_of (parts_of i).leaving n = c.row.ensures ∙ ap (λ rows. row_of rows n) (c.wiring.ensures.leaving ∙ ap (λ (k : Compilation). leaving k.level k.graph) c.deref-3.ensures) in
    let ports_are : c.released.result.now ≡ (if c.is_ok-is_done.result then row_of (parts_of i).leaving n else []) = c.released.ensures ∙ ap (λ ports. if c.is_ok-is_done.result then ports else []) row_is in
    let nodes_now : c.items-3.result.now ≡ j.compilation.graph.nodes = c.items-3.ensures ∙ (ap (λ g. g.nodes) c.graph-3.ensures.value ∙ ap (λ (k : Compilation). k.graph.nodes) c.deref-4.ensures) in
    let kinds_now : c.items-4.result.now ≡ j.kinds = c.items-4.ensures in
    let same = with_items_is i.waiting c.release.new.waiting (c.release.auto.waiting ∙ (ap length c.deref_mut-3.ensures.value ∙ sym i.waiting.ok.0)) in
    let then_ready = release_keeps j (parts_of i) i.pool i.outs.items i.left.items c.self.invariant.0 i.waiting.items i.claimed i.ready c.self.invariant.1 n c.args.frame claimed c.args.answer c.is_ok-is_done.result c.is_ok-is_done.ensures.value c.items-2.result.now c.released.result.now c.deref_mut-3.result.now c.items-3.result.now c.items-4.result.now edges_are ports_are c.deref_mut-3.ensures.value nodes_now kinds_now c.release.new.waiting c.release.new.ready c.release.ensures in (
      subst (λ v. Keeps v (parts_of c.self.inside) c.give_outputs-kept.new.pool (take i.outs.len (c.keep_tokens.new.outs ++ drop (length c.keep_tokens.new.outs) i.outs.items)) (take i.left.len (c.keep_tokens.new.left ++ drop (length c.keep_tokens.new.left) i.left.items))) (sym (now_is c))
          (subst (λ q. Keeps (later c) (parts_of c.self.inside) q (take i.outs.len (c.keep_tokens.new.outs ++ drop (length c.keep_tokens.new.outs) i.outs.items)) (take i.left.len (c.keep_tokens.new.left ++ drop (length c.keep_tokens.new.left) i.left.items))) (sym (pool_is c))
          (subst (λ l. Keeps (later c) (parts_of c.self.inside) (with_leases (ports_part (writes_stored (which c)) c.deref_mut-parts.result.now.outputs.items) (with_leases (ports_part (reads_stored (which c)) c.deref_mut-parts.result.now.inputs.items) i.pool)) l (take i.left.len (c.keep_tokens.new.left ++ drop (length c.keep_tokens.new.left) i.left.items))) (sym outs_are)
          (subst (λ l. Keeps (later c) (parts_of c.self.inside) (with_leases (ports_part (writes_stored (which c)) c.deref_mut-parts.result.now.outputs.items) (with_leases (ports_part (reads_stored (which c)) c.deref_mut-parts.result.now.inputs.items) i.pool)) (with_out (which c) c.give_outputs-kept.result.items i.outs.items) l) (sym left_are)
          (kept_all c)))),
      subst (λ (t : Type 0). t) (λ t. KeepsReady (sym (now_is c) t) (sym same t) (i.claimed - 1) c.release.new.ready) then_ready,
    )

pub row-requires : goal.row-requires
row-requires c =
    let i = c.self.inside in
    let n = c.args.node in
    let j = view_of i in
    let claimed : mark_at j.marks n ≡ Claimed c.args.frame.places = subst (λ (v : JobView). mark_at v.marks n ≡ Claimed c.args.frame.places) (sym c.self.view_is) c.requires.claimed in
    let marked = Rattle.one_job.proofs.Phases.inside_of j.marks n (λ free. let bad : Rattle.one_job.specs.Marks.IsClaimed ≡ Rattle.one_job.specs.Marks.IsFree = sym (ap Rattle.one_job.specs.Marks.phase_of claimed) ∙ free in absurd (cc)) in
    let rows = c.wiring.ensures.leaving ∙ ap (λ (k : Compilation). leaving k.level k.graph) c.deref-3.ensures in
    omega (arith, ap length rows, c.self.invariant.0.wired.rows_out, c.self.invariant.0.one_each, marked)

pub release-requires-clause-can : goal.release-requires-clause-can
release-requires-clause-can c =
    let i = c.self.inside in
    let n = c.args.node in
    let j = view_of i in
    let claimed : mark_at j.marks n ≡ Claimed c.args.frame.places = subst (λ (v : JobView). mark_at v.marks n ≡ Claimed c.args.frame.places) (sym c.self.view_is) c.requires.claimed in
    let edges_are : c.items-2.result.now ≡ j.compilation.graph.edges = c.items-2.ensures ∙ (ap (λ g. g.edges) c.graph-2.ensures.value ∙ ap (λ (k : Compilation). k.graph.edges) c.deref-2.ensures) in
    let row_is : c.row.result.now ≡ row_of (parts_of i).leaving n = c.row.ensures ∙ ap (λ rows. row_of rows n) (c.wiring.ensures.leaving ∙ ap (λ (k : Compilation). leaving k.level k.graph) c.deref-3.ensures) in
    let ports_are : c.released.result.now ≡ (if c.is_ok-is_done.result then row_of (parts_of i).leaving n else []) = c.released.ensures ∙ ap (λ ports. if c.is_ok-is_done.result then ports else []) row_is in
    let nodes_now : c.items-3.result.now ≡ j.compilation.graph.nodes = c.items-3.ensures ∙ (ap (λ g. g.nodes) c.graph-3.ensures.value ∙ ap (λ (k : Compilation). k.graph.nodes) c.deref-4.ensures) in
    let kinds_now : c.items-4.result.now ≡ j.kinds = c.items-4.ensures in
    release_asks j (parts_of i) i.pool i.outs.items i.left.items c.self.invariant.0 i.waiting.items i.claimed i.ready c.self.invariant.1 n c.args.frame claimed c.args.answer c.is_ok-is_done.result c.is_ok-is_done.ensures.value c.items-2.result.now c.released.result.now c.deref_mut-3.result.now c.items-3.result.now c.items-4.result.now edges_are ports_are c.deref_mut-3.ensures.value nodes_now kinds_now

pub release-requires-clause-nodes : goal.release-requires-clause-nodes
release-requires-clause-nodes c =
    let i = c.self.inside in
    let n = c.args.node in
    let j = view_of i in
    let claimed : mark_at j.marks n ≡ Claimed c.args.frame.places = subst (λ (v : JobView). mark_at v.marks n ≡ Claimed c.args.frame.places) (sym c.self.view_is) c.requires.claimed in
    let edges_are : c.items-2.result.now ≡ j.compilation.graph.edges = c.items-2.ensures ∙ (ap (λ g. g.edges) c.graph-2.ensures.value ∙ ap (λ (k : Compilation). k.graph.edges) c.deref-2.ensures) in
    let row_is : c.row.result.now ≡ row_of (parts_of i).leaving n = c.row.ensures ∙ ap (λ rows. row_of rows n) (c.wiring.ensures.leaving ∙ ap (λ (k : Compilation). leaving k.level k.graph) c.deref-3.ensures) in
    let ports_are : c.released.result.now ≡ (if c.is_ok-is_done.result then row_of (parts_of i).leaving n else []) = c.released.ensures ∙ ap (λ ports. if c.is_ok-is_done.result then ports else []) row_is in
    let nodes_now : c.items-3.result.now ≡ j.compilation.graph.nodes = c.items-3.ensures ∙ (ap (λ g. g.nodes) c.graph-3.ensures.value ∙ ap (λ (k : Compilation). k.graph.nodes) c.deref-4.ensures) in
    let kinds_now : c.items-4.result.now ≡ j.kinds = c.items-4.ensures in
    nodes_long j (parts_of i) i.pool i.outs.items i.left.items c.self.invariant.0 i.waiting.items i.claimed i.ready c.self.invariant.1 n c.args.frame claimed c.args.answer c.is_ok-is_done.result c.is_ok-is_done.ensures.value c.items-2.result.now c.released.result.now c.deref_mut-3.result.now c.items-3.result.now c.items-4.result.now edges_are ports_are c.deref_mut-3.ensures.value nodes_now kinds_now

pub overflow_sub-self : goal.overflow_sub-self
overflow_sub-self c =
    let i = c.self.inside in
    let n = c.args.node in
    let j = view_of i in
    let claimed : mark_at j.marks n ≡ Claimed c.args.frame.places = subst (λ (v : JobView). mark_at v.marks n ≡ Claimed c.args.frame.places) (sym c.self.view_is) c.requires.claimed in
    some_claimed j (parts_of i) i.pool i.outs.items i.left.items c.self.invariant.0 i.waiting.items i.claimed i.ready c.self.invariant.1 n c.args.frame claimed

pub returns-clause-finished : goal.returns-clause-finished
returns-clause-finished c = now_is c ∙ ap (λ (v : JobView). record v { marks = set v.marks c.args.node (finished_with c.args.frame c.args.answer) }) c.self.view_is
