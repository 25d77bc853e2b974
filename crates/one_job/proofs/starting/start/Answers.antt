use Rattle.std.proofs.Common.{◌≡◌, ℕ, ℤ, List, [], length, map, replicate, refl, sym, ap, ◌∙◌, subst, arith, ◌<◌, ◌≤◌}
use Rattle.std.specs.Arc.{arc_value}
use Rattle.job_compiler.specs.Compilation.{Compilation, IsCompiled}
use Rattle.job_compiler.specs.Ends.{AreEndCounts, head_of}
use Rattle.job_compiler.specs.Wired.{entering, leaving}
use Rattle.one_job.specs.Invariants.{Keeps, Parts}
use Rattle.one_job.specs.Marks.{Free}
use Rattle.one_job.specs.Opening.{AreMade}
use Rattle.one_job.specs.Ports.{AreWired}
use Rattle.one_job.specs.Ready.{AreFirstReady, KeepsReady}
use Rattle.one_job.specs.Rooms.{IsRoomOf}
use Rattle.one_job.specs.Staged.{mark_of}
use Rattle.one_job.specs.View.{HasLists, JobView, graph_of}
use Rattle.one_job.proofs.JobStart.{keeps_at_start, stock_of_free, wired_by}
use Rattle.one_job.proofs.ReadySteps.{start_ready_keeps}
use Rattle.one_job.proofs.RoomSteps.{room_of, rooms_at_start}
use Rattle.one_job.proofs.starting.start.Goals as goal

abbrev comp : goal.In_ok-pool → Compilation
comp c = arc_value c.args.compiled

kept : (c : goal.In_ok-pool) → IsCompiled (comp c)
kept c = subst (λ x. IsCompiled x) c.deref.ensures c.level-level.ensures.kept

entering_is : (c : goal.In_ok-pool) → c.wiring.result.now.entering ≡ entering (comp c).level (comp c).graph
entering_is c = c.wiring.ensures.entering ∙ ap (λ (x : Compilation). entering x.level x.graph) c.deref-2.ensures

leaving_is : (c : goal.In_ok-pool) → c.wiring.result.now.leaving ≡ leaving (comp c).level (comp c).graph
leaving_is c = c.wiring.ensures.leaving ∙ ap (λ (x : Compilation). leaving x.level x.graph) c.deref-2.ensures

marks_are : (c : goal.In_ok-pool) → map mark_of c.in_ok-nodes.nodes.stages.items ≡ replicate (length (comp c).graph.nodes) Free
marks_are c = c.in_ok-nodes.ensures.free ∙ ap (λ (x : Compilation). replicate (length x.graph.nodes) Free) c.deref-4.ensures

height_is : (c : goal.In_ok-pool) → c.placement.result.now.height ≡ (comp c).placement.height
height_is c = ap (λ x. x.height) (c.placement.ensures.value ∙ ap (λ x. x.placement) c.deref-5.ensures)

cells_are : (c : goal.In_ok-pool) → length c.in_ok-pool.pool.cells ≡ c.placement.result.now.height
cells_are c = c.in_ok-pool.ensures.long

abbrev view_with : goal.In_ok-pool → List (List ℤ) → List (List ℤ) → JobView
view_with c sources stored = record {
  compilation = comp c;
  kinds = c.args.kinds;
  args = c.args.args;
  sources = sources;
  stored = stored;
  block = c.in_ok-pool.pool.block;
  marks = map mark_of c.in_ok-nodes.nodes.stages.items;
  room = c.room_size-size.result;
}

abbrev view : goal.In_ok-pool → JobView
view c = view_with c c.args.sources c.args.stored

abbrev parts : goal.In_ok-pool → Parts
parts c = record {
  entering = entering (comp c).level (comp c).graph;
  leaving = leaving (comp c).level (comp c).graph;
  stock = c.in_ok-nodes.nodes.tokens.stock.items;
}

all_lists : (c : goal.In_ok-pool) → HasLists (view c)
all_lists c = record { kinds = c.requires.kinds; args = c.requires.args; sources = c.requires.sources; stored = c.requires.stored }

wired_so : (c : goal.In_ok-pool) → AreWired (graph_of (view c)) (parts c).entering (parts c).leaving
wired_so c =
    subst (λ (t : Type 0). t) (λ i. AreWired (graph_of (view c)) (entering_is c i) (leaving_is c i))
    (wired_by c.deref-2.result.now (comp c) c.wiring.result.now.entering c.wiring.result.now.leaving c.deref-2.ensures c.wiring.ensures.wired c.args.sources c.args.stored c.requires.sources c.requires.stored)

made_so : (c : goal.In_ok-pool) → AreMade (comp c).graph.nodes (comp c).graph.edges (parts c).entering c.args.sources c.args.stored (parts c).stock
made_so c = subst (λ (x : Compilation). AreMade x.graph.nodes x.graph.edges (entering x.level x.graph) c.args.sources c.args.stored (parts c).stock) c.deref-4.ensures c.in_ok-nodes.ensures.tokens.stock

room_is : (c : goal.In_ok-pool) → IsRoomOf (comp c).level (comp c).graph c.args.args c.room_size-size.result
room_is c =
    room_of (comp c) c.deref-2.result.now c.wiring.result.now c.args.args c.items.result.now c.room_size-size.result c.deref-2.ensures c.items.ensures
    c.wiring.ensures.entering c.wiring.ensures.leaving c.wiring.ensures.inputs c.wiring.ensures.outputs c.room_size-size.ensures.ports.0 c.room_size-size.ensures.ports.1 c.room_size-size.ensures.args

keeps : (c : goal.In_ok-pool) → Keeps (view c) (parts c) c.in_ok-pool.pool c.in_ok-nodes.nodes.tokens.outs.items c.in_ok-nodes.nodes.tokens.left.items
keeps c =
    keeps_at_start (view c) (parts c) (kept c) (all_lists c) (wired_so c) c.in_ok-pool.pool c.in_ok-nodes.nodes.tokens.outs.items c.in_ok-nodes.nodes.tokens.left.items
    (marks_are c)
    record {
      block = refl;
      pooled = c.in_ok-pool.ensures.block.1;
      len = c.in_ok-pool.ensures.block.0 ∙ height_is c;
      long = cells_are c ∙ height_is c;
      most = c.in_ok-pool.ensures.out.1;
      small = subst (λ k. k ≤ 4294967295) (height_is c) (omega arith);
    }
    c.in_ok-pool.ensures.out.0
    (made_so c).one_each
    (stock_of_free (view c) (parts c) (kept c) (all_lists c) (wired_so c) c.edges_have_ports.ensures.ports (made_so c))
    (rooms_at_start (view c) (parts c) (wired_so c) (room_is c).inputs (room_is c).outputs (room_is c).args.each)
    (c.in_ok-nodes.ensures.tokens.outs ∙ ap (λ (x : Compilation). replicate (length x.level.sinks) []) c.deref-4.ensures)
    (c.in_ok-nodes.ensures.tokens.left ∙ ap (λ (x : Compilation). replicate (length x.level.links) []) c.deref-4.ensures)

keeps_ready : (c : goal.In_ok-pool) → KeepsReady (view c) c.in_ok-nodes.nodes.waiting.items 0 c.in_ok-nodes.nodes.ready
keeps_ready c =
    let waiting = c.in_ok-nodes.nodes.waiting.items in
    let ready = c.in_ok-nodes.nodes.ready in
    let counts : AreEndCounts (length (comp c).graph.nodes) (map head_of (comp c).graph.edges) waiting =
    subst (λ (x : Compilation). AreEndCounts (length x.graph.nodes) (map head_of x.graph.edges) waiting) c.deref-4.ensures c.in_ok-nodes.ensures.waiting in
    let first : AreFirstReady (comp c) c.args.kinds waiting ready =
    subst (λ (t : Type 0). t) (λ t. AreFirstReady (c.deref-4.ensures t) (c.items-2.ensures t) waiting ready) c.in_ok-nodes.ensures.ready in
    start_ready_keeps (view c) first.ranking waiting ready (marks_are c) first.ranked (kept c).mapped.homes.one_each counts first.started

pub invariant_of-result : goal.invariant_of-result
invariant_of-result c = (
  subst (λ x. Keeps (view_with c x c.of-stored_told.result.value) (parts c) c.in_ok-pool.pool c.in_ok-nodes.nodes.tokens.outs.items c.in_ok-nodes.nodes.tokens.left.items) (sym c.of-sources_told.ensures)
      (subst (λ x. Keeps (view_with c c.args.sources x) (parts c) c.in_ok-pool.pool c.in_ok-nodes.nodes.tokens.outs.items c.in_ok-nodes.nodes.tokens.left.items) (sym c.of-stored_told.ensures) (keeps c)),
  subst (λ (t : Type 0). t) (λ t. KeepsReady (view_with c (sym c.of-sources_told.ensures t) (sym c.of-stored_told.ensures t)) c.in_ok-nodes.nodes.waiting.items 0 c.in_ok-nodes.nodes.ready) (keeps_ready c),
)

pub returns-clause-room : goal.returns-clause-room
returns-clause-room c = room_is c
