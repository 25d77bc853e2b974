-- How much memory the frames of nodes take at the start.
use Rattle.std.proofs.Common.{◌≡◌, ℕ, ℤ, ◌+◌, ◌<◌, ◌≤◌, Bool, true, false, List, [], length, refl, sym, ap, ◌∙◌, subst, arith}
use Rattle.std.specs.Prelude.{slice_index_or, if◌then◌else◌}
use Rattle.std.proofs.lemmas.List.{length-map}
use Rattle.sdf_level.specs.declared.node.Node.{Node}
use Rattle.sdf_level.specs.declared.node.Node.TheVariants as node
use Rattle.job_flow.specs.Graphs.{node_at}
use Rattle.job_flow.specs.Frames.{lens, ports_in}
use Rattle.kernel_gate.specs.declared.room.RoomSize.{RoomSize}
use Rattle.job_compiler.specs.Compilation.{Compilation}
use Rattle.job_compiler.specs.Rows.{IsMost}
use Rattle.job_compiler.specs.Wired.{entering, leaving}
use Rattle.job_compiler.specs.declared.wiring.Wiring.{Wiring}
use Rattle.one_job.specs.Ports.{reads_stored, writes_stored, row_of, AreWired, port_size}
use Rattle.one_job.specs.Taking.{own}
use Rattle.one_job.specs.View.{JobView, args_at, graph_of}
use Rattle.one_job.specs.Invariants.{Parts, HasRoom}
use Rattle.one_job.specs.Rooms.{IsMostArgs, IsRoomOf}

args_few : (which : Node) (lists : List (List ℤ)) (most : ℕ) → ((a : ℕ) → length (slice_index_or lists a []) ≤ most) → length (args_at lists which) ≤ most
args_few (node.Source s) lists most each = omega arith
args_few (node.Init l) lists most each = omega arith
args_few (node.Firing a k) lists most each = each a
args_few (node.End l) lists most each = omega arith
args_few (node.Sink t) lists most each = omega arith
args_few (node.Broadcast l) lists most each = omega arith
args_few (node.Fork l i) lists most each = omega arith
args_few (node.Join l k) lists most each = omega arith
args_few (node.Round l) lists most each = omega arith

-- where a node has stored tokens, it has no other ports on that side
with_own : (b : Bool) (count ports most : ℕ) → ports ≡ (if b then 0 else count) → ports ≤ most → 1 ≤ most → own b + ports ≤ most
with_own true count ports most long few some = omega (arith, long, some)
with_own false count ports most long few some = omega (arith, few)

pub rooms_at_start : (j : JobView) (p : Parts) → AreWired (graph_of j) p.entering p.leaving → IsMost p.entering j.room.inputs → IsMost p.leaving j.room.outputs
    → ((a : ℕ) → length (slice_index_or j.args a []) ≤ j.room.args)
    → (n : ℕ) → n < length j.compilation.graph.nodes → HasRoom j p n
rooms_at_start j p wired ins outs args n inside =
    let which = node_at j.compilation.graph.nodes n in
    let long_out : length (row_of p.leaving n) ≡ (if writes_stored which then 0 else length (lens (graph_of j) n)) =
    sym (length-map (row_of p.leaving n) (port_size j.compilation.graph.edges)) ∙ (ap length (wired.outs n inside) ∙ no_rest (writes_stored which) (lens (graph_of j) n)) in
    record {
      inputs = with_own (reads_stored which) (ports_in (graph_of j) which n) (length (row_of p.entering n)) j.room.inputs (wired.ins n inside) (ins.each n (omega (arith, inside, wired.rows_in))) ins.some;
      outputs = with_own (writes_stored which) (length (lens (graph_of j) n)) (length (row_of p.leaving n)) j.room.outputs long_out (outs.each n (omega (arith, inside, wired.rows_out))) outs.some;
      args = args_few which j.args j.room.args args;
    }
  where
    no_rest : (b : Bool) (list : List ℕ) → length (if b then [] else list) ≡ (if b then 0 else length list)
    no_rest true list = refl
    no_rest false list = refl

-- the room of a job, from what was read of its compilation
pub room_of : (comp read : Compilation) (wiring : Wiring) (lists lists_read : List (List ℤ)) (room : RoomSize) → read ≡ comp → lists_read ≡ lists
    → wiring.entering ≡ entering read.level read.graph → wiring.leaving ≡ leaving read.level read.graph → IsMost wiring.entering wiring.inputs → IsMost wiring.leaving wiring.outputs
    → room.inputs ≡ wiring.inputs → room.outputs ≡ wiring.outputs → IsMostArgs lists_read room.args → IsRoomOf comp.level comp.graph lists room
room_of comp read wiring lists lists_read room read_is lists_are ins outs most_ins most_outs inputs outputs args = subst (λ (k : Compilation). IsRoomOf k.level k.graph lists room) read_is (record {
  inputs = subst (λ (t : Type 0). t) (λ i. IsMost (ins i) (sym inputs i)) most_ins;
  outputs = subst (λ (t : Type 0). t) (λ i. IsMost (outs i) (sym outputs i)) most_outs;
  args = subst (λ (xs : List (List ℤ)). IsMostArgs xs room.args) lists_are args;
})
