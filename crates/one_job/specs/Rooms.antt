-- How much memory the frame of a node takes.
use Rattle.std.specs.Prelude.{ℕ, ℤ, ◌+◌, ◌≤◌, List, [], length, slice_index_or}
use Rattle.kernel_gate.specs.declared.room.RoomSize.{RoomSize}
use Rattle.sdf_level.specs.View.{LevelView}
use Rattle.sdf_level.specs.declared.node.Node.{Node}
use Rattle.sdf_level.specs.declared.single_rate.SingleRate.{SingleRate}
use Rattle.job_compiler.specs.Rows.{IsMost}
use Rattle.job_compiler.specs.Wired.{entering, leaving}
use Rattle.one_job.specs.Ports.{reads_stored, writes_stored}
use Rattle.one_job.specs.Taking.{own}

-- memory for a node with these values as arguments and so many ports, beside the leases of stored tokens
pub record IsRoomFor (which : Node) (values : List ℤ) (ins outs : ℕ) (size : RoomSize) : Type 0 where
  pub inputs : own (reads_stored which) + ins ≤ size.inputs
  pub outputs : own (writes_stored which) + outs ≤ size.outputs
  pub args : length values ≤ size.args

-- the most arguments of an actor
pub record IsMostArgs (args : List (List ℤ)) (most : ℕ) : Type 0 where
  pub each : (a : ℕ) → length (slice_index_or args a []) ≤ most
  pub least : (m : ℕ) → ((a : ℕ) → length (slice_index_or args a []) ≤ m) → most ≤ m

-- the most ports of a node that edges may enter, and leave, but 1 at least, and the most arguments of an actor
pub record IsRoomOf (level : LevelView) (graph : SingleRate) (values : List (List ℤ)) (room : RoomSize) : Type 0 where
  pub inputs : IsMost (entering level graph) room.inputs
  pub outputs : IsMost (leaving level graph) room.outputs
  pub args : IsMostArgs values room.args
