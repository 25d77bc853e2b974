-- The view of a frame.
use Rattle.std.specs.Prelude.{map}
use Rattle.split_block.specs.View.{cells_of, lease_place}
use Rattle.kernel_gate.specs.Value.{FrameView}
use Rattle.kernel_gate.specs.Rooms.{size_of}
use Rattle.kernel_gate.specs.declared.frame.Lent.{Lent}

-- the frame that is made of these lists
abbrev pub frame_of : Lent → FrameView
frame_of l = record {
  kind = l.kind;
  args = l.args.items;
  inputs = map cells_of l.inputs.items;
  outputs = map cells_of l.outputs.items;
  sets = l.sets.items;
  places = record { inputs = map lease_place l.inputs.items; outputs = map lease_place l.outputs.items; room = size_of l };
}
