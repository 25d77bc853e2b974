use Rattle.std.proofs.Common.{◌≡◌, take}
use Rattle.kernel_gate.specs.Value.{lengths}
use Rattle.frame_calls.proofs.frames.lens_of.Given as goal

abbrev pub invariant-loop-list : goal.invariant-loop-list
invariant-loop-list l = l.lens.items ≡ lengths (take l.list-index l.all)
