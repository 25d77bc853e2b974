use Rattle.std.proofs.Common.{◌≡◌, length, take}
use Rattle.pisdf_model.specs.Hold.{in_line}
use Rattle.graph_firing.proofs.nodes.writing.write_line.Given as goal

abbrev pub invariant-loop-list : goal.invariant-loop-list
invariant-loop-list l = record { at : l.at ≡ length (in_line (take l.list-index l.lists)); written : take l.at l.to ≡ in_line (take l.list-index l.lists) }
