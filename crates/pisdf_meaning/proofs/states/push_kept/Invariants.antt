use Rattle.std.proofs.Common.{◌≡◌, ◌++◌, map, take}
use Rattle.pisdf_model.specs.Hold.{in_line, kept_in}
use Rattle.pisdf_meaning.proofs.states.push_kept.Given as goal

abbrev pub invariant-loop-fifo : goal.invariant-loop-fifo
invariant-loop-fifo l = l.line.items ≡ l.initial.line.items ++ in_line (map kept_in (take l.fifo-index l.fifos))
