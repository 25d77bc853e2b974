use Rattle.std.proofs.Common.{◌≡◌, ◌++◌, map, take}
use Rattle.pisdf_model.specs.Hold.{kept_in}
use Rattle.pisdf_meaning.proofs.states.push_fifo_lists.Given as goal

abbrev pub invariant-loop-fifo : goal.invariant-loop-fifo
invariant-loop-fifo l = l.lists.items ≡ l.initial.lists.items ++ map kept_in (take l.fifo-index l.fifos)
