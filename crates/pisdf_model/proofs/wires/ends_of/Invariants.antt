use Rattle.std.proofs.Common.{◌≡◌, ◌++◌, [], ◌∷◌, drop}
use Rattle.pisdf_model.specs.Details.{from_number}
use Rattle.pisdf_model.specs.Wires.{ends_of}
use Rattle.pisdf_model.proofs.wires.ends_of.Given as goal

-- what was pushed, and what is left, is all of it
abbrev pub invariant-loop-fifo : goal.invariant-loop-fifo
invariant-loop-fifo l = l.ends.items ++ from_number l.fifo-index (λ n f. f.tail ∷ f.head ∷ []) (drop l.fifo-index l.fifos) ≡ ends_of l.fifos
