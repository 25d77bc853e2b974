use Rattle.std.proofs.Common.{◌≡◌, map, take}
use Rattle.kernel_gate.specs.Signed.{counts_of}
use Rattle.firing_board.specs.Signatures.{counts_by}
use Rattle.firing_board.proofs.signatures.Signatures.of.Given as goal

-- the signatures so far
abbrev pub invariant-loop-signature : goal.invariant-loop-signature
invariant-loop-signature l = counts_by l.seen ≡ map counts_of (take l.signature-index l.signatures)
