use Rattle.std.proofs.Common.{◌≡◌, map}
use Rattle.std.specs.List.{range_with_len}
use Rattle.unfold_rates.specs.Cut.{piece_at}
use Rattle.unfold_rates.proofs.cutting.pieces_of.Given as goal

abbrev pub invariant-loop-number : goal.invariant-loop-number
invariant-loop-number l = l.pieces.items ≡ map (piece_at l.top l.counts l.times record { outs = l.outs; trace = l.rows }) (range_with_len 0 l.number)
