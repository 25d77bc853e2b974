use Rattle.std.proofs.Common.{length, ◌-◌}
use Rattle.special_actors.proofs.Rounds.{FilledTo}
use Rattle.special_actors.proofs.repeating.fill_repeated.Given as goal

abbrev pub invariant-loop-filled : goal.invariant-loop-filled
invariant-loop-filled l = FilledTo l.tokens l.place (length l.fn.output) l.output l.filled

abbrev pub decreases-loop-filled : goal.decreases-loop-filled
decreases-loop-filled l = length l.initial.output - l.filled
