use Rattle.std.proofs.Common.{◌≡◌, length}
use Rattle.single_rate.specs.Raising.{AreReached, slack}
use Rattle.single_rate.proofs.ranks.longest.Given as goal

abbrev pub ghost-raise_all : goal.ghost-raise_all
ghost-raise_all g a = g.last

abbrev pub ghost-raise_in_order : goal.ghost-raise_in_order
ghost-raise_in_order g a = g.last

abbrev pub invariant-loop-ranks : goal.invariant-loop-ranks
invariant-loop-ranks g l = (length l.ranks.items ≡ l.nodes) × AreReached l.edges l.ranks.items

abbrev pub decreases-loop-ranks : goal.decreases-loop-ranks
decreases-loop-ranks g l = slack g.last l.ranks.items
