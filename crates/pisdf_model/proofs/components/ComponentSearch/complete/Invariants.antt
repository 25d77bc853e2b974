use Rattle.std.proofs.Common.{length}
use Rattle.pisdf_model.specs.Components.{IsSearchAmong}
use Rattle.pisdf_model.proofs.components.ComponentSearch.complete.Given as goal

abbrev pub invariant-loop-member : goal.invariant-loop-member
invariant-loop-member l = IsSearchAmong (length l.fn.self.times.items) l.self

abbrev pub decreases-loop-member : goal.decreases-loop-member
decreases-loop-member l = length l.self.incomplete.items
