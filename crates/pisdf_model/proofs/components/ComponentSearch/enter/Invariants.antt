use Rattle.std.proofs.Common.{length}
use Rattle.pisdf_model.specs.Components.{IsSearchAmong}
use Rattle.pisdf_model.proofs.components.ComponentSearch.enter.Given as goal

abbrev pub invariant-loop-next : goal.invariant-loop-next
invariant-loop-next l = IsSearchAmong (length l.fn.self.times.items) l.self
