use Rattle.std.proofs.Common.{true, sym, subst}
use Rattle.firing_board.specs.Runs.{AreAllIdle}
use Rattle.firing_board.proofs.KeptViews.{all_idle_as}
use Rattle.quiescent_driver.proofs.driving.lend_kept.Goals as goal

pub returns-in-Some-clause-idle : goal.returns-in-Some-clause-idle
returns-in-Some-clause-idle g = subst AreAllIdle (sym g.put_kept.ensures) (all_idle_as true _ g.requires)
