use Rattle.std.proofs.Common.{false, sym, subst}
use Rattle.firing_board.specs.Ends.{IsOver}
use Rattle.firing_board.specs.Runs.{AreAllIdle}
use Rattle.firing_board.proofs.KeptViews.{all_idle_as, over_as}
use Rattle.board_calls.proofs.iterations.end_of.Goals as goal

pub outcome_of-requires-clause-idle : goal.outcome_of-requires-clause-idle
outcome_of-requires-clause-idle c = subst AreAllIdle (sym c.take_back.ensures.board) (all_idle_as false _ c.play_all-ended.ensures.idle)

pub outcome_of-requires-clause-over : goal.outcome_of-requires-clause-over
outcome_of-requires-clause-over c = λ is. subst IsOver (sym c.take_back.ensures.board) (over_as false _ (c.play_all-ended.ensures.over is))
