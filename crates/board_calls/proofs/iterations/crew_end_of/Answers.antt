use Rattle.std.proofs.Common.{false, sym, ap, ◌∙◌, subst}
use Rattle.firing_board.specs.Ends.{IsOver}
use Rattle.firing_board.specs.Runs.{AreAllIdle}
use Rattle.firing_board.specs.View.{BoardView}
use Rattle.firing_board.proofs.KeptViews.{all_idle_as, over_as}
use Rattle.quiescent_driver.specs.Endings.{EndsWith}
use Rattle.quiescent_driver.proofs.Ending.{ends_here}
use Rattle.board_calls.proofs.iterations.crew_end_of.Goals as goal

pub outcome-requires : goal.outcome-requires
outcome-requires g c = subst IsOver (sym c.take_back.ensures.board) (over_as false _ c.in-Ok.ensures.over)

pub end-requires : goal.end-requires
end-requires g c = subst AreAllIdle (sym c.take_back-in-Err.ensures.board) (all_idle_as false _ (subst AreAllIdle (sym c.in-Err.ensures.refused) c.lend.ensures.idle))

pub returns-in_ok-outcome-in-Ok-clause-ends : goal.returns-in_ok-outcome-in-Ok-clause-ends
returns-in_ok-outcome-in-Ok-clause-ends g c =
    let left = c.take_back.ensures.board in
    let key_is = ap (λ (b : BoardView). b.key) left ∙ c.in-Ok.ensures.key ∙ c.lend.ensures.key in
    subst (λ k. EndsWith k c.in_ok-outcome-in-Ok.field-0) key_is (ends_here c.take_back.new.board c.in_ok-outcome-in-Ok.field-0 (subst IsOver (sym left) (over_as false _ c.in-Ok.ensures.over)) c.in_ok-outcome-in-Ok.ensures)
