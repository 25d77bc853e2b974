use Rattle.std.proofs.Common.{false, sym, ap, ◌∙◌, subst}
use Rattle.board_rules.specs.Keys.{Key}
use Rattle.firing_board.specs.Ends.{IsOver}
use Rattle.firing_board.specs.Runs.{AreAllIdle}
use Rattle.firing_board.specs.View.{BoardView}
use Rattle.firing_board.proofs.KeptViews.{all_idle_as, over_as}
use Rattle.quiescent_driver.specs.Carrying.{Suits}
use Rattle.quiescent_driver.proofs.Ending.{ends_so}
use Rattle.quiescent_driver.proofs.driving.drive.Goals as goal

pub lend_kept-requires : goal.lend_kept-requires
lend_kept-requires g c = subst AreAllIdle (sym c.lend_levels.ensures.board) c.requires.idle

pub outcome-requires : goal.outcome-requires
outcome-requires g c = subst IsOver (sym c.take_back.ensures.board) (over_as false _ c.in-Ok.ensures.over)

pub end-requires : goal.end-requires
end-requires g c = subst AreAllIdle (sym c.take_back-in-Err.ensures.board) (all_idle_as false _ (subst AreAllIdle (sym c.in-Err.ensures.refused) c.lend_kept.ensures.idle))

pub returns-in-Ok-clause-ends : goal.returns-in-Ok-clause-ends
returns-in-Ok-clause-ends g c =
    let left = c.take_back.ensures.board in
    let key_is = ap (λ (b : BoardView). b.key) left ∙ c.in-Ok.ensures.key ∙ c.lend_kept.ensures.key ∙ ap (λ (b : BoardView). b.key) c.lend_levels.ensures.board in
    ends_so c.args.board.key c.take_back.new.board c.outcome.result key_is (subst IsOver (sym left) (over_as false _ c.in-Ok.ensures.over)) c.outcome.ensures

pub returns-in-Ok-clause-levels : goal.returns-in-Ok-clause-levels
returns-in-Ok-clause-levels g c =
    let key_is = c.in-Ok.ensures.key ∙ c.lend_kept.ensures.key ∙ ap (λ (b : BoardView). b.key) c.lend_levels.ensures.board in
    subst (λ (k : Key). Suits k.graphs c.take_back.new.carried) key_is c.take_back.ensures.levels

pub returns-in-Err-clause-levels : goal.returns-in-Err-clause-levels
returns-in-Err-clause-levels g c =
    let key_is = ap (λ (b : BoardView). b.key) c.in-Err.ensures.refused ∙ c.lend_kept.ensures.key ∙ ap (λ (b : BoardView). b.key) c.lend_levels.ensures.board in
    subst (λ (k : Key). Suits k.graphs c.take_back-in-Err.new.carried) key_is c.take_back-in-Err.ensures.levels
