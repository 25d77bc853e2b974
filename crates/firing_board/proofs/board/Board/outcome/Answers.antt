use Rattle.std.proofs.Common.{false, is_some, sym, subst}
use Rattle.firing_board.specs.Beginning.{EndsWith}
use Rattle.firing_board.specs.Ends.{EndsAs, IsOver}
use Rattle.firing_board.specs.Invariants.{key_of, view_with}
use Rattle.firing_board.specs.View.{BoardView}
use Rattle.firing_board.specs.declared.ending.BoardEnd.{BoardEnd}
use Rattle.firing_board.proofs.Ended.{all_idle, ends_as, must_end}
use Rattle.firing_board.proofs.Fields.{nothing_lent}
use Rattle.firing_board.proofs.KeptViews.{bare, ends_as_kept, over_as}
use Rattle.firing_board.proofs.Openings.{if_ok}
use Rattle.firing_board.proofs.board.Board.outcome.Goals as goal

pub outcome_of-requires-clause-lent : goal.outcome_of-requires-clause-lent
outcome_of-requires-clause-lent c =
    let i = c.self.inside in
    let tell = c.entries_tell_steps.ensures.steps in
    nothing_lent tell (key_of i) i.core i.starved c.self.invariant.0 (all_idle tell (key_of i) i.core i.starved c.self.invariant.0 (subst IsOver (sym (bare i c.args.self c.self.view_is)) (over_as false c.args.self c.requires)))

pub outcome_of-requires-clause-ended : goal.outcome_of-requires-clause-ended
outcome_of-requires-clause-ended c =
    let i = c.self.inside in
    must_end c.entries_tell_steps.ensures.steps c.boards_end.ensures.ended (key_of i) i.core i.starved c.self.invariant.0 (subst IsOver (sym (bare i c.args.self c.self.view_is)) (over_as false c.args.self c.requires))

pub returns : goal.returns
returns c =
    let i = c.self.inside in
    let over = subst IsOver (sym (bare i c.args.self c.self.view_is)) (over_as false c.args.self c.requires) in
    if_ok c.outcome_of.result (EndsWith i.core i.starved) (EndsAs c.args.self)
    (λ (end : BoardEnd) (w : EndsWith i.core i.starved end).
    subst (λ (b : BoardView). EndsAs b end) c.self.view_is
    (ends_as_kept (is_some i.keeping.kept) (view_with (key_of i) i.core i.starved) end
    (ends_as c.entries_tell_steps.ensures.steps c.boards_end.ensures.ended c.boards_end.ensures.meant (key_of i) i.core i.starved c.self.invariant.0 over end w)))
    c.outcome_of.ensures
