use Rattle.std.proofs.Common.{sym, subst}
use Rattle.firing_board.specs.Invariants.{key_of}
use Rattle.firing_board.specs.Runs.{AreAllIdle}
use Rattle.firing_board.proofs.Fields.{nothing_lent}
use Rattle.firing_board.proofs.KeptViews.{all_idle_as, bare}
use Rattle.firing_board.proofs.board.Board.end.Goals as goal

pub end_core-requires : goal.end_core-requires
end_core-requires c =
    let i = c.self.inside in
    nothing_lent c.entries_tell_steps.ensures.steps (key_of i) i.core i.starved c.self.invariant.0 (subst AreAllIdle (sym (bare i c.args.self c.self.view_is)) (all_idle_as Rattle.std.specs.Prelude.false c.args.self c.requires))
