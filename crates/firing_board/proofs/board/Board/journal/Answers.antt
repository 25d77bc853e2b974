use Rattle.std.proofs.Common.{is_some, subst}
use Rattle.firing_board.specs.Invariants.{key_of, view_with}
use Rattle.firing_board.specs.Runs.{IsSound}
use Rattle.firing_board.proofs.KeptViews.{sound_as}
use Rattle.firing_board.proofs.Sound.{is_sound}
use Rattle.firing_board.proofs.board.Board.journal.Goals as goal

pub returns-clause-sound : goal.returns-clause-sound
returns-clause-sound c =
    let i = c.self.inside in
    subst IsSound c.self.view_is (sound_as (is_some i.keeping.kept) (view_with (key_of i) i.core i.starved) (is_sound c.entries_tell_steps.ensures.steps (λ key is. c.rules_are_lawful.ensures key.graphs is.valid.valid) (key_of i) i.core i.starved c.self.invariant.0))
