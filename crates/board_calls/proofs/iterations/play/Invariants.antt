use Rattle.std.proofs.Common.{◌≡◌}
use Rattle.board_calls.specs.Holding.{IsCrewOf}
use Rattle.board_calls.proofs.iterations.play.Given as goal

-- the list tells what the workers of this board hold
abbrev pub invariant-loop : goal.invariant-loop
invariant-loop l = record { crew : IsCrewOf l.board l.held.items; key : l.board.key ≡ l.fn.board.key; known : l.turns.workers ≡ l.board.key.workers }
