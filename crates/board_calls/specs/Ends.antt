-- What a board leaves.
use Rattle.pisdf_meaning.specs.declared.outcome.Delays.{Delays}
use Rattle.firing_board.specs.declared.ending.BoardEnd.{BoardEnd}
use Rattle.firing_board.specs.declared.ending.BoardEnd.TheVariants.{Done, Refused, Starved}

-- the state with which the next iteration begins
abbrev pub left_by : BoardEnd → Delays → Delays
left_by (Done iteration delays journal) before = delays
left_by (Refused refusal journal) before = before
left_by Starved before = before
