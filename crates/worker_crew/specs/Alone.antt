-- What a turn of a worker that works alone tells.
use Rattle.worker_crew.specs.Passes.{BoardPass, HasSeenOver}
use Rattle.worker_crew.specs.declared.turn_end.TurnEnd.{TurnEnd}
use Rattle.worker_crew.specs.declared.turn_end.TurnEnd.TheVariants as ends

-- where it ended so, the pass has seen the board over
abbrev pub TellsOver : BoardPass → TurnEnd → Type 0
TellsOver p ends.Ran = Unit {0}
TellsOver p ends.Waits = Unit {0}
TellsOver p ends.Over = HasSeenOver p
