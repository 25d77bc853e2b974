-- What a run takes from one iteration to the next.
use Rattle.pisdf_model.specs.declared.graph.Graphs.{Graphs}
use Rattle.firing_board.specs.Keeping.{AreKeptLevelsOf}
use Rattle.quiescent_driver.specs.declared.carried.Carried.{Carried}

-- the levels that are kept in it, if any are, are of these graphs
abbrev pub Suits : Graphs → Carried → Type 0
Suits graphs carried = AreKeptLevelsOf graphs carried.levels
