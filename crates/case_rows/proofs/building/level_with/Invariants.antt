use Rattle.case_rows.proofs.Numbered.{AreNumbered}
use Rattle.case_rows.proofs.building.level_with.Given as goal

-- the links so far have their numbers
abbrev pub invariant-loop-line : goal.invariant-loop-line
invariant-loop-line l = AreNumbered l.links.items l.sources.items l.sinks.items l.outputs.items l.inputs.items
