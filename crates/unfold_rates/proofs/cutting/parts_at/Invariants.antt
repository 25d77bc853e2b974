use Rattle.std.proofs.Common.{◌≡◌, take}
use Rattle.level_laws.specs.Parts.{parts_at}
use Rattle.unfold_rates.proofs.cutting.parts_at.Given as goal

abbrev pub invariant-loop-list : goal.invariant-loop-list
invariant-loop-list l = l.parts.items ≡ parts_at l.times l.number (take l.list-index l.lists)
