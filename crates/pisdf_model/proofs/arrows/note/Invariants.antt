use Rattle.std.proofs.Common.{take}
use Rattle.pisdf_model.specs.Search.{Notes}
use Rattle.pisdf_model.proofs.arrows.note.Given as goal

abbrev pub invariant-loop-place : goal.invariant-loop-place
invariant-loop-place l = Notes (take l.place-index l.places) l.initial.marks l.initial.noted.items l.marks l.noted.items
