use Rattle.pisdf_model.specs.Search.{work_left}
use Rattle.pisdf_model.proofs.Searching.{Searches}
use Rattle.pisdf_model.proofs.arrows.reached.Given as goal

abbrev pub invariant-loop-place : goal.invariant-loop-place
invariant-loop-place l = Searches l.arrows l.starts l.marks.items l.noted.items

abbrev pub decreases-loop-place : goal.decreases-loop-place
decreases-loop-place l = work_left l.marks.items l.noted.items
