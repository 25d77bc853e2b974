use Rattle.std.proofs.Common.{◌≡◌, map, take, false, slice_index_or}
use Rattle.std.specs.List.{list_any}
use Rattle.pisdf_model.proofs.nesting.with_marked_child.Given as goal

abbrev pub invariant-loop-children : goal.invariant-loop-children
invariant-loop-children l = l.parents.items ≡ map (λ to. list_any (λ w. slice_index_or l.marks w false) to) (take l.children-index l.child_lists)
