use Rattle.std.proofs.Common.{◌≡◌, ◌+◌, length, map, nat_lt}
use Rattle.std.specs.List.{range_with_len}
use Rattle.pisdf_model.specs.Nesting.{nesting_to}
use Rattle.pisdf_model.proofs.nesting.nested_over.Given as goal

abbrev pub invariant-loop-level : goal.invariant-loop-level
invariant-loop-level l = l.marks.items ≡ map (λ place. nat_lt l._level (nesting_to l.child_lists (l._level + 1) place)) (range_with_len 0 (length l.child_lists))
