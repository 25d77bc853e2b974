use Rattle.std.proofs.Common.{false, slice_index_or, ◌∙◌}
use Rattle.std.specs.List.{list_any}
use Rattle.pisdf_model.proofs.Nested.{mapped_next}
use Rattle.pisdf_model.proofs.nesting.with_marked_child.Goals as goal

pub loop-children-preserved : goal.loop-children-preserved
loop-children-preserved c =
    c.in_ok-push.ensures.items
    ∙ mapped_next (λ to. list_any (λ w. slice_index_or c.args.marks.now w false) to) c.args.child_lists.now c.loop-children.children-index c.children-item.result c.items.result.now c.any_marked.result c.loop-children.parents.items c.loop-children-test.true c.children-item.is c.items.ensures c.any_marked.ensures c.loop-children.invariant
