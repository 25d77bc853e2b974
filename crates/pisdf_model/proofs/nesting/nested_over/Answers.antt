use Rattle.std.proofs.Common.{◌≡◌, ◌∙◌, ap, length, map, arith}
use Rattle.std.specs.List.{range_with_len}
use Rattle.pisdf_model.proofs.Nested.{over, nested_first, nested_more, marks_long}
use Rattle.pisdf_model.proofs.nesting.nested_over.Goals as goal

pub loop-level-init : goal.loop-level-init
loop-level-init c = c.in_ok-marks.ensures.items_if_clones_equal (λ y h. h) ∙ nested_first c.args.child_lists.now

pub with_marked_child-requires-clause-long : goal.with_marked_child-requires-clause-long
with_marked_child-requires-clause-long c = rw c.deref.ensures.value (marks_long c.args.child_lists.now c.loop-level._level c.loop-level.marks.items c.loop-level.invariant)

pub loop-level-preserved : goal.loop-level-preserved
loop-level-preserved c = c.in_ok-marks-2.ensures ∙ nested_more c.args.child_lists.now c.loop-level._level c.deref.result.now c.requires (c.deref.ensures.value ∙ c.loop-level.invariant)

pub returns : goal.returns
returns c =
    let below = c.loop-level.auto._level-end in
    let past = c.loop-level-test.false in
    let last : c.loop-level._level ≡ c.args.most = omega arith in
    c.loop-level.invariant ∙ ap (λ n. map (λ place. over c.args.child_lists.now n place) (range_with_len 0 (length c.args.child_lists.now))) last
