use Rattle.std.proofs.Common.{ap, ◌∙◌, arith}
use Rattle.std.specs.Option.{unwrap_or}
use Rattle.pisdf_model.proofs.Standing.{counted, few}
use Rattle.pisdf_model.proofs.end_times.times_of_ends.Goals as goal

pub overflow_add-before : goal.overflow_add-before
overflow_add-before c =
    let before = c.unwrap_or-before.ensures ∙ ap (λ o. unwrap_or o 0) (c.copied.ensures ∙ c.get.ensures.value) in
    let bound = few c.args.ends.now c.loop-end.end-index c.loop-end-test.true c.loop-end.times c.loop-end.invariant c.place_of-place.result c.place_of-place.ensures in
    let inside = c.loop-end-test.true in
    omega arith

pub loop-end-preserved : goal.loop-end-preserved
loop-end-preserved c =
    let before = c.unwrap_or-before.ensures ∙ ap (λ o. unwrap_or o 0) (c.copied.ensures ∙ c.get.ensures.value) in
    counted c.args.ends.now c.loop-end.end-index c.loop-end-test.true c.loop-end.times c.loop-end.invariant c.place_of-place.result c.place_of-place.ensures c.unwrap_or-before.result before c.insert.new.self c.in_ok-insert.ensures.updates.0
