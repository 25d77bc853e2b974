use Rattle.std.proofs.Common.{◌<◌, length, false, ◌&&◌, sym, ◌∙◌, arith, get_or}
use Rattle.std.specs.List.{range_with_len}
use Rattle.pisdf_model.specs.ParamOrder.{is_chosen}
use Rattle.pisdf_model.proofs.Lists.{any_by, range_has, none_among}
use Rattle.pisdf_model.proofs.ordering.any_chosen.Goals as goal

pub returns-then-is_marked_choice : goal.returns-then-is_marked_choice
returns-then-is_marked_choice c =
    let place_inside = c.loop-place-test.true in
    let long = c.requires in
    let inside : c.loop-place.place < length c.args.graph.now.params = omega arith in
    sym (any_by (λ q. is_chosen c.args.graph.now q && get_or c.args.marks.now q false) (range_with_len 0 (length c.args.graph.now.params)) c.loop-place.place (range_has (length c.args.graph.now.params) c.loop-place.place inside) (sym c.is_marked_choice.ensures ∙ c.if-is_marked_choice.true))

pub returns : goal.returns
returns c =
    let whole = c.loop-place-test.false in
    let long = c.requires in
    sym (none_among (λ q. is_chosen c.args.graph.now q && get_or c.args.marks.now q false) (length c.args.graph.now.params) (λ j below. c.loop-place.invariant j (omega arith)))
