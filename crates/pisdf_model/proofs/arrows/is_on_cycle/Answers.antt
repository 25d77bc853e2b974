use Rattle.std.proofs.Common.{ℕ, ◌<◌, length, [], false, ◌∙◌, arith, All, List}
use Rattle.std.proofs.lemmas.List.{get_or_default}
use Rattle.std.proofs.lemmas.List.Elements.{All-get_or}
use Rattle.pisdf_model.proofs.Cycles.{told_by_mark}
use Rattle.pisdf_model.proofs.Searching.{here}
use Rattle.pisdf_model.proofs.arrows.is_on_cycle.Goals as goal

pub reached-requires-clause-starts : goal.reached-requires-clause-starts
reached-requires-clause-starts c =
    rw (here c.args.arrows.now c.args.place c.index-arrows-place.result c.items.result.now c.requires.place c.index-arrows-place.is c.items.ensures)
    (All-get_or (λ (to : List ℕ). All (λ w. w < length c.args.arrows.now) to) c.args.arrows.now c.args.place [] c.requires.place c.requires.inside)

pub returns : goal.returns
returns c =
    let places = here c.args.arrows.now c.args.place c.index-arrows-place.result c.items.result.now c.requires.place c.index-arrows-place.is c.items.ensures in
    let exact = rw places at (c.in_ok-marks.ensures.exact c.args.place) in
    let long = c.in_ok-marks.ensures.long in
    let place_inside = c.requires.place in
    let inside : c.args.place < length c.in_ok-marks.marks.items = omega arith in
    c.index.ensures
    ∙ get_or_default c.in_ok-marks.marks.items c.args.place c.index.result.now false inside
    ∙ told_by_mark c.args.arrows.now c.args.place c.in_ok-marks.marks.items exact
