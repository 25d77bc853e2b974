use Rattle.std.proofs.Common.{◌≡◌, ◌<◌, true, false, get_or, length, arith, rules}
use Rattle.pisdf_model.proofs.Marking.{taken_marked, taken_more}
use Rattle.pisdf_model.proofs.arrows.note.Goals as goal
use Rattle.pisdf_model.proofs.arrows.note.Goals.{then-not-marks-place+in_ok-push, else-not-marks-place}

pub loop-place-preserved : goal.loop-place-preserved
loop-place-preserved c =
    let place_below = c.requires c.loop-place.place-index 0 c.loop-place-test.true in
    let long = c.loop-place.invariant.long in
    let fits : get_or c.args.places.now c.loop-place.place-index 0 < length c.loop-place.marks = omega arith in
    elim c.if-not-marks-place.branch [
      | then-not-marks-place+in_ok-push w ↦
          let unmarked : get_or c.loop-place.marks (get_or c.args.places.now c.loop-place.place-index 0) false ≡ false = search rules in
          rw (w.marks-is, w.noted-is, w.in_ok-push.ensures.items) (taken_more c.args.places.now c.loop-place.place-index c.loop-place-test.true c.args.marks.now c.args.noted.now.items c.loop-place.marks c.loop-place.noted.items c.loop-place.invariant fits unmarked)
      | else-not-marks-place w ↦
          let marked : get_or c.loop-place.marks (get_or c.args.places.now c.loop-place.place-index 0) false ≡ true = search rules in
          rw (w.marks-is, w.noted-is) (taken_marked c.args.places.now c.loop-place.place-index c.loop-place-test.true c.args.marks.now c.args.noted.now.items c.loop-place.marks c.loop-place.noted.items c.loop-place.invariant marked)
    ]
