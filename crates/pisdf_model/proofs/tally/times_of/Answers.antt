use Rattle.std.proofs.Common.{◌+◌, ◌<◌, ◌∙◌, arith, get_or, length}
use Rattle.std.proofs.lemmas.List.{get_or_default, length-set}
use Rattle.pisdf_model.proofs.Tallied.{counted, passed, few}
use Rattle.pisdf_model.proofs.tally.times_of.Goals as goal
use Rattle.pisdf_model.proofs.tally.times_of.Goals.{then-place-count, else-place-count}

pub overflow_add-index_mut : goal.overflow_add-index_mut
overflow_add-index_mut c =
    let bound = few c.args.places.now c.loop-place.place-index c.loop-place-test.true c.loop-place.times.items c.args.count c.loop-place.invariant.exact c.if-place-count.true in
    let value = c.index_mut.ensures.value in
    let same = get_or_default c.loop-place.times.items (get_or c.args.places.now c.loop-place.place-index 0) c.index_mut.result.now 0 (let here = c.if-place-count.true in let long = c.loop-place.invariant.long in omega arith) in
    let inside = c.loop-place-test.true in
    omega arith

pub loop-place-preserved : goal.loop-place-preserved
loop-place-preserved c =
    elim c.if-place-count.branch [
      | then-place-count w ↦
          let here = w.if-place-count.true in
          let long = c.loop-place.invariant.long in
          let place = get_or c.args.places.now c.loop-place.place-index 0 in
          let fits : get_or c.args.places.now c.loop-place.place-index 0 < length c.loop-place.times.items = omega arith in
          let value = w.index_mut.ensures.value ∙ get_or_default c.loop-place.times.items (get_or c.args.places.now c.loop-place.place-index 0) w.index_mut.result.now 0 fits in
          record {
            long = rw w.times-is (length-set c.loop-place.times.items (get_or c.args.places.now c.loop-place.place-index 0) (w.index_mut.result.now + 1) ∙ long);
            exact = rw (w.times-is, value) (counted c.args.places.now c.loop-place.place-index c.loop-place-test.true c.loop-place.times.items c.args.count c.loop-place.invariant.exact fits here);
          }
      | else-place-count w ↦ let past = w.if-place-count.false in record {
        long = rw w.times-is c.loop-place.invariant.long;
        exact = rw w.times-is (passed c.args.places.now c.loop-place.place-index c.loop-place-test.true c.loop-place.times.items c.args.count c.loop-place.invariant.exact past);
      }
    ]
