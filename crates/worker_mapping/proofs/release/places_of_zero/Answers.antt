use Rattle.std.proofs.Common.{◌≡◌, length, arith}
use Rattle.worker_mapping.proofs.Places.{place_here, place_not_here}
use Rattle.worker_mapping.proofs.release.places_of_zero.Goals as goal
use Rattle.worker_mapping.proofs.release.places_of_zero.Goals.{then-count-eq0+in_ok-push, else-count-eq0}

pub loop-place-preserved : goal.loop-place-preserved
loop-place-preserved c =
    elim c.if-count-eq0.branch [
      | then-count-eq0+in_ok-push w ↦ rw (w.places-is, w.in_ok-push.ensures.items) (place_here c.args.counts.now c.loop-place.places.items c.loop-place.place c.loop-place.invariant w.if-count-eq0.true)
      | else-count-eq0 w ↦ rw w.places-is (place_not_here c.args.counts.now c.loop-place.places.items c.loop-place.place c.loop-place.invariant (let h = w.if-count-eq0.false in λ e. h e))
    ]

pub returns : goal.returns
returns c =
    let end : c.loop-place.place ≡ length c.args.counts.now = (let last = c.loop-place.auto.place-end in omega arith) in
    λ n. rw end at (c.loop-place.invariant n)
