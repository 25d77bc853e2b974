use Rattle.std.proofs.Common.{◌≡◌, ℕ, ◌-◌, ◌<◌, length, get_or, take, slice_index, arith}
use Rattle.std.proofs.lemmas.List.{take_more, get_or-set_same}
use Rattle.worker_mapping.proofs.Releasing.{occurrences-take-lt, Releases-waits, Releases-frees}
use Rattle.worker_mapping.proofs.release.release.Goals as goal
use Rattle.worker_mapping.proofs.release.release.Goals.{then-waiting-n-eq0+in_ok-push, else-waiting-n-eq0}

pub overflow_sub-waiting : goal.overflow_sub-waiting
overflow_sub-waiting c =
    let n : ℕ = get_or c.args.heads.now c.loop-head.head-index 0 in
    let counted = c.loop-head.invariant.waiting_each n in
    let more = occurrences-take-lt c.args.heads.now c.loop-head.head-index c.loop-head-test.true in
    let enough = c.requires.enough n in
    omega arith

pub loop-head-preserved : goal.loop-head-preserved
loop-head-preserved c =
    let n : ℕ = get_or c.args.heads.now c.loop-head.head-index 0 in
    let counted = c.loop-head.invariant.waiting_each n in
    let more = occurrences-take-lt c.args.heads.now c.loop-head.head-index c.loop-head-test.true in
    let enough : 0 < slice_index c.loop-head.waiting n = (let e = c.requires.enough n in omega arith) in
    let there : (n < length c.args.waiting.now) × (n < length c.args.ready.now) = c.requires.there c.loop-head.head-index 0 c.loop-head-test.true in
    let inside : n < length c.loop-head.waiting = (let l = c.loop-head.invariant.waiting_long in let t = there.0 in omega arith) in
    let inside_ready : n < length c.loop-head.ready = (let l = c.loop-head.invariant.ready_long in let t = there.1 in omega arith) in
    let own = get_or-set_same c.loop-head.waiting n (slice_index c.loop-head.waiting n - 1) 0 inside in
    elim c.if-waiting-n-eq0.branch [
      | then-waiting-n-eq0+in_ok-push w ↦
          let last : slice_index c.loop-head.waiting n ≡ 1 = (let t = w.if-waiting-n-eq0.true in omega arith) in
          rw (w.candidates-is, w.in_ok-push.ensures.items, c.max.ensures, take_more c.args.heads.now c.loop-head.head-index 0 c.loop-head-test.true)
          (Releases-frees (take c.loop-head.head-index c.args.heads.now) c.args.end c.args.waiting.now c.args.ready.now c.args.candidates.now.items c.loop-head.waiting c.loop-head.ready c.loop-head.candidates.items c.loop-head.invariant n inside inside_ready enough last)
      | else-waiting-n-eq0 w ↦
          let later : 1 < slice_index c.loop-head.waiting n = (let t = w.if-waiting-n-eq0.false in omega arith) in
          rw (w.candidates-is, c.max.ensures, take_more c.args.heads.now c.loop-head.head-index 0 c.loop-head-test.true)
          (Releases-waits (take c.loop-head.head-index c.args.heads.now) c.args.end c.args.waiting.now c.args.ready.now c.args.candidates.now.items c.loop-head.waiting c.loop-head.ready c.loop-head.candidates.items c.loop-head.invariant n inside inside_ready enough later)
    ]
