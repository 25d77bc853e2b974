use Rattle.std.proofs.Common.{◌≡◌, ℕ, ◌-◌, ◌<◌, ⊎_elim, length, get_or, take, slice_index, arith, sym}
use Rattle.std.proofs.lemmas.Bool.{cases_eq}
use Rattle.std.proofs.lemmas.List.{take_more, get_or-set_same, get_or-set_other}
use Rattle.worker_mapping.proofs.Releasing.{occurrences-push, occurrences-own, occurrences-other, occurrences-take-lt}
use Rattle.order_memory.proofs.line.release.Goals as goal

pub overflow_sub-waiting : goal.overflow_sub-waiting
overflow_sub-waiting c =
    let n : ℕ = get_or c.args.heads.now c.loop-head.head-index 0 in
    let counted = c.loop-head.invariant n in
    let more = occurrences-take-lt c.args.heads.now c.loop-head.head-index c.loop-head-test.true in
    let enough = c.requires.enough n in
    omega arith

pub loop-head-preserved : goal.loop-head-preserved
loop-head-preserved c = λ m.
    let n : ℕ = get_or c.args.heads.now c.loop-head.head-index 0 in
    let waiting = c.loop-head.waiting in
    let counted = c.loop-head.invariant m in
    let more = occurrences-take-lt c.args.heads.now c.loop-head.head-index c.loop-head-test.true in
    let enough = c.requires.enough n in
    let there : n < length c.args.waiting.now = c.requires.there c.loop-head.head-index 0 c.loop-head-test.true in
    let inside : n < length waiting = omega arith in
    rw (take_more c.args.heads.now c.loop-head.head-index 0 c.loop-head-test.true)
    (let pushed = occurrences-push m (take c.loop-head.head-index c.args.heads.now) n in
    ⊎_elim
    (λ (own : n ≡ m).
    let now = get_or-set_same waiting n (slice_index waiting n - 1) 0 inside in
    let one = occurrences-own n in
    rw (← own) (let counted' = c.loop-head.invariant n in let pushed' = occurrences-push n (take c.loop-head.head-index c.args.heads.now) n in omega arith))
    (λ (other : n ≡ m → ⊥).
    let now = get_or-set_other waiting n m (slice_index waiting n - 1) 0 (λ same. other (sym same)) in
    let none = occurrences-other m n other in
    omega arith)
    (cases_eq n m))
