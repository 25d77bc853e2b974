-- How long a slot runs, time by time.
use Rattle.std.proofs.Common.{◌≡◌, ℕ, zero, suc, ◌+◌, ◌-◌, ◌<◌, ◌≤◌, ⊎_elim, min, cond, ltb, arith, refl}
use Rattle.std.proofs.lemmas.Bool.{cases_lt, lt-ltb, le-ltb}
use Rattle.schedule_bound.specs.declared.slots.Slot.{Slot}
use Rattle.schedule_bound.specs.Slots.{IsRunning}
use Rattle.schedule_bound.proofs.Sums.{total}

-- 1 at each time at which it runs
abbrev pub run : Slot → ℕ → ℕ
run s t = cond (ltb t s.start) 0 (cond (ltb t s.end) 1 0)

pub run_before : (s : Slot) (t : ℕ) → t < s.start → run s t ≡ 0
run_before s t lt = rw (lt-ltb t s.start lt) refl

pub run_after : (s : Slot) (t : ℕ) → s.end ≤ t → run s t ≡ 0
run_after s t le = ⊎_elim (λ (lt : t < s.start). run_before s t lt) (λ (ge : s.start ≤ t). rw (le-ltb t s.start ge, le-ltb t s.end le) refl) (cases_lt t s.start)

pub run_during : (s : Slot) (t : ℕ) → IsRunning s t → run s t ≡ 1
run_during s t r = rw (le-ltb t s.start r.begun, lt-ltb t s.end r.not_over) refl

pub runs_at : (s : Slot) (t : ℕ) → 0 < run s t → IsRunning s t
runs_at s t some = ⊎_elim
    (λ (lt : t < s.start). let none = run_before s t lt in absurd (omega arith))
    (λ (ge : s.start ≤ t). ⊎_elim
    (λ (lt : t < s.end). record { begun = ge; not_over = lt })
    (λ (le : s.end ≤ t). let none = run_after s t le in absurd (omega arith))
    (cases_lt t s.end))
    (cases_lt t s.start)

pub run_small : (s : Slot) (t : ℕ) → run s t ≤ 1
run_small s t = ⊎_elim
    (λ (lt : t < s.start). let none = run_before s t lt in omega arith)
    (λ (ge : s.start ≤ t). ⊎_elim
    (λ (lt : t < s.end). let one = run_during s t (record { begun = ge; not_over = lt }) in omega arith)
    (λ (le : s.end ≤ t). let none = run_after s t le in omega arith)
    (cases_lt t s.end))
    (cases_lt t s.start)

run_until : (s : Slot) (n : ℕ) → total n (run s) ≡ min n s.end - s.start
run_until s zero = omega arith
run_until s (suc n) = ⊎_elim
    (λ (lt : n < s.start). let none = run_before s n lt in let rest = run_until s n in omega arith)
    (λ (ge : s.start ≤ n). ⊎_elim
    (λ (lt : n < s.end). let one = run_during s n (record { begun = ge; not_over = lt }) in let rest = run_until s n in omega arith)
    (λ (le : s.end ≤ n). let none = run_after s n le in let rest = run_until s n in omega arith)
    (cases_lt n s.end))
    (cases_lt n s.start)

-- it runs as often as it is long
pub run_length : (s : Slot) (n cost : ℕ) → s.end ≤ n → s.end ≡ s.start + cost → total n (run s) ≡ cost
run_length s n cost within lasting = let all = run_until s n in omega arith
