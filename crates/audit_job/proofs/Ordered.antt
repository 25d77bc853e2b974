-- The order of two offers of a job, as the code has it, is the board's.
use Rattle.std.proofs.Common.{◌≡◌, ℕ, ◌<◌, nat_lt, not, ◌&&◌, Bool, true, false, Option, refl, sym, ◌∙◌, arith}
use Rattle.std.proofs.lemmas.Bool.{lt-ltb, le-ltb}
use Rattle.std.proofs.lemmas.Cmp.{by_ranked, ranked}
use Rattle.std.specs.Ordering.{bool_cmp, is_lt, nat_cmp, ordering_then}
use Rattle.std.specs.declared.cmp.Ordering.TheVariants.{Less, Equal, Greater}
use Rattle.nested_jobs.specs.Pick.{decide, is_more_urgent}
use Rattle.board_rules.specs.Asking.{goes_first}
use Rattle.audit_job.specs.Offering.{ordering_by}

numbers_by : (x y : ℕ) → nat_cmp x y ≡ ordering_by (nat_lt x y) (nat_lt y x)
numbers_by x y = by_ranked (x < y) (x ≡ y) (y < x) (nat_cmp x y) (ranked x y (nat_cmp x y) refl)
    (λ is less. let so : ordering_by (nat_lt x y) (nat_lt y x) ≡ Less = rw (lt-ltb x y less) refl in is ∙ sym so)
    (λ is same. let so : ordering_by (nat_lt x y) (nat_lt y x) ≡ Equal = rw (le-ltb x y (omega arith), le-ltb y x (omega arith)) refl in is ∙ sym so)
    (λ is more. let so : ordering_by (nat_lt x y) (nat_lt y x) ≡ Greater = rw (le-ltb x y (omega arith), lt-ltb y x more) refl in is ∙ sym so)

flags_by : (a b : Bool) → bool_cmp a b ≡ ordering_by (not a && b) (a && not b)
flags_by true true = refl
flags_by true false = refl
flags_by false true = refl
flags_by false false = refl

last_by : (p q : Bool) → is_lt (ordering_by p q) ≡ p
last_by true q = refl
last_by false true = refl
last_by false false = refl

before_two : (p q r s : Bool) → is_lt (ordering_then (ordering_by p q) (ordering_by r s)) ≡ decide p q r
before_two true q r s = refl
before_two false true r s = refl
before_two false false r s = last_by r s

before_three : (p q r s t u : Bool) → is_lt (ordering_then (ordering_then (ordering_by p q) (ordering_by r s)) (ordering_by t u)) ≡ decide p q (decide r s t)
before_three true q r s t u = refl
before_three false true r s t u = refl
before_three false false r s t u = before_two r s t u

pub first_so : (away away' : Bool) (urgency urgency' : Option ℕ) (item item' : ℕ)
    → is_lt (ordering_then (ordering_then (bool_cmp away away') (ordering_by (is_more_urgent urgency urgency') (is_more_urgent urgency' urgency))) (nat_cmp item item'))
    ≡ goes_first record { item = item; away = away; urgency = urgency } record { item = item'; away = away'; urgency = urgency' }
first_so away away' urgency urgency' item item' =
    let one = flags_by away away' in
    let three = numbers_by item item' in
    (λ i. is_lt (ordering_then (ordering_then (one i) (ordering_by (is_more_urgent urgency urgency') (is_more_urgent urgency' urgency))) (three i)))
    ∙ before_three (not away && away') (away && not away') (is_more_urgent urgency urgency') (is_more_urgent urgency' urgency) (nat_lt item item') (nat_lt item' item)
