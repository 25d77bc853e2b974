-- The order of two offers, as the code has it, is the board's.
use Rattle.std.proofs.Common.{◌≡◌, ℕ, ◌<◌, nat_lt, not, ◌&&◌, Bool, true, false, Option, List, [], ◌∷◌, refl, sym, ◌∙◌, arith}
use Rattle.std.proofs.lemmas.Bool.{lt-ltb, le-ltb}
use Rattle.std.proofs.lemmas.Cmp.{by_ranked, ranked}
use Rattle.std.specs.Cmp.Lexicographic.{slice_cmp}
use Rattle.std.specs.Ordering.{bool_cmp, is_lt, nat_cmp, ordering_then}
use Rattle.std.specs.declared.cmp.Ordering.{Ordering}
use Rattle.std.specs.declared.cmp.Ordering.TheVariants.{Less, Equal, Greater}
use Rattle.nested_jobs.specs.Pick.{decide, is_more_urgent}
use Rattle.board_rules.specs.Picks.{goes_before, is_lesser_path}
use Rattle.firing_board.specs.Table.AskedRows.{ordering_by}

numbers_by : (x y : ℕ) → nat_cmp x y ≡ ordering_by (nat_lt x y) (nat_lt y x)
numbers_by x y = by_ranked (x < y) (x ≡ y) (y < x) (nat_cmp x y) (ranked x y (nat_cmp x y) refl)
    (λ is less. let so : ordering_by (nat_lt x y) (nat_lt y x) ≡ Less = rw (lt-ltb x y less) refl in is ∙ sym so)
    (λ is same. let so : ordering_by (nat_lt x y) (nat_lt y x) ≡ Equal = rw (le-ltb x y (omega arith), le-ltb y x (omega arith)) refl in is ∙ sym so)
    (λ is more. let so : ordering_by (nat_lt x y) (nat_lt y x) ≡ Greater = rw (le-ltb x y (omega arith), lt-ltb y x more) refl in is ∙ sym so)

flags_by : (a b : Bool) → bool_cmp a b ≡ ordering_by (not a && b) (a && not b)
flags_by true true = refl
flags_by true false = refl
flags_by false true = refl
flags_by false false = refl

-- ---- one rule, and then those after it

two_by : (p q r s : Bool) → ordering_then (ordering_by p q) (ordering_by r s) ≡ ordering_by (decide p q r) (decide q p s)
two_by true q r s = refl
two_by false true r s = refl
two_by false false r s = refl

three_by : (p q r s t u : Bool) → ordering_then (ordering_then (ordering_by p q) (ordering_by r s)) (ordering_by t u) ≡ ordering_by (decide p q (decide r s t)) (decide q p (decide s r u))
three_by true q r s t u = refl
three_by false true r s t u = refl
three_by false false r s t u = two_by r s t u

last_by : (p q : Bool) → is_lt (ordering_by p q) ≡ decide p q false
last_by true q = refl
last_by false true = refl
last_by false false = refl

before_two : (p q r s : Bool) → is_lt (ordering_then (ordering_by p q) (ordering_by r s)) ≡ decide p q (decide r s false)
before_two true q r s = refl
before_two false true r s = refl
before_two false false r s = last_by r s

before_three : (p q r s t u : Bool) → is_lt (ordering_then (ordering_then (ordering_by p q) (ordering_by r s)) (ordering_by t u)) ≡ decide p q (decide r s (decide t u false))
before_three true q r s t u = refl
before_three false true r s t u = refl
before_three false false r s t u = before_two r s t u

before_four : (p q r s t u v w : Bool)
    → is_lt (ordering_then (ordering_then (ordering_then (ordering_by p q) (ordering_by r s)) (ordering_by t u)) (ordering_by v w)) ≡ decide p q (decide r s (decide t u (decide v w false)))
before_four true q r s t u v w = refl
before_four false true r s t u v w = refl
before_four false false r s t u v w = before_three r s t u v w

before_five : (p q r s t u v w x y : Bool)
    → is_lt (ordering_then (ordering_then (ordering_then (ordering_then (ordering_by p q) (ordering_by r s)) (ordering_by t u)) (ordering_by v w)) (ordering_by x y))
    ≡ decide p q (decide r s (decide t u (decide v w (decide x y false))))
before_five true q r s t u v w x y = refl
before_five false true r s t u v w x y = refl
before_five false false r s t u v w x y = before_four r s t u v w x y

-- ---- paths

abbrev pub step_cmp : ℕ × ℕ → ℕ × ℕ → Ordering
step_cmp x y = ordering_then (nat_cmp x.0 y.0) (nat_cmp x.1 y.1)

paths_by : (xs ys : List (ℕ × ℕ)) → slice_cmp step_cmp xs ys ≡ ordering_by (is_lesser_path xs ys) (is_lesser_path ys xs)
paths_by [] [] = refl
paths_by [] (y ∷ ys) = refl
paths_by (x ∷ xs) [] = refl
paths_by (x ∷ xs) (y ∷ ys) =
    let actor = numbers_by x.0 y.0 in
    let turn = numbers_by x.1 y.1 in
    let rest = paths_by xs ys in
    (λ i. ordering_then (ordering_then (actor i) (turn i)) (rest i))
    ∙ three_by (nat_lt x.0 y.0) (nat_lt y.0 x.0) (nat_lt x.1 y.1) (nat_lt y.1 x.1) (is_lesser_path xs ys) (is_lesser_path ys xs)

-- ---- all of them

pub before_so : (depth depth' : ℕ) (away away' : Bool) (urgency urgency' : Option ℕ) (path path' : List (ℕ × ℕ)) (number number' : ℕ)
    → is_lt (ordering_then (ordering_then (ordering_then (ordering_then (nat_cmp depth' depth) (bool_cmp away away')) (ordering_by (is_more_urgent urgency urgency') (is_more_urgent urgency' urgency))) (slice_cmp step_cmp path path')) (nat_cmp number number'))
    ≡ goes_before record { opens = false; depth = depth; away = away; urgency = urgency; path = path; number = number; within = [] } record { opens = false; depth = depth'; away = away'; urgency = urgency'; path = path'; number = number'; within = [] }
before_so depth depth' away away' urgency urgency' path path' number number' =
    let one = numbers_by depth' depth in
    let two = flags_by away away' in
    let four = paths_by path path' in
    let five = numbers_by number number' in
    (λ i. is_lt (ordering_then (ordering_then (ordering_then (ordering_then (one i) (two i)) (ordering_by (is_more_urgent urgency urgency') (is_more_urgent urgency' urgency))) (four i)) (five i)))
    ∙ before_five (nat_lt depth' depth) (nat_lt depth depth') (not away && away') (away && not away') (is_more_urgent urgency urgency') (is_more_urgent urgency' urgency) (is_lesser_path path path') (is_lesser_path path' path) (nat_lt number number') (nat_lt number' number)
