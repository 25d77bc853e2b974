-- The order of two offers, as the code has it, is the board's.
use Rattle.std.proofs.Common.{◌≡◌, ℕ, ◌<◌, nat_lt, not, ◌&&◌, Bool, true, false, Option, List, [], ◌∷◌, ◌++◌, length, refl, sym, ap, ◌∙◌, arith}
use Rattle.std.proofs.lemmas.Bool.{lt-ltb, le-ltb}
use Rattle.std.proofs.lemmas.Cmp.{by_ranked, ranked}
use Rattle.std.specs.Ordering.{bool_cmp, is_lt, nat_cmp, ordering_then}
use Rattle.std.specs.declared.cmp.Ordering.{Ordering}
use Rattle.std.specs.declared.cmp.Ordering.TheVariants.{Less, Equal, Greater}
use Rattle.nested_jobs.specs.Pick.{decide, is_more_urgent}
use Rattle.board_rules.specs.Picks.{goes_before, is_lesser_path}
use Rattle.audit_job.specs.Offering.{ordering_by}

pub numbers_by : (x y : ℕ) → nat_cmp x y ≡ ordering_by (nat_lt x y) (nat_lt y x)
numbers_by x y = by_ranked (x < y) (x ≡ y) (y < x) (nat_cmp x y) (ranked x y (nat_cmp x y) refl)
    (λ is less. let so : ordering_by (nat_lt x y) (nat_lt y x) ≡ Less = rw (lt-ltb x y less) refl in is ∙ sym so)
    (λ is same. let so : ordering_by (nat_lt x y) (nat_lt y x) ≡ Equal = rw (le-ltb x y (omega arith), le-ltb y x (omega arith)) refl in is ∙ sym so)
    (λ is more. let so : ordering_by (nat_lt x y) (nat_lt y x) ≡ Greater = rw (le-ltb x y (omega arith), lt-ltb y x more) refl in is ∙ sym so)

equal_numbers : (x y : ℕ) → nat_cmp x y ≡ Equal → x ≡ y
equal_numbers x y e = by_ranked (x < y) (x ≡ y) (y < x) (nat_cmp x y) (ranked x y (nat_cmp x y) refl)
    (λ is less. let no : Less ≡ Equal = sym is ∙ e in absurd (cc))
    (λ is same. same)
    (λ is more. let no : Greater ≡ Equal = sym is ∙ e in absurd (cc))

pub flags_by : (a b : Bool) → bool_cmp a b ≡ ordering_by (not a && b) (a && not b)
flags_by true true = refl
flags_by true false = refl
flags_by false true = refl
flags_by false false = refl

-- ---- one rule, and then those after it

pub two_by : (p q r s : Bool) → ordering_then (ordering_by p q) (ordering_by r s) ≡ ordering_by (decide p q r) (decide q p s)
two_by true q r s = refl
two_by false true r s = refl
two_by false false r s = refl

last_by : (p q : Bool) → is_lt (ordering_by p q) ≡ decide p q false
last_by true q = refl
last_by false true = refl
last_by false false = refl

before_two : (p q r s : Bool) → is_lt (ordering_then (ordering_by p q) (ordering_by r s)) ≡ decide p q (decide r s false)
before_two true q r s = refl
before_two false true r s = refl
before_two false false r s = last_by r s

-- ---- the rules before that of paths

abbrev early : (p q r s t u : Bool) → Ordering
early p q r s t u = ordering_then (ordering_then (ordering_by p q) (ordering_by r s)) (ordering_by t u)

abbrev early_test : (p q r s t u rest : Bool) → Bool
early_test p q r s t u rest = decide p q (decide r s (decide t u rest))

less_so : (p q r s t u rest : Bool) → early p q r s t u ≡ Less → early_test p q r s t u rest ≡ true
less_so true q r s t u rest e = refl
less_so false true r s t u rest e = absurd (cc)
less_so false false true s t u rest e = refl
less_so false false false true t u rest e = absurd (cc)
less_so false false false false true u rest e = refl
less_so false false false false false true rest e = absurd (cc)
less_so false false false false false false rest e = absurd (cc)

greater_so : (p q r s t u rest : Bool) → early p q r s t u ≡ Greater → early_test p q r s t u rest ≡ false
greater_so true q r s t u rest e = absurd (cc)
greater_so false true r s t u rest e = refl
greater_so false false true s t u rest e = absurd (cc)
greater_so false false false true t u rest e = refl
greater_so false false false false true u rest e = absurd (cc)
greater_so false false false false false true rest e = refl
greater_so false false false false false false rest e = absurd (cc)

equal_so : (p q r s t u rest : Bool) → early p q r s t u ≡ Equal → early_test p q r s t u rest ≡ rest
equal_so true q r s t u rest e = absurd (cc)
equal_so false true r s t u rest e = absurd (cc)
equal_so false false true s t u rest e = absurd (cc)
equal_so false false false true t u rest e = absurd (cc)
equal_so false false false false true u rest e = absurd (cc)
equal_so false false false false false true rest e = absurd (cc)
equal_so false false false false false false rest e = refl

then_equal : (a b : Ordering) → ordering_then a b ≡ Equal → a ≡ Equal
then_equal Less b e = absurd (cc)
then_equal Equal b e = refl
then_equal Greater b e = absurd (cc)

module _ (depth depth' : ℕ) (away away' : Bool) (urgency urgency' : Option ℕ) where
  abbrev pub early_of : Ordering
  early_of = ordering_then (ordering_then (nat_cmp depth' depth) (bool_cmp away away')) (ordering_by (is_more_urgent urgency urgency') (is_more_urgent urgency' urgency))

  abbrev p : Bool
  p = nat_lt depth' depth

  abbrev q : Bool
  q = nat_lt depth depth'

  abbrev r : Bool
  r = not away && away'

  abbrev s : Bool
  s = away && not away'

  abbrev t : Bool
  t = is_more_urgent urgency urgency'

  abbrev u : Bool
  u = is_more_urgent urgency' urgency

  early_is : early_of ≡ early p q r s t u
  early_is =
      let one = numbers_by depth' depth in
      let two = flags_by away away' in
      λ i. ordering_then (ordering_then (one i) (two i)) (ordering_by t u)

  pub same_depth : early_of ≡ Equal → depth ≡ depth'
  same_depth e = sym (equal_numbers depth' depth (then_equal (nat_cmp depth' depth) (bool_cmp away away') (then_equal (ordering_then (nat_cmp depth' depth) (bool_cmp away away')) (ordering_by t u) e)))

  module _ (calls : Bool) (path path' : List (ℕ × ℕ)) (number number' : ℕ) where
    abbrev pub before : Bool
    before = goes_before record { opens = calls; depth = depth; away = away; urgency = urgency; path = path; number = number; within = [] } record { opens = calls; depth = depth'; away = away'; urgency = urgency'; path = path'; number = number'; within = [] }

    abbrev late : Bool
    late = decide (is_lesser_path path path') (is_lesser_path path' path) (decide (nat_lt number number') (nat_lt number' number) false)

    before_is : before ≡ early_test p q r s t u late
    before_is = go calls
      where
        go : (b : Bool) → decide (not b && b) (b && not b) (early_test p q r s t u late) ≡ early_test p q r s t u late
        go true = refl
        go false = refl

    pub goes_first : early_of ≡ Less → before ≡ true
    goes_first e = before_is ∙ less_so p q r s t u late (sym early_is ∙ e)

    pub goes_last : early_of ≡ Greater → before ≡ false
    goes_last e = before_is ∙ greater_so p q r s t u late (sym early_is ∙ e)

    pub goes_by : early_of ≡ Equal → is_lt (ordering_then (ordering_by (is_lesser_path path path') (is_lesser_path path' path)) (nat_cmp number number')) ≡ before
    goes_by e =
        let five = numbers_by number number' in
        (λ i. is_lt (ordering_then (ordering_by (is_lesser_path path path') (is_lesser_path path' path)) (five i)))
        ∙ (before_two (is_lesser_path path path') (is_lesser_path path' path) (nat_lt number number') (nat_lt number' number)
        ∙ sym (before_is ∙ equal_so p q r s t u late (sym early_is ∙ e)))

-- ---- paths of one length, step by step from the top

abbrev lesser_step : ℕ × ℕ → ℕ × ℕ → Bool → Bool
lesser_step x y rest = decide (nat_lt x.0 y.0) (nat_lt y.0 x.0) (decide (nat_lt x.1 y.1) (nat_lt y.1 x.1) rest)

decide_within : (a b c d e : Bool) → decide (decide a b c) (decide b a d) e ≡ decide a b (decide c d e)
decide_within true b c d e = refl
decide_within false true c d e = refl
decide_within false false c d e = refl

decide_four : (a b c d v w x : Bool) → decide a b (decide c d (decide v w x)) ≡ decide (decide a b (decide c d v)) (decide b a (decide d c w)) x
decide_four true b c d v w x = refl
decide_four false true c d v w x = refl
decide_four false false true d v w x = refl
decide_four false false false true v w x = refl
decide_four false false false false v w x = refl

pub path_more : (xs ys : List (ℕ × ℕ)) (x y : ℕ × ℕ) → length xs ≡ length ys → is_lesser_path (xs ++ x ∷ []) (ys ++ y ∷ []) ≡ decide (is_lesser_path xs ys) (is_lesser_path ys xs) (lesser_step x y false)
path_more [] [] x y long = refl
path_more [] (b ∷ ys) x y long = absurd (omega arith)
path_more (a ∷ xs) [] x y long = absurd (omega arith)
path_more (a ∷ xs) (b ∷ ys) x y long =
    ap (lesser_step a b) (path_more xs ys x y (omega arith))
    ∙ decide_four (nat_lt a.0 b.0) (nat_lt b.0 a.0) (nat_lt a.1 b.1) (nat_lt b.1 a.1) (is_lesser_path xs ys) (is_lesser_path ys xs) (lesser_step x y false)

last_step_by : (p q r s : Bool) → ordering_then (ordering_by p q) (ordering_by r s) ≡ ordering_by (decide p q (decide r s false)) (decide q p (decide s r false))
last_step_by true q r s = refl
last_step_by false true r s = refl
last_step_by false false true s = refl
last_step_by false false false true = refl
last_step_by false false false false = refl

steps_by : (x y : ℕ × ℕ) → ordering_then (nat_cmp x.0 y.0) (nat_cmp x.1 y.1) ≡ ordering_by (lesser_step x y false) (lesser_step y x false)
steps_by x y =
    let one = numbers_by x.0 y.0 in
    let two = numbers_by x.1 y.1 in
    (λ i. ordering_then (one i) (two i)) ∙ last_step_by (nat_lt x.0 y.0) (nat_lt y.0 x.0) (nat_lt x.1 y.1) (nat_lt y.1 x.1)

pub paths_more : (xs ys : List (ℕ × ℕ)) (x y : ℕ × ℕ) → length xs ≡ length ys
    → ordering_then (ordering_by (is_lesser_path xs ys) (is_lesser_path ys xs)) (ordering_then (nat_cmp x.0 y.0) (nat_cmp x.1 y.1))
    ≡ ordering_by (is_lesser_path (xs ++ x ∷ []) (ys ++ y ∷ [])) (is_lesser_path (ys ++ y ∷ []) (xs ++ x ∷ []))
paths_more xs ys x y long =
    let one = path_more xs ys x y long in
    let two = path_more ys xs y x (sym long) in
    ap (ordering_then (ordering_by (is_lesser_path xs ys) (is_lesser_path ys xs))) (steps_by x y)
    ∙ (two_by (is_lesser_path xs ys) (is_lesser_path ys xs) (lesser_step x y false) (lesser_step y x false)
    ∙ (λ i. ordering_by (sym one i) (sym two i)))
