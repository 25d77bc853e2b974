-- The six rules order what they look at: of two standings that differ one goes before the other.
use Rattle.std.proofs.Common.{◌≡◌, ℕ, ◌<◌, nat_lt, not, ◌&&◌, Bool, true, false, Option, Some, None, List, [], ◌∷◌, refl, sym, ap, ◌∙◌, subst, arith, ltb-true, ltb-false}
use Rattle.std.proofs.lemmas.Bool.{lt-ltb, le-ltb}
use Rattle.nested_jobs.specs.Pick.{decide, is_more_urgent}
use Rattle.board_rules.specs.Picks.{Standing, goes_before, is_lesser_path, is_lesser_way}

-- a strict order in which two of which neither goes before the other are the same
pub record IsOrder {T : Type 0} (before : T → T → Bool) : Type 0 where
  pub apart : (a : T) → before a a ≡ false
  pub through : (a b c : T) → before a b ≡ true → before b c ≡ true → before a c ≡ true
  pub same : (a b : T) → before a b ≡ false → before b a ≡ false → a ≡ b

-- ---- one rule, and then those after it

module _ {T : Type 0} (before : T → T → Bool) (order : IsOrder before) where
  rule_apart : (a : T) (rest : Bool) → rest ≡ false → decide (before a a) (before a a) rest ≡ false
  rule_apart a rest is = rw (order.apart a) is

  first_so : (a c : T) (rest : Bool) → before a c ≡ true → decide (before a c) (before c a) rest ≡ true
  first_so a c rest is = rw is refl

  rule_through : (a b c : T) (r s t : Bool) → (r ≡ true → s ≡ true → t ≡ true)
      → decide (before a b) (before b a) r ≡ true → decide (before b c) (before c b) s ≡ true → decide (before a c) (before c a) t ≡ true
  rule_through a b c r s t rest one other = go (before a b) (before b a) (before b c) (before c b) refl refl refl refl one other
    where
      go : (p q u w : Bool) → before a b ≡ p → before b a ≡ q → before b c ≡ u → before c b ≡ w → decide p q r ≡ true → decide u w s ≡ true → decide (before a c) (before c a) t ≡ true
      go true q true w p_is q_is u_is w_is one other = first_so a c t (order.through a b c p_is u_is)
      go true q false true p_is q_is u_is w_is one other = absurd (cc)
      go true q false false p_is q_is u_is w_is one other = first_so a c t (subst (λ (z : T). before a z ≡ true) (order.same b c u_is w_is) p_is)
      go false true u w p_is q_is u_is w_is one other = absurd (cc)
      go false false true w p_is q_is u_is w_is one other = first_so a c t (subst (λ (z : T). before z c ≡ true) (sym (order.same a b p_is q_is)) u_is)
      go false false false true p_is q_is u_is w_is one other = absurd (cc)
      go false false false false p_is q_is u_is w_is one other =
          subst (λ (z : T). decide (before a z) (before z a) t ≡ true) (order.same a b p_is q_is ∙ order.same b c u_is w_is) (rw (order.apart a) (rest one other))

  record Same (a b : T) (r s : Bool) : Type 0 where
    pub same : a ≡ b
    pub first : r ≡ false
    pub second : s ≡ false

  rule_same : (a b : T) (r s : Bool) → decide (before a b) (before b a) r ≡ false → decide (before b a) (before a b) s ≡ false → Same a b r s
  rule_same a b r s one other = go (before a b) (before b a) refl refl one other
    where
      go : (p q : Bool) → before a b ≡ p → before b a ≡ q → decide p q r ≡ false → decide q p s ≡ false → Same a b r s
      go true q p_is q_is one other = absurd (cc)
      go false true p_is q_is one other = absurd (cc)
      go false false p_is q_is one other = record { same = order.same a b p_is q_is; first = one; second = other }

-- ---- what the rules compare

pub numbers : IsOrder nat_lt
numbers = record {
  apart = λ a. le-ltb a a (omega arith);
  through = λ a b c one other. let l = ltb-true a b one in let m = ltb-true b c other in lt-ltb a c (omega arith);
  same = λ a b one other. let l = ltb-false a b one in let m = ltb-false b a other in omega arith;
}

pub turned : {T : Type 0} (before : T → T → Bool) → IsOrder before → IsOrder (λ a b. before b a)
turned before order = record {
  apart = order.apart;
  through = λ a b c one other. order.through c b a other one;
  same = λ a b one other. order.same a b other one;
}

abbrev first_flag : Bool → Bool → Bool
first_flag a b = not a && b

flags : IsOrder first_flag
flags = record { apart = apart; through = through; same = same }
  where
    apart : (a : Bool) → first_flag a a ≡ false
    apart true = refl
    apart false = refl

    through : (a b c : Bool) → first_flag a b ≡ true → first_flag b c ≡ true → first_flag a c ≡ true
    through true b c one other = absurd (cc)
    through false true c one other = absurd (cc)
    through false false c one other = absurd (cc)

    same : (a b : Bool) → first_flag a b ≡ false → first_flag b a ≡ false → a ≡ b
    same true true one other = refl
    same true false one other = absurd (cc)
    same false true one other = absurd (cc)
    same false false one other = refl

urgencies : IsOrder is_more_urgent
urgencies = record { apart = apart; through = through; same = same }
  where
    apart : (a : Option ℕ) → is_more_urgent a a ≡ false
    apart None = refl
    apart (Some p) = numbers.apart p

    through : (a b c : Option ℕ) → is_more_urgent a b ≡ true → is_more_urgent b c ≡ true → is_more_urgent a c ≡ true
    through None None c one other = absurd (cc)
    through None (Some q) None one other = absurd (cc)
    through None (Some q) (Some r) one other = refl
    through (Some p) None c one other = absurd (cc)
    through (Some p) (Some q) None one other = absurd (cc)
    through (Some p) (Some q) (Some r) one other = numbers.through r q p other one

    same : (a b : Option ℕ) → is_more_urgent a b ≡ false → is_more_urgent b a ≡ false → a ≡ b
    same None None one other = refl
    same None (Some q) one other = absurd (cc)
    same (Some p) None one other = absurd (cc)
    same (Some p) (Some q) one other = ap Some (numbers.same p q other one)

ways : IsOrder is_lesser_way
ways = record { apart = apart; through = through; same = same }
  where
    apart : (a : List ℕ) → is_lesser_way a a ≡ false
    apart [] = refl
    apart (x ∷ xs) = rule_apart nat_lt numbers x (is_lesser_way xs xs) (apart xs)

    through : (a b c : List ℕ) → is_lesser_way a b ≡ true → is_lesser_way b c ≡ true → is_lesser_way a c ≡ true
    through [] [] c one other = absurd (cc)
    through [] (y ∷ ys) [] one other = absurd (cc)
    through [] (y ∷ ys) (z ∷ zs) one other = refl
    through (x ∷ xs) [] c one other = absurd (cc)
    through (x ∷ xs) (y ∷ ys) [] one other = absurd (cc)
    through (x ∷ xs) (y ∷ ys) (z ∷ zs) one other = rule_through nat_lt numbers x y z (is_lesser_way xs ys) (is_lesser_way ys zs) (is_lesser_way xs zs) (through xs ys zs) one other

    same : (a b : List ℕ) → is_lesser_way a b ≡ false → is_lesser_way b a ≡ false → a ≡ b
    same [] [] one other = refl
    same [] (y ∷ ys) one other = absurd (cc)
    same (x ∷ xs) [] one other = absurd (cc)
    same (x ∷ xs) (y ∷ ys) one other =
        let t = rule_same nat_lt numbers x y (is_lesser_way xs ys) (is_lesser_way ys xs) one other in
        let rest = same xs ys t.first t.second in
        let head = t.same in
        λ i. head i ∷ rest i

paths : IsOrder is_lesser_path
paths = record { apart = apart; through = through; same = same }
  where
    apart : (a : List (ℕ × ℕ)) → is_lesser_path a a ≡ false
    apart [] = refl
    apart (x ∷ xs) = rule_apart nat_lt numbers x.0 (decide (nat_lt x.1 x.1) (nat_lt x.1 x.1) (is_lesser_path xs xs)) (rule_apart nat_lt numbers x.1 (is_lesser_path xs xs) (apart xs))

    through : (a b c : List (ℕ × ℕ)) → is_lesser_path a b ≡ true → is_lesser_path b c ≡ true → is_lesser_path a c ≡ true
    through [] [] c one other = absurd (cc)
    through [] (y ∷ ys) [] one other = absurd (cc)
    through [] (y ∷ ys) (z ∷ zs) one other = refl
    through (x ∷ xs) [] c one other = absurd (cc)
    through (x ∷ xs) (y ∷ ys) [] one other = absurd (cc)
    through (x ∷ xs) (y ∷ ys) (z ∷ zs) one other =
        rule_through nat_lt numbers x.0 y.0 z.0
        (decide (nat_lt x.1 y.1) (nat_lt y.1 x.1) (is_lesser_path xs ys)) (decide (nat_lt y.1 z.1) (nat_lt z.1 y.1) (is_lesser_path ys zs)) (decide (nat_lt x.1 z.1) (nat_lt z.1 x.1) (is_lesser_path xs zs))
        (λ r s. rule_through nat_lt numbers x.1 y.1 z.1 (is_lesser_path xs ys) (is_lesser_path ys zs) (is_lesser_path xs zs) (through xs ys zs) r s) one other

    same : (a b : List (ℕ × ℕ)) → is_lesser_path a b ≡ false → is_lesser_path b a ≡ false → a ≡ b
    same [] [] one other = refl
    same [] (y ∷ ys) one other = absurd (cc)
    same (x ∷ xs) [] one other = absurd (cc)
    same (x ∷ xs) (y ∷ ys) one other =
        let t = rule_same nat_lt numbers x.0 y.0 (decide (nat_lt x.1 y.1) (nat_lt y.1 x.1) (is_lesser_path xs ys)) (decide (nat_lt y.1 x.1) (nat_lt x.1 y.1) (is_lesser_path ys xs)) one other in
        let u = rule_same nat_lt numbers x.1 y.1 (is_lesser_path xs ys) (is_lesser_path ys xs) t.first t.second in
        let rest = same xs ys u.first u.second in
        let actor = t.same in
        let turn = u.same in
        λ i. (actor i, turn i) ∷ rest i

-- ---- all of them

turned_flags : (a b : Bool) → (a && not b) ≡ first_flag b a
turned_flags true true = refl
turned_flags true false = refl
turned_flags false true = refl
turned_flags false false = refl

module _ (a b : Standing) where
  abbrev by_number : Bool
  by_number = decide (nat_lt a.number b.number) (nat_lt b.number a.number) (is_lesser_way a.within b.within)

  abbrev by_path : Bool
  by_path = decide (is_lesser_path a.path b.path) (is_lesser_path b.path a.path) by_number

  abbrev by_urgency : Bool
  by_urgency = decide (is_more_urgent a.urgency b.urgency) (is_more_urgent b.urgency a.urgency) by_path

  abbrev by_home : Bool
  by_home = decide (first_flag a.away b.away) (first_flag b.away a.away) by_urgency

  abbrev by_depth : Bool
  by_depth = decide (nat_lt b.depth a.depth) (nat_lt a.depth b.depth) by_home

  abbrev by_all : Bool
  by_all = decide (first_flag a.opens b.opens) (first_flag b.opens a.opens) by_depth

  rules_are : goes_before a b ≡ by_all
  rules_are = rw (turned_flags a.opens b.opens, turned_flags a.away b.away) refl

deeper : IsOrder (λ (a b : ℕ). nat_lt b a)
deeper = turned nat_lt numbers

all_apart : (a : Standing) → by_all a a ≡ false
all_apart a =
    rule_apart first_flag flags a.opens (by_depth a a)
    (rule_apart (λ (x y : ℕ). nat_lt y x) deeper a.depth (by_home a a)
    (rule_apart first_flag flags a.away (by_urgency a a)
    (rule_apart is_more_urgent urgencies a.urgency (by_path a a)
    (rule_apart is_lesser_path paths a.path (by_number a a)
    (rule_apart nat_lt numbers a.number (is_lesser_way a.within a.within) (ways.apart a.within))))))

all_through : (a b c : Standing) → by_all a b ≡ true → by_all b c ≡ true → by_all a c ≡ true
all_through a b c =
    rule_through first_flag flags a.opens b.opens c.opens (by_depth a b) (by_depth b c) (by_depth a c)
    (rule_through (λ (x y : ℕ). nat_lt y x) deeper a.depth b.depth c.depth (by_home a b) (by_home b c) (by_home a c)
    (rule_through first_flag flags a.away b.away c.away (by_urgency a b) (by_urgency b c) (by_urgency a c)
    (rule_through is_more_urgent urgencies a.urgency b.urgency c.urgency (by_path a b) (by_path b c) (by_path a c)
    (rule_through is_lesser_path paths a.path b.path c.path (by_number a b) (by_number b c) (by_number a c)
    (rule_through nat_lt numbers a.number b.number c.number (is_lesser_way a.within b.within) (is_lesser_way b.within c.within) (is_lesser_way a.within c.within)
    (ways.through a.within b.within c.within))))))

all_same : (a b : Standing) → by_all a b ≡ false → by_all b a ≡ false → a ≡ b
all_same a b one other =
    let t1 = rule_same first_flag flags a.opens b.opens (by_depth a b) (by_depth b a) one other in
    let t2 = rule_same (λ (x y : ℕ). nat_lt y x) deeper a.depth b.depth (by_home a b) (by_home b a) t1.first t1.second in
    let t3 = rule_same first_flag flags a.away b.away (by_urgency a b) (by_urgency b a) t2.first t2.second in
    let t4 = rule_same is_more_urgent urgencies a.urgency b.urgency (by_path a b) (by_path b a) t3.first t3.second in
    let t5 = rule_same is_lesser_path paths a.path b.path (by_number a b) (by_number b a) t4.first t4.second in
    let t6 = rule_same nat_lt numbers a.number b.number (is_lesser_way a.within b.within) (is_lesser_way b.within a.within) t5.first t5.second in
    let t7 = ways.same a.within b.within t6.first t6.second in
    let s1 = t1.same in
    let s2 = t2.same in
    let s3 = t3.same in
    let s4 = t4.same in
    let s5 = t5.same in
    let s6 = t6.same in
    λ i. record { opens = s1 i; depth = s2 i; away = s3 i; urgency = s4 i; path = s5 i; number = s6 i; within = t7 i }

pub standings_ordered : IsOrder goes_before
standings_ordered = record {
  apart = λ a. rules_are a a ∙ all_apart a;
  through = λ a b c one other. rules_are a c ∙ all_through a b c (sym (rules_are a b) ∙ one) (sym (rules_are b c) ∙ other);
  same = λ a b one other. all_same a b (sym (rules_are a b) ∙ one) (sym (rules_are b a) ∙ other);
}

-- ---- what the last rule changes

-- the same standing, with other items on the way
abbrev pub with_way : Standing → List ℕ → Standing
with_way s way = record { opens = s.opens; depth = s.depth; away = s.away; urgency = s.urgency; path = s.path; number = s.number; within = way }

rest_only : {T : Type 0} (before : T → T → Bool) → IsOrder before → (a : T) (rest : Bool) → decide (before a a) (before a a) rest ≡ rest
rest_only before order a rest = rw (order.apart a) refl

-- of two that differ in that alone, that rule decides
pub way_decides : (s : Standing) (x y : List ℕ) → is_lesser_way x y ≡ true → goes_before (with_way s x) (with_way s y) ≡ true
way_decides s x y lesser =
    let a : Standing = with_way s x in
    let b : Standing = with_way s y in
    rules_are a b
    ∙ rest_only first_flag flags s.opens (by_depth a b)
    ∙ rest_only (λ (n m : ℕ). nat_lt m n) deeper s.depth (by_home a b)
    ∙ rest_only first_flag flags s.away (by_urgency a b)
    ∙ rest_only is_more_urgent urgencies s.urgency (by_path a b)
    ∙ rest_only is_lesser_path paths s.path (by_number a b)
    ∙ rest_only nat_lt numbers s.number (is_lesser_way x y)
    ∙ lesser

rest_more : (first second r s : Bool) → (r ≡ true → s ≡ true) → decide first second r ≡ true → decide first second s ≡ true
rest_more true second r s more is = refl
rest_more false true r s more is = absurd (cc)
rest_more false false r s more is = more is

-- where nothing is said of them, the rules before it decide
pub way_is_last : (s u : Standing) (x y : List ℕ) → s.within ≡ [] → u.within ≡ [] → goes_before s u ≡ true → goes_before (with_way s x) (with_way u y) ≡ true
way_is_last s u x y s_none u_none before =
    let a : Standing = with_way s x in
    let b : Standing = with_way u y in
    let never : is_lesser_way s.within u.within ≡ true → is_lesser_way x y ≡ true = λ is. let no : false ≡ true = sym (rw (s_none, u_none) refl) ∙ is in cc in
    rules_are a b
    ∙ rest_more (first_flag s.opens u.opens) (first_flag u.opens s.opens) (by_depth s u) (by_depth a b)
    (rest_more (nat_lt u.depth s.depth) (nat_lt s.depth u.depth) (by_home s u) (by_home a b)
    (rest_more (first_flag s.away u.away) (first_flag u.away s.away) (by_urgency s u) (by_urgency a b)
    (rest_more (is_more_urgent s.urgency u.urgency) (is_more_urgent u.urgency s.urgency) (by_path s u) (by_path a b)
    (rest_more (is_lesser_path s.path u.path) (is_lesser_path u.path s.path) (by_number s u) (by_number a b)
    (rest_more (nat_lt s.number u.number) (nat_lt u.number s.number) (is_lesser_way s.within u.within) (is_lesser_way x y) never)))))
    (sym (rules_are s u) ∙ before)

-- an item of an open job goes before one that opens a job, and of two that both do or don't, the deeper goes first
pub open_first : (s u : Standing) → s.opens ≡ false → u.opens ≡ true → goes_before s u ≡ true
open_first s u s_is u_is = rw (s_is, u_is) refl

pub deep_first : (s u : Standing) → s.opens ≡ u.opens → u.depth < s.depth → goes_before s u ≡ true
deep_first s u same lower =
    rules_are s u ∙ ap (λ (z : Bool). decide (first_flag z u.opens) (first_flag u.opens z) (by_depth s u)) same
    ∙ rest_only first_flag flags u.opens (by_depth s u) ∙ rw (lt-ltb u.depth s.depth lower) refl

-- of two items of one job home, urgency and number decide
pub in_one_job : (opens : Bool) (depth : ℕ) (away away' : Bool) (urgency urgency' : Option ℕ) (path : List (ℕ × ℕ)) (number number' : ℕ)
    → decide (not away && away') (away && not away') (decide (is_more_urgent urgency urgency') (is_more_urgent urgency' urgency) (nat_lt number number')) ≡ true
    → (let s : Standing = record { opens = opens; depth = depth; away = away; urgency = urgency; path = path; number = number; within = [] } in let u : Standing = record { opens = opens; depth = depth; away = away'; urgency = urgency'; path = path; number = number'; within = [] } in goes_before s u ≡ true)
in_one_job opens depth away away' urgency urgency' path number number' first =
    let s : Standing = record { opens = opens; depth = depth; away = away; urgency = urgency; path = path; number = number; within = [] } in
    let u : Standing = record { opens = opens; depth = depth; away = away'; urgency = urgency'; path = path; number = number'; within = [] } in
    let by_two : Bool = decide (is_more_urgent urgency urgency') (is_more_urgent urgency' urgency) (nat_lt number number') in
    let turned_first : decide (first_flag away away') (first_flag away' away) by_two ≡ true = ap (λ (z : Bool). decide (first_flag away away') z by_two) (sym (turned_flags away away')) ∙ first in
    rules_are s u
    ∙ rest_only first_flag flags opens (by_depth s u)
    ∙ rest_only (λ (n m : ℕ). nat_lt m n) deeper depth (by_home s u)
    ∙ rest_more (first_flag away away') (first_flag away' away) by_two (by_urgency s u)
    (rest_more (is_more_urgent urgency urgency') (is_more_urgent urgency' urgency) (nat_lt number number') (by_path s u)
    (λ less. rest_only is_lesser_path paths path (by_number s u) ∙ rw less refl))
    turned_first
