-- Graphs whose nesting is over a number, by those whose nesting is over one less.
use Rattle.std.proofs.Common.{◌≡◌, ℕ, zero, suc, ◌+◌, ◌<◌, ◌≤◌, ⊎_elim, Bool, true, false, cond, ◌||◌, nat_lt, max, List, [], ◌∷◌, ◌++◌, length, map, take, replicate, All, refl, sym, ap, ◌∙◌, arith, add-one, get_or}
use Rattle.std.specs.List.{filter, list_any, range_with_len}
use Rattle.std.proofs.lemmas.Bool.{lt-ltb, ltb-true, or_cases, or_left, or_right, cases_lt}
use Rattle.std.proofs.lemmas.List.{take_more, map-append}
use Rattle.std.proofs.lemmas.List.Elements.{All-head, All-tail, All-get_or, All-weaker}
use Rattle.std.proofs.lemmas.List.FromFn.{get_or-map-range_with_len, length-map-range_with_len}
use Rattle.pisdf_model.specs.Arrows.{to_of, LeadsInside}
use Rattle.pisdf_model.specs.Nesting.{greatest, nesting_to}
use Rattle.pisdf_model.proofs.Cycles.{same_test}

lt_max : (n a b : ℕ) → nat_lt n (max a b) ≡ (nat_lt n a || nat_lt n b)
lt_max n a b =
    same_test (nat_lt n (max a b)) (nat_lt n a || nat_lt n b) (
      λ over.
          let less = ltb-true n (max a b) over in
          ⊎_elim
          (λ (left : n < a). or_left (nat_lt n a) (nat_lt n b) (lt-ltb n a left))
          (λ (rest : a ≤ n). or_right (nat_lt n a) (nat_lt n b) (lt-ltb n b (omega arith)))
          (cases_lt n a),
      λ either. lt-ltb n (max a b) (⊎_elim
          (λ (left : nat_lt n a ≡ true). let less = ltb-true n a left in omega arith)
          (λ (right : nat_lt n b ≡ true). let less = ltb-true n b right in omega arith)
          (or_cases (nat_lt n a) (nat_lt n b) either)),
    )

lt_greatest : (n : ℕ) (f : ℕ → ℕ) (xs : List ℕ) → nat_lt n (greatest (map f xs)) ≡ list_any (λ x. nat_lt n (f x)) xs
lt_greatest n f [] = same_test (nat_lt n 0) false (λ over. absurd (let less = ltb-true n 0 over in omega arith), λ never. cc)
lt_greatest n f (x ∷ xs) = lt_max n (f x) (greatest (map f xs)) ∙ ap (λ rest. nat_lt n (f x) || rest) (lt_greatest n f xs)

lt_one_more : (n m : ℕ) → nat_lt (n + 1) (1 + m) ≡ nat_lt n m
lt_one_more n m =
    same_test (nat_lt (n + 1) (1 + m)) (nat_lt n m) (
      λ over. lt-ltb n m (let less = ltb-true (n + 1) (1 + m) over in omega arith),
      λ over. lt-ltb (n + 1) (1 + m) (let less = ltb-true n m over in omega arith),
    )

-- a test of a graph
abbrev pub over : List (List ℕ) → ℕ → ℕ → Bool
over child_lists n place = nat_lt n (nesting_to child_lists (n + 1) place)

over_zero : (child_lists : List (List ℕ)) (place : ℕ) → over child_lists 0 place ≡ true
unfolding nesting_to
over_zero child_lists place = lt-ltb 0 (1 + greatest (map (nesting_to child_lists 0) (to_of child_lists place))) (omega arith)

over_more : (child_lists : List (List ℕ)) (n place : ℕ) → over child_lists (n + 1) place ≡ list_any (λ w. over child_lists n w) (to_of child_lists place)
unfolding nesting_to
over_more child_lists n place =
    let deep : nesting_to child_lists (n + 1 + 1) place ≡ 1 + greatest (map (nesting_to child_lists (n + 1)) (to_of child_lists place)) = ap (λ k. nesting_to child_lists k place) (add-one (n + 1)) in
    ap (nat_lt (n + 1)) deep
    ∙ lt_one_more n (greatest (map (nesting_to child_lists (n + 1)) (to_of child_lists place)))
    ∙ lt_greatest n (nesting_to child_lists (n + 1)) (to_of child_lists place)

any_same : (p q : ℕ → Bool) (xs : List ℕ) → All (λ x. p x ≡ q x) xs → list_any p xs ≡ list_any q xs
any_same p q [] same = refl
any_same p q (x ∷ xs) same =
    ap (λ b. b || list_any p xs) (All-head (λ x. p x ≡ q x) x xs same)
    ∙ ap (λ rest. q x || rest) (any_same p q xs (All-tail (λ x. p x ≡ q x) x xs same))

by_place : (f : List ℕ → Bool) (g : ℕ → Bool) (xs : List (List ℕ)) (a : ℕ) → ((i : ℕ) → i < length xs → f (get_or xs i []) ≡ g (a + i)) → map f xs ≡ map g (range_with_len a (length xs))
by_place f g [] a same = refl
by_place f g (x ∷ xs) a same =
    let head : f x ≡ g a = same 0 (omega arith) ∙ ap g (omega arith) in
    let tail = by_place f g xs (a + 1) (λ i inside. same (suc i) (omega arith) ∙ ap g (omega arith)) in
    ap (λ y. y ∷ map f xs) head ∙ ap (λ ys. g a ∷ ys) tail

pub nested_first : (child_lists : List (List ℕ)) → replicate (length child_lists) true ≡ map (λ place. over child_lists 0 place) (range_with_len 0 (length child_lists))
nested_first child_lists = from 0 (length child_lists)
  where
    from : (a n : ℕ) → replicate n true ≡ map (λ place. over child_lists 0 place) (range_with_len a n)
    from a zero = refl
    from a (suc n) = ap (λ y. y ∷ replicate n true) (sym (over_zero child_lists a)) ∙ ap (λ ys. over child_lists 0 a ∷ ys) (from (a + 1) n)

pub nested_more : (child_lists : List (List ℕ)) (n : ℕ) (marks : List Bool) → LeadsInside child_lists → marks ≡ map (λ place. over child_lists n place) (range_with_len 0 (length child_lists)) → map (λ to. list_any (λ w. get_or marks w false) to) child_lists ≡ map (λ place. over child_lists (n + 1) place) (range_with_len 0 (length child_lists))
nested_more child_lists n marks inside so_far =
    by_place (λ to. list_any (λ w. get_or marks w false) to) (λ place. over child_lists (n + 1) place) child_lists 0
    (λ i below.
    let fits = All-get_or (λ to. All (λ w. w < length child_lists) to) child_lists i [] below inside in
    let same = All-weaker (λ w. w < length child_lists) (λ w. get_or marks w false ≡ over child_lists n w) (λ w less. ap (λ ms. get_or ms w false) so_far ∙ get_or-map-range_with_len (λ place. over child_lists n place) 0 (length child_lists) w w false less (omega arith)) (to_of child_lists i) fits in
    let at : 0 + i ≡ i = omega arith in
    any_same (λ w. get_or marks w false) (λ w. over child_lists n w) (to_of child_lists i) same
    ∙ sym (over_more child_lists n i)
    ∙ ap (λ place. over child_lists (n + 1) place) (sym at))

pub marks_long : (child_lists : List (List ℕ)) (n : ℕ) (marks : List Bool) → marks ≡ map (λ place. over child_lists n place) (range_with_len 0 (length child_lists)) → length marks ≡ length child_lists
marks_long child_lists n marks so_far = ap length so_far ∙ length-map-range_with_len (λ place. over child_lists n place) 0 (length child_lists)

-- one element more of a list that is mapped
pub mapped_next : (f : List ℕ → Bool) (xs : List (List ℕ)) (i : ℕ) (read places : List ℕ) (value : Bool) (mapped : List Bool) → i < length xs → read ≡ get_or xs i read → places ≡ read → value ≡ f places → mapped ≡ map f (take i xs) → mapped ++ value ∷ [] ≡ map f (take (i + 1) xs)
mapped_next f xs i read places value mapped inside is same told so_far =
    rw (so_far, told, same, take_more xs i read inside, map-append, ← is) refl

-- the places whose marks are those that a test gives are the places that it keeps
pub kept_by_marks : (test : ℕ → Bool) (n : ℕ) (marks : List Bool) → marks ≡ map test (range_with_len 0 n) → filter (λ v. get_or marks v false) (range_with_len 0 (length marks)) ≡ filter test (range_with_len 0 n)
kept_by_marks test n marks is =
    let long : length marks ≡ n = ap length is ∙ length-map-range_with_len test 0 n in
    ap (λ m. filter (λ v. get_or marks v false) (range_with_len 0 m)) long
    ∙ from 0 n (λ v low high. let inside : v < n = omega arith in ap (λ ms. get_or ms v false) is ∙ get_or-map-range_with_len test 0 n v v false inside (omega arith))
  where
    from : (a m : ℕ) → ((v : ℕ) → a ≤ v → v < a + m → get_or marks v false ≡ test v) → filter (λ v. get_or marks v false) (range_with_len a m) ≡ filter test (range_with_len a m)
    from a zero told = refl
    from a (suc m) told =
        ap (λ b. cond b (a ∷ filter (λ v. get_or marks v false) (range_with_len (a + 1) m)) (filter (λ v. get_or marks v false) (range_with_len (a + 1) m))) (told a (omega arith) (omega arith))
        ∙ ap (λ rest. cond (test a) (a ∷ rest) rest) (from (a + 1) m (λ v low high. told v (omega arith) (omega arith)))
