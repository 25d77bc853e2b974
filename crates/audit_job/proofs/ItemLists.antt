-- Lists of items, of which one is taken out, or to which some are added.
use Rattle.std.proofs.Common.{◌≡◌, ◌≢◌, ◌⊎◌, inl, inr, ⊎_elim, ℕ, ◌+◌, ◌-◌, ◌<◌, ◌≤◌, List, [], ◌∷◌, ◌++◌, length, get_or, refl, sym, ap, ◌∙◌, subst, arith}
use Rattle.std.specs.Prelude.{All, Contains, Vec, slice_index, vec_capacity}
use Rattle.std.specs.Global.{Global}
use Rattle.std.proofs.lemmas.Bool.{cases_eq, cases_lt}
use Rattle.std.proofs.lemmas.List.{get_or_default}
use Rattle.std.proofs.lemmas.List.Elements.{All-contains, All-contains_itself, All-from_get_or, All-weaker, Contains-append_left, Contains-get_or, Contains-push, Contains-push_cases}
use Rattle.audit_job.specs.Candidates.{Adds, TakesOut}

-- ---- one is taken out

module _ (old new : Vec ℕ Global) (place item : ℕ) (inside : place < length old.items) (here : slice_index old.items place ≡ item) (long : length new.items + 1 ≡ length old.items) (same_room : vec_capacity new ≡ vec_capacity old)
    (moved : (d : ℕ) → place + 1 < length old.items → get_or new.items place d ≡ get_or old.items (length old.items - 1) d) (stays : (k : ℕ) (d : ℕ) → k ≢ place → k + 1 < length old.items → get_or new.items k d ≡ get_or old.items k d) where
  others_stay : (i : ℕ) → i ≢ item → Contains old.items i → Contains new.items i
  others_stay i differs at =
      let there : at.0 < length old.items = at.1 in
      let is : get_or old.items at.0 i ≡ i = at.2 in
      let apart : at.0 ≢ place = λ same. differs (sym is ∙ ap (λ k. get_or old.items k i) same ∙ get_or_default old.items place i 0 inside ∙ here) in
      ⊎_elim
      (λ (low : at.0 + 1 < length old.items). (at.0, omega arith, stays at.0 i apart low ∙ is))
      (λ (high : length old.items ≤ at.0 + 1).
      let last : length old.items - 1 ≡ at.0 = omega arith in
      let before : place + 1 < length old.items = omega (arith, apart) in
      (place, omega arith, moved i before ∙ ap (λ k. get_or old.items k i) last ∙ is))
      (cases_lt (at.0 + 1) (length old.items))

  only_old : All (λ (i : ℕ). Contains old.items i) new.items
  only_old = All-from_get_or (λ (i : ℕ). Contains old.items i) new.items 0 (λ k below. ⊎_elim
      (λ (same : k ≡ place).
      let before : place + 1 < length old.items = omega arith in
      subst (λ (i : ℕ). Contains old.items i) (sym (ap (λ j. get_or new.items j 0) same ∙ moved 0 before)) (Contains-get_or old.items (length old.items - 1) 0 (omega arith)))
      (λ (else : k ≢ place). subst (λ (i : ℕ). Contains old.items i) (sym (stays k 0 else (omega arith))) (Contains-get_or old.items k 0 (omega arith)))
      (cases_eq k place))

  pub taken_out : TakesOut item old new
  taken_out = record { others = others_stay; only = only_old; fewer = omega arith; room = same_room }

-- nothing is taken out
pub none_out : (item : ℕ) (old : Vec ℕ Global) → TakesOut item old old
none_out item old = record { others = λ i differs at. at; only = All-contains_itself old.items; fewer = omega arith; room = refl }

-- ---- some are added

abbrev From : ℕ → ℕ → List ℕ → ℕ → Type 0
From first count items i = Contains items i ⊎ ((n : ℕ) × (n < count) × (i ≡ first + n))

module _ (first count : ℕ) where
  pub none_added : (P : ℕ → Type 0) (old : Vec ℕ Global) → ((n : ℕ) → n < count → ¬ (P n)) → Adds first count P old old
  none_added P old none = record {
    kept = λ i at. at;
    added = λ n below holds. absurd (none n below holds);
    only = All-weaker (λ (i : ℕ). Contains old.items i) (From first count old.items) (λ i at. inl at) old.items (All-contains_itself old.items);
  }

  -- one more, which is a node of these
  pub one_added : (P : ℕ → Type 0) (old new : Vec ℕ Global) (h : ℕ) → h < count → new.items ≡ old.items ++ (first + h) ∷ [] → ((n : ℕ) → P n → n ≡ h) → Adds first count P old new
  one_added P old new h inside pushed that = record {
    kept = λ i at. subst (λ (l : List ℕ). Contains l i) (sym pushed) (Contains-append_left old.items ((first + h) ∷ []) i at);
    added = λ n below holds. subst (λ (l : List ℕ). Contains l (first + n)) (sym pushed) (subst (λ (k : ℕ). Contains (old.items ++ (first + h) ∷ []) (first + k)) (sym (that n holds)) (Contains-push old.items (first + h)));
    only = subst (All (From first count old.items)) (sym pushed) (All-weaker (λ (i : ℕ). Contains (old.items ++ (first + h) ∷ []) i) (From first count old.items) (λ i at. ⊎_elim
        (λ (one : Contains old.items i). inl one)
        (λ (last : first + h ≡ i). inr (h, inside, sym last))
        (Contains-push_cases old.items (first + h) i at)) (old.items ++ (first + h) ∷ []) (All-contains_itself (old.items ++ (first + h) ∷ [])));
  }

  -- some, and then others
  pub both_added : (P Q R : ℕ → Type 0) (old mid new : Vec ℕ Global) → Adds first count P old mid → Adds first count Q mid new → ((n : ℕ) → n < count → R n → P n ⊎ Q n) → Adds first count R old new
  both_added P Q R old mid new one two either = record {
    kept = λ i at. two.kept i (one.kept i at);
    added = λ n below holds. ⊎_elim (λ (p : P n). two.kept (first + n) (one.added n below p)) (λ (q : Q n). two.added n below q) (either n below holds);
    only = All-weaker (From first count mid.items) (From first count old.items) (λ i from. ⊎_elim
        (λ (at : Contains mid.items i). All-contains (From first count old.items) mid.items i one.only at)
        (λ (node : (n : ℕ) × (n < count) × (i ≡ first + n)). inr node)
        from) new.items two.only;
  }

-- ---- so many nodes, one after the other

-- more nodes, none of which is added
pub more_nodes : (first count more : ℕ) (P Q : ℕ → Type 0) (old new : Vec ℕ Global) → count ≤ more → Adds first count P old new → ((n : ℕ) → n < more → Q n → (n < count) × P n) → Adds first more Q old new
more_nodes first count more P Q old new low adds of = record {
  kept = adds.kept;
  added = λ n below holds. let p = of n below holds in adds.added n p.0 p.1;
  only = All-weaker (From first count old.items) (From first more old.items) (λ i from. ⊎_elim
      (λ (at : Contains old.items i). inl at)
      (λ (node : (n : ℕ) × (n < count) × (i ≡ first + n)). inr (node.0, omega (arith, node.1), node.2))
      from) new.items adds.only;
}

module _ (first n : ℕ) (P : ℕ → Type 0) (old mid : Vec ℕ Global) (adds : Adds first n P old mid) where
  pub next_added : (new : Vec ℕ Global) → new.items ≡ mid.items ++ (first + n) ∷ [] → Adds first (n + 1) P old new
  next_added new pushed =
      let wide = more_nodes first n (n + 1) P (λ k. (k < n) × P k) old mid (omega arith) adds (λ k below holds. holds) in
      let one = one_added first (n + 1) (λ k. k ≡ n) mid new n (omega arith) pushed (λ k same. same) in
      both_added first (n + 1) (λ k. (k < n) × P k) (λ k. k ≡ n) P old mid new wide one (λ k below holds. ⊎_elim
      (λ (low : k < n). inl (low, holds))
      (λ (high : n ≤ k). let e : k ≡ n = omega arith in inr e)
      (cases_lt k n))

  pub next_passed : ¬ (P n) → Adds first (n + 1) P old mid
  next_passed not = more_nodes first n (n + 1) P P old mid (omega arith) adds (λ k below holds. ⊎_elim
      (λ (low : k < n). (low, holds))
      (λ (high : n ≤ k). let e : k ≡ n = omega arith in absurd (not (subst P e holds)))
      (cases_lt k n))
