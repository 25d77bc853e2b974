-- Nodes that wait for one node less, one node more.
use Rattle.std.proofs.Common.{◌≡◌, ℕ, zero, suc, ◌+◌, ◌-◌, ◌<◌, ◌≤◌, inl, inr, ⊎_elim, Bool, true, false, cond, ltb, List, [], ◌∷◌, ◌++◌, max, length, set, get_or, take, slice_index, arith, refl, ap, sym, ◌∙◌}
use Rattle.std.specs.List.{Contains}
use Rattle.std.proofs.lemmas.List.{length-set, get_or-set_same, get_or-set_other, take_more}
use Rattle.std.proofs.lemmas.List.Elements.{Contains-push, Contains-push_cases, Contains-append_left}
use Rattle.std.proofs.lemmas.Bool.{cases_eq, eq-eqb, ne_eqb, lt-ltb}
use Rattle.sdf_level.specs.Lists.{occurrences}
use Rattle.sdf_level.proofs.Regrouped.{occurrences-take}
use Rattle.worker_mapping.specs.Release.{Releases}

pub occurrences-push : (a : ℕ) (xs : List ℕ) (b : ℕ) → occurrences a (xs ++ b ∷ []) ≡ occurrences a xs + occurrences a (b ∷ [])
occurrences-push a [] b = omega arith
occurrences-push a (x ∷ xs) b = let rest = occurrences-push a xs b in omega arith

pub occurrences-own : (n : ℕ) → occurrences n (n ∷ []) ≡ 1
occurrences-own n = rw (eq-eqb n n refl)

pub occurrences-other : (n x : ℕ) → (x ≡ n → ⊥) → occurrences n (x ∷ []) ≡ 0
occurrences-other n x h = rw (ne_eqb x n h)

-- an element that isn't the number
pub occurrences-skip : (n x : ℕ) (xs : List ℕ) → (x ≡ n → ⊥) → occurrences n (x ∷ xs) ≡ occurrences n xs
occurrences-skip n x xs other = rw (ne_eqb x n other) (omega arith)

-- an element that follows is not counted yet
pub occurrences-take-lt : (xs : List ℕ) (i : ℕ) → i < length xs → occurrences (get_or xs i 0) (take i xs) < occurrences (get_or xs i 0) xs
occurrences-take-lt xs i h =
    let n : ℕ = get_or xs i 0 in
    let more = ap (occurrences n) (take_more xs i 0 h) ∙ occurrences-push n (take i xs) n in
    let one = occurrences-own n in
    let all = occurrences-take n (i + 1) xs in
    omega arith

-- a number that is counted stands in the list
pub Contains-from_occurrences : (n : ℕ) (xs : List ℕ) → 0 < occurrences n xs → Contains xs n
Contains-from_occurrences n [] h = absurd (omega arith)
Contains-from_occurrences n (x ∷ xs) h = ⊎_elim
    (λ (same : x ≡ n). (0, omega arith, same))
    (λ (other : x ≡ n → ⊥). let later = Contains-from_occurrences n xs (let skip = occurrences-skip n x xs other in omega arith) in (suc later.0, (let k = later.1 in omega arith), later.2))
    (cases_eq x n)

pub occurrences-from_Contains : (n : ℕ) (xs : List ℕ) → Contains xs n → 0 < occurrences n xs
occurrences-from_Contains n [] h = let k = h.1 in absurd (omega arith)
occurrences-from_Contains n (x ∷ xs) h = ⊎_elim
    (λ (same : x ≡ n). rw (eq-eqb x n same) (omega arith))
    (λ (other : x ≡ n → ⊥). let later = occurrences-from_Contains n xs (go h.0 h.1 h.2 other) in let skip = occurrences-skip n x xs other in omega arith)
    (cases_eq x n) where
      go : (k : ℕ) → k < length (x ∷ xs) → get_or (x ∷ xs) k n ≡ n → (x ≡ n → ⊥) → Contains xs n
      go zero below at other = absurd (other at)
      go (suc k) below at other = (k, omega arith, at)

module _ (heads : List ℕ) (end : ℕ) (waiting ready candidates waiting' ready' candidates' : List ℕ) (h : Releases heads end waiting ready candidates waiting' ready' candidates') (n : ℕ) (inside : n < length waiting') (inside_ready : n < length ready') (enough : 0 < slice_index waiting' n) where
  waiting-own : slice_index (set waiting' n (slice_index waiting' n - 1)) n ≡ slice_index waiting' n - 1
  waiting-own = get_or-set_same waiting' n (slice_index waiting' n - 1) 0 inside

  waiting-other : (m : ℕ) → (n ≡ m → ⊥) → slice_index (set waiting' n (slice_index waiting' n - 1)) m ≡ slice_index waiting' m
  waiting-other m o = get_or-set_other waiting' n m (slice_index waiting' n - 1) 0 (λ q. o (sym q))

  waits_each : (m : ℕ) → slice_index (set waiting' n (slice_index waiting' n - 1)) m + occurrences m (heads ++ n ∷ []) ≡ slice_index waiting m
  waits_each m = ⊎_elim
      (λ (own : n ≡ m). rw (← own) (let k = h.waiting_each n in let a = occurrences-push n heads n in let b = occurrences-own n in let w = waiting-own in omega arith))
      (λ (other : n ≡ m → ⊥). (let k = h.waiting_each m in let a = occurrences-push m heads n in let b = occurrences-other m n other in let w = waiting-other m other in omega arith))
      (cases_eq n m)

  ready-each : (m : ℕ) → slice_index (set ready' n (max (slice_index ready' n) end)) m ≡ max (slice_index ready m) (cond (ltb 0 (occurrences m (heads ++ n ∷ []))) end 0)
  ready-each m = ⊎_elim
      (λ (own : n ≡ m).
      let a = occurrences-push n heads n in
      let b = occurrences-own n in
      let positive : ltb 0 (occurrences n (heads ++ n ∷ [])) ≡ true = lt-ltb 0 (occurrences n (heads ++ n ∷ [])) (omega arith) in
      let now = get_or-set_same ready' n (max (slice_index ready' n) end) 0 inside_ready in
      let k = h.ready_each n in
      let small = cond-le (ltb 0 (occurrences n heads)) end in
      rw (← own, positive, now) (omega arith))
      (λ (other : n ≡ m → ⊥).
      let a = occurrences-push m heads n in
      let b = occurrences-other m n other in
      let same : occurrences m (heads ++ n ∷ []) ≡ occurrences m heads = omega arith in
      rw (same, get_or-set_other ready' n m (max (slice_index ready' n) end) 0 (λ q. other (sym q))) (h.ready_each m))
      (cases_eq n m) where
        cond-le : (b : Bool) (x : ℕ) → cond b x 0 ≤ x
        cond-le true x = omega arith
        cond-le false x = omega arith

  -- it waits for another node still
  pub Releases-waits : 1 < slice_index waiting' n → Releases (heads ++ n ∷ []) end waiting ready candidates (set waiting' n (slice_index waiting' n - 1)) (set ready' n (max (slice_index ready' n) end)) candidates'
  Releases-waits more = record {
    waiting_long = length-set waiting' n (slice_index waiting' n - 1) ∙ h.waiting_long;
    waiting_each = waits_each;
    ready_long = length-set ready' n (max (slice_index ready' n) end) ∙ h.ready_long;
    ready_each = ready-each;
    candidates_each = λ m. (
      (λ now. ⊎_elim
          (λ (old : Contains candidates m). inl old)
          (λ (free : Contains heads m × (slice_index waiting' m ≡ 0)).
          let f = free.1 in
          let other : n ≡ m → ⊥ = (λ (e : n ≡ m). let g : slice_index waiting' n ≡ 0 = rw e f in omega arith) in
          inr (Contains-append_left heads (n ∷ []) m free.0, waiting-other m other ∙ f))
          ((h.candidates_each m).0 now)),
      (λ at. (h.candidates_each m).1 (⊎_elim
          (λ (old : Contains candidates m). inl old)
          (λ (free : Contains (heads ++ n ∷ []) m × (slice_index (set waiting' n (slice_index waiting' n - 1)) m ≡ 0)).
          let f = free.1 in
          ⊎_elim
          (λ (early : Contains heads m). ⊎_elim
          (λ (e : n ≡ m). absurd (let g : slice_index (set waiting' n (slice_index waiting' n - 1)) n ≡ 0 = rw (← e) at f in let w = waiting-own in omega arith))
          (λ (other : n ≡ m → ⊥). inr (early, sym (waiting-other m other) ∙ f))
          (cases_eq n m))
          (λ (e : n ≡ m). absurd (let g : slice_index (set waiting' n (slice_index waiting' n - 1)) n ≡ 0 = rw (← e) at f in let w = waiting-own in omega arith))
          (Contains-push_cases heads n m free.0))
          at)),
    );
  }

  -- it waits for none
  pub Releases-frees : slice_index waiting' n ≡ 1 → Releases (heads ++ n ∷ []) end waiting ready candidates (set waiting' n (slice_index waiting' n - 1)) (set ready' n (max (slice_index ready' n) end)) (candidates' ++ n ∷ [])
  Releases-frees last = record {
    waiting_long = length-set waiting' n (slice_index waiting' n - 1) ∙ h.waiting_long;
    waiting_each = waits_each;
    ready_long = length-set ready' n (max (slice_index ready' n) end) ∙ h.ready_long;
    ready_each = ready-each;
    candidates_each = λ m. (
      (λ now. ⊎_elim
          (λ (had : Contains candidates' m). ⊎_elim
          (λ (old : Contains candidates m). inl old)
          (λ (free : Contains heads m × (slice_index waiting' m ≡ 0)).
          let f = free.1 in
          let other : n ≡ m → ⊥ = (λ (e : n ≡ m). let g : slice_index waiting' n ≡ 0 = rw e f in omega arith) in
          inr (Contains-append_left heads (n ∷ []) m free.0, waiting-other m other ∙ f))
          ((h.candidates_each m).0 had))
          (λ (e : n ≡ m). inr (rw (← e) (Contains-push heads n), rw (← e) (let w = waiting-own in omega arith)))
          (Contains-push_cases candidates' n m now)),
      (λ at. ⊎_elim
          (λ (e : n ≡ m). rw (← e) (Contains-push candidates' n))
          (λ (other : n ≡ m → ⊥). Contains-append_left candidates' (n ∷ []) m ((h.candidates_each m).1 (⊎_elim
          (λ (old : Contains candidates m). inl old)
          (λ (free : Contains (heads ++ n ∷ []) m × (slice_index (set waiting' n (slice_index waiting' n - 1)) m ≡ 0)). ⊎_elim
          (λ (early : Contains heads m). inr (early, sym (waiting-other m other) ∙ free.1))
          (λ (e : n ≡ m). absurd (other e))
          (Contains-push_cases heads n m free.0))
          at)))
          (cases_eq n m)),
    );
  }

pub Releases-none : (end : ℕ) (waiting ready candidates : List ℕ) → Releases [] end waiting ready candidates waiting ready candidates
Releases-none end waiting ready candidates = record {
  waiting_long = refl;
  waiting_each = λ n. omega arith;
  ready_long = refl;
  ready_each = λ n. omega arith;
  candidates_each = λ n. ((λ now. inl now), (λ at. ⊎_elim (λ (old : Contains candidates n). old) (λ (free : Contains [] n × (slice_index waiting n ≡ 0)). let k = free.0.1 in absurd (omega arith)) at));
}
