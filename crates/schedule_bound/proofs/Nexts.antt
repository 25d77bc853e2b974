-- The least node that a heaviest path goes on to, one edge more.
use Rattle.std.proofs.Common.{◌≡◌, ℕ, zero, suc, ◌+◌, ◌<◌, ◌≤◌, ⊎_elim, List, [], ◌∷◌, ◌++◌, Option, Some, None, min, length, take, set, get_or, arith, refl, sym, ap, subst, ◌∙◌, slice_index}
use Rattle.std.specs.Prelude.{MatchOption}
use Rattle.std.specs.List.{Contains}
use Rattle.std.proofs.lemmas.List.Elements.{Contains-append_left, Contains-append_right, Contains-append_cases}
use Rattle.std.proofs.lemmas.Bool.{cases_lt, cases_eq}
use Rattle.std.proofs.lemmas.List.{take_more, length-set, get_or-set_same, get_or-set_other}
use Rattle.schedule_bound.specs.Critical.{IsLeastNext, AreNext}

only_edge : (e f : ℕ × ℕ) → Contains (e ∷ []) f → e ≡ f
only_edge e f (zero, lt, is) = is
only_edge e f (suc k, lt, is) = absurd (omega arith)

module _ (edges : List (ℕ × ℕ)) (costs priority : List ℕ) (t h : ℕ) where
  -- the edge isn't the node's, or its heaviest path doesn't go over it
  pub next_same : (n : ℕ) (next : Option ℕ) → (n ≡ t → slice_index priority n ≡ slice_index costs n + slice_index priority h → ⊥) → IsLeastNext edges costs priority n next → IsLeastNext (edges ++ (t, h) ∷ []) costs priority n next
  next_same n None off old = λ m goes. ⊎_elim
      (λ (before : Contains edges (n, m)). old m (before, goes.1))
      (λ (here : Contains ((t, h) ∷ []) (n, m)). let same = only_edge (t, h) (n, m) here in off (ap (λ (e : ℕ × ℕ). e.0) (sym same)) (goes.1 ∙ ap (λ (e : ℕ × ℕ). slice_index costs n + slice_index priority e.1) (sym same)))
      (Contains-append_cases edges ((t, h) ∷ []) (n, m) goes.0)
  next_same n (Some m) off old = (
    (Contains-append_left edges ((t, h) ∷ []) (n, m) old.0.0, old.0.1),
    λ k goes. ⊎_elim
        (λ (before : Contains edges (n, k)). old.1 k (before, goes.1))
        (λ (here : Contains ((t, h) ∷ []) (n, k)). let same = only_edge (t, h) (n, k) here in absurd (off (ap (λ (e : ℕ × ℕ). e.0) (sym same)) (goes.1 ∙ ap (λ (e : ℕ × ℕ). slice_index costs n + slice_index priority e.1) (sym same))))
        (Contains-append_cases edges ((t, h) ∷ []) (n, k) goes.0),
  )

  -- it goes over it
  pub next_less : (next : Option ℕ) (r : ℕ) → slice_index priority t ≡ slice_index costs t + slice_index priority h → MatchOption next (r ≡ h) (λ m. r ≡ min m h) → IsLeastNext edges costs priority t next
      → IsLeastNext (edges ++ (t, h) ∷ []) costs priority t (Some r)
  next_less None r heavy is old = (
    (rw is (Contains-append_right edges ((t, h) ∷ []) (t, h) (0, omega arith, refl)), rw is heavy),
    λ k goes. ⊎_elim
        (λ (before : Contains edges (t, k)). absurd (old k (before, goes.1)))
        (λ (here : Contains ((t, h) ∷ []) (t, k)). let same : h ≡ k = ap (λ (e : ℕ × ℕ). e.1) (only_edge (t, h) (t, k) here) in omega arith)
        (Contains-append_cases edges ((t, h) ∷ []) (t, k) goes.0),
  )
  next_less (Some m) r heavy is old = (
    ⊎_elim
        (λ (less : m < h). let own : r ≡ m = omega arith in rw own (Contains-append_left edges ((t, h) ∷ []) (t, m) old.0.0, old.0.1))
        (λ (more : h ≤ m). let own : r ≡ h = omega arith in rw own (Contains-append_right edges ((t, h) ∷ []) (t, h) (0, omega arith, refl), heavy))
        (cases_lt m h),
    λ k goes. ⊎_elim
        (λ (before : Contains edges (t, k)). let le = old.1 k (before, goes.1) in omega arith)
        (λ (here : Contains ((t, h) ∷ []) (t, k)). let same : h ≡ k = ap (λ (e : ℕ × ℕ). e.1) (only_edge (t, h) (t, k) here) in omega arith)
        (Contains-append_cases edges ((t, h) ∷ []) (t, k) goes.0),
  )

-- one edge of a list more: a node's least next changes where its heaviest path goes over it
module _ (nodes : ℕ) (edges : List (ℕ × ℕ)) (costs priority : List ℕ) (next : List (Option ℕ)) (i : ℕ) (d : ℕ × ℕ) (lt : i < length edges) (old : AreNext nodes (take i edges) costs priority next) where
  pub nexts_same : (slice_index priority (get_or edges i d).0 ≡ slice_index costs (get_or edges i d).0 + slice_index priority (get_or edges i d).1 → ⊥) → AreNext nodes (take (i + 1) edges) costs priority next
  nexts_same off = record {
    one_each = old.one_each;
    each = λ n below. rw (take_more edges i d lt) (next_same (take i edges) costs priority (get_or edges i d).0 (get_or edges i d).1 n (get_or next n None) (λ own. subst (λ k. slice_index priority k ≡ slice_index costs k + slice_index priority (get_or edges i d).1 → ⊥) (sym own) off) (old.each n below));
  }

  pub nexts_less : (r : ℕ) → (get_or edges i d).0 < nodes → slice_index priority (get_or edges i d).0 ≡ slice_index costs (get_or edges i d).0 + slice_index priority (get_or edges i d).1
      → MatchOption (get_or next (get_or edges i d).0 None) (r ≡ (get_or edges i d).1) (λ m. r ≡ min m (get_or edges i d).1) → AreNext nodes (take (i + 1) edges) costs priority (set next (get_or edges i d).0 (Some r))
  nexts_less r there heavy is =
      let t = (get_or edges i d).0 in
      let h = (get_or edges i d).1 in
      record {
        one_each = length-set next (get_or edges i d).0 (Some r) ∙ old.one_each;
        each = λ n below. ⊎_elim
            (λ (own : n ≡ t).
            let now : get_or (set next t (Some r)) n None ≡ Some r = ap (λ k. get_or (set next t (Some r)) k None) own ∙ get_or-set_same next t (Some r) None (let l = old.one_each in omega arith) in
            rw (take_more edges i d lt, now, own) (next_less (take i edges) costs priority t h (get_or next t None) r heavy is (old.each t there)))
            (λ (other : n ≡ t → ⊥).
            rw (take_more edges i d lt, get_or-set_other next t n (Some r) None other) (next_same (take i edges) costs priority t h n (get_or next n None) (λ own. absurd (other own)) (old.each n below)))
            (cases_eq n t);
      }
