-- Placed buffers before a cut and behind it.
use Rattle.std.proofs.Common.{◌≡◌, ℕ, ◌+◌, ◌-◌, ◌<◌, ◌≤◌, List, [], ◌∷◌, ◌++◌, length, get_or, reverse, All, IsPermutation, refl, sym, ◌∙◌, arith}
use Rattle.std.specs.List.{insert}
use Rattle.std.proofs.lemmas.List.{append_assoc, reverse-append, get_or_default, get_or_append_left, get_or-append-add, get_or-append_right, length-append, take_at, drop_at}
use Rattle.std.proofs.lemmas.List.Sorted.{IsPermutation-insert, IsNonDecreasingBy-insert}
use Rattle.placement.specs.Placing.{Rise}
use Rattle.placement.specs.declared.gap.Placed.{Placed}

module _ (low rest : List Placed) where
  module _ (offset : ℕ) (rising : Rise (low ++ rest)) where
    -- where the last one before the cut begins below the offset, all before the cut do
    pub low_below : (last : Placed) (n : ℕ) → n + 1 ≡ length low → last ≡ get_or low n last → last.offset < offset → All (λ (p : Placed). p.offset < offset) low
    low_below last n long is below = λ k e inside.
        let up = rising k n e (omega arith) (rw length-append (omega arith)) in
        let one = get_or_append_left low rest e k inside in
        let end = get_or_append_left low rest e n (omega arith) in
        let same : get_or low n e ≡ last = get_or_default low n e last (omega arith) ∙ sym is in
        let high : (get_or low k e).offset ≤ last.offset = rw (one, end, same) at up in
        omega arith

    -- where the first one behind it begins at the offset or behind, all behind the cut do
    pub rest_behind : (first : Placed) → 0 < length rest → first ≡ get_or rest 0 first → offset ≤ first.offset → All (λ (p : Placed). offset ≤ p.offset) rest
    rest_behind first some is behind = λ k e inside.
        let up = rising (length low + 0) (length low + k) e (omega arith) (rw length-append (omega arith)) in
        let start = get_or-append-add low rest 0 e in
        let other = get_or-append-add low rest k e in
        let same : get_or rest 0 e ≡ first = get_or_default rest 0 e first some ∙ sym is in
        let high : first.offset ≤ (get_or rest k e).offset = rw (start, other, same) at up in
        omega arith

  -- the cut moves behind a buffer
  pub same_order : (next : Placed) → (low ++ next ∷ []) ++ reverse rest ≡ low ++ reverse (rest ++ next ∷ [])
  same_order next = rw (reverse-append rest (next ∷ [])) (append_assoc low (next ∷ []) (reverse rest))

  -- a buffer joins at the cut
  module _ (next : Placed) where
    inserted : (low ++ next ∷ []) ++ rest ≡ insert (low ++ rest) (length low) next
    inserted = rw (take_at low rest (length low) refl, drop_at low rest (length low) refl) (append_assoc low (next ∷ []) rest)

    pub only_joins : IsPermutation (next ∷ (low ++ rest)) ((low ++ next ∷ []) ++ rest)
    only_joins = rw inserted (IsPermutation-insert (low ++ rest) (length low) next)

    pub still_rises : Rise (low ++ rest) → All (λ (p : Placed). p.offset < next.offset) low → All (λ (p : Placed). next.offset ≤ p.offset) rest → Rise ((low ++ next ∷ []) ++ rest)
    still_rises rising below behind =
        rw inserted (IsNonDecreasingBy-insert (λ (p : Placed). p.offset) (low ++ rest) (length low) next rising (rw length-append (omega arith))
        (λ k d before. let low_at = get_or_append_left low rest d k before in let b = below k d before in rw low_at (omega arith))
        (λ k d after within.
        let rest_at = get_or-append_right low rest (length low) k d refl after in
        let long : length (low ++ rest) ≡ length low + length rest = length-append low rest in
        let b = behind (k - length low) d (omega arith) in
        rw rest_at b))
