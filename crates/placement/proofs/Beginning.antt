-- What was in the way of the last buffer is in the way of the next one too.
use Rattle.std.proofs.Common.{◌≡◌, ℕ, ◌+◌, ◌-◌, ◌*◌, ◌/◌, ◌%◌, ◌^◌, ◌<◌, ◌≤◌, inl, inr, ⊎_elim, List, length, slice_index, bit_and, w64, min, All, Any, ap, ◌∙◌, arith}
use Rattle.std.proofs.lemmas.Bool.{cases_lt, cases_eq}
use Rattle.std.proofs.lemmas.List.{get_or_past}
use Rattle.std.proofs.lemmas.Nat.{and_le_l}
use Rattle.std.proofs.lemmas.Nat.Bits.{bit_at_and, bit_at_not, bit_at-lt, bit_at-zero, bit_at_clear_same, bit_at_clear_other}
use Rattle.std.specs.Int.{bit_at, bit_not}
use Rattle.placement_checker.specs.Rows.{RowHas}
use Rattle.placement.specs.Placing.{Blocks, IsLast, IsShut, StandsAt}
use Rattle.placement.specs.declared.gap.Placed.{Placed}

-- clearing a bit that is set makes the word smaller, and leaves the other bits
pub cleared : (word k : ℕ) → k < 64 → bit_at word k ≡ 1
    → let left = bit_and word (bit_not w64 (1 * 2 ^ k % 2 ^ 64)) in
    (left < word) × ((j : ℕ) → j < 64 → (j ≡ k → ⊥) → bit_at left j ≡ bit_at word j)
cleared word k within set =
    let left : ℕ = bit_and word (bit_not w64 (1 * 2 ^ k % 2 ^ 64)) in
    let gone : bit_at left k ≡ 0 = bit_at_clear_same w64 word k within in (
      elim (cases_eq left word) [
        | inl same ↦ absurd (let both : bit_at left k ≡ bit_at word k = ap (λ x. bit_at x k) same in omega arith)
        | inr other ↦ omega (arith, and_le_l word (bit_not w64 (1 * 2 ^ k % 2 ^ 64)))
      ],
      λ j small other. bit_at_clear_other w64 word k within j small other,
    )

-- a bit that one word has and another hasn't
pub gained_bit : (x y k : ℕ) → y < 2 ^ 64 → k < 64 → bit_at x k ≡ 1 → (bit_at y k ≡ 1 → ⊥) → bit_at (bit_and x (2 ^ 64 - 1 - y)) k ≡ 1
gained_bit x y k fits below has lacks =
    let both : bit_at (bit_and x (2 ^ 64 - 1 - y)) k ≡ min (bit_at x k) (1 - bit_at y k) = bit_at_and x (2 ^ 64 - 1 - y) k ∙ ap (λ (b : ℕ). min (bit_at x k) b) (bit_at_not w64 y k fits below) in
    let low = bit_at-lt y k in
    elim (cases_eq (bit_at y k) 1) [
      | inl on ↦ absurd (lacks on)
      | inr off ↦ omega arith
    ]

-- a bit that a row has lies in one of its words
pub has_within : (row : List ℕ) (bit : ℕ) → RowHas row bit → bit / 64 < length row
has_within row bit has = ⊎_elim
    (λ (inside : bit / 64 < length row). inside)
    (λ (past : length row ≤ bit / 64).
    let zero_word : slice_index row (bit / 64) ≡ 0 = get_or_past row (bit / 64) 0 past in
    let none = rw (zero_word, bit_at-zero (bit % 64)) at has in
    absurd (omega arith))
    (cases_lt (bit / 64) (length row))

module _ (row last_row : List ℕ) (size : ℕ) (placed : List Placed) (offsets sizes : List ℕ) (last : Placed) (is : IsLast last_row placed last) (as_large : last.end - last.offset ≡ size) (standing : All (StandsAt offsets sizes) placed)
    (least : ℕ) (low : least ≤ last.offset)
    (shut : (e : ℕ) → e < length offsets → RowHas last_row e → (RowHas row e → ⊥) → IsShut (RowHas row) size placed (slice_index offsets e) (slice_index offsets e + slice_index sizes e) least)
  where
    -- what was in the way of the last one is in the way still, or else what shuts its cells is
    pub still_blocked : (lower : ℕ) → lower < least → Any (Blocks (RowHas row) size lower) placed
    still_blocked lower below =
        let some = rw as_large at (is.blocked lower (omega arith)) in
        let at = rw some.3 at (standing some.0 some.1 some.2) in
        let begins = at.begins in
        let ends = at.ends in
        let reaches = some.4.1 in
        let covers = some.4.2 in
        elim (cases_eq (bit_at (slice_index row (some.1.number / 64)) (some.1.number % 64)) 1) [
          | inl has ↦ (some.0, some.1, some.2, some.3, (has, reaches, covers))
          | inr lacks ↦ shut some.1.number at.there some.4.0 lacks lower below (omega arith) (omega arith)
        ]

    -- and up to the end of the last one, where that is in the way
    pub blocked_to_end : last.offset ≤ least → RowHas row last.number → (lower : ℕ) → lower < last.end → Any (Blocks (RowHas row) size lower) placed
    blocked_to_end all related lower below = ⊎_elim
        (λ (early : lower < least). still_blocked lower early)
        (λ (later : least ≤ lower).
        let there = is.there in
        let filled = is.filled in
        (there.0, there.1, there.2, there.3, rw there.4 (related, omega arith, below)))
        (cases_lt lower least)
