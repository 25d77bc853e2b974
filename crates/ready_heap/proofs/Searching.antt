-- The first set bit from one on.
use Rattle.std.proofs.Common.{◌≡◌, ◌≢◌, ℕ, ◌+◌, ◌-◌, ◌*◌, ◌/◌, ◌%◌, ◌^◌, ◌<◌, ◌≤◌, min, ⊎_elim, List, length, slice_index, bit_and, w64, sym, ap, ◌∙◌, arith}
use Rattle.std.specs.Prelude.{Some, None, Option}
use Rattle.std.proofs.Math.Nat.{div-mul-le_self}
use Rattle.std.proofs.lemmas.Bool.{cases_lt, cases_eq}
use Rattle.std.proofs.lemmas.Nat.Bits.{bit_at_and, bit_at-lt, bit_at_mask_inside, bit_at_mask_below, ones_shl, and_high_mask, bit_at-zero, bit_at-trailing_zeros}
use Rattle.std.specs.Int.{bit_at, trailing_zeros}
use Rattle.ready_heap.specs.Bits.{IsNextInWord, IsSet, IsNext, IsSummary}
use Rattle.ready_heap.proofs.Writing.{set_inside}

-- ---- in a word

module _ (word from : ℕ) (fits : word < 2 ^ 64) (inside : from < 64) where
  abbrev masked : ℕ
  masked = bit_and word (18446744073709551615 * 2 ^ from % 2 ^ 64)

  mask_is : 18446744073709551615 * 2 ^ from % 2 ^ 64 ≡ 2 ^ 64 - 2 ^ from
  mask_is = ones_shl 64 from (omega arith)

  masked_fits : masked < 2 ^ 64
  masked_fits =
      let is : masked ≡ word / 2 ^ from * 2 ^ from = ap (bit_and word) mask_is ∙ and_high_mask 64 from (omega arith) word fits in
      let low = div-mul-le_self word (2 ^ from) in
      omega arith

  masked_above : (k : ℕ) → from ≤ k → k < 64 → bit_at masked k ≡ bit_at word k
  masked_above k up below =
      let both : bit_at masked k ≡ min (bit_at word k) (bit_at (2 ^ 64 - 2 ^ from) k) = rw mask_is (bit_at_and word (2 ^ 64 - 2 ^ from) k) in
      let one = bit_at_mask_inside from 64 k up below in
      let small = bit_at-lt word k in
      omega arith

  masked_below : (k : ℕ) → k < from → bit_at masked k ≡ 0
  masked_below k down =
      let both : bit_at masked k ≡ min (bit_at word k) (bit_at (2 ^ 64 - 2 ^ from) k) = rw mask_is (bit_at_and word (2 ^ 64 - 2 ^ from) k) in
      let none = bit_at_mask_below from 64 k down in
      omega arith

  pub none_in_word : masked ≡ 0 → IsNextInWord word from None
  none_in_word none k up below one =
      let same = masked_above k up below in
      let zero_bit : bit_at masked k ≡ 0 = ap (λ w. bit_at w k) none ∙ bit_at-zero k in
      omega arith

  pub next_of_word : masked ≢ 0 → IsNextInWord word from (Some (trailing_zeros w64 masked))
  next_of_word more =
      let lowest = bit_at-trailing_zeros w64 masked (omega arith) masked_fits in
      let first : ℕ = trailing_zeros w64 masked in
      let up : from ≤ first = ⊎_elim
      (λ (below : first < from). let none = masked_below first below in let one = lowest.1 in absurd (omega arith))
      (λ (above : from ≤ first). above)
      (cases_lt first from) in (
        up,
        lowest.0,
        sym (masked_above first up lowest.0) ∙ lowest.1,
        λ i above below one.
            let small = lowest.0 in
            let same = masked_above i above (omega arith) in
            let none = lowest.2 i below in
            omega arith,
      )

-- ---- in a row

-- none is set from `from` on below bit `bit` of word w
pub record IsSought (words : List ℕ) (from w bit : ℕ) : Type 0 where
  pub small : bit < 64
  pub up : from ≤ 64 * w + bit
  pub none : (k : ℕ) → from ≤ k → k < 64 * w + bit → IsSet words k → ⊥

set_bit_at : (words : List ℕ) (w k : ℕ) → k < 64 → bit_at (slice_index words w) k ≡ 1 → IsSet words (64 * w + k)
set_bit_at words w k small one =
    let word_is : (64 * w + k) / 64 ≡ w = omega arith in
    let bit_is : (64 * w + k) % 64 ≡ k = omega arith in
    rw (word_is, bit_is) one

bit_at_set : (words : List ℕ) (w i : ℕ) → i / 64 ≡ w → IsSet words i → bit_at (slice_index words w) (i % 64) ≡ 1
bit_at_set words w i here is = rw here at is

module _ (words : List ℕ) (from : ℕ) where
  pub sought_first : IsSought words from (from / 64) (from % 64)
  sought_first = record {
    small = omega arith;
    up = omega arith;
    none = λ k up below is. omega arith;
  }

  module _ (w bit : ℕ) (so_far : IsSought words from w bit) where
    pub sought_next : IsNextInWord (slice_index words w) bit None → IsSought words from (w + 1) 0
    sought_next none = record {
      small = omega arith;
      up = let up = so_far.up in let small = so_far.small in omega arith;
      none = λ k up below is. ⊎_elim
          (λ (before : k < 64 * w + bit). so_far.none k up before is)
          (λ (after : 64 * w + bit ≤ k).
          let small = so_far.small in
          let here : k / 64 ≡ w = omega arith in
          none (k % 64) (omega arith) (omega arith) (bit_at_set words w k here is))
          (cases_lt k (64 * w + bit));
    }

    pub sought_found : (k : ℕ) → IsNextInWord (slice_index words w) bit (Some k) → IsNext words from (Some (64 * w + k))
    sought_found k found =
        let up = so_far.up in
        let above = found.0 in
        let below = found.1 in (
          omega arith,
          set_bit_at words w k found.1 found.2,
          λ i from_on before is. ⊎_elim
              (λ (early : i < 64 * w + bit). so_far.none i from_on early is)
              (λ (late : 64 * w + bit ≤ i).
              let small = so_far.small in
              let here : i / 64 ≡ w = omega arith in
              found.3 (i % 64) (omega arith) (omega arith) (bit_at_set words w i here is))
              (cases_lt i (64 * w + bit)),
        )

    pub sought_none : length words ≤ w → IsNext words from None
    sought_none past k up is =
        let inside = set_inside words k is in
        so_far.none k up (omega arith) is

-- ---- by the summary

module _ (words summary : List ℕ) (is_summary : IsSummary words summary) (from : ℕ) (none_here : IsNextInWord (slice_index words (from / 64)) (from % 64) None) where
  past_word : (k : ℕ) → from ≤ k → IsSet words k → from / 64 + 1 ≤ k / 64
  past_word k up is = ⊎_elim
      (λ (here : k / 64 ≡ from / 64). absurd (none_here (k % 64) (omega arith) (omega arith) (bit_at_set words (from / 64) k here is)))
      (λ (other : k / 64 ≢ from / 64). omega arith)
      (cases_eq (k / 64) (from / 64))

  pub none_beyond : IsNext summary (from / 64 + 1) None → IsNext words from None
  none_beyond none k up is = none (k / 64) (past_word k up is) (is_summary.each k is)

  module _ (w : ℕ) (found : IsNext summary (from / 64 + 1) (Some w)) where
    pub summary_inside : w < length words
    summary_inside =
        let one = is_summary.some w found.1 in
        let inside = set_inside words one.0 one.2 in
        let here = one.1 in
        omega arith

    pub next_beyond : (result : Option ℕ) → IsNext words (64 * w) result → IsNext words from result
    next_beyond None none =
        let one = is_summary.some w found.1 in
        let here = one.1 in
        absurd (none one.0 (omega arith) one.2)
    next_beyond (Some r) next =
        let after = found.0 in
        let up = next.0 in (
          omega arith,
          next.1,
          λ i above below is.
              let word_up = past_word i above is in
              ⊎_elim
              (λ (early : i / 64 < w). found.2 (i / 64) word_up early (is_summary.each i is))
              (λ (late : w ≤ i / 64). next.2 i (omega arith) below is)
              (cases_lt (i / 64) w),
        )
