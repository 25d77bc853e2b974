-- One bit of a row is written.
use Rattle.std.proofs.Common.{◌≡◌, ◌≢◌, ℕ, ◌+◌, ◌-◌, ◌*◌, ◌/◌, ◌%◌, ◌^◌, ◌<◌, ◌≤◌, ◌⊎◌, ⊎_elim, ◌↔◌, List, length, set, slice_index, bit_or, bit_and, w64, Bool, true, false, IsTrue, refl, sym, ◌∙◌, arith}
use Rattle.std.proofs.lemmas.Bool.{cases_lt, cases_eq}
use Rattle.std.proofs.lemmas.List.{get_or-set_same, get_or-set_other}
use Rattle.std.proofs.lemmas.Nat.Bits.{bit_at_set_same, bit_at_set_other, bit_at_clear_same, bit_at_clear_other}
use Rattle.std.specs.Int.{bit_at}
use Rattle.placement_checker.specs.Rows.{RowHas}

module _ (row : List ℕ) (bit word : ℕ) (inside : bit / 64 < length row) where
  written_bit : RowHas (set row (bit / 64) word) bit ↔ (bit_at word (bit % 64) ≡ 1)
  written_bit = (
    (λ has. rw (get_or-set_same row (bit / 64) word 0 inside) at has),
    (λ one. rw (get_or-set_same row (bit / 64) word 0 inside) one),
  )

  other_bits : ((k : ℕ) → k < 64 → k ≢ bit % 64 → bit_at word k ≡ bit_at (slice_index row (bit / 64)) k) → (other : ℕ) → other ≢ bit → RowHas (set row (bit / 64) word) other ↔ RowHas row other
  other_bits kept other apart = ⊎_elim
      (λ (here : other / 64 ≡ bit / 64).
      let same : bit_at word (other % 64) ≡ bit_at (slice_index row (bit / 64)) (other % 64) = kept (other % 64) (omega arith) (λ low. apart (omega arith)) in
      rw (here, get_or-set_same row (bit / 64) word 0 inside, same) ((λ has. has), (λ has. has)))
      (λ (there : other / 64 ≢ bit / 64). rw (get_or-set_other row (bit / 64) (other / 64) word 0 there) ((λ has. has), (λ has. has)))
      (cases_eq (other / 64) (bit / 64))

module _ (row : List ℕ) (bit : ℕ) (inside : bit / 64 < length row) where
  abbrev with_bit : List ℕ
  with_bit = set row (bit / 64) (bit_or (slice_index row (bit / 64)) (1 * 2 ^ (bit % 64) % 2 ^ 64))

  abbrev without_bit : List ℕ
  without_bit = set row (bit / 64) (bit_and (slice_index row (bit / 64)) (2 ^ 64 - 1 - 1 * 2 ^ (bit % 64) % 2 ^ 64))

  pub bit_set : (on : Bool) → on ≡ true → RowHas with_bit bit ↔ IsTrue on
  bit_set on is = (
    (λ has. is),
    (λ also. (written_bit row bit _ inside).1 (bit_at_set_same w64 (slice_index row (bit / 64)) (bit % 64) (omega arith))),
  )

  pub bit_cleared : (on : Bool) → on ≡ false → RowHas without_bit bit ↔ IsTrue on
  bit_cleared on is = (
    (λ has. let one = (written_bit row bit _ inside).0 has in let none = bit_at_clear_same w64 (slice_index row (bit / 64)) (bit % 64) (omega arith) in absurd (omega arith)),
    (λ also. absurd (let both : true ≡ false = sym also ∙ is in cc)),
  )

  pub others_beside_set : (other : ℕ) → other ≢ bit → RowHas with_bit other ↔ RowHas row other
  others_beside_set = other_bits row bit _ inside (λ k below apart. bit_at_set_other w64 (slice_index row (bit / 64)) (bit % 64) (omega arith) k apart)

  pub others_beside_cleared : (other : ℕ) → other ≢ bit → RowHas without_bit other ↔ RowHas row other
  others_beside_cleared = other_bits row bit _ inside (λ k below apart. bit_at_clear_other w64 (slice_index row (bit / 64)) (bit % 64) (omega arith) k below apart)
