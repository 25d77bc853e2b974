-- The bits that neither of two rows has.
use Rattle.std.proofs.Common.{◌≡◌, ℕ, ◌+◌, ◌-◌, ◌*◌, ◌/◌, ◌%◌, ◌^◌, ◌<◌, ◌≤◌, ⊎_elim, ◌↔◌, List, length, set, slice_index, bit_and, w64, min, arith}
use Rattle.std.proofs.lemmas.Bool.{cases_lt}
use Rattle.std.proofs.lemmas.List.{get_or-set_same, get_or-set_other}
use Rattle.std.proofs.lemmas.Nat.Bits.{bit_at_and, bit_at_not, bit_at-lt}
use Rattle.std.specs.Int.{bit_at}
use Rattle.memory_exclusion.specs.Bits.{HasNeither}

abbrev pub neither : ℕ → ℕ → ℕ
neither x y = bit_and (2 ^ 64 - 1 - x) (2 ^ 64 - 1 - y)

neither_of : (a b : ℕ) → a < 2 → b < 2 → (min (1 - a) (1 - b) ≡ 1) ↔ ((a ≡ 1 → ⊥) × (b ≡ 1 → ⊥))
neither_of a b a_low b_low = (
  (λ both. ((λ one. omega arith), (λ one. omega arith))),
  (λ none. ⊎_elim
      (λ (a_zero : a < 1). ⊎_elim (λ (b_zero : b < 1). omega arith) (λ (b_one : 1 ≤ b). absurd (none.1 (omega arith))) (cases_lt b 1))
      (λ (a_one : 1 ≤ a). absurd (none.0 (omega arith)))
      (cases_lt a 1)),
)

neither_bit : (x y k : ℕ) → x < 2 ^ 64 → y < 2 ^ 64 → k < 64 → (bit_at (neither x y) k ≡ 1) ↔ ((bit_at x k ≡ 1 → ⊥) × (bit_at y k ≡ 1 → ⊥))
neither_bit x y k x_fits y_fits below =
    rw (bit_at_and (2 ^ 64 - 1 - x) (2 ^ 64 - 1 - y) k, bit_at_not w64 x k x_fits below, bit_at_not w64 y k y_fits below)
    (neither_of (bit_at x k) (bit_at y k) (bit_at-lt x k) (bit_at-lt y k))

module _ (one other : List ℕ) (one_start other_start : ℕ) where
  -- the first k words are written
  abbrev pub WrittenSoFar : List ℕ → ℕ → Type 0
  WrittenSoFar row k = (j : ℕ) → j < k → slice_index row j ≡ neither (slice_index one (one_start + j)) (slice_index other (other_start + j))

  pub one_more_word : (row : List ℕ) (k : ℕ) → k < length row → WrittenSoFar row k → WrittenSoFar (set row k (neither (slice_index one (one_start + k)) (slice_index other (other_start + k)))) (k + 1)
  one_more_word row k inside so_far = λ j below. ⊎_elim
      (λ (before : j < k). rw (get_or-set_other row k j (neither (slice_index one (one_start + k)) (slice_index other (other_start + k))) 0 (λ e. omega arith)) (so_far j before))
      (λ (last : k ≤ j). let here : j ≡ k = omega arith in rw here (get_or-set_same row k (neither (slice_index one (one_start + k)) (slice_index other (other_start + k))) 0 inside))
      (cases_lt j k)

pub all_written : (width one_row other_row : ℕ) (one other row : List ℕ) → ((n : ℕ) → slice_index one n < 2 ^ 64) → ((n : ℕ) → slice_index other n < 2 ^ 64) → WrittenSoFar one other (one_row * width) (other_row * width) row width → HasNeither width one one_row other other_row row
all_written width one_row other_row one other row one_fits other_fits all = λ b inside.
    rw (all (b / 64) (omega arith))
    (neither_bit (slice_index one (one_row * width + b / 64)) (slice_index other (other_row * width + b / 64)) (b % 64) (one_fits (one_row * width + b / 64)) (other_fits (other_row * width + b / 64)) (omega arith))
