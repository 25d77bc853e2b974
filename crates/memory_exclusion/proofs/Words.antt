-- One word of a row changes, and then each word of it.
use Rattle.std.proofs.Common.{◌≡◌, ◌≢◌, ℕ, ◌+◌, ◌-◌, ◌*◌, ◌/◌, ◌%◌, ◌^◌, ◌<◌, ◌≤◌, ◌⊎◌, inl, inr, ⊎_elim, List, length, set, slice_index, bit_or, bit_and, w64, sym, ◌∙◌, refl, arith, max}
use Rattle.std.proofs.lemmas.Bool.{cases_lt, cases_eq}
use Rattle.std.proofs.lemmas.List.{get_or-set_same, get_or-set_other, length-set}
use Rattle.std.proofs.lemmas.Nat.{same_from_place}
use Rattle.std.proofs.lemmas.Nat.Bits.{bit_at_or, bit_at-lt, bit_at_set_same, bit_at_set_other, bit_at_clear_same, bit_at_clear_other}
use Rattle.std.specs.Int.{bit_at}
use Rattle.memory_exclusion.specs.Bits.{AddsBit, DropsBit, AddsRow}

-- the place of a bit within its word, and its word within the row
low_bit : (b : ℕ) → b % 64 < 64
low_bit b = omega arith

word_of : (b width : ℕ) → b < 64 * width → b / 64 < width
word_of b width h = omega arith

same_bit : (b c : ℕ) → b / 64 ≡ c / 64 → b % 64 ≡ c % 64 → b ≡ c
same_bit b c q r = omega arith

max_left : (a b : ℕ) → a ≡ 1 → b < 2 → max a b ≡ 1
max_left a b e h = omega arith

max_right : (a b : ℕ) → b ≡ 1 → a < 2 → max a b ≡ 1
max_right a b e h = omega arith

max_split : (a b : ℕ) → max a b ≡ 1 → (a ≡ 1) ⊎ (b ≡ 1)
max_split a b e = ⊎_elim
    (λ (below : a < b). inr (omega arith))
    (λ (above : b ≤ a). inl (omega arith))
    (cases_lt a b)

or_left : (x y k : ℕ) → bit_at x k ≡ 1 → bit_at (bit_or x y) k ≡ 1
or_left x y k e = bit_at_or x y k ∙ max_left (bit_at x k) (bit_at y k) e (bit_at-lt y k)

or_right : (x y k : ℕ) → bit_at y k ≡ 1 → bit_at (bit_or x y) k ≡ 1
or_right x y k e = bit_at_or x y k ∙ max_right (bit_at x k) (bit_at y k) e (bit_at-lt x k)

or_split : (x y k : ℕ) → bit_at (bit_or x y) k ≡ 1 → (bit_at x k ≡ 1) ⊎ (bit_at y k ≡ 1)
or_split x y k e = max_split (bit_at x k) (bit_at y k) (sym (bit_at_or x y k) ∙ e)

module _ (words : List ℕ) (width row bit : ℕ) (long : row * width + width ≤ length words) (below : bit < 64 * width) where
  unfoldable pub place : ℕ
  place = row * width + bit / 64

  unfoldable pub with_bit : List ℕ
  with_bit = set words place (bit_or (slice_index words place) (1 * 2 ^ (bit % 64) % 2 ^ 64))

  inside : place < length words
  unfolding place
  inside = let h = word_of bit width below in omega arith

  grows : (i k : ℕ) → bit_at (slice_index words i) k ≡ 1 → bit_at (slice_index with_bit i) k ≡ 1
  unfolding with_bit
  grows i k e = ⊎_elim
      (λ (here : i ≡ place). rw (here, get_or-set_same words place (bit_or (slice_index words place) (1 * 2 ^ (bit % 64) % 2 ^ 64)) 0 inside) (or_left (slice_index words place) _ k (rw here at e)))
      (λ (other : i ≢ place). rw (get_or-set_other words place i (bit_or (slice_index words place) (1 * 2 ^ (bit % 64) % 2 ^ 64)) 0 other) e)
      (cases_eq i place)

  pub bit_added : AddsBit width words with_bit row bit
  unfolding with_bit place
  bit_added = record {
    long = length-set words place (bit_or (slice_index words place) (1 * 2 ^ (bit % 64) % 2 ^ 64));
    kept = λ r b has. grows (r * width + b / 64) (b % 64) has;
    added = rw (get_or-set_same words place (bit_or (slice_index words place) (1 * 2 ^ (bit % 64) % 2 ^ 64)) 0 inside) (bit_at_set_same w64 (slice_index words place) (bit % 64) (low_bit bit));
    only = λ r b fits has. ⊎_elim
        (λ (here : r * width + b / 64 ≡ place).
        let same : (r ≡ row) × (b / 64 ≡ bit / 64) = same_from_place r (b / 64) row (bit / 64) width (word_of b width fits) (word_of bit width below) here in
        ⊎_elim
        (λ (own : b % 64 ≡ bit % 64). inr (same.0, same_bit b bit same.1 own))
        (λ (free : b % 64 ≢ bit % 64). inl (
        let at_place = rw (here, get_or-set_same words place (bit_or (slice_index words place) (1 * 2 ^ (bit % 64) % 2 ^ 64)) 0 inside) at has in
        rw here (sym (bit_at_set_other w64 (slice_index words place) (bit % 64) (low_bit bit) (b % 64) free) ∙ at_place)
        ))
        (cases_eq (b % 64) (bit % 64)))
        (λ (other : r * width + b / 64 ≢ place). inl (rw (get_or-set_other words place (r * width + b / 64) (bit_or (slice_index words place) (1 * 2 ^ (bit % 64) % 2 ^ 64)) 0 other) at has))
        (cases_eq (r * width + b / 64) place);
  }

  unfoldable pub without_bit : List ℕ
  without_bit = set words place (bit_and (slice_index words place) (2 ^ 64 - 1 - 1 * 2 ^ (bit % 64) % 2 ^ 64))

  pub bit_dropped : DropsBit width words without_bit row bit
  unfolding without_bit place
  bit_dropped = record {
    long = length-set words place (bit_and (slice_index words place) (2 ^ 64 - 1 - 1 * 2 ^ (bit % 64) % 2 ^ 64));
    kept = λ r b fits has other. ⊎_elim
        (λ (here : r * width + b / 64 ≡ place).
        let same : (r ≡ row) × (b / 64 ≡ bit / 64) = same_from_place r (b / 64) row (bit / 64) width (word_of b width fits) (word_of bit width below) here in
        rw (here, get_or-set_same words place (bit_and (slice_index words place) (2 ^ 64 - 1 - 1 * 2 ^ (bit % 64) % 2 ^ 64)) 0 inside)
        (bit_at_clear_other w64 (slice_index words place) (bit % 64) (low_bit bit) (b % 64) (low_bit b) (λ own. other (same.0, same_bit b bit same.1 own)) ∙ (rw here at has)))
        (λ (apart : r * width + b / 64 ≢ place). rw (get_or-set_other words place (r * width + b / 64) (bit_and (slice_index words place) (2 ^ 64 - 1 - 1 * 2 ^ (bit % 64) % 2 ^ 64)) 0 apart) has)
        (cases_eq (r * width + b / 64) place);
    gone = λ has.
        let one = rw (get_or-set_same words place (bit_and (slice_index words place) (2 ^ 64 - 1 - 1 * 2 ^ (bit % 64) % 2 ^ 64)) 0 inside) at has in
        let none = bit_at_clear_same w64 (slice_index words place) (bit % 64) (low_bit bit) in
        omega arith;
    only = λ r b has. ⊎_elim
        (λ (here : r * width + b / 64 ≡ place).
        let one = rw (here, get_or-set_same words place (bit_and (slice_index words place) (2 ^ 64 - 1 - 1 * 2 ^ (bit % 64) % 2 ^ 64)) 0 inside) at has in
        ⊎_elim
        (λ (own : b % 64 ≡ bit % 64).
        let none = bit_at_clear_same w64 (slice_index words place) (bit % 64) (low_bit bit) in
        let both = rw own at one in
        absurd (omega arith))
        (λ (free : b % 64 ≢ bit % 64). rw here (sym (bit_at_clear_other w64 (slice_index words place) (bit % 64) (low_bit bit) (b % 64) (low_bit b) free) ∙ one))
        (cases_eq (b % 64) (bit % 64)))
        (λ (apart : r * width + b / 64 ≢ place). rw (get_or-set_other words place (r * width + b / 64) (bit_and (slice_index words place) (2 ^ 64 - 1 - 1 * 2 ^ (bit % 64) % 2 ^ 64)) 0 apart) at has)
        (cases_eq (r * width + b / 64) place);
  }

-- the first k words of a row have the bits of another's too
pub record RowSoFar (old words : List ℕ) (to from k : ℕ) : Type 0 where
  pub long : length words ≡ length old
  pub done : (j : ℕ) → j < k → slice_index words (to + j) ≡ bit_or (slice_index old (to + j)) (slice_index old (from + j))
  pub rest : (i : ℕ) → (i < to) ⊎ (to + k ≤ i) → slice_index words i ≡ slice_index old i

module _ (old words : List ℕ) (width row other : ℕ) where
  pub row_more : (k : ℕ) → k < width → row * width + width ≤ length old → RowSoFar old words (row * width) (other * width) k → RowSoFar old (set words (row * width + k) (bit_or (slice_index words (row * width + k)) (slice_index words (other * width + k)))) (row * width) (other * width) (k + 1)
  row_more k below long so_far =
      let place : ℕ = row * width + k in
      let read : slice_index words (other * width + k) ≡ slice_index old (other * width + k) = so_far.rest (other * width + k) (⊎_elim
      (λ (before : other * width + k < row * width). inl before)
      (λ (after : row * width ≤ other * width + k). ⊎_elim
      (λ (within : other * width + k < row * width + k).
      let j : ℕ = other * width + k - row * width in
      let same : (other ≡ row) × (k ≡ j) = same_from_place other k row j width below (omega arith) (omega arith) in
      let twice = same.1 in absurd (omega arith))
      (λ (beyond : row * width + k ≤ other * width + k). inr beyond)
      (cases_lt (other * width + k) (row * width + k)))
      (cases_lt (other * width + k) (row * width))) in
      let own : slice_index words (row * width + k) ≡ slice_index old (row * width + k) = so_far.rest (row * width + k) (inr (omega arith)) in
      let inside : row * width + k < length words = let l = so_far.long in omega arith in
      record {
        long = length-set words (row * width + k) (bit_or (slice_index words (row * width + k)) (slice_index words (other * width + k))) ∙ so_far.long;
        done = λ j fits. ⊎_elim
            (λ (here : j ≡ k). rw here (rw (get_or-set_same words (row * width + k) (bit_or (slice_index words (row * width + k)) (slice_index words (other * width + k))) 0 inside) (rw (own, read) refl)))
            (λ (apart : j ≢ k). rw (get_or-set_other words (row * width + k) (row * width + j) (bit_or (slice_index words (row * width + k)) (slice_index words (other * width + k))) 0 (λ e. apart (omega arith))) (so_far.done j (omega arith)))
            (cases_eq j k);
        rest = λ i where'. rw (get_or-set_other words (row * width + k) i (bit_or (slice_index words (row * width + k)) (slice_index words (other * width + k))) 0 (λ e. ⊎_elim (λ (before : i < row * width). omega arith) (λ (after : row * width + (k + 1) ≤ i). omega arith) where'))
            (so_far.rest i (⊎_elim (λ (before : i < row * width). inl before) (λ (after : row * width + (k + 1) ≤ i). inr (omega arith)) where'));
      }

  module _ (all : RowSoFar old words (row * width) (other * width) width) where
    -- a word inside the row, or elsewhere
    row_kept : (i k : ℕ) → bit_at (slice_index old i) k ≡ 1 → bit_at (slice_index words i) k ≡ 1
    row_kept i k e = ⊎_elim
        (λ (before : i < row * width). rw (all.rest i (inl before)) e)
        (λ (from : row * width ≤ i). ⊎_elim
        (λ (within : i < row * width + width).
        let j : ℕ = i - row * width in
        let at_j : row * width + j ≡ i = omega arith in
        let made = all.done j (omega arith) in
        let word = rw at_j at made in
        rw word (or_left (slice_index old i) _ k e))
        (λ (after : row * width + width ≤ i). rw (all.rest i (inr after)) e)
        (cases_lt i (row * width + width)))
        (cases_lt i (row * width))

    pub row_added : AddsRow width old words row other
    row_added = record {
      long = all.long;
      kept = λ r b has. row_kept (r * width + b / 64) (b % 64) has;
      added = λ b fits has. rw (all.done (b / 64) (word_of b width fits)) (or_right (slice_index old (row * width + b / 64)) _ (b % 64) has);
      only = λ r b fits has. ⊎_elim
          (λ (own : r ≡ row). rw own (let made = rw (own, all.done (b / 64) (word_of b width fits)) at has in ⊎_elim
          (λ (mine : bit_at (slice_index old (row * width + b / 64)) (b % 64) ≡ 1). inl mine)
          (λ (theirs : bit_at (slice_index old (other * width + b / 64)) (b % 64) ≡ 1). inr (refl, theirs))
          (or_split (slice_index old (row * width + b / 64)) (slice_index old (other * width + b / 64)) (b % 64) made)))
          (λ (apart : r ≢ row). inl (
          let outside : (r * width + b / 64 < row * width) ⊎ (row * width + width ≤ r * width + b / 64) = ⊎_elim
          (λ (before : r * width + b / 64 < row * width). inl before)
          (λ (from : row * width ≤ r * width + b / 64). ⊎_elim
          (λ (within : r * width + b / 64 < row * width + width).
          let j : ℕ = r * width + b / 64 - row * width in
          let same : (r ≡ row) × (b / 64 ≡ j) = same_from_place r (b / 64) row j width (word_of b width fits) (omega arith) (omega arith) in
          absurd (apart same.0))
          (λ (after : row * width + width ≤ r * width + b / 64). inr after)
          (cases_lt (r * width + b / 64) (row * width + width)))
          (cases_lt (r * width + b / 64) (row * width)) in
          rw (all.rest (r * width + b / 64) outside) at has
          ))
          (cases_eq r row);
    }
