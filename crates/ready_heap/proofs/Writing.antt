-- A bit of a row is set or cleared, and that of its word in the summary.
use Rattle.std.proofs.Common.{◌≡◌, ◌≢◌, ℕ, ◌+◌, ◌-◌, ◌*◌, ◌/◌, ◌%◌, ◌^◌, ◌<◌, ◌≤◌, ⊎_elim, ◌↔◌, List, length, set, slice_index, bit_or, bit_and, w64, true, false, refl, sym, ap, ◌∙◌, subst, arith}
use Rattle.std.proofs.lemmas.Bool.{cases_lt, cases_eq, false≢true}
use Rattle.std.proofs.lemmas.List.{length-set, get_or-set_same, get_or-set_other, get_or_past}
use Rattle.std.proofs.lemmas.Nat.Bits.{bit_at_set_same, bit_at_set_other, bit_at_clear_same, bit_at_clear_other, bit_at-zero, bit_at-trailing_zeros}
use Rattle.std.specs.Int.{bit_at, trailing_zeros}
use Rattle.ready_heap.specs.Bits.{IsSet, Puts, IsSummary}

module _ (row : List ℕ) (k word : ℕ) (inside : k / 64 < length row) where
  written_bit : IsSet (set row (k / 64) word) k ↔ (bit_at word (k % 64) ≡ 1)
  written_bit = (
    (λ is. rw (get_or-set_same row (k / 64) word 0 inside) at is),
    (λ one. rw (get_or-set_same row (k / 64) word 0 inside) one),
  )

  other_bits : ((i : ℕ) → i < 64 → i ≢ k % 64 → bit_at word i ≡ bit_at (slice_index row (k / 64)) i) → (other : ℕ) → other ≢ k → IsSet (set row (k / 64) word) other ↔ IsSet row other
  other_bits kept other apart = ⊎_elim
      (λ (here : other / 64 ≡ k / 64).
      let same : bit_at word (other % 64) ≡ bit_at (slice_index row (k / 64)) (other % 64) = kept (other % 64) (omega arith) (λ low. apart (omega arith)) in
      rw (here, get_or-set_same row (k / 64) word 0 inside, same) ((λ is. is), (λ is. is)))
      (λ (there : other / 64 ≢ k / 64). rw (get_or-set_other row (k / 64) (other / 64) word 0 there) ((λ is. is), (λ is. is)))
      (cases_eq (other / 64) (k / 64))

module _ (row : List ℕ) (k : ℕ) (inside : k / 64 < length row) where
  abbrev with_bit : List ℕ
  with_bit = set row (k / 64) (bit_or (slice_index row (k / 64)) (1 * 2 ^ (k % 64) % 2 ^ 64))

  abbrev without_bit : List ℕ
  without_bit = set row (k / 64) (bit_and (slice_index row (k / 64)) (2 ^ 64 - 1 - 1 * 2 ^ (k % 64) % 2 ^ 64))

  pub set_puts : Puts k true row with_bit
  set_puts = record {
    long = length-set row (k / 64) _;
    here = (
      (λ is. refl),
      (λ also. (written_bit row k _ inside).1 (bit_at_set_same w64 (slice_index row (k / 64)) (k % 64) (omega arith))),
    );
    others = other_bits row k _ inside (λ i below apart. bit_at_set_other w64 (slice_index row (k / 64)) (k % 64) (omega arith) i apart);
  }

  pub clear_puts : Puts k false row without_bit
  clear_puts = record {
    long = length-set row (k / 64) _;
    here = (
      (λ is. let one = (written_bit row k _ inside).0 is in let none = bit_at_clear_same w64 (slice_index row (k / 64)) (k % 64) (omega arith) in absurd (omega arith)),
      (λ also. absurd (false≢true also)),
    );
    others = other_bits row k _ inside (λ i below apart. bit_at_clear_other w64 (slice_index row (k / 64)) (k % 64) (omega arith) i below apart);
  }

-- a bit that is set is one of a word that is there
pub set_inside : (words : List ℕ) (k : ℕ) → IsSet words k → k / 64 < length words
set_inside words k is = ⊎_elim
    (λ (inside : k / 64 < length words). inside)
    (λ (past : length words ≤ k / 64).
    let none : slice_index words (k / 64) ≡ 0 = get_or_past words (k / 64) 0 past in
    let one : bit_at 0 (k % 64) ≡ 1 = rw none at is in
    let zero_bit = bit_at-zero (k % 64) in
    absurd (omega arith))
    (cases_lt (k / 64) (length words))

module _ (words summary new newer : List ℕ) (k : ℕ) (was : IsSummary words summary) where
  pub put_summary : Puts k true words new → Puts (k / 64) true summary newer → IsSummary new newer
  put_summary put over = record {
    wide = let w = was.wide in let l = put.long in let m = over.long in omega arith;
    some = λ w is. ⊎_elim
        (λ (same : w ≡ k / 64). (k, sym same, put.here.1 refl))
        (λ (other : w ≢ k / 64).
        let found = was.some w ((over.others w other).0 is) in
        (found.0, found.1, (put.others found.0 (λ (it : found.0 ≡ k). other (sym found.1 ∙ ap (λ x. x / 64) it))).1 found.2))
        (cases_eq w (k / 64));
    each = λ i is. ⊎_elim
        (λ (same : i / 64 ≡ k / 64). subst (IsSet newer) (sym same) (over.here.1 refl))
        (λ (other : i / 64 ≢ k / 64).
        let before = (put.others i (λ (it : i ≡ k). other (ap (λ x. x / 64) it))).0 is in
        (over.others (i / 64) other).1 (was.each i before))
        (cases_eq (i / 64) (k / 64));
  }

  -- the word has no other bit
  pub cleared_summary : Puts k false words new → Puts (k / 64) false summary newer → slice_index new (k / 64) ≡ 0 → IsSummary new newer
  cleared_summary put over none = record {
    wide = let w = was.wide in let l = put.long in let m = over.long in omega arith;
    some = λ w is.
        let other : w ≢ k / 64 = λ same. false≢true (over.here.0 (subst (IsSet newer) same is)) in
        let found = was.some w ((over.others w other).0 is) in
        (found.0, found.1, (put.others found.0 (λ (it : found.0 ≡ k). other (sym found.1 ∙ ap (λ x. x / 64) it))).1 found.2);
    each = λ i is.
        let other : i / 64 ≢ k / 64 = λ same. (
        let one : bit_at 0 (i % 64) ≡ 1 = rw (same, none) at is in
        let zero_bit = bit_at-zero (i % 64) in
        omega arith) in
        let before = (put.others i (λ (it : i ≡ k). other (ap (λ x. x / 64) it))).0 is in
        (over.others (i / 64) other).1 (was.each i before);
  }

  -- the word has another
  pub kept_summary : Puts k false words new → 0 < slice_index new (k / 64) → slice_index new (k / 64) < 2 ^ 64 → IsSummary new summary
  kept_summary put more fits =
      let lowest = bit_at-trailing_zeros w64 (slice_index new (k / 64)) more fits in
      let low : ℕ = trailing_zeros w64 (slice_index new (k / 64)) in
      record {
        wide = let w = was.wide in let l = put.long in omega arith;
        some = λ w is. ⊎_elim
            (λ (same : w ≡ k / 64).
            let short = lowest.0 in
            let word_is : (64 * (k / 64) + low) / 64 ≡ k / 64 = omega arith in
            let bit_is : (64 * (k / 64) + low) % 64 ≡ low = omega arith in
            (64 * (k / 64) + low, word_is ∙ sym same, rw (word_is, bit_is) lowest.1))
            (λ (other : w ≢ k / 64).
            let found = was.some w is in
            (found.0, found.1, (put.others found.0 (λ (it : found.0 ≡ k). other (sym found.1 ∙ ap (λ x. x / 64) it))).1 found.2))
            (cases_eq w (k / 64));
        each = λ i is. ⊎_elim
            (λ (same : i ≡ k). absurd (false≢true (put.here.0 (subst (IsSet new) same is))))
            (λ (other : i ≢ k). was.each i ((put.others i other).0 is))
            (cases_eq i k);
      }
