-- How often places stand in a list, counted one place after the other.
use Rattle.std.proofs.Common.{◌≡◌, ◌≢◌, ℕ, ◌+◌, ◌==◌, ◌<◌, ◌≤◌, ⊎_elim, true, false, List, length, take, set, count_by, sym, ap, ◌∙◌, arith, get_or}
use Rattle.std.proofs.lemmas.Bool.{cases_eq}
use Rattle.std.proofs.lemmas.Bool.Decides.{nat_tests}
use Rattle.std.proofs.lemmas.List.{get_or_default, get_or-set_same, get_or-set_other, length-take}
use Rattle.std.proofs.lemmas.List.Sums.{count_by-le-length, count_by_more_yes, count_by_more_no}

differ : (a i : ℕ) → i ≢ a → (a == i) ≡ false
differ a i apart = grind (arith, nat_tests)

itself : (a : ℕ) → (a == a) ≡ true
itself a = grind (arith, nat_tests)

module _ (places : List ℕ) (k : ℕ) (inside : k < length places) (times : List ℕ) (count : ℕ) (exact : (i : ℕ) → i < count → get_or times i 0 ≡ count_by (λ s. s == i) (take k places)) where
  other : (i : ℕ) → i ≢ get_or places k 0 → count_by (λ s. s == i) (take (k + 1) places) ≡ count_by (λ s. s == i) (take k places)
  other i apart = count_by_more_no (λ s. s == i) places k 0 inside (differ (get_or places k 0) i apart)

  pub passed : count ≤ get_or places k 0 → (i : ℕ) → i < count → get_or times i 0 ≡ count_by (λ s. s == i) (take (k + 1) places)
  passed past i below = exact i below ∙ sym (other i (λ same. let e : i ≡ get_or places k 0 = same in omega arith))

  pub counted : get_or places k 0 < length times → get_or places k 0 < count → (i : ℕ) → i < count → get_or (set times (get_or places k 0) (get_or times (get_or places k 0) 0 + 1)) i 0 ≡ count_by (λ s. s == i) (take (k + 1) places)
  counted fits here i below = ⊎_elim
      (λ (same : i ≡ get_or places k 0).
      rw same (
      get_or-set_same times (get_or places k 0) (get_or times (get_or places k 0) 0 + 1) 0 fits
      ∙ ap (λ n. n + 1) (exact (get_or places k 0) here)
      ∙ sym (count_by_more_yes (λ s. s == get_or places k 0) places k 0 inside (itself (get_or places k 0)))))
      (λ (apart : i ≢ get_or places k 0). get_or-set_other times (get_or places k 0) i (get_or times (get_or places k 0) 0 + 1) 0 apart ∙ exact i below ∙ sym (other i apart))
      (cases_eq i (get_or places k 0))

  pub few : get_or places k 0 < count → get_or times (get_or places k 0) 0 ≤ k
  few here =
      let most = count_by-le-length (λ s. s == get_or places k 0) (take k places) in
      let long = length-take k places in
      let is = exact (get_or places k 0) here in
      omega arith

-- a number read from the counts
pub read_count : (places times : List ℕ) (count : ℕ) → length times ≡ count → ((i : ℕ) → i < count → get_or times i 0 ≡ count_by (λ s. s == i) places) → (i n : ℕ) → i < count → n ≡ get_or times i n → n ≡ count_by (λ s. s == i) places
read_count places times count long exact i n below read = read ∙ get_or_default times i n 0 (rw long below) ∙ exact i below
