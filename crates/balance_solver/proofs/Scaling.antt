-- The entries of some actors multiplied, and then those of two groups.
use Rattle.std.proofs.Common.{◌≡◌, ◌≢◌, ℕ, ◌+◌, ◌*◌, ◌<◌, ◌≤◌, ⊎_elim, ◌==◌, List, [], length, set, get_or, slice_index, slice_index_or, take, refl, ap, sym, ◌∙◌, arith, Vec}
use Rattle.std.proofs.lemmas.Bool.{cases_eq, eq-eqb, ne_eqb}
use Rattle.std.proofs.lemmas.List.{get_or-set_same, get_or-set_other, get_or-map, length-map}
use Rattle.sdf_level.specs.Lists.{occurrences, lists_of}
use Rattle.sdf_level.specs.Groups.{AreGroups}
use Rattle.sdf_level.specs.Balance.{base_entry_limit}
use Rattle.sdf_level.proofs.Regrouped.{one_if, occurrences-more, occurrences-take}
use Rattle.balance_solver.specs.Scaled.{scaled_by, AreScaled, HasTooLarge, factor, IsTooLarge}

scaled_none : (k times : ℕ) → k ≡ 0 → scaled_by k times ≡ 1
scaled_none k times e = rw (eq-eqb k 0 e) refl

scaled_some : (k times : ℕ) → 1 ≤ k → scaled_by k times ≡ times
scaled_some k times h = rw (ne_eqb k 0 (λ e. omega arith)) refl

-- by 1 nothing is changed
pub scaled_once : (q actors : List ℕ) → AreScaled q q actors 1
scaled_once q actors = record {
  entries = λ a h. rw (one (occurrences a actors)) (omega arith);
  within = λ a h w. w;
}
  where
    one : (k : ℕ) → scaled_by k 1 ≡ 1
    one k = ⊎_elim (λ (e : k ≡ 0). scaled_none k 1 e) (λ (n : k ≢ 0). scaled_some k 1 (omega arith)) (cases_eq k 0)

module _ (q now actors : List ℕ) (times i : ℕ) (inside : i < length actors) (there : get_or actors i 0 < length q) (once : (a : ℕ) → a < length q → occurrences a actors ≤ 1) (so_far : AreScaled q now (take i actors) times) where
  abbrev this : ℕ
  this = get_or actors i 0

  one_more : one_if (this == this) ≡ 1
  one_more = rw (eq-eqb this this refl) refl

  -- it has not been multiplied, and is now
  not_yet : occurrences this (take i actors) ≡ 0
  not_yet = let m = occurrences-more this actors i 0 inside in let t = occurrences-take this (i + 1) actors in let o = once this there in let one = one_more in omega arith

  pub entry_before : slice_index now this ≡ slice_index q this
  entry_before = so_far.entries this there ∙ rw (scaled_none (occurrences this (take i actors)) times not_yet) (omega arith)

  then_scaled : occurrences this (take (i + 1) actors) ≡ 1
  then_scaled = let m = occurrences-more this actors i 0 inside in let n = not_yet in let one = one_more in omega arith

  pub scaled_more : (v : ℕ) → v ≡ slice_index now this * times → v ≤ base_entry_limit → length now ≡ length q → AreScaled q (set now this v) (take (i + 1) actors) times
  scaled_more v is small long = record {
    entries = λ a h. ⊎_elim
        (λ (e : a ≡ this). rw e (same ∙ is ∙ ap (λ (w : ℕ). w * times) entry_before ∙ ap (λ (w : ℕ). slice_index q this * w) (sym (scaled_some (occurrences this (take (i + 1) actors)) times (let k = then_scaled in omega arith)))))
        (λ (n : a ≢ this). get_or-set_other now this a v 0 n ∙ so_far.entries a h ∙ ap (λ (k : ℕ). slice_index q a * scaled_by k times) (unchanged a n))
        (cases_eq a this);
    within = λ a h w. ⊎_elim
        (λ (e : a ≡ this). rw (e, same) small)
        (λ (n : a ≢ this). rw (get_or-set_other now this a v 0 n) (so_far.within a h w))
        (cases_eq a this);
  }
    where
      same : slice_index (set now this v) this ≡ v
      same = get_or-set_same now this v 0 (omega arith)

      unchanged : (a : ℕ) → a ≢ this → occurrences a (take i actors) ≡ occurrences a (take (i + 1) actors)
      unchanged a n = let m = occurrences-more a actors i 0 inside in let none : one_if (this == a) ≡ 0 = rw (ne_eqb this a (λ e. n (sym e))) refl in omega arith

  pub too_large : base_entry_limit < slice_index now this * times → HasTooLarge q actors times
  too_large over = (this, there, (let k = then_scaled in let t = occurrences-take this (i + 1) actors in omega arith), rw (← entry_before) over)

pub scaled_start : (q actors : List ℕ) (times : ℕ) → AreScaled q q [] times
scaled_start q actors times = record { entries = λ a h. rw (scaled_none 0 times refl) (omega arith); within = λ a h w. w }

-- the list that is read for a group
pub list_read : {A : Type 0} (vectors : List (Vec ℕ A)) (g : ℕ) (x : Vec ℕ A) → g < length (lists_of vectors) → x ≡ get_or vectors g x → x.items ≡ slice_index_or (lists_of vectors) g []
list_read {A} vectors g x inside read =
    let items = λ (v : Vec ℕ A). v.items in
    ap items read ∙ sym (get_or-map items vectors g x [] (let m = length-map vectors items in omega arith))

-- no actor stands twice in the list of a group
pub once_in : (n : ℕ) (number : List ℕ) (lists : List (List ℕ)) → AreGroups n number lists → (g : ℕ) → g < n → (a : ℕ) → a < n → occurrences a (slice_index_or lists g []) ≤ 1
once_in n number lists h g g_there a below = rw (h.each g a g_there below) (⊎_elim
    (λ (e : slice_index number a ≡ g). rw (eq-eqb (slice_index number a) g e) (omega arith))
    (λ (m : slice_index number a ≢ g). rw (ne_eqb (slice_index number a) g m) (omega arith))
    (cases_eq (slice_index number a) g))

-- two groups
module _ (n : ℕ) (number : List ℕ) (lists : List (List ℕ)) (q : List ℕ) (into from x y : ℕ) (h : AreGroups n number lists) (long : length q ≡ n) (into_there : into < n) (from_there : from < n) (apart : into ≢ from) where
  of_into : (a : ℕ) → a < n → slice_index number a ≡ into → occurrences a (slice_index_or lists into []) ≡ 1
  of_into a below e = h.each into a into_there below ∙ rw (eq-eqb (slice_index number a) into e) refl

  not_into : (a : ℕ) → a < n → slice_index number a ≢ into → occurrences a (slice_index_or lists into []) ≡ 0
  not_into a below m = h.each into a into_there below ∙ rw (ne_eqb (slice_index number a) into m) refl

  of_from : (a : ℕ) → a < n → slice_index number a ≡ from → occurrences a (slice_index_or lists from []) ≡ 1
  of_from a below e = h.each from a from_there below ∙ rw (eq-eqb (slice_index number a) from e) refl

  not_from : (a : ℕ) → a < n → slice_index number a ≢ from → occurrences a (slice_index_or lists from []) ≡ 0
  not_from a below m = h.each from a from_there below ∙ rw (ne_eqb (slice_index number a) from m) refl

  pub first_large : HasTooLarge q (slice_index_or lists into []) x → IsTooLarge number q into from x y
  first_large large =
      let a : ℕ = large.0 in
      let below : a < n = let l = large.1 in omega arith in
      ⊎_elim
      (λ (e : slice_index number a ≡ into). (a, large.1, rw (eq-eqb (slice_index number a) into e) large.3))
      (λ (m : slice_index number a ≢ into). absurd (let z = not_into a below m in let s = large.2 in omega arith))
      (cases_eq (slice_index number a) into)

  module _ (q1 : List ℕ) (first : AreScaled q q1 (slice_index_or lists into []) x) (same_long : length q1 ≡ length q) where
    not_yet_scaled : (a : ℕ) → a < n → slice_index number a ≢ into → slice_index q1 a ≡ slice_index q a
    not_yet_scaled a below m = first.entries a (omega arith) ∙ rw (scaled_none (occurrences a (slice_index_or lists into [])) x (not_into a below m)) (omega arith)

    pub second_large : HasTooLarge q1 (slice_index_or lists from []) y → IsTooLarge number q into from x y
    second_large large =
        let a : ℕ = large.0 in
        let below : a < n = let l = large.1 in omega arith in
        ⊎_elim
        (λ (e : slice_index number a ≡ from).
        let m : slice_index number a ≢ into = λ f. apart (sym f ∙ e) in
        (a, (let l = large.1 in omega arith), rw (ne_eqb (slice_index number a) into m, eq-eqb (slice_index number a) from e) (rw (not_yet_scaled a below m) at large.3)))
        (λ (m : slice_index number a ≢ from). absurd (let z = not_from a below m in let s = large.2 in omega arith))
        (cases_eq (slice_index number a) from)

    module _ (q2 : List ℕ) (second : AreScaled q1 q2 (slice_index_or lists from []) y) where
      pub both_scaled : (a : ℕ) → a < length q → slice_index q2 a ≡ slice_index q a * factor into from x y (slice_index number a)
      both_scaled a inside =
          let below : a < n = omega arith in
          let then_ = second.entries a (omega arith) in
          ⊎_elim
          (λ (e : slice_index number a ≡ into).
          let m : slice_index number a ≢ from = λ f. apart (sym e ∙ f) in
          rw (eq-eqb (slice_index number a) into e) (then_ ∙ rw (scaled_none (occurrences a (slice_index_or lists from [])) y (not_from a below m)) (omega arith)
          ∙ first.entries a inside ∙ ap (λ (w : ℕ). slice_index q a * w) (scaled_some (occurrences a (slice_index_or lists into [])) x (let k = of_into a below e in omega arith))))
          (λ (m : slice_index number a ≢ into).
          let first_ = not_yet_scaled a below m in
          ⊎_elim
          (λ (e : slice_index number a ≡ from). rw (ne_eqb (slice_index number a) into m, eq-eqb (slice_index number a) from e) (then_ ∙ ap (λ (w : ℕ). slice_index q1 a * w) (scaled_some (occurrences a (slice_index_or lists from [])) y (let k = of_from a below e in omega arith)) ∙ ap (λ (w : ℕ). w * y) first_))
          (λ (o : slice_index number a ≢ from). rw (ne_eqb (slice_index number a) into m, ne_eqb (slice_index number a) from o) (then_ ∙ ap (λ (w : ℕ). slice_index q1 a * w) (scaled_none (occurrences a (slice_index_or lists from [])) y (not_from a below o)) ∙ ap (λ (w : ℕ). w * 1) first_))
          (cases_eq (slice_index number a) from))
          (cases_eq (slice_index number a) into)

      pub both_within : (a : ℕ) → a < length q → slice_index q a ≤ base_entry_limit → slice_index q2 a ≤ base_entry_limit
      both_within a inside w = second.within a (omega arith) (first.within a inside w)
