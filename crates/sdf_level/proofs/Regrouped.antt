-- The groups of actors, once two are one.
use Rattle.std.proofs.Common.{◌≡◌, ◌≢◌, ℕ, zero, suc, ◌+◌, ◌<◌, ◌≤◌, ◌⊎◌, inl, inr, ⊎_elim, Bool, ◌==◌, if◌then◌else◌, List, [], ◌∷◌, ◌++◌, length, set, get_or, slice_index, slice_index_or, take, refl, ap, sym, ◌∙◌, arith}
use Rattle.std.proofs.lemmas.Bool.{cases_eq, eq-eqb, ne_eqb}
use Rattle.std.proofs.lemmas.List.{get_or-set_same, get_or-set_other, length-set, take_more}
use Rattle.std.proofs.lemmas.List.Elements.{All-append, All-nil}
use Rattle.sdf_level.specs.Lists.{occurrences}
use Rattle.sdf_level.specs.Groups.{AreGroups, AreRenumbered, AreUnited, united}

module _ (g h kept : ℕ) where
  pub united-first : united g h kept g ≡ kept
  united-first = rw (eq-eqb g g refl) refl

  pub united-second : united g h kept h ≡ kept
  united-second = ⊎_elim
      (λ (e : h ≡ g). rw (eq-eqb h g e) refl)
      (λ (n : h ≢ g). rw (ne_eqb h g n, eq-eqb h h refl) refl)
      (cases_eq h g)

  pub united-other : (x : ℕ) → x ≢ g → x ≢ h → united g h kept x ≡ x
  united-other x n m = rw (ne_eqb x g n, ne_eqb x h m) refl

  -- who has the kept number was of the one group or of the other
  pub united-origin : (x : ℕ) → (kept ≡ g) ⊎ (kept ≡ h) → united g h kept x ≡ kept → (x ≡ g) ⊎ (x ≡ h)
  united-origin x either e = ⊎_elim
      (λ (f : x ≡ g). inl f)
      (λ (n : x ≢ g). ⊎_elim
      (λ (f : x ≡ h). inr f)
      (λ (m : x ≢ h). let same : x ≡ kept = sym (united-other x n m) ∙ e in ⊎_elim (λ (k : kept ≡ g). inl (same ∙ k)) (λ (k : kept ≡ h). inr (same ∙ k)) either)
      (cases_eq x h))
      (cases_eq x g)

  pub united-below : (n x : ℕ) → kept < n → x < n → united g h kept x < n
  united-below n x k b = ⊎_elim
      (λ (e : x ≡ g). rw (e, united-first) k)
      (λ (m : x ≢ g). ⊎_elim
      (λ (e : x ≡ h). rw (e, united-second) k)
      (λ (o : x ≢ h). rw (united-other x m o) b)
      (cases_eq x h))
      (cases_eq x g)

pub united-swapped : (g h kept x : ℕ) → united g h kept x ≡ united h g kept x
united-swapped g h kept x = ⊎_elim
    (λ (e : x ≡ g). rw e (united-first g h kept ∙ sym (united-second h g kept)))
    (λ (n : x ≢ g). ⊎_elim
    (λ (e : x ≡ h). rw e (united-second g h kept ∙ sym (united-first h g kept)))
    (λ (m : x ≢ h). united-other g h kept x n m ∙ sym (united-other h g kept x m n))
    (cases_eq x h))
    (cases_eq x g)

pub swapped : (number number' : List ℕ) (g h : ℕ) → AreUnited number number' g h → AreUnited number number' h g
swapped number number' g h u = record {
  one_each = u.one_each;
  kept = u.kept;
  either = ⊎_elim (λ e. inr e) (λ e. inl e) u.either;
  each = λ a below. u.each a below ∙ united-swapped g h u.kept (slice_index number a);
}

abbrev pub one_if : Bool → ℕ
one_if b = if b then 1 else 0

occurrences-append : (a : ℕ) (xs ys : List ℕ) → occurrences a (xs ++ ys) ≡ occurrences a xs + occurrences a ys
occurrences-append a [] ys = omega arith
occurrences-append a (x ∷ xs) ys = let e = occurrences-append a xs ys in omega arith

pub occurrences-more : (a : ℕ) (xs : List ℕ) (i d : ℕ) → i < length xs → occurrences a (take (i + 1) xs) ≡ occurrences a (take i xs) + one_if (get_or xs i d == a)
occurrences-more a xs i d inside = rw (take_more xs i d inside) (let e = occurrences-append a (take i xs) (get_or xs i d ∷ []) in omega arith)

pub occurrences-take : (a n : ℕ) (xs : List ℕ) → occurrences a (take n xs) ≤ occurrences a xs
occurrences-take a n xs = go n xs
  where
    go : (n : ℕ) (xs : List ℕ) → occurrences a (take n xs) ≤ occurrences a xs
    go zero xs = omega arith
    go (suc n) [] = omega arith
    go (suc n) (x ∷ xs) = let e = go n xs in omega arith

-- one actor more has the number
pub renumbered_more : (number now actors : List ℕ) (i g : ℕ) → i < length actors → get_or actors i 0 < length now → length now ≡ length number →
    AreRenumbered number now (take i actors) g → AreRenumbered number (set now (get_or actors i 0) g) (take (i + 1) actors) g
renumbered_more number now actors i g inside there long so_far a below =
    let b : ℕ = get_or actors i 0 in
    let more = occurrences-more a actors i 0 inside in
    ⊎_elim
    (λ (e : a ≡ b).
    let same : get_or (set now b g) b 0 ≡ g = get_or-set_same now b g 0 there in
    let one : one_if (b == a) ≡ 1 = rw (eq-eqb b a (sym e)) refl in
    let some : occurrences a (take (i + 1) actors) ≢ 0 = λ z. omega arith in
    rw (ne_eqb (occurrences a (take (i + 1) actors)) 0 some) (ap (λ (x : ℕ). slice_index (set now b g) x) e ∙ same))
    (λ (n : a ≢ b).
    let other : get_or (set now b g) a 0 ≡ get_or now a 0 = get_or-set_other now b a g 0 n in
    let none : one_if (b == a) ≡ 0 = rw (ne_eqb b a (λ e. n (sym e))) refl in
    let same : occurrences a (take (i + 1) actors) ≡ occurrences a (take i actors) = omega arith in
    rw same (other ∙ so_far a below))
    (cases_eq a b)

module _ (n : ℕ) (number number' : List ℕ) (lists : List (List ℕ)) (into from : ℕ) (h : AreGroups n number lists) (into_there : into < n) (from_there : from < n) (apart : into ≢ from)
    (long : length number' ≡ length number) (renumbered : AreRenumbered number number' (slice_index_or lists from []) into) where
  abbrev emptied : List (List ℕ)
  emptied = set lists from []

  abbrev merged : List (List ℕ)
  merged = set emptied into (slice_index_or emptied into [] ++ slice_index_or lists from [])

  now : (a : ℕ) → a < n → slice_index number' a ≡ united into from into (slice_index number a)
  now a below =
      let is = renumbered a (let l = h.one_number in omega arith) in
      let count = h.each from a from_there below in
      ⊎_elim
      (λ (e : slice_index number a ≡ from).
      let one : occurrences a (slice_index_or lists from []) ≡ 1 = count ∙ rw (eq-eqb (slice_index number a) from e) refl in
      (rw (ne_eqb (occurrences a (slice_index_or lists from [])) 0 (λ z. omega arith)) at is) ∙ sym (ap (united into from into) e ∙ united-second into from into))
      (λ (m : slice_index number a ≢ from).
      let none : occurrences a (slice_index_or lists from []) ≡ 0 = count ∙ rw (ne_eqb (slice_index number a) from m) refl in
      (rw (eq-eqb (occurrences a (slice_index_or lists from [])) 0 none) at is) ∙ ⊎_elim
      (λ (f : slice_index number a ≡ into). f ∙ sym (ap (united into from into) f ∙ united-first into from into))
      (λ (o : slice_index number a ≢ into). sym (united-other into from into (slice_index number a) o m))
      (cases_eq (slice_index number a) into))
      (cases_eq (slice_index number a) from)

  pub merged_united : AreUnited number number' into from
  merged_united = record { one_each = long; kept = into; either = inl refl; each = λ a below. now a (let l = h.one_number in omega arith) }

  from_inside : from < length lists
  from_inside = let l = h.one_list in omega arith

  into_inside : into < length emptied
  into_inside = let l = h.one_list in let s = length-set lists from [] in omega arith

  merged_into : slice_index_or merged into [] ≡ slice_index_or lists into [] ++ slice_index_or lists from []
  merged_into = get_or-set_same emptied into (slice_index_or emptied into [] ++ slice_index_or lists from []) [] into_inside ∙ ap (λ (l : List ℕ). l ++ slice_index_or lists from []) (get_or-set_other lists from into [] [] apart)

  merged_from : slice_index_or merged from [] ≡ []
  merged_from = get_or-set_other emptied into from (slice_index_or emptied into [] ++ slice_index_or lists from []) [] (λ e. apart (sym e)) ∙ get_or-set_same lists from [] [] from_inside

  merged_other : (g : ℕ) → g ≢ into → g ≢ from → slice_index_or merged g [] ≡ slice_index_or lists g []
  merged_other g i f = get_or-set_other emptied into g (slice_index_or emptied into [] ++ slice_index_or lists from []) [] i ∙ get_or-set_other lists from g [] [] f

  -- of an actor that had this number, and has it now as `united` says
  tests : (v g : ℕ) → g ≢ into → g ≢ from → one_if (united into from into v == g) ≡ one_if (v == g)
  tests v g i f = ⊎_elim
      (λ (e : v ≡ into). rw (e, united-first into from into) refl)
      (λ (m : v ≢ into). ⊎_elim
      (λ (e : v ≡ from). rw (e, united-second into from into, ne_eqb into g (λ k. i (sym k)), ne_eqb from g (λ k. f (sym k))) refl)
      (λ (o : v ≢ from). rw (united-other into from into v m o) refl)
      (cases_eq v from))
      (cases_eq v into)

  tests_from : (v : ℕ) → one_if (united into from into v == from) ≡ 0
  tests_from v = ⊎_elim
      (λ (e : v ≡ into). rw (e, united-first into from into, ne_eqb into from apart) refl)
      (λ (m : v ≢ into). ⊎_elim
      (λ (e : v ≡ from). rw (e, united-second into from into, ne_eqb into from apart) refl)
      (λ (o : v ≢ from). rw (united-other into from into v m o, ne_eqb v from o) refl)
      (cases_eq v from))
      (cases_eq v into)

  tests_into : (v : ℕ) → one_if (united into from into v == into) ≡ one_if (v == into) + one_if (v == from)
  tests_into v = ⊎_elim
      (λ (e : v ≡ into). rw (e, united-first into from into, eq-eqb into into refl, ne_eqb into from apart) refl)
      (λ (m : v ≢ into). ⊎_elim
      (λ (e : v ≡ from). rw (e, united-second into from into, eq-eqb into into refl, eq-eqb from from refl, ne_eqb from into (λ k. apart (sym k))) refl)
      (λ (o : v ≢ from). rw (united-other into from into v m o, ne_eqb v into m, ne_eqb v from o) refl)
      (cases_eq v from))
      (cases_eq v into)

  pub merged_groups : AreGroups n number' merged
  merged_groups = record {
    one_number = long ∙ h.one_number;
    one_list = length-set emptied into (slice_index_or emptied into [] ++ slice_index_or lists from []) ∙ length-set lists from [] ∙ h.one_list;
    below = λ a below. rw (now a below) (united-below into from into n (slice_index number a) into_there (h.below a below));
    there = λ g g_there. ⊎_elim
        (λ (e : g ≡ into). rw (e, merged_into) (All-append (λ a. a < n) (slice_index_or lists into []) (slice_index_or lists from []) (h.there into into_there) (h.there from from_there)))
        (λ (i : g ≢ into). ⊎_elim
        (λ (e : g ≡ from). rw (e, merged_from) (All-nil (λ a. a < n)))
        (λ (f : g ≢ from). rw (merged_other g i f) (h.there g g_there))
        (cases_eq g from))
        (cases_eq g into);
    each = λ g a g_there below. rw (now a below) (⊎_elim
        (λ (e : g ≡ into). rw (e, merged_into) (occurrences-append a (slice_index_or lists into []) (slice_index_or lists from []) ∙ (let x = h.each into a into_there below in let y = h.each from a from_there below in let t = tests_into (slice_index number a) in omega arith)))
        (λ (i : g ≢ into). ⊎_elim
        (λ (e : g ≡ from). rw (e, merged_from) (sym (tests_from (slice_index number a))))
        (λ (f : g ≢ from). rw (merged_other g i f) (h.each g a g_there below ∙ sym (tests (slice_index number a) g i f)))
        (cases_eq g from))
        (cases_eq g into));
  }
