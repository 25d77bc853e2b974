-- Ends entered in rows, one after the other.
use Rattle.std.proofs.Common.{◌≡◌, ℕ, ◌+◌, ◌<◌, ◌≤◌, ⊎_elim, List, [], length, map, set, get_or, replicate, sym, ap, ◌∙◌, subst, arith}
use Rattle.std.specs.Prelude.{◌≢◌, Option, Some, None, slice_index}
use Rattle.std.proofs.lemmas.Bool.{cases_eq, cases_lt}
use Rattle.std.proofs.lemmas.List.{length-set, length-map, length-replicate, get_or-map, get_or-replicate, get_or_past, get_or-set_same, get_or-set_other}
use Rattle.job_compiler.specs.Rows.{row_of}
use Rattle.job_compiler.specs.Ends.{end_at, HaveRows, AreRows}

abbrev nothing : Option ℕ
nothing = None

none_in : (count p : ℕ) → get_or (replicate count nothing) p None ≡ None
none_in count p = ⊎_elim
    (λ (inside : p < count). get_or-replicate count p None None inside)
    (λ (past : count ≤ p). get_or_past (replicate count None) p None (subst (λ n. n ≤ p) (sym (length-replicate {A = Option ℕ} count None)) past))
    (cases_lt p count)

empty_row : (counts : List ℕ) (n : ℕ) → n < length counts → row_of (map (λ (count : ℕ). replicate count nothing) counts) n ≡ replicate (slice_index counts n) None
empty_row counts n inside = get_or-map (λ (count : ℕ). replicate count None) counts n 0 [] inside

pub rows_first : (counts : List ℕ) (ends : List (ℕ × ℕ)) (rows : List (List (Option ℕ))) → rows ≡ map (λ (count : ℕ). replicate count None) counts → AreRows counts ends 0 rows
rows_first counts ends rows is = subst (AreRows counts ends 0) (sym is) (record {
  one_each = length-map counts (λ (count : ℕ). replicate count None);
  longs = λ n inside. ap length (empty_row counts n inside) ∙ length-replicate {A = Option ℕ} (slice_index counts n) None;
  entered = λ i below. absurd (let bad : ⊥ = omega arith in bad);
  only = λ n p i found. absurd (⊎_elim
      (λ (inside : n < length counts).
      let bad : None ≡ Some i = sym (ap (λ row. get_or row p None) (empty_row counts n inside) ∙ none_in (slice_index counts n) p) ∙ found in let no_such : ⊥ = absurd (cc) in no_such)
      (λ (past : length counts ≤ n).
      let none = ap (λ row. get_or row p None) (get_or_past (map (λ (count : ℕ). replicate count nothing) counts) n [] (omega (arith, length-map counts (λ (count : ℕ). replicate count nothing), past))) in
      let bad : None ≡ Some i = sym none ∙ found in let no_such : ⊥ = absurd (cc) in no_such)
      (cases_lt n (length counts)));
})

module _ (counts : List ℕ) (ends : List (ℕ × ℕ)) (k : ℕ) (rows : List (List (Option ℕ))) (have : HaveRows counts ends) (inside : k < length ends) (are : AreRows counts ends k rows) where
  abbrev h : ℕ
  h = (end_at ends k).0

  abbrev q : ℕ
  q = (end_at ends k).1

  abbrev new_row : List (Option ℕ)
  new_row = set (row_of rows h) q (Some k)

  abbrev later : List (List (Option ℕ))
  later = set rows h new_row

  h_in : h < length rows
  h_in = let t = have.there k inside in omega (arith, are.one_each)

  q_in : q < length (row_of rows h)
  q_in = let t = have.ports k inside in omega (arith, are.longs h (have.there k inside))

  here : row_of later h ≡ new_row
  here = get_or-set_same rows h new_row [] h_in

  other : (n : ℕ) → n ≢ h → row_of later n ≡ row_of rows n
  other n differs = get_or-set_other rows h n new_row [] differs

  pub rows_step : AreRows counts ends (k + 1) later
  rows_step = record {
    one_each = length-set rows h new_row ∙ are.one_each;
    longs = λ n n_in. ⊎_elim
        (λ (same : n ≡ h). subst (λ m. length (row_of later m) ≡ slice_index counts m) (sym same) (ap length here ∙ (length-set (row_of rows h) q (Some k) ∙ are.longs h (have.there k inside))))
        (λ (differs : n ≡ h → ⊥). ap length (other n differs) ∙ are.longs n n_in)
        (cases_eq n h);
    entered = λ i below. ⊎_elim
        (λ (same : i ≡ k). subst (λ m. get_or (row_of later (end_at ends m).0) (end_at ends m).1 None ≡ Some m) (sym same) (ap (λ row. get_or row q None) here ∙ get_or-set_same (row_of rows h) q (Some k) None q_in))
        (λ (differs : i ≡ k → ⊥).
        let before : i < k = ⊎_elim (λ (lt : i < k). lt) (λ (ge : k ≤ i). absurd (differs (omega arith))) (cases_lt i k) in
        ⊎_elim
        (λ (same_node : (end_at ends i).0 ≡ h).
        let other_port : (end_at ends i).1 ≢ q = λ same_port. differs (have.apart i k (omega arith) inside same_node same_port) in
        ap (λ m. get_or (row_of later m) (end_at ends i).1 None) same_node ∙ (ap (λ row. get_or row (end_at ends i).1 None) here
        ∙ (get_or-set_other (row_of rows h) q (end_at ends i).1 (Some k) None other_port ∙ (ap (λ m. get_or (row_of rows m) (end_at ends i).1 None) (sym same_node) ∙ are.entered i before))))
        (λ (other_node : (end_at ends i).0 ≡ h → ⊥). ap (λ row. get_or row (end_at ends i).1 None) (other (end_at ends i).0 other_node) ∙ are.entered i before)
        (cases_eq (end_at ends i).0 h))
        (cases_eq i k);
    only = λ n p i found. ⊎_elim
        (λ (same_node : n ≡ h). ⊎_elim
        (λ (same_port : p ≡ q).
        let cell : get_or (row_of later n) p None ≡ Some k = ap (λ m. get_or (row_of later m) p None) same_node ∙ (ap (λ row. get_or row p None) here ∙ (ap (λ x. get_or new_row x None) same_port ∙ get_or-set_same (row_of rows h) q (Some k) None q_in)) in
        let both : Some i ≡ Some k = sym found ∙ cell in
        let i_is : i ≡ k = cc in
        (omega arith, ap (λ m. (end_at ends m).0) i_is ∙ sym same_node, ap (λ m. (end_at ends m).1) i_is ∙ sym same_port))
        (λ (other_port : p ≡ q → ⊥).
        let old = are.only n p i (ap (λ m. get_or (row_of rows m) p None) same_node ∙ (sym (get_or-set_other (row_of rows h) q p (Some k) None other_port) ∙ (sym (ap (λ row. get_or row p None) here) ∙ (ap (λ m. get_or (row_of later m) p None) (sym same_node) ∙ found)))) in
        (omega (arith, old.0), old.1, old.2))
        (cases_eq p q))
        (λ (other_node : n ≡ h → ⊥).
        let old = are.only n p i (sym (ap (λ row. get_or row p None) (other n other_node)) ∙ found) in
        (omega (arith, old.0), old.1, old.2))
        (cases_eq n h);
  }
