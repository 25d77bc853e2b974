-- Warshall's closure tells exactly whether a path leads from one place to another.
use Rattle.std.proofs.Common.{◌≡◌, ℕ, zero, suc, ◌<◌, ◌≤◌, ⊎_elim, ◌↔◌, ◌&&◌, ◌==◌, true, List, [], ◌∷◌, ◌++◌, length, Contains, arith}
use Rattle.std.specs.List.{list_any}
use Rattle.std.proofs.lemmas.Bool.{cases_lt, and_parts, and_from, or_cases, or_left, or_right, eqb-true}
use Rattle.std.proofs.lemmas.Cmp.{nat_eq_equiv}
use Rattle.std.proofs.lemmas.List.{get_or_past}
use Rattle.std.proofs.lemmas.Map.Views.{Contains-from_any, list_any-from_Contains}
use Rattle.pisdf_model.specs.Arrows.{to_of, Leads, Reaches, leads_below, leads}

contains_of_any : (xs : List ℕ) (w : ℕ) → list_any (λ u. w == u) xs ≡ true → Contains xs w
contains_of_any xs w any = Contains-from_any eqb-true w xs any

any_of_contains : (xs : List ℕ) (w : ℕ) → Contains xs w → list_any (λ u. w == u) xs ≡ true
any_of_contains xs w c = list_any-from_Contains nat_eq_equiv w xs c

module _ (arrows : List (List ℕ)) where
  -- two paths, one behind the other
  leads_through : (v : ℕ) (before : List ℕ) (u : ℕ) (after : List ℕ) (w : ℕ) → Leads arrows v before u → Leads arrows u after w → Leads arrows v (before ++ u ∷ after) w
  leads_through v [] u after w first second = (first, second)
  leads_through v (t ∷ before) u after w first second = (first.0, leads_through t before u after w first.1 second)

  path_of : (n v w : ℕ) → leads_below arrows n v w ≡ true → Reaches arrows v w
  unfolding leads_below
  path_of zero v w closed = ([], contains_of_any (to_of arrows v) w closed)
  path_of (suc n) v w closed = ⊎_elim
      (λ (below : leads_below arrows n v w ≡ true). path_of n v w below)
      (λ (over : (leads_below arrows n v n && leads_below arrows n n w) ≡ true).
      let parts = and_parts (leads_below arrows n v n) (leads_below arrows n n w) over in
      let first = path_of n v n parts.0 in
      let second = path_of n n w parts.1 in
      (first.0 ++ n ∷ second.0, leads_through v first.0 n second.0 w first.1 second.1))
      (or_cases (leads_below arrows n v w) (leads_below arrows n v n && leads_below arrows n n w) closed)

  of_arrow : (n v w : ℕ) → Contains (to_of arrows v) w → leads_below arrows n v w ≡ true
  unfolding leads_below
  of_arrow zero v w arrow = any_of_contains (to_of arrows v) w arrow
  of_arrow (suc n) v w arrow = or_left (leads_below arrows n v w) (leads_below arrows n v n && leads_below arrows n n w) (of_arrow n v w arrow)

  -- one arrow more at the front, to a place below n
  of_arrow_on : (n v u w : ℕ) → u < n → Contains (to_of arrows v) u → leads_below arrows n u w ≡ true → leads_below arrows n v w ≡ true
  unfolding leads_below
  of_arrow_on zero v u w below arrow closed = absurd (omega arith)
  of_arrow_on (suc n) v u w below arrow closed =
      let on : leads_below arrows n n w ≡ true → leads_below arrows n v n ≡ true → leads_below arrows (suc n) v w ≡ true = λ second first. or_right (leads_below arrows n v w) (leads_below arrows n v n && leads_below arrows n n w) (and_from (leads_below arrows n v n) (leads_below arrows n n w) first second) in
      ⊎_elim
      (λ (less : u < n). ⊎_elim
      (λ (under : leads_below arrows n u w ≡ true). or_left (leads_below arrows n v w) (leads_below arrows n v n && leads_below arrows n n w) (of_arrow_on n v u w less arrow under))
      (λ (over : (leads_below arrows n u n && leads_below arrows n n w) ≡ true).
      let parts = and_parts (leads_below arrows n u n) (leads_below arrows n n w) over in
      on parts.1 (of_arrow_on n v u n less arrow parts.0))
      (or_cases (leads_below arrows n u w) (leads_below arrows n u n && leads_below arrows n n w) closed))
      (λ (least : n ≤ u).
      let same : u ≡ n = omega arith in
      let first = of_arrow n v n (rw same at arrow) in
      ⊎_elim
      (λ (under : leads_below arrows n u w ≡ true). on (rw same at under) first)
      (λ (over : (leads_below arrows n u n && leads_below arrows n n w) ≡ true). on (and_parts (leads_below arrows n u n) (leads_below arrows n n w) over).1 first)
      (or_cases (leads_below arrows n u w) (leads_below arrows n u n && leads_below arrows n n w) closed))
      (cases_lt u n)

  -- what an arrow leads on from is a place
  pub inside_of_arrow : (v w : ℕ) → Contains (to_of arrows v) w → v < length arrows
  inside_of_arrow v w arrow = ⊎_elim
      (λ (inside : v < length arrows). inside)
      (λ (past : length arrows ≤ v). let none = rw (get_or_past arrows v [] past) at arrow.1 in absurd (omega arith))
      (cases_lt v (length arrows))

  inside_of_path : (v : ℕ) (between : List ℕ) (w : ℕ) → Leads arrows v between w → v < length arrows
  inside_of_path v [] w path = inside_of_arrow v w path
  inside_of_path v (u ∷ between) w path = inside_of_arrow v u path.0

  of_path : (v : ℕ) (between : List ℕ) (w : ℕ) → Leads arrows v between w → leads arrows v w ≡ true
  of_path v [] w path = of_arrow (length arrows) v w path
  of_path v (u ∷ between) w path = of_arrow_on (length arrows) v u w (inside_of_path u between w path.1) path.0 (of_path u between w path.1)

  pub closure : (v w : ℕ) → (leads arrows v w ≡ true) ↔ Reaches arrows v w
  closure v w = (path_of (length arrows) v w, λ path. of_path v path.0 w path.1)
