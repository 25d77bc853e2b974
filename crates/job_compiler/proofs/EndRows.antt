-- Rows of ports, as the ends tell them that are entered there.
use Rattle.std.proofs.Common.{◌≡◌, ℕ, zero, suc, ◌+◌, ◌<◌, Bool, true, false, List, [], ◌∷◌, length, map, get_or, refl, sym, ap, ◌∙◌, subst, arith}
use Rattle.std.specs.Prelude.{◌==◌, ◌&&◌, Option, Some, None, slice_index, if◌then◌else◌}
use Rattle.std.specs.List.{range_with_len}
use Rattle.std.proofs.lemmas.Bool.{and_parts, eqb-true, eq-eqb}
use Rattle.std.proofs.lemmas.List.{ext_get_or}
use Rattle.std.proofs.lemmas.List.FromFn.{length-map-range_with_len, get_or-map-range_with_len}
use Rattle.job_compiler.specs.Rows.{row_of}
use Rattle.job_compiler.specs.Ends.{end_at, end_from, ports_with, AreRows}

-- the end with this number is at this port of this node
record IsAt (ends : List (ℕ × ℕ)) (n p i : ℕ) : Type 0 where
  inside : i < length ends
  node : (end_at ends i).0 ≡ n
  port : (end_at ends i).1 ≡ p

found_from : (ends : List (ℕ × ℕ)) (k n p e : ℕ) → end_from k ends n p ≡ Some e → (i : ℕ) × (e ≡ k + i) × IsAt ends n p i
found_from [] k n p e is = absurd (cc)
found_from (x ∷ ends) k n p e is = go ((x.0 == n) && (x.1 == p)) refl is (found_from ends (k + 1) n p e)
  where
    go : (b : Bool) → ((x.0 == n) && (x.1 == p)) ≡ b → (if b then Some k else end_from (k + 1) ends n p) ≡ Some e
        → (end_from (k + 1) ends n p ≡ Some e → (i : ℕ) × (e ≡ k + 1 + i) × IsAt ends n p i)
        → (i : ℕ) × (e ≡ k + i) × IsAt (x ∷ ends) n p i
    go true here found more =
        let parts = and_parts (x.0 == n) (x.1 == p) here in
        let same : k ≡ e = cc in
        (0, omega arith, record { inside = omega arith; node = eqb-true x.0 n parts.0; port = eqb-true x.1 p parts.1 })
    go false here found more =
        let rest = more found in
        (suc rest.0, omega (arith, rest.1), record { inside = omega (arith, rest.2.inside); node = rest.2.node; port = rest.2.port })

none_from : (ends : List (ℕ × ℕ)) (k n p : ℕ) → end_from k ends n p ≡ None → (i : ℕ) → IsAt ends n p i → ⊥
none_from [] k n p none i at = let bad : ⊥ = omega (arith, at.inside) in bad
none_from (x ∷ ends) k n p none zero at =
    let here : ((x.0 == n) && (x.1 == p)) ≡ true = rw (eq-eqb x.0 n at.node, eq-eqb x.1 p at.port) refl in
    let bad : Some k ≡ None = ap (λ b. if b then Some k else end_from (k + 1) ends n p) (sym here) ∙ none in absurd (cc)
none_from (x ∷ ends) k n p none (suc i) at =
    none_from ends (k + 1) n p (later ((x.0 == n) && (x.1 == p)) none) i record { inside = omega (arith, at.inside); node = at.node; port = at.port }
  where
    later : (b : Bool) → (if b then Some k else end_from (k + 1) ends n p) ≡ None → end_from (k + 1) ends n p ≡ None
    later true is = absurd (cc)
    later false is = is

module _ (ends : List (ℕ × ℕ)) (counts : List ℕ) (rows : List (List (Option ℕ))) (are : AreRows counts ends (length ends) rows) where
  empty : (n p : ℕ) → end_from 0 ends n p ≡ None → (o : Option ℕ) → get_or (row_of rows n) p None ≡ o → o ≡ None
  empty n p none None is = refl
  empty n p none (Some e) is =
      let at = are.only n p e is in
      absurd (none_from ends 0 n p none e record { inside = at.0; node = at.1; port = at.2 })

  cell : (n p : ℕ) → get_or (row_of rows n) p None ≡ end_from 0 ends n p
  cell n p = go (end_from 0 ends n p) refl
    where
      go : (o : Option ℕ) → end_from 0 ends n p ≡ o → get_or (row_of rows n) p None ≡ o
      go (Some e) is =
          let found = found_from ends 0 n p e is in
          let at = found.2 in
          let e_is : found.0 ≡ e = omega (arith, found.1) in
          subst (λ i. get_or (row_of rows n) p None ≡ Some i) e_is
          (subst (λ (x : ℕ × ℕ). get_or (row_of rows x.0) x.1 None ≡ Some found.0) (λ t. (at.node t, at.port t)) (are.entered found.0 at.inside))
      go None is = empty n p is (get_or (row_of rows n) p None) refl

  row_is : (n : ℕ) → n < length counts → row_of rows n ≡ ports_with ends n (slice_index counts n)
  row_is n inside = ext_get_or None (row_of rows n) (ports_with ends n (slice_index counts n))
      (are.longs n inside ∙ sym (length-map-range_with_len (end_from 0 ends n) 0 (slice_index counts n)))
      (λ p below. cell n p ∙ sym (get_or-map-range_with_len (end_from 0 ends n) 0 (slice_index counts n) p p None (omega (arith, below, are.longs n inside)) (omega arith)))

  -- each row by the number of its ports
  pub rows_are : (count_of : ℕ → ℕ) → ((n : ℕ) → n < length counts → slice_index counts n ≡ count_of n)
      → rows ≡ map (λ n. ports_with ends n (count_of n)) (range_with_len 0 (length counts))
  rows_are count_of counted = ext_get_or [] rows (map (λ n. ports_with ends n (count_of n)) (range_with_len 0 (length counts)))
      (are.one_each ∙ sym (length-map-range_with_len (λ n. ports_with ends n (count_of n)) 0 (length counts)))
      (λ n below.
      let inside : n < length counts = omega (arith, below, are.one_each) in
      row_is n inside ∙ (ap (ports_with ends n) (counted n inside) ∙ sym (get_or-map-range_with_len (λ m. ports_with ends m (count_of m)) 0 (length counts) n n [] inside (omega arith))))
