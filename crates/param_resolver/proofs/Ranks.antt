-- Where no path leads back to its start, each place has a rank above those to which its arrows lead: how many places paths lead to.
use Rattle.std.proofs.Common.{◌≡◌, ℕ, zero, suc, ◌+◌, ◌<◌, ◌≤◌, ⊎_elim, Bool, true, false, List, [], ◌∷◌, length, Contains, All, refl, sym, arith}
use Rattle.std.proofs.lemmas.Bool.{cases_lt, true≢false}
use Rattle.std.proofs.lemmas.List.Elements.{All-contains, All-get_or}
use Rattle.pisdf_model.specs.Arrows.{to_of, LeadsInside, leads, on_cycles}
use Rattle.pisdf_model.proofs.Closure.{closure, inside_of_arrow}
use Rattle.pisdf_model.proofs.Lists.{nowhere_kept}

abbrev weight : Bool → ℕ
weight true = 1
weight false = 0

-- how many places below n pass the test
tally : (ℕ → Bool) → ℕ → ℕ
tally test zero = 0
tally test (suc n) = weight (test n) + tally test n

weight_more : (a b : Bool) → (a ≡ true → b ≡ true) → weight a ≤ weight b
weight_more true true more = omega arith
weight_more true false more = absurd (true≢false (sym (more refl)))
weight_more false b more = omega arith

module _ (p q : ℕ → Bool) (more : (k : ℕ) → p k ≡ true → q k ≡ true) where
  tally_more : (n : ℕ) → tally p n ≤ tally q n
  unfolding tally
  tally_more zero = omega arith
  tally_more (suc n) =
      let here = weight_more (p n) (q n) (more n) in
      let rest = tally_more n in
      omega arith

  tally_less : (n w : ℕ) → w < n → p w ≡ false → q w ≡ true → tally p n < tally q n
  unfolding tally
  tally_less zero w inside without has = absurd (omega arith)
  tally_less (suc n) w inside without has = ⊎_elim
      (λ (before : w < n).
      let here = weight_more (p n) (q n) (more n) in
      let rest = tally_less n w before without has in
      omega arith)
      (λ (last : n ≤ w).
      let same : w ≡ n = omega arith in
      let rest = tally_more n in
      let none : p n ≡ false = rw same at without in
      let one : q n ≡ true = rw same at has in
      rw (none, one) (omega arith))
      (cases_lt w n)

tally_all : (n : ℕ) → tally (λ k. true) n ≡ n
unfolding tally
tally_all zero = refl
tally_all (suc n) = let rest = tally_all n in omega arith

pub rank : List (List ℕ) → ℕ → ℕ
rank arrows v = tally (leads arrows v) (length arrows)

module _ (arrows : List (List ℕ)) (no_cycle : on_cycles arrows ≡ []) where
  not_around : (v : ℕ) → v < length arrows → leads arrows v v ≡ false
  not_around v inside = nowhere_kept (λ u. leads arrows u u) (length arrows) v no_cycle inside

  pub rank_inside : (v : ℕ) → v < length arrows → rank arrows v < length arrows
  unfolding rank
  rank_inside v inside =
      let less = tally_less (leads arrows v) (λ k. true) (λ k has. refl) (length arrows) v inside (not_around v inside) refl in
      rw tally_all at less

  on : (v w : ℕ) → Contains (to_of arrows v) w → (u : ℕ) → leads arrows w u ≡ true → leads arrows v u ≡ true
  on v w arrow u further = let path = (closure arrows w u).0 further in (closure arrows v u).1 (w ∷ path.0, (arrow, path.1))

  pub rank_falls : LeadsInside arrows → (v w : ℕ) → Contains (to_of arrows v) w → rank arrows w < rank arrows v
  unfolding rank
  rank_falls inside v w arrow =
      let there = All-get_or (λ to. All (λ u. u < length arrows) to) arrows v [] (inside_of_arrow arrows v w arrow) inside in
      let below = All-contains (λ u. u < length arrows) (to_of arrows v) w there arrow in
      tally_less (leads arrows w) (leads arrows v) (on v w arrow) (length arrows) w below (not_around w below) ((closure arrows v w).1 ([], arrow))
