-- A graph that an actor names has fewer graphs nested in each other below it than the graph of the actor.
use Rattle.std.proofs.Common.{◌≡◌, ℕ, zero, suc, ◌+◌, ◌-◌, ◌<◌, ◌≤◌, ◌⊎◌, ⊎_elim, List, [], ◌∷◌, map, refl, sym, ap, ◌∙◌, arith}
use Rattle.pisdf_model.specs.Arrows.{to_of}
use Rattle.pisdf_model.specs.Nesting.{greatest, nesting_to}

-- one level more
step : (holds : List (List ℕ)) (n place : ℕ) → nesting_to holds (suc n) place ≡ 1 + greatest (map (nesting_to holds n) (to_of holds place))
unfolding nesting_to
step holds n place = refl

-- counted to one more, graphs that are nested no deeper than so many have as many
same_greatest : (f h : ℕ → ℕ) (n : ℕ) (ks : List ℕ) → ((k : ℕ) → f k ≤ n → h k ≡ f k) → greatest (map f ks) ≤ n → greatest (map h ks) ≡ greatest (map f ks)
same_greatest f h n [] same most = refl
same_greatest f h n (k ∷ ks) same most = rw (same k (omega arith), same_greatest f h n ks same (omega arith)) refl

settled : (holds : List (List ℕ)) (n place : ℕ) → nesting_to holds (suc n) place ≤ n → nesting_to holds (suc (suc n)) place ≡ nesting_to holds (suc n) place
settled holds zero place most = absurd (let s = step holds 0 place in omega arith)
settled holds (suc n) place most =
    let here = step holds (suc n) place in
    let more = step holds (suc (suc n)) place in
    more ∙ ap (λ m. 1 + m) (same_greatest (nesting_to holds (suc n)) (nesting_to holds (suc (suc n))) n (to_of holds place) (λ k below. settled holds n k below) (omega arith)) ∙ sym here

-- the place stands in the list
abbrev pub Stands : ℕ → List ℕ → Type 0
Stands k [] = ⊥
Stands k (j ∷ ks) = (j ≡ k) ⊎ Stands k ks

greatest_over : (f : ℕ → ℕ) (k : ℕ) (ks : List ℕ) → Stands k ks → f k ≤ greatest (map f ks)
greatest_over f k [] stands = absurd stands
greatest_over f k (j ∷ ks) stands = ⊎_elim
    (λ (here : j ≡ k). let e = ap f here in omega arith)
    (λ (later : Stands k ks). let rest = greatest_over f k ks later in omega arith)
    stands

pub below : (holds : List (List ℕ)) (n place k : ℕ) → nesting_to holds (suc (suc n)) place ≤ suc n → Stands k (to_of holds place) → nesting_to holds (suc (suc n)) k - 1 < nesting_to holds (suc (suc n)) place - 1
below holds n place k most stands =
    let here = step holds (suc n) place in
    let child = greatest_over (nesting_to holds (suc n)) k (to_of holds place) stands in
    let some = step holds n k in
    let same = settled holds n k (omega arith) in
    omega arith
