-- Lists of graphs, one of which is multiplied: what doesn't depend on the rates of interfaces stays as it was.
use Rattle.std.proofs.Common.{◌≡◌, ℕ, zero, suc, ◌+◌, ◌<◌, ◌==◌, List, [], ◌∷◌, ◌++◌, length, get_or, map, slice_get, Option, Some, refl, ap, ◌∙◌, subst, ◌≢◌, ◌⊎◌, ⊎_elim, inl, inr, true, false, if◌then◌else◌, take, ◌≤◌, eq-eqb, arith}
use Rattle.std.proofs.lemmas.Bool.{cases_eq}
use Rattle.std.proofs.lemmas.Bool.{ne_eqb}
use Rattle.std.proofs.lemmas.List.{take_all, take_more}
use Rattle.std.specs.List.{flat_map}
use Rattle.pisdf_model.specs.Details.{from_number}
use Rattle.pisdf_model.specs.Parts.{interface_names}
use Rattle.pisdf_model.specs.declared.graph.Graph.{Graph}
use Rattle.pisdf_model.specs.declared.graph.Interface.{Interface}
use Rattle.unfold_rates.specs.Multiplied.{multiplied_at, multiplied_graph, multiplied_interface}

-- ---- lists in general

pub from_number_same : {X D : Type 0} (f f' : ℕ → X → List D) → ((n : ℕ) (x : X) → f' n x ≡ f n x) → (n : ℕ) (xs : List X) → from_number n f' xs ≡ from_number n f xs
from_number_same f f' same n [] = refl
from_number_same {X} {D} f f' same n (x ∷ xs) = ap (λ (d : List D). d ++ from_number (n + 1) f' xs) (same n x) ∙ ap (λ (d : List D). f n x ++ d) (from_number_same f f' same (n + 1) xs)

pub append_same : {X : Type 0} (xs xs' ys ys' : List X) → xs' ≡ xs → ys' ≡ ys → xs' ++ ys' ≡ xs ++ ys
append_same {X} xs xs' ys ys' a b = ap (λ (d : List X). d ++ ys') a ∙ ap (λ (d : List X). xs ++ d) b

-- ---- one is multiplied

module _ (times : ℕ) where
  pub length-multiplied : (place : ℕ) (gs : List Graph) → length (multiplied_at times place gs) ≡ length gs
  length-multiplied place [] = refl
  length-multiplied zero (g ∷ gs) = refl
  length-multiplied (suc place) (g ∷ gs) = ap suc (length-multiplied place gs)

  -- what is looked up
  pub look : {X : Type 0} (q : Option Graph → X) → ((g : Graph) → q (Some (multiplied_graph times g)) ≡ q (Some g)) → (place k : ℕ) (gs : List Graph) → q (slice_get (multiplied_at times place gs) k) ≡ q (slice_get gs k)
  look q same place k [] = refl
  look q same zero zero (g ∷ gs) = same g
  look q same zero (suc k) (g ∷ gs) = refl
  look q same (suc place) zero (g ∷ gs) = refl
  look q same (suc place) (suc k) (g ∷ gs) = look q same place k gs

  -- what is made of each
  pub mapped : {X : Type 0} (f : Graph → X) → ((g : Graph) → f (multiplied_graph times g) ≡ f g) → (place : ℕ) (gs : List Graph) → map f (multiplied_at times place gs) ≡ map f gs
  mapped f same place [] = refl
  mapped {X} f same zero (g ∷ gs) = ap (λ (x : X). x ∷ map f gs) (same g)
  mapped {X} f same (suc place) (g ∷ gs) = ap (λ (xs : List X). f g ∷ xs) (mapped f same place gs)

  pub numbered : {D : Type 0} (f f' : ℕ → Graph → List D) → ((n : ℕ) (g : Graph) → f' n g ≡ f n g) → ((n : ℕ) (g : Graph) → f' n (multiplied_graph times g) ≡ f n g) →
      (n place : ℕ) (gs : List Graph) → from_number n f' (multiplied_at times place gs) ≡ from_number n f gs
  numbered f f' others same n place [] = refl
  numbered f f' others same n zero (g ∷ gs) = append_same (f n g) (f' n (multiplied_graph times g)) (from_number (n + 1) f gs) (from_number (n + 1) f' gs) (same n g) (from_number_same f f' others (n + 1) gs)
  numbered f f' others same n (suc place) (g ∷ gs) = append_same (f n g) (f' n g) (from_number (n + 1) f gs) (from_number (n + 1) f' (multiplied_at times place gs)) (others n g) (numbered f f' others same (n + 1) place gs)

  pub flattened : {X : Type 0} (f : Graph → List X) → ((g : Graph) → f (multiplied_graph times g) ≡ f g) → (place : ℕ) (gs : List Graph) → flat_map f (multiplied_at times place gs) ≡ flat_map f gs
  flattened f same place [] = refl
  flattened {X} f same zero (g ∷ gs) = ap (λ (x : List X). x ++ flat_map f gs) (same g)
  flattened {X} f same (suc place) (g ∷ gs) = ap (λ (xs : List X). f g ++ xs) (flattened f same place gs)

  -- the one at a place is multiplied or it isn't
  pub either_at : (place n : ℕ) (d : Graph) (gs : List Graph) → n < length gs →
      ((place ≡ n) × (get_or (multiplied_at times place gs) n d ≡ multiplied_graph times (get_or gs n d))) ⊎ (get_or (multiplied_at times place gs) n d ≡ get_or gs n d)
  either_at place n d [] inside = inr refl
  either_at zero zero d (g ∷ gs) inside = inl (refl, refl)
  either_at zero (suc n) d (g ∷ gs) inside = inr refl
  either_at (suc place) zero d (g ∷ gs) inside = inr refl
  either_at (suc place) (suc n) d (g ∷ gs) inside = elim (either_at place n d gs (omega arith)) [
    | inl both ↦ inl (ap suc both.0, both.1)
    | inr same ↦ inr same
  ]

  -- the graph at the place itself
  pub multiplied_there : (place : ℕ) (g : Graph) (gs : List Graph) → slice_get gs place ≡ Some g → slice_get (multiplied_at times place gs) place ≡ Some (multiplied_graph times g)
  multiplied_there place g [] here = absurd (cc)
  multiplied_there zero g (x ∷ gs) here = let same : x ≡ g = cc in ap (λ (y : Graph). Some (multiplied_graph times y)) same
  multiplied_there (suc place) g (x ∷ gs) here = multiplied_there place g gs here

  pub names_stay : (xs : List Interface) → interface_names (map (multiplied_interface times) xs) ≡ interface_names xs
  names_stay [] = refl
  names_stay (x ∷ xs) = ap (λ (names : List (List ℕ)). x.name ∷ names) (names_stay xs)

  here_at : (n : ℕ) (d : Graph) (gs : List Graph) → n < length gs → get_or (multiplied_at times n gs) n d ≡ multiplied_graph times (get_or gs n d)
  here_at n d [] inside = absurd (omega arith)
  here_at zero d (g ∷ gs) inside = refl
  here_at (suc n) d (g ∷ gs) inside = here_at n d gs (omega arith)

  other_at : (top n : ℕ) (d : Graph) (gs : List Graph) → n ≢ top → get_or (multiplied_at times top gs) n d ≡ get_or gs n d
  other_at top n d [] apart = refl
  other_at zero zero d (g ∷ gs) apart = absurd (apart refl)
  other_at zero (suc n) d (g ∷ gs) apart = refl
  other_at (suc top) zero d (g ∷ gs) apart = refl
  other_at (suc top) (suc n) d (g ∷ gs) apart = other_at top n d gs (λ e. apart (ap suc e))

  pub at_place : (top n : ℕ) (d : Graph) (gs : List Graph) → n < length gs → get_or (multiplied_at times top gs) n d ≡ (if n == top then multiplied_graph times (get_or gs n d) else get_or gs n d)
  at_place top n d gs inside = ⊎_elim
      (λ (e : n ≡ top).
      let P : ℕ → Type 0 = λ t. get_or (multiplied_at times t gs) n d ≡ (if n == t then multiplied_graph times (get_or gs n d) else get_or gs n d) in
      let test : (n == n) ≡ true = eq-eqb n n refl in
      subst P e (here_at n d gs inside ∙ rw test refl))
      (λ (ne : n ≢ top). let test : (n == top) ≡ false = ne_eqb n top ne in other_at top n d gs ne ∙ rw test refl)
      (cases_eq n top)

  pub taken_more : (top n : ℕ) (d : Graph) (gs : List Graph) → n < length gs → take (n + 1) (multiplied_at times top gs) ≡ take n (multiplied_at times top gs) ++ (if n == top then multiplied_graph times (get_or gs n d) else get_or gs n d) ∷ []
  taken_more top n d gs inside =
      let long = length-multiplied top gs in
      take_more (multiplied_at times top gs) n d (omega arith) ∙ ap (λ (g : Graph). take n (multiplied_at times top gs) ++ g ∷ []) (at_place top n d gs inside)

  pub taken_all : (top n : ℕ) (gs : List Graph) → length gs ≤ n → take n (multiplied_at times top gs) ≡ multiplied_at times top gs
  taken_all top n gs over = let long = length-multiplied top gs in take_all n (multiplied_at times top gs) (omega arith)
