-- The greatest of some numbers: one more, a bound on each, and where it is reached.
use Rattle.std.proofs.Common.{◌≡◌, ℕ, suc, ◌+◌, ◌<◌, ◌≤◌, ◌⊎◌, inl, inr, ⊎_elim, List, [], ◌∷◌, max, map, take, length, get_or, arith, refl, ap, ◌∙◌}
use Rattle.std.specs.List.{Contains}
use Rattle.std.proofs.lemmas.List.{take_more, map_more}
use Rattle.std.proofs.lemmas.Bool.{cases_lt}
use Rattle.worker_mapping.specs.Graph.{greatest}
use Rattle.worker_mapping.proofs.Lists.{greatest-append, greatest-bounds, each-contains, each-unmap}

pub greatest_more : (xs : List ℕ) (i d : ℕ) → i < length xs → greatest (take (i + 1) xs) ≡ max (greatest (take i xs)) (get_or xs i d)
greatest_more xs i d lt =
    let one : greatest (get_or xs i d ∷ []) ≡ get_or xs i d = omega arith in
    ap greatest (take_more xs i d lt) ∙ (greatest-append (take i xs) (get_or xs i d ∷ []) ∙ ap (max (greatest (take i xs))) one)

pub greatest_map_more : {X : Type 0} (f : X → ℕ) (xs : List X) (i : ℕ) (d : X) → i < length xs → greatest (map f (take (i + 1) xs)) ≡ max (greatest (map f (take i xs))) (f (get_or xs i d))
greatest_map_more f xs i d lt =
    let one : greatest (f (get_or xs i d) ∷ []) ≡ f (get_or xs i d) = omega arith in
    ap greatest (map_more f xs i d lt) ∙ (greatest-append (map f (take i xs)) (f (get_or xs i d) ∷ []) ∙ ap (max (greatest (map f (take i xs)))) one)

pub greatest_at : {X : Type 0} (f : X → ℕ) (xs : List X) (x : X) → Contains xs x → f x ≤ greatest (map f xs)
greatest_at f xs x at = each-contains (λ y. f y ≤ greatest (map f xs)) xs x (each-unmap (λ y. y ≤ greatest (map f xs)) f xs (greatest-bounds (map f xs))) at

-- it is 0, or that of one of them
pub greatest_where : {X : Type 0} (f : X → ℕ) (xs : List X) → (greatest (map f xs) ≡ 0) ⊎ ((x : X) × Contains xs x × (f x ≡ greatest (map f xs)))
greatest_where f [] = inl refl
greatest_where {X} f (x ∷ xs) = ⊎_elim
    (λ (less : f x < greatest (map f xs)). ⊎_elim
    (λ (none : greatest (map f xs) ≡ 0). absurd (omega arith))
    (λ (some : (y : X) × Contains xs y × (f y ≡ greatest (map f xs))). inr (some.0, (suc some.1.0, (let k = some.1.1 in omega arith), some.1.2), (let e = some.2 in omega arith)))
    (greatest_where f xs))
    (λ (more : greatest (map f xs) ≤ f x). inr (x, (0, omega arith, refl), omega arith))
    (cases_lt (f x) (greatest (map f xs)))
