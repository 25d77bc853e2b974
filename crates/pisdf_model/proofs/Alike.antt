-- What is told of each part of a list, and of what the parts become.
use Rattle.std.proofs.Common.{◌≡◌, ℕ, ◌+◌, List, [], ◌∷◌, ◌++◌, map, refl, ap, ◌∙◌}
use Rattle.std.specs.List.{enumerate_from}
use Rattle.pisdf_model.specs.Details.{from_number, of_each}

alike_from : {X Y D : Type 0} (m : X → Y) (f : ℕ → Y → List D) (g : ℕ → X → List D) → ((n : ℕ) (x : X) → f n (m x) ≡ g n x) → (n : ℕ) (xs : List X) → from_number n f (map m xs) ≡ from_number n g xs
alike_from m f g alike n [] = refl
alike_from m f g alike n (x ∷ xs) = ap (λ ds. ds ++ from_number (n + 1) f (map m xs)) (alike n x) ∙ ap (λ ds. g n x ++ ds) (alike_from m f g alike (n + 1) xs)

pub alike_each : {X Y D : Type 0} (m : X → Y) (f : ℕ → Y → List D) (g : ℕ → X → List D) → ((n : ℕ) (x : X) → f n (m x) ≡ g n x) → (xs : List X) → of_each f (map m xs) ≡ of_each g xs
alike_each m f g alike xs = alike_from m f g alike 0 xs

pub same_from : {X D : Type 0} (f g : ℕ → X → List D) → ((n : ℕ) (x : X) → f n x ≡ g n x) → (n : ℕ) (xs : List X) → from_number n f xs ≡ from_number n g xs
same_from f g same n [] = refl
same_from f g same n (x ∷ xs) = ap (λ ds. ds ++ from_number (n + 1) f xs) (same n x) ∙ ap (λ ds. g n x ++ ds) (same_from f g same (n + 1) xs)

numbered_from : {X Y D : Type 0} (m : ℕ × X → Y) (f : ℕ → Y → List D) (g : ℕ → X → List D) → ((n : ℕ) (x : X) → f n (m (n, x)) ≡ g n x) → (n : ℕ) (xs : List X) → from_number n f (map m (enumerate_from n xs)) ≡ from_number n g xs
numbered_from m f g alike n [] = refl
numbered_from m f g alike n (x ∷ xs) = ap (λ ds. ds ++ from_number (n + 1) f (map m (enumerate_from (n + 1) xs))) (alike n x) ∙ ap (λ ds. g n x ++ ds) (numbered_from m f g alike (n + 1) xs)

-- where what the parts become depends on their numbers too
pub alike_numbered : {X Y D : Type 0} (m : ℕ × X → Y) (f : ℕ → Y → List D) (g : ℕ → X → List D) → ((n : ℕ) (x : X) → f n (m (n, x)) ≡ g n x) → (xs : List X) → of_each f (map m (enumerate_from 0 xs)) ≡ of_each g xs
alike_numbered m f g alike xs = numbered_from m f g alike 0 xs

-- what is told of what each part becomes, as it is told of the part
pub of_mapped : {A B C : Type 0} (m : A → B) (f : B → C) (g : A → C) → ((x : A) → f (m x) ≡ g x) → (xs : List A) → map f (map m xs) ≡ map g xs
of_mapped m f g same [] = refl
of_mapped m f g same (x ∷ xs) = ap (λ y. y ∷ map f (map m xs)) (same x) ∙ ap (λ ys. g x ∷ ys) (of_mapped m f g same xs)
