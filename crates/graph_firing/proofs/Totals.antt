-- What a function gives of the elements of a list, in all, and how many items of a job are free.
use Rattle.std.proofs.Common.{◌≡◌, ℕ, zero, suc, ◌+◌, ◌<◌, List, [], ◌∷◌, ◌++◌, length, get_or, set, replicate, refl, arith}
use Rattle.nested_jobs.specs.Marks.{Free}
use Rattle.graph_firing.specs.View.{free_in, total}

pub total_set : {A : Type 0} (f : A → ℕ) (xs : List A) (i : ℕ) (y d : A) → i < length xs → total f (set xs i y) + f (get_or xs i d) ≡ total f xs + f y
total_set f [] i y d lt = absurd (omega arith)
total_set f (x ∷ xs) zero y d lt = omega arith
total_set f (x ∷ xs) (suc i) y d lt = let t = total_set f xs i y d (omega arith) in omega arith

pub total_append : {A : Type 0} (f : A → ℕ) (xs ys : List A) → total f (xs ++ ys) ≡ total f xs + total f ys
total_append f [] ys = omega arith
total_append f (x ∷ xs) ys = let t = total_append f xs ys in omega arith

pub free_copies : (n : ℕ) → free_in (replicate n Free) ≡ n
free_copies zero = refl
free_copies (suc n) = let t = free_copies n in omega arith
