-- Walking over the parts of a list, as a loop does, until one of them gives a detail.
use Rattle.std.proofs.Common.{◌≡◌, ℕ, suc, ◌+◌, ◌≤◌, ◌<◌, Bool, true, false, List, [], ◌∷◌, ◌++◌, length, get_or, drop, Some, refl, sym, ap, ◌∙◌, add-one, arith}
use Rattle.std.proofs.Math.Seq.{drop-cons}
use Rattle.std.proofs.Math.ListN.{drop_of_length-le}
use Rattle.pisdf_model.specs.declared.detail_fault.DetailFault.{DetailFault}
use Rattle.pisdf_model.specs.declared.detail_fault.DetailFault.TheVariants.{Fault, Memory}
use Rattle.pisdf_model.specs.Details.{first, from_number, of_each, unless, Refuses}

-- the parts before number i gave nothing: those from it on give what all of them give
pub record Stands {X D : Type 0} (n : ℕ) (f : ℕ → X → List D) (i : ℕ) (xs : List X) : Type 0 where
  pub so_far : from_number (n + i) f (drop i xs) ≡ from_number n f xs

pub starts : {X D : Type 0} (n : ℕ) (f : ℕ → X → List D) (xs : List X) → Stands n f 0 xs
starts n f xs = record { so_far = ap (λ m. from_number m f xs) (omega arith) }

-- one part, and those after it
pub part : {X D : Type 0} (f : ℕ → X → List D) (i : ℕ) (xs : List X) (x : X) → i < length xs → x ≡ get_or xs i x
    → from_number i f (drop i xs) ≡ f i x ++ from_number (i + 1) f (drop (i + 1) xs)
part f i xs x lt is =
    let e : drop i xs ≡ x ∷ drop (i + 1) xs = rw (add-one) (drop-cons xs i x lt ∙ ap (λ w. w ∷ drop (suc i) xs) (sym is)) in
    rw e refl

-- the same, where the first part has the number n
step : {X D : Type 0} (n : ℕ) (f : ℕ → X → List D) (i : ℕ) (xs : List X) (x : X) → i < length xs → x ≡ get_or xs i x
    → from_number (n + i) f (drop i xs) ≡ f (n + i) x ++ from_number (n + (i + 1)) f (drop (i + 1) xs)
step n f i xs x lt is =
    let e : drop i xs ≡ x ∷ drop (i + 1) xs = rw (add-one) (drop-cons xs i x lt ∙ ap (λ w. w ∷ drop (suc i) xs) (sym is)) in
    let k : n + i + 1 ≡ n + (i + 1) = omega arith in
    rw e (ap (λ m. f (n + i) x ++ from_number m f (drop (i + 1) xs)) k)

pub goes_on : {X D : Type 0} (n : ℕ) (f : ℕ → X → List D) (i : ℕ) (xs : List X) (x : X) → i < length xs → x ≡ get_or xs i x
    → f (n + i) x ≡ [] → Stands n f i xs → Stands n f (i + 1) xs
goes_on n f i xs x lt is none stands =
    record { so_far = sym (ap (λ ds. ds ++ from_number (n + (i + 1)) f (drop (i + 1) xs)) none) ∙ sym (step n f i xs x lt is) ∙ stands.so_far }

pub is_done : {X D : Type 0} (n : ℕ) (f : ℕ → X → List D) (i : ℕ) (xs : List X) → length xs ≤ i → Stands n f i xs → from_number n f xs ≡ []
is_done n f i xs le stands = sym stands.so_far ∙ ap (from_number (n + i) f) (drop_of_length-le xs le)

pub first-append : {D : Type 0} (xs ys : List D) (d : D) → first xs ≡ Some d → first (xs ++ ys) ≡ Some d
first-append [] ys d h = absurd cc
first-append (x ∷ xs) ys d h = h

pub ends : {X D : Type 0} (n : ℕ) (f : ℕ → X → List D) (i : ℕ) (xs : List X) (x : X) (d : D) → i < length xs → x ≡ get_or xs i x
    → first (f (n + i) x) ≡ Some d → Stands n f i xs → first (from_number n f xs) ≡ Some d
ends n f i xs x d lt is h stands =
    ap first (sym stands.so_far ∙ step n f i xs x lt is) ∙ first-append (f (n + i) x) (from_number (n + (i + 1)) f (drop (i + 1) xs)) d h

-- the same of an answer that may be want of memory
pub refuses : {X D : Type 0} (n : ℕ) (f : ℕ → X → List D) (i : ℕ) (xs : List X) (x : X) (e : DetailFault D) → i < length xs → x ≡ get_or xs i x
    → Refuses (f (n + i) x) e → Stands n f i xs → Refuses (from_number n f xs) e
refuses n f i xs x (Fault d) lt is h stands = ends n f i xs x d lt is h stands
refuses n f i xs x Memory lt is h stands = tt

-- where a part is told unless it passes a test
module _ {X D : Type 0} (f : ℕ → X → List D) (i : ℕ) (xs : List X) (x : X) (inside : i < length xs) (is : x ≡ get_or xs i x) (test : Bool) (d : D) (told : f i x ≡ unless test d) (stands : Stands 0 f i xs) where
  at_i : 0 + i ≡ i
  at_i = omega arith

  pub passes_by : test ≡ true → Stands 0 f (i + 1) xs
  passes_by passes = goes_on 0 f i xs x inside is (rw at_i (told ∙ ap (λ b. unless b d) passes)) stands

  pub fails_by : test ≡ false → (fault : DetailFault D) → Refuses (d ∷ []) fault → Refuses (of_each f xs) fault
  fails_by fails fault refused = refuses 0 f i xs x fault inside is (rw (at_i, told, fails) refused) stands

-- where an answer at a part is passed on
pub refuses_here : {X D : Type 0} (f : ℕ → X → List D) (i : ℕ) (xs : List X) (x : X) (fault : DetailFault D) → i < length xs → x ≡ get_or xs i x → Refuses (f i x) fault → Stands 0 f i xs → Refuses (of_each f xs) fault
refuses_here f i xs x fault inside is refused stands =
    let at_i : 0 + i ≡ i = omega arith in
    refuses 0 f i xs x fault inside is (rw at_i refused) stands
