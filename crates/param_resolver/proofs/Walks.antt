-- Walking over the parts of a list: what each comes to, until one of them has a fault.
use Rattle.std.proofs.Common.{◌≡◌, ℕ, ◌+◌, ◌<◌, ◌≤◌, List, [], ◌∷◌, ◌++◌, length, map, take, Option, Some, None, Result, Ok, Err, IfErr, refl, sym, ap, ◌∙◌, subst, arith, get_or}
use Rattle.std.proofs.lemmas.List.{map_more, take_all}
use Rattle.pisdf_model.specs.Details.{of_each}
use Rattle.pisdf_model.proofs.Walking.{Stands, ends, goes_on, is_done}
use Rattle.param_resolver.specs.Refusal.{Refusal, StandsFirst, TellsMemory, refusal_of}
use Rattle.std.specs.Result.{IsErrAnd}
use Rattle.param_resolver.specs.declared.fault.EarlyFault.{EarlyFault}

-- the first parts have no fault, and have come to these
pub record Walks {X Y : Type 0} (f : ℕ → X → List Refusal) (g : X → Y) (i : ℕ) (xs : List X) (ys : List Y) : Type 0 where
  pub stands : Stands 0 f i xs
  pub so_far : ys ≡ map g (take i xs)

pub walks_on : {X Y : Type 0} (f : ℕ → X → List Refusal) (g : X → Y) (i : ℕ) (xs : List X) (ys : List Y) (x : X) (y : Y) → i < length xs → x ≡ get_or xs i x
    → f i x ≡ [] → y ≡ g x → Walks f g i xs ys → Walks f g (i + 1) xs (ys ++ y ∷ [])
walks_on {X} {Y} f g i xs ys x y inside is none comes walks = record {
  stands = let at_i : 0 + i ≡ i = omega arith in goes_on 0 f i xs x inside is (rw at_i none) walks.stands;
  so_far = rw (walks.so_far, comes) (sym (map_more g xs i x inside ∙ ap (λ z. map g (take i xs) ++ g z ∷ []) (sym is)));
}

pub walked : {X Y : Type 0} (f : ℕ → X → List Refusal) (g : X → Y) (i : ℕ) (xs : List X) (ys : List Y) → length xs ≤ i → Walks f g i xs ys → ys ≡ map g xs
walked f g i xs ys whole walks = walks.so_far ∙ ap (map g) (take_all i xs whole)

pub no_fault : {X Y : Type 0} (f : ℕ → X → List Refusal) (g : X → Y) (i : ℕ) (xs : List X) (ys : List Y) → length xs ≤ i → Walks f g i xs ys → of_each f xs ≡ []
no_fault f g i xs ys whole walks = is_done 0 f i xs whole walks.stands

pub stands_among : {X : Type 0} (f : ℕ → X → List Refusal) (i : ℕ) (xs : List X) (x : X) (r : Option Refusal) → i < length xs → x ≡ get_or xs i x
    → StandsFirst (f i x) r → Stands 0 f i xs → StandsFirst (of_each f xs) r
stands_among f i xs x None inside is here stands = tt
stands_among f i xs x (Some r) inside is here stands = let at_i : 0 + i ≡ i = omega arith in ends 0 f i xs x r inside is (rw at_i here) stands

pub walk_ends : {X Y : Type 0} (f : ℕ → X → List Refusal) (g : X → Y) (i : ℕ) (xs : List X) (ys : List Y) (x : X) (r : Option Refusal) → i < length xs → x ≡ get_or xs i x
    → StandsFirst (f i x) r → Walks f g i xs ys → StandsFirst (of_each f xs) r
walk_ends f g i xs ys x r inside is here walks = stands_among f i xs x r inside is here walks.stands

-- ---- faults one behind the other

pub first_part : (xs ys : List Refusal) (r : Option Refusal) → StandsFirst xs r → StandsFirst (xs ++ ys) r
first_part xs ys None stands = tt
first_part [] ys (Some r) stands = cc
first_part (x ∷ xs) ys (Some r) stands = stands

pub later_part : (xs ys : List Refusal) (r : Option Refusal) → xs ≡ [] → StandsFirst ys r → StandsFirst (xs ++ ys) r
later_part xs ys r none stands = subst (λ zs. StandsFirst (zs ++ ys) r) (sym none) stands

pub both_none : (xs ys : List Refusal) → xs ≡ [] → ys ≡ [] → xs ++ ys ≡ []
both_none xs ys none nothing = rw (none, nothing) refl

-- ---- a fault that is passed on

pub passed : {T : Type 0} (result : Result T EarlyFault) (from : Option Refusal) (faults : List Refusal) → IsErrAnd result (λ e. (refusal_of e ≡ from) × TellsMemory e) → StandsFirst faults from → IfErr result (λ f. StandsFirst faults (refusal_of f))
passed (Ok v) from faults is stands = absurd is
passed (Err e) from faults is stands = rw is.0 stands

pub passed_same : {T : Type 0} (result : Result T EarlyFault) (fault : EarlyFault) (faults : List Refusal) → IsErrAnd result (λ e. e ≡ fault) → StandsFirst faults (refusal_of fault) → IfErr result (λ f. StandsFirst faults (refusal_of f))
passed_same (Ok v) fault faults is stands = absurd is
passed_same (Err e) fault faults is stands = rw is stands
