-- The phases of a seat, and lists with one element.
use Rattle.std.proofs.Common.{◌≡◌, ℕ, zero, suc, ◌<◌, ◌⊎◌, inl, inr, Option, Some, None, List, [], ◌∷◌, length, refl, sym, ◌∙◌, ap, arith}
use mathlib.Core.Option.{some, some-injective, some-ne-none}
use lib.ListN.{get_elem?}
use Rattle.atomic_table.specs.Table.{rest}
use Rattle.board_lock.specs.declared.view.Phase.{Phase}
use Rattle.board_lock.specs.declared.view.Phase.TheVariants.{Starting, Open, Holding, Spent}

pub phase_cases : (s : Phase) → (s ≡ Spent) ⊎ (s ≡ Spent → ⊥)
phase_cases Starting = inr (λ h. cc)
phase_cases Open = inr (λ h. cc)
phase_cases Holding = inr (λ h. cc)
phase_cases Spent = inl refl

pub holding_spent : ◌≡◌ {A = Phase} Holding Spent → ⊥
holding_spent h = cc

pub open_spent : ◌≡◌ {A = Phase} Open Spent → ⊥
open_spent h = cc

pub open_holding : ◌≡◌ {A = Phase} Open Holding → ⊥
open_holding h = cc

pub starting_open : ◌≡◌ {A = Phase} Starting Open → ⊥
starting_open h = cc

pub starting_spent : ◌≡◌ {A = Phase} Starting Spent → ⊥
starting_spent h = cc

pub starting_holding : ◌≡◌ {A = Phase} Starting Holding → ⊥
starting_holding h = cc

pub some_is : {A : Type 0} (x y : A) → Some x ≡ Some y → x ≡ y
some_is x y h = cc

pub none_some : {A : Type 0} (x : A) → ◌≡◌ {A = Option A} None (Some x) → ⊥
none_some x h = cc

pub at_within : {A : Type 0} (l : List A) (i : ℕ) (a : A) → get_elem? l i ≡ some a → i < length l
at_within [] i a e = absurd (some-ne-none a (sym e))
at_within (x ∷ xs) zero a e = omega arith
at_within (x ∷ xs) (suc i) a e = let t = at_within xs i a e in omega arith

pub only_one : {A : Type 0} (x : A) (i : ℕ) (a : A) → get_elem? (x ∷ []) i ≡ some a → (i ≡ 0) × (x ≡ a)
only_one x zero a e = (refl, some-injective x a e)
only_one x (suc i) a e = absurd (some-ne-none a (sym e))

abbrev pub first_value : {A : Type 0} → List (ℕ × Option A) → Option A
first_value [] = None
first_value (x ∷ xs) = x.1

-- what a seat with one slot has
pub full : {A : Type 0} (l : List (ℕ × A)) (x : A) → l ≡ (0, x) ∷ [] → l ≡ (0, x) ∷ rest l
full l x e = e ∙ ap (λ (k : List (ℕ × _)). (0, x) ∷ rest k) (sym e)

-- what was taken is what was there
pub taken : {A : Type 0} (l : List (Option A)) (x : A) (r : Option A) → get_elem? l 0 ≡ some (Some x) → get_elem? l 0 ≡ some r → r ≡ Some x
taken l x r there took = some-injective r (Some x) (sym took ∙ there)
