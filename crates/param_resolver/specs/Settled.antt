-- What is found of parameters, one after the other.
use Rattle.std.specs.Prelude.{◌≡◌, ℕ, ◌<◌, ℤ, List, map, slice_get, slice_index_or, Option, Some, None, IsSome, IfSome, Result, Ok, []}
use Rattle.pisdf_model.specs.Arrows.{LeadsInside, on_cycles}
use Rattle.pisdf_model.specs.Details.{of_each}
use Rattle.pisdf_model.specs.ParamOrder.{refers}
use Rattle.param_expr.specs.Eval.{RefersBelow}
use Rattle.pisdf_model.specs.declared.param.Param.{Param}
use Rattle.pisdf_model.specs.declared.param.ParamKind.{ParamKind}
use Rattle.pisdf_model.specs.declared.param.ParamKind.TheVariants.{Inherited, Derived, Chosen}
use Rattle.param_resolver.specs.Assignment.{IsAssignment, fault_in, outcome, value_in}
use Rattle.param_resolver.specs.declared.fault.Why.{Why}

-- what each of these parameters refers to
abbrev pub references_of : List Param → List (List ℕ)
references_of params = map (λ (p : Param). refers p.kind) params

-- the parameters refer to parameters, and none depends on itself
pub record AreOrdered (params : List Param) : Type 0 where
  pub inside : LeadsInside (references_of params)
  pub no_cycle : on_cycles (references_of params) ≡ []

abbrev pub outcome_of : List (Option ℤ) → Option Param → Option ℤ → Result (Option ℤ) Why
outcome_of values None supplied = Ok None
outcome_of values (Some p) supplied = outcome values p.low p.high p.kind supplied

-- what becomes of the parameter at a place
abbrev pub outcome_at : List Param → List (Option ℤ) → List (Option ℤ) → ℕ → Result (Option ℤ) Why
outcome_at params supplied values place = outcome_of values (slice_get params place) (slice_index_or supplied place None)

-- what was found of each, if anything was
abbrev pub Found : Type 0
Found = List (Option (Result (Option ℤ) Why))

abbrev pub found_at : Found → ℕ → Option (Result (Option ℤ) Why)
found_at found place = slice_index_or found place None

abbrev pub value_found : Option (Result (Option ℤ) Why) → Option ℤ
value_found None = None
value_found (Some o) = value_in o

-- the values found
abbrev pub values_found : Found → List (Option ℤ)
values_found found = map value_found found

-- the fault found, if one was
abbrev pub fault_found : ℕ → Option (Result (Option ℤ) Why) → List (ℕ × Why)
fault_found place None = []
fault_found place (Some o) = fault_in place o

abbrev pub faults_found : Found → List (ℕ × Why)
faults_found found = of_each fault_found found

-- all of so many places are settled
abbrev pub AreSettled : ℕ → Found → Type 0
AreSettled n found = (q : ℕ) → q < n → IsSome (found_at found q)

-- what was found is kept
abbrev pub Keeps : Found → Found → Type 0
Keeps old new = (q : ℕ) → IsSome (found_at old q) → found_at new q ≡ found_at old q

-- what was found is what becomes of the parameters under these values
abbrev pub Tells : List Param → List (Option ℤ) → List (Option ℤ) → Found → Type 0
Tells params supplied values found = (q : ℕ) → IfSome (found_at found q) (λ o. o ≡ outcome_at params supplied values q)

-- what told the assignment before tells it now
abbrev pub KeepsTelling : List Param → List (Option ℤ) → Found → Found → Type 0
KeepsTelling params supplied old new = (values : List (Option ℤ)) → IsAssignment params supplied values → Tells params supplied values old → Tells params supplied values new

-- the expression of a derived parameter refers to places below n
abbrev pub ReferInside : ℕ → ParamKind → Type 0
ReferInside n Inherited = Unit {0}
ReferInside n (Derived expr) = RefersBelow n expr
ReferInside n Chosen = Unit {0}
