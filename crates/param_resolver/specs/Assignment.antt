-- The values of a graph's parameters (Desnos and others 2013, PiMM): the one assignment, which parameters are sound in it, and at which a fault stands.
use Rattle.std.specs.Prelude.{◌≡◌, ℕ, zero, suc, ◌&&◌, Bool, true, false, ℤ, pos, int_le, List, [], ◌∷◌, length, map, drop, slice_get, slice_index_or, is_some, unwrap_or, Option, Some, None, Result, Ok, Err, if◌then◌else◌}
use Rattle.std.specs.List.{list_all}
use Rattle.param_expr.specs.Eval.{eval_of}
use Rattle.param_expr.specs.declared.evaluation.EvalFault.{EvalFault}
use Rattle.param_expr.specs.declared.evaluation.EvalFault.TheVariants as eval
use Rattle.pisdf_model.specs.Details.{first, of_each}
use Rattle.pisdf_model.specs.ParamOrder.{places_of, is_chosen_kind}
use Rattle.pisdf_model.specs.Ports.{is_inherited}
use Rattle.pisdf_model.specs.declared.param.Param.{Param}
use Rattle.pisdf_model.specs.declared.param.ParamKind.{ParamKind}
use Rattle.pisdf_model.specs.declared.param.ParamKind.TheVariants.{Inherited, Derived, Chosen}
use Rattle.param_resolver.specs.declared.fault.ResolveFault.{ResolveFault}
use Rattle.param_resolver.specs.declared.fault.ResolveFault.TheVariants as resolve
use Rattle.param_resolver.specs.declared.fault.Why.{Why}
use Rattle.param_resolver.specs.declared.fault.Why.TheVariants.{Value, Overflow, Division}

-- ---- what parameters are supplied with

abbrev pub one_if : Bool → ℕ
one_if true = 1
one_if false = 0

-- what a parameter of this kind is supplied with, where these are the next values of the inherited and of the chosen ones
abbrev pub supplied_next : ParamKind → Option ℤ → Option ℤ → Option ℤ
supplied_next Inherited inherited chosen = inherited
supplied_next (Derived expr) inherited chosen = None
supplied_next Chosen inherited chosen = chosen

-- the values of the inherited and of the chosen parameters, each in file order, laid out by parameter
abbrev pub supplied_to : List Param → List ℤ → List ℤ → List (Option ℤ)
supplied_to [] inherited chosen = []
supplied_to (p ∷ params) inherited chosen =
    supplied_next p.kind (slice_get inherited 0) (slice_get chosen 0)
    ∷ supplied_to params (drop (one_if (is_inherited p.kind)) inherited) (drop (one_if (is_chosen_kind p.kind)) chosen)

-- ---- what becomes of a parameter, where these are the values of the sound ones

abbrev pub why_of : EvalFault → Why
why_of eval.Overflow = Overflow
why_of eval.Division = Division

-- all of these parameters are sound
abbrev pub are_sound : List (Option ℤ) → List ℕ → Bool
are_sound values places = list_all (λ q. is_some (slice_index_or values q None)) places

-- the values, with 0 in place of those that aren't there
abbrev pub numbers : List (Option ℤ) → List ℤ
numbers values = map (λ v. unwrap_or v (pos 0)) values

-- a value within its range, or why it isn't
abbrev pub within : ℤ → ℤ → ℤ → Result (Option ℤ) Why
within low high value = if int_le low value && int_le value high then Ok (Some value) else Err (Value value)

abbrev pub supplied_within : ℤ → ℤ → Option ℤ → Result (Option ℤ) Why
supplied_within low high None = Ok None
supplied_within low high (Some value) = within low high value

abbrev pub evaluated_within : ℤ → ℤ → Result ℤ EvalFault → Result (Option ℤ) Why
evaluated_within low high (Ok value) = within low high value
evaluated_within low high (Err fault) = Err (why_of fault)

-- the value that a parameter has where it is sound; none where it isn't because it is supplied with none, or because what it refers to isn't sound; or else why it isn't
abbrev pub outcome : List (Option ℤ) → ℤ → ℤ → ParamKind → Option ℤ → Result (Option ℤ) Why
outcome values low high Inherited supplied = supplied_within low high supplied
outcome values low high (Derived expr) supplied = if are_sound values (places_of expr) then evaluated_within low high (eval_of (numbers values) expr) else Ok None
outcome values low high Chosen supplied = supplied_within low high supplied

-- the same of each parameter
abbrev pub outcomes : List (Option ℤ) → List Param → List (Option ℤ) → List (Result (Option ℤ) Why)
outcomes values [] supplied = []
outcomes values (p ∷ params) supplied = outcome values p.low p.high p.kind (slice_index_or supplied 0 None) ∷ outcomes values params (drop 1 supplied)

abbrev pub value_in : Result (Option ℤ) Why → Option ℤ
value_in (Ok value) = value
value_in (Err why) = None

abbrev pub values_in : List (Result (Option ℤ) Why) → List (Option ℤ)
values_in found = map value_in found

-- ---- the assignment

-- Each sound parameter has its value: what it is supplied with, or what its expression comes to over these values themselves. The others have none.
abbrev pub IsAssignment : List Param → List (Option ℤ) → List (Option ℤ) → Type 0
IsAssignment params supplied values = values ≡ values_in (outcomes values params supplied)

-- what is known after n rounds, in each of which every parameter is worked out from what the round before knew
unfoldable pub values_after : ℕ → List Param → List (Option ℤ) → List (Option ℤ)
values_after zero params supplied = map (λ p. None) params
values_after (suc n) params supplied = values_in (outcomes (values_after n params supplied) params supplied)

-- after as many rounds as there are parameters: the one assignment, where no parameter depends on itself
abbrev pub values_of : List Param → List (Option ℤ) → List (Option ℤ)
values_of params supplied = values_after (length params) params supplied

-- ---- its faults

abbrev pub fault_in : ℕ → Result (Option ℤ) Why → List (ℕ × Why)
fault_in place (Ok value) = []
fault_in place (Err why) = (place, why) ∷ []

-- the parameters that aren't sound though all that they refer to is, with the reason, in file order
abbrev pub param_faults : List Param → List (Option ℤ) → List (ℕ × Why)
param_faults params supplied = of_each fault_in (outcomes (values_of params supplied) params supplied)

-- the fault is that of the first of these, unless it is want of memory
abbrev pub StandsAt : List (ℕ × Why) → ResolveFault → Type 0
StandsAt faults (resolve.Param place why) = first faults ≡ Some (place, why)
StandsAt faults resolve.Memory = Unit {0}
