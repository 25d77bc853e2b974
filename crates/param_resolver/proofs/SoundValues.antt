-- Where no parameter has a fault, and each that isn't derived is supplied with a value, all parameters are sound.
use Rattle.std.proofs.Common.{◌≡◌, ℕ, zero, suc, ◌+◌, ◌<◌, Bool, true, false, cond, ◌&&◌, int_le, ℤ, List, [], ◌∷◌, length, drop, Contains, All, Option, Some, None, IsSome, Result, Ok, Err, is_some, refl, sym, ap, ◌∙◌, subst, arith, get_or}
use Rattle.std.specs.List.{slice_get}
use Rattle.std.proofs.lemmas.Bool.{and_from, false≢true}
use Rattle.std.proofs.lemmas.List.{get_or-drop, length-map}
use Rattle.std.proofs.lemmas.List.Elements.{All-contains, All-get_or, Contains-append_right}
use Rattle.param_expr.specs.Eval.{eval_of}
use Rattle.param_expr.specs.declared.evaluation.EvalFault.{EvalFault}
use Rattle.pisdf_model.specs.Arrows.{to_of}
use Rattle.pisdf_model.specs.Details.{from_number}
use Rattle.pisdf_model.specs.ParamOrder.{places_of, refers}
use Rattle.pisdf_model.specs.declared.param.Param.{Param}
use Rattle.pisdf_model.specs.declared.param.ParamKind.{ParamKind}
use Rattle.pisdf_model.specs.declared.param.ParamKind.TheVariants.{Inherited, Derived, Chosen}
use Rattle.pisdf_model.proofs.Lists.{left_none, right_none}
use Rattle.param_resolver.specs.Assignment.{are_sound, evaluated_within, fault_in, supplied_within, numbers, outcome, outcomes, param_faults, value_in, values_of}
use Rattle.param_resolver.specs.Settled.{AreOrdered, outcome_at, outcome_of, references_of}
use Rattle.param_resolver.specs.Sound.{AreSupplied, IsSupplied}
use Rattle.param_resolver.specs.declared.fault.Why.TheVariants.{Value}
use Rattle.param_resolver.proofs.Assignments.{is_assignment, value_worked}
use Rattle.param_resolver.proofs.Ranks.{rank, rank_falls}

within_some : (b : Bool) (n : ℕ) (value : ℤ) → fault_in n (cond b (Ok (Some value)) (Err (Value value))) ≡ [] → IsSome (value_in (cond b (Ok (Some value)) (Err (Value value))))
within_some true n value none = refl
within_some false n value none = cc

supplied_some : (low high : ℤ) (n : ℕ) (g : Option ℤ) → IsSome g → fault_in n (supplied_within low high g) ≡ [] → IsSome (value_in (supplied_within low high g))
supplied_some low high n None some none = absurd (false≢true some)
supplied_some low high n (Some value) some none = within_some (int_le low value && int_le value high) n value none

evaluated_some : (low high : ℤ) (n : ℕ) (r : Result ℤ EvalFault) → fault_in n (evaluated_within low high r) ≡ [] → IsSome (value_in (evaluated_within low high r))
evaluated_some low high n (Ok value) none = within_some (int_le low value && int_le value high) n value none
evaluated_some low high n (Err fault) none = cc

all_are : (values : List (Option ℤ)) (places : List ℕ) → ((q : ℕ) → Contains places q → IsSome (get_or values q None)) → are_sound values places ≡ true
all_are values [] some = refl
all_are values (x ∷ places) some =
    and_from (is_some (get_or values x None)) (are_sound values places) (some x (0, omega arith, refl))
    (all_are values places (λ q c. some q (Contains-append_right (x ∷ []) places q c)))

kind_some : (values : List (Option ℤ)) (low high : ℤ) (n : ℕ) (kind : ParamKind) (g : Option ℤ) → IsSupplied kind g → ((q : ℕ) → Contains (refers kind) q → IsSome (get_or values q None)) → fault_in n (outcome values low high kind g) ≡ [] → IsSome (value_in (outcome values low high kind g))
kind_some values low high n Inherited g supplied some none = supplied_some low high n g supplied none
kind_some values low high n (Derived expr) g supplied some none =
    let sound = all_are values (places_of expr) some in
    derived (are_sound values (places_of expr)) sound none
  where
    derived : (b : Bool) → b ≡ true → fault_in n (cond b (evaluated_within low high (eval_of (numbers values) expr)) (Ok None)) ≡ [] → IsSome (value_in (cond b (evaluated_within low high (eval_of (numbers values) expr)) (Ok None)))
    derived true yes' fine = evaluated_some low high n (eval_of (numbers values) expr) fine
    derived false yes' fine = absurd (false≢true yes')
kind_some values low high n Chosen g supplied some none = supplied_some low high n g supplied none

-- the parameter at a place
at_some : (values : List (Option ℤ)) (n : ℕ) (params : List Param) (supplied : List (Option ℤ)) (q : ℕ) → q < length params → AreSupplied params supplied → ((r : ℕ) → Contains (to_of (references_of params) q) r → IsSome (get_or values r None))
    → from_number n fault_in (outcomes values params supplied) ≡ [] → IsSome (value_in (outcome_at params supplied values q))
at_some values n [] supplied q inside full some none = absurd (omega arith)
at_some values n (p ∷ params) supplied zero inside full some none = kind_some values p.low p.high n p.kind (get_or supplied 0 None) full.0 some (left_none _ _ none)
at_some values n (p ∷ params) supplied (suc q) inside full some none =
    let next : get_or (drop 1 supplied) q None ≡ get_or supplied (suc q) None = get_or-drop 1 supplied q None ∙ ap (λ k. get_or supplied k None) (omega arith) in
    subst (λ v. IsSome (value_in (outcome_of values (slice_get params q) v))) next
    (at_some values (n + 1) params (drop 1 supplied) q (omega arith) full.1 some (right_none (fault_in n (outcome values p.low p.high p.kind (get_or supplied 0 None))) _ none))

module _ (params : List Param) (supplied : List (Option ℤ)) (ordered : AreOrdered params) (full : AreSupplied params supplied) (none : param_faults params supplied ≡ []) where
  sound_below : (k q : ℕ) → rank (references_of params) q < k → q < length params → IsSome (get_or (values_of params supplied) q None)
  sound_below zero q low inside = absurd (omega arith)
  sound_below (suc k) q low inside =
      let refs = references_of params in
      let there : q < length refs = rw (length-map {A = Param}) inside in
      let all = All-get_or (λ to. All (λ u. u < length refs) to) refs q [] there ordered.inside in
      let some : (r : ℕ) → Contains (to_of refs q) r → IsSome (get_or (values_of params supplied) r None)
      = λ r arrow.
      let less = rank_falls refs ordered.no_cycle ordered.inside q r arrow in
      let below : r < length params = rw (length-map {A = Param}) at (All-contains (λ u. u < length refs) (to_of refs q) r all arrow) in
      sound_below k r (omega arith) below in
      subst (λ v. IsSome v) (sym (ap (λ vs. get_or vs q None) (is_assignment params supplied ordered) ∙ value_worked (values_of params supplied) params supplied q))
      (at_some (values_of params supplied) 0 params supplied q inside full some none)

  pub all_sound : (q : ℕ) → q < length params → IsSome (get_or (values_of params supplied) q None)
  all_sound q inside = sound_below (suc (rank (references_of params) q)) q (omega arith) inside
