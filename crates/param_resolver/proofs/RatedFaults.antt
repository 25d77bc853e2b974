-- The first parts of an early check.
use Rattle.std.proofs.Common.{◌≡◌, ℕ, suc, ℤ, List, [], ◌∷◌, length, map, All, Option, refl, sym, ap, ◌∙◌, subst}
use Rattle.std.proofs.lemmas.List.{length-map}
use Rattle.param_expr.specs.Eval.{RefersBelow}
use Rattle.pisdf_model.specs.declared.graph.Graph.{Graph}
use Rattle.pisdf_model.specs.declared.graph.Interface.{Interface}
use Rattle.pisdf_model.specs.declared.param.Param.{Param}
use Rattle.param_resolver.specs.Assignment.{StandsAt, supplied_to, numbers, param_faults, values_of}
use Rattle.param_resolver.specs.EarlyCheck.{as_refusal, early_numbers, supplied_early, rated_faults}
use Rattle.param_resolver.specs.Rates.{interface_faults}
use Rattle.param_resolver.specs.Refusal.{Refusal, StandsFirst, param_refusal_of}
use Rattle.param_resolver.specs.Settled.{AreOrdered}
use Rattle.param_resolver.specs.declared.fault.ResolveFault.{ResolveFault}
use Rattle.param_resolver.specs.declared.fault.ResolveFault.TheVariants.{Param as At, Memory}
use Rattle.param_resolver.specs.declared.fault.Why.{Why}
use Rattle.param_resolver.proofs.Assignments.{is_assignment, length-worked}
use Rattle.param_resolver.proofs.Walks.{first_part, later_part}

pub length-supplied : (params : List Param) (inherited chosen : List ℤ) → length (supplied_to params inherited chosen) ≡ length params
length-supplied [] inherited chosen = refl
length-supplied (p ∷ params) inherited chosen = ap suc (length-supplied params _ _)

pub length-numbers : (params : List Param) (supplied : List (Option ℤ)) → AreOrdered params → length (numbers (values_of params supplied)) ≡ length params
length-numbers params supplied ordered =
    length-map (values_of params supplied) _ ∙ ap (λ (v : List (Option ℤ)). length v) (is_assignment params supplied ordered) ∙ length-worked (values_of params supplied) params supplied

pub param_stands : (faults : List (ℕ × Why)) (fault : ResolveFault) → StandsAt faults fault → StandsFirst (map as_refusal faults) (param_refusal_of fault)
param_stands [] (At place why) stands = cc
param_stands (f ∷ faults) (At place why) stands = let same : f ≡ (place, why) = cc in rw same refl
param_stands faults Memory stands = tt

-- expressions below the number of parameters are below that of their numbers
pub below_numbers : (n m : ℕ) (interfaces : List Interface) → m ≡ n → All (λ (x : Interface). RefersBelow n x.rate) interfaces → All (λ (x : Interface). RefersBelow m x.rate) interfaces
below_numbers n m interfaces same all = rw same all

module _ (g : Graph) (inherited : List ℤ) (params : List Param) (supplied : List (Option ℤ)) (params_are : params ≡ g.params) (supplied_are : supplied ≡ supplied_early g.params inherited) (values : List ℤ) (values_are : values ≡ numbers (values_of params supplied)) where
  pub numbers_known : values ≡ early_numbers g inherited
  numbers_known =
      values_are ∙ ap (λ (ps : List Param). numbers (values_of ps supplied)) params_are ∙ ap (λ (gs : List (Option ℤ)). numbers (values_of g.params gs)) supplied_are

  pub many : AreOrdered g.params → length values ≡ length g.params
  many ordered = ap (λ (vs : List ℤ). length vs) numbers_known ∙ length-numbers g.params (supplied_early g.params inherited) ordered

  module _ (none : param_faults params supplied ≡ []) where
    params_none : map as_refusal (param_faults g.params (supplied_early g.params inherited)) ≡ []
    params_none =
        ap (map as_refusal) (ap (λ (gs : List (Option ℤ)). param_faults g.params gs) (sym supplied_are) ∙ ap (λ (ps : List Param). param_faults ps supplied) (sym params_are) ∙ none)

    pub input_stands : (inputs : List Interface) → inputs ≡ g.inputs → (r : Option Refusal) → StandsFirst (interface_faults values inputs) r → StandsFirst (rated_faults g inherited) r
    input_stands inputs are r stands =
        later_part (map as_refusal (param_faults g.params (supplied_early g.params inherited))) _ r params_none
        (first_part (interface_faults (early_numbers g inherited) g.inputs) _ r
        (subst (λ (vs : List ℤ). StandsFirst (interface_faults vs g.inputs) r) numbers_known (subst (λ (xs : List Interface). StandsFirst (interface_faults values xs) r) are stands)))

    pub output_stands : (inputs outputs : List Interface) → inputs ≡ g.inputs → outputs ≡ g.outputs → (before : List ℤ) → before ≡ values → interface_faults before inputs ≡ [] → (r : Option Refusal) → StandsFirst (interface_faults values outputs) r → StandsFirst (rated_faults g inherited) r
    output_stands inputs outputs inputs_are outputs_are before same fine r stands =
        let inputs_none = ap (λ (vs : List ℤ). interface_faults vs g.inputs) (sym (same ∙ numbers_known)) ∙ ap (λ (xs : List Interface). interface_faults before xs) (sym inputs_are) ∙ fine in
        later_part (map as_refusal (param_faults g.params (supplied_early g.params inherited))) _ r params_none
        (later_part (interface_faults (early_numbers g inherited) g.inputs) _ r inputs_none
        (subst (λ (vs : List ℤ). StandsFirst (interface_faults vs g.outputs) r) numbers_known (subst (λ (xs : List Interface). StandsFirst (interface_faults values xs) r) outputs_are stands)))
