-- What is worked out once the configuration actors fired.
use Rattle.std.proofs.Common.{◌≡◌, ℤ, List, [], Option, Result, Ok, Err, IfErr, sym, ap, ◌∙◌, subst}
use Rattle.std.specs.Result.{IsErrAnd}
use Rattle.pisdf_model.specs.declared.param.Param.{Param}
use Rattle.param_resolver.specs.Assignment.{StandsAt, supplied_to, numbers, param_faults, values_of}
use Rattle.param_resolver.specs.EarlyCheck.{IsEarlyOf, supplied_late}
use Rattle.param_resolver.specs.Settled.{AreOrdered}
use Rattle.param_resolver.specs.declared.fault.ResolveFault.{ResolveFault}
use Rattle.param_resolver.proofs.Supplying.{late_is}

pub late_supplied : (params : List Param) (chosen : List ℤ) (known : List (Option ℤ)) (params' : List Param) (known' : List (Option ℤ)) → params' ≡ params → known' ≡ known → (supplied : List (Option ℤ)) → supplied ≡ supplied_late params' known' chosen → supplied ≡ supplied_late params known chosen
late_supplied params chosen known params' known' params_are known_are supplied is =
    is ∙ ap (λ (ps : List Param). supplied_late ps known' chosen) params_are ∙ ap (λ (ks : List (Option ℤ)). supplied_late params ks chosen) known_are

module _ (params : List Param) (inherited chosen : List ℤ) (known : List (Option ℤ)) (ordered : AreOrdered params) (early : IsEarlyOf params inherited known) (params' : List Param) (supplied : List (Option ℤ)) (params_are : params' ≡ params) (supplied_is : supplied ≡ supplied_late params known chosen) where
  supplied_are : supplied ≡ supplied_to params inherited chosen
  supplied_are = supplied_is ∙ late_is params inherited chosen known ordered early

  pub numbers_alike : numbers (values_of params' supplied) ≡ numbers (values_of params (supplied_to params inherited chosen))
  numbers_alike = ap (λ (ps : List Param). numbers (values_of ps supplied)) params_are ∙ ap (λ (gs : List (Option ℤ)). numbers (values_of params gs)) supplied_are

  faults_alike : param_faults params' supplied ≡ param_faults params (supplied_to params inherited chosen)
  faults_alike = ap (λ (ps : List Param). param_faults ps supplied) params_are ∙ ap (λ (gs : List (Option ℤ)). param_faults params gs) supplied_are

  pub sound_alike : param_faults params' supplied ≡ [] → param_faults params (supplied_to params inherited chosen) ≡ []
  sound_alike none = sym faults_alike ∙ none

  pub fault_alike : {T : Type 0} (result : Result T ResolveFault) (fault : ResolveFault) → IsErrAnd result (λ e. e ≡ fault) → StandsAt (param_faults params' supplied) fault → IfErr result (StandsAt (param_faults params (supplied_to params inherited chosen)))
  fault_alike (Ok v) fault is stands = absurd is
  fault_alike (Err e) fault is stands = rw is (subst (λ fs. StandsAt fs fault) faults_alike stands)
