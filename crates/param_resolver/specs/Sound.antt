-- Parameters that are all supplied with what their kinds want.
use Rattle.std.specs.Prelude.{ℤ, List, [], ◌∷◌, drop, slice_index_or, Option, None, IsSome}
use Rattle.pisdf_model.specs.declared.param.Param.{Param}
use Rattle.pisdf_model.specs.declared.param.ParamKind.{ParamKind}
use Rattle.pisdf_model.specs.declared.param.ParamKind.TheVariants.{Inherited, Derived, Chosen}

-- a parameter that isn't derived is supplied with a value
abbrev pub IsSupplied : ParamKind → Option ℤ → Type 0
IsSupplied Inherited supplied = IsSome supplied
IsSupplied (Derived expr) supplied = Unit {0}
IsSupplied Chosen supplied = IsSome supplied

abbrev pub AreSupplied : List Param → List (Option ℤ) → Type 0
AreSupplied [] supplied = Unit {0}
AreSupplied (p ∷ params) supplied = IsSupplied p.kind (slice_index_or supplied 0 None) × AreSupplied params (drop 1 supplied)
