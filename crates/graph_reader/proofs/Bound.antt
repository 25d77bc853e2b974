-- Binding an expression is resolving its names.
use Rattle.std.proofs.Common.{◌≡◌, ℕ, List, [], ◌∷◌, ◌++◌, Bool, true, false, cond, Option, Some, Ok, Err, refl, sym, ◌∙◌}
use Rattle.std.specs.List.{flat_map}
use Rattle.std.specs.Prelude.{find, is_none}
use Rattle.param_expr.specs.Bind.{Binds, names_of, place_of, placed_in}
use Rattle.param_expr.specs.Named.{NamedTree}
use Rattle.param_expr.specs.Tree.{Tree}
use Rattle.param_expr.specs.declared.binding.BindFault.TheVariants.{Unknown}
use Rattle.pisdf_model.specs.Details.{first}
use Rattle.pisdf_model.proofs.Holds.{none_first}
use Rattle.graph_format.specs.References.{missing}
use Rattle.graph_reader.specs.Resolves.{Resolves}

-- the name where the test says so, and then the others
abbrev chosen : Bool → List ℕ → List (List ℕ) → List (List ℕ)
chosen b w rest = cond b (w ∷ []) [] ++ rest

first_of_chosen : (b : Bool) (w : List ℕ) (rest : List (List ℕ)) (found : Option (List ℕ)) → first rest ≡ found → first (chosen b w rest) ≡ cond b (Some w) found
first_of_chosen true w rest found h = refl
first_of_chosen false w rest found h = h

-- the first that is missing is the first that is found missing
first_of_missing : (known names : List (List ℕ)) → first (flat_map (missing known) names) ≡ find (λ w. is_none (place_of known w)) names
first_of_missing known [] = refl
first_of_missing known (w ∷ names) = first_of_chosen (is_none (place_of known w)) w (flat_map (missing known) names) (find (λ w. is_none (place_of known w)) names) (first_of_missing known names)

pub bound_resolves : (known : List (List ℕ)) (expr : NamedTree) (bound : Tree) → Binds known expr (Ok bound) → Resolves (flat_map (missing known) (names_of expr)) (placed_in known expr) (Ok bound)
bound_resolves known expr bound h = (none_first (flat_map (missing known) (names_of expr)) (sym (first_of_missing known (names_of expr) ∙ h.0)), h.1)

pub unbound_fails : (known : List (List ℕ)) (expr : NamedTree) (w : List ℕ) → Binds known expr (Err (Unknown w)) → first (flat_map (missing known) (names_of expr)) ≡ Some w
unbound_fails known expr w h = first_of_missing known (names_of expr) ∙ h
