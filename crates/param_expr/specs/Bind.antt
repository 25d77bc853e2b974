-- Names, bound to their places in a list of names.
use Rattle.std.specs.Prelude.{◌≡◌, ℕ, List, [], ◌∷◌, ◌++◌, Option, Some, None, Result, Ok, Err, position, find, is_none, unwrap_or}
use Rattle.std.specs.Str.{bytes_eq}
use Rattle.param_expr.specs.Tree as tree
use Rattle.param_expr.specs.Tree.{Tree}
use Rattle.param_expr.specs.Named.{NamedTree, number, name, binary}
use Rattle.param_expr.specs.declared.binding.BindFault.{BindFault}
use Rattle.param_expr.specs.declared.binding.BindFault.TheVariants.{Unknown, Memory}

-- the first place of the name
abbrev pub place_of : List (List ℕ) → List ℕ → Option ℕ
place_of names w = position (bytes_eq w) names

-- the names of an expression, from the left
abbrev pub names_of : NamedTree → List (List ℕ)
names_of (number z) = []
names_of (name w) = w ∷ []
names_of (binary op a b) = names_of a ++ names_of b

-- the first name, from the left, that isn't there
abbrev pub unknown_of : List (List ℕ) → NamedTree → Option (List ℕ)
unknown_of names expr = find (λ w. is_none (place_of names w)) (names_of expr)

-- each name is the parameter at its first place
abbrev pub placed_in : List (List ℕ) → NamedTree → Tree
placed_in names (number z) = tree.number z
placed_in names (name w) = tree.param (unwrap_or (place_of names w) 0)
placed_in names (binary op a b) = tree.binary op (placed_in names a) (placed_in names b)

-- what binding answers, unless memory runs out
abbrev pub Binds : List (List ℕ) → NamedTree → Result Tree BindFault → Type 0
Binds names expr (Ok bound) = (unknown_of names expr ≡ None) × (bound ≡ placed_in names expr)
Binds names expr (Err (Unknown w)) = unknown_of names expr ≡ Some w
Binds names expr (Err Memory) = Unit {0}
