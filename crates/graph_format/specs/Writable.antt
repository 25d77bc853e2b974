-- What can be written: expressions over parameters with names, without numbers below 0.
use Rattle.std.specs.Prelude.{ℕ, List, length, All}
use Rattle.param_expr.specs.Tree.{Tree}
use Rattle.param_expr.specs.Words.{IsName}
use Rattle.param_expr.specs.Eval.{RefersBelow}
use Rattle.param_expr.specs.Print.{NonNegative}
use Rattle.pisdf_model.specs.declared.param.Param.{Param}
use Rattle.pisdf_model.specs.declared.param.ParamKind.{ParamKind}
use Rattle.pisdf_model.specs.declared.param.ParamKind.TheVariants.{Inherited, Derived, Chosen}
use Rattle.pisdf_model.specs.declared.actor.Port.{Port}
use Rattle.pisdf_model.specs.declared.actor.Actor.{Actor}
use Rattle.pisdf_model.specs.declared.actor.Body.{Body}
use Rattle.pisdf_model.specs.declared.actor.Body.TheVariants.{Kernel, Config, Child, ConfigChild}
use Rattle.pisdf_model.specs.declared.graph.Interface.{Interface}
use Rattle.pisdf_model.specs.declared.graph.Graph.{Graph}
use Rattle.graph_format.specs.Named.{names_of_params}

-- its parameters are places of these names, and its numbers are at least 0
pub record IsWritable (names : List (List ℕ)) (expr : Tree) : Type 0 where
  pub named : All IsName names
  pub refers : RefersBelow (length names) expr
  pub numbers : NonNegative expr

abbrev pub IsWritableKind : List (List ℕ) → ParamKind → Type 0
IsWritableKind names Inherited = Unit {0}
IsWritableKind names (Derived expr) = IsWritable names expr
IsWritableKind names Chosen = Unit {0}

abbrev pub IsWritableParam : List (List ℕ) → Param → Type 0
IsWritableParam names param = IsWritableKind names param.kind

abbrev pub IsWritableInterface : List (List ℕ) → Interface → Type 0
IsWritableInterface names interface = IsWritable names interface.rate

abbrev pub IsWritablePort : List (List ℕ) → Port → Type 0
IsWritablePort names port = IsWritable names port.rate

abbrev pub IsWritableBody : List (List ℕ) → Body → Type 0
IsWritableBody names (Kernel kernel args ins outs) = All (IsWritable names) args × All (IsWritablePort names) ins × All (IsWritablePort names) outs
IsWritableBody names (Config kernel args ins outs sets) = All (IsWritable names) args × All (IsWritablePort names) outs
IsWritableBody names (Child graph args) = All (IsWritable names) args
IsWritableBody names (ConfigChild graph args sets) = All (IsWritable names) args

abbrev pub IsWritableActor : List (List ℕ) → Actor → Type 0
IsWritableActor names actor = IsWritableBody names actor.body

-- each expression of the graph
pub record IsWritableGraph (graph : Graph) : Type 0 where
  pub params : All (IsWritableParam (names_of_params graph)) graph.params
  pub inputs : All (IsWritableInterface (names_of_params graph)) graph.inputs
  pub outputs : All (IsWritableInterface (names_of_params graph)) graph.outputs
  pub actors : All (IsWritableActor (names_of_params graph)) graph.actors
