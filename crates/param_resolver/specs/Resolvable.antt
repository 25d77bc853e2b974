-- What is asked of graphs: well-formed graphs whose numbers refer to parts have it.
use Rattle.std.specs.Prelude.{ℕ, ◌+◌, ◌<◌, ◌≤◌, ◌^◌, List, length, map, All}
use Rattle.param_expr.specs.Eval.{RefersBelow}
use Rattle.param_expr.specs.Tree.{Tree}
use Rattle.pisdf_model.specs.Nesting.{children, children_of, nesting_to}
use Rattle.pisdf_model.specs.declared.actor.Actor.{Actor}
use Rattle.pisdf_model.specs.declared.actor.Body.{Body}
use Rattle.pisdf_model.specs.declared.actor.Body.TheVariants.{Kernel, Config, Child, ConfigChild}
use Rattle.pisdf_model.specs.declared.actor.Port.{Port}
use Rattle.pisdf_model.specs.declared.graph.Graph.{Graph}
use Rattle.pisdf_model.specs.declared.graph.Interface.{Interface}
use Rattle.param_resolver.specs.Settled.{AreOrdered}

abbrev pub AreArgsBelow : ℕ → List Tree → Type 0
AreArgsBelow params args = All (λ e. RefersBelow params e) args

abbrev pub ArePortsBelow : ℕ → List Port → Type 0
ArePortsBelow params ports = All (λ (p : Port). RefersBelow params p.rate) ports

-- the expressions of an actor name parameters that are there, and the graph that it names is there
abbrev pub IsBodyResolvable : ℕ → ℕ → Body → Type 0
IsBodyResolvable graphs params (Kernel kernel args ins outs) = AreArgsBelow params args × ArePortsBelow params ins × ArePortsBelow params outs
IsBodyResolvable graphs params (Config kernel args ins outs sets) = AreArgsBelow params args × ArePortsBelow params outs
IsBodyResolvable graphs params (Child k args) = (k < graphs) × AreArgsBelow params args
IsBodyResolvable graphs params (ConfigChild k args sets) = (k < graphs) × AreArgsBelow params args

-- no parameter depends on itself, every expression names parameters that are there, and numbers of 32 bits tell the parts apart
pub record IsResolvable (graphs : ℕ) (g : Graph) : Type 0 where
  pub ordered : AreOrdered g.params
  pub inputs : All (λ (x : Interface). RefersBelow (length g.params) x.rate) g.inputs
  pub outputs : All (λ (x : Interface). RefersBelow (length g.params) x.rate) g.outputs
  pub actors : All (λ (a : Actor). IsBodyResolvable graphs (length g.params) a.body) g.actors
  pub few_params : length g.params < 2 ^ 32
  pub few_actors : length g.actors < 2 ^ 32

abbrev pub AreResolvable : List Graph → Type 0
AreResolvable graphs = All (λ (g : Graph). IsResolvable (length graphs) g) graphs

-- at most n graphs are nested in each other from this place on
abbrev pub IsNestedWithin : List Graph → ℕ → ℕ → Type 0
IsNestedWithin graphs n place = nesting_to (map children graphs) (n + 1) place ≤ n

-- from each graph that the actor names on
abbrev pub AreNestedWithin : List Graph → ℕ → Body → Type 0
AreNestedWithin graphs n body = All (λ k. IsNestedWithin graphs n k) (children_of body)
