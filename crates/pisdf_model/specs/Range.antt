-- Numbers that refer to parts that are there.
use Rattle.std.specs.Prelude.{◌≡◌, ℕ, ◌+◌, ◌<◌, ◌≤◌, ◌⊎◌, ◌==◌, Bool, if◌then◌else◌, true, false, List, [], ◌∷◌, length, ℤ, slice_get, slice_index_or, Option, Some, None}
use Rattle.std.specs.List.{All}
use Rattle.param_expr.specs.Eval.{RefersBelow}
use Rattle.pisdf_model.specs.Parts.{port_count}
use Rattle.pisdf_model.specs.declared.actor.Port.{Port}
use Rattle.pisdf_model.specs.declared.actor.Body.{Body}
use Rattle.pisdf_model.specs.declared.actor.Body.TheVariants.{Kernel, Config, Child, ConfigChild}
use Rattle.pisdf_model.specs.declared.actor.Actor.{Actor}
use Rattle.pisdf_model.specs.declared.fifo.End.{End}
use Rattle.pisdf_model.specs.declared.fifo.End.TheVariants as end
use Rattle.pisdf_model.specs.declared.fifo.Life.{Life}
use Rattle.pisdf_model.specs.declared.fifo.Life.TheVariants.{Firing, Permanent}
use Rattle.pisdf_model.specs.declared.fifo.Fifo.{Fifo}
use Rattle.pisdf_model.specs.declared.param.Param.{Param}
use Rattle.pisdf_model.specs.declared.param.ParamKind.{ParamKind}
use Rattle.pisdf_model.specs.declared.param.ParamKind.TheVariants.{Inherited, Derived, Chosen}
use Rattle.pisdf_model.specs.declared.graph.Interface.{Interface}
use Rattle.pisdf_model.specs.declared.graph.Graph.{Graph}
use Rattle.pisdf_model.specs.declared.graph.Graphs.{Graphs}

-- the expression of a derived parameter refers below the number of parameters
abbrev pub IsKindInRange : ℕ → ParamKind → Type 0
IsKindInRange params Inherited = Unit {0}
IsKindInRange params (Derived expr) = RefersBelow params expr
IsKindInRange params Chosen = Unit {0}

abbrev pub IsParamInRange : ℕ → Param → Type 0
IsParamInRange params p = IsKindInRange params p.kind

abbrev pub IsPortInRange : ℕ → Port → Type 0
IsPortInRange params p = RefersBelow params p.rate

abbrev pub IsInterfaceInRange : ℕ → Interface → Type 0
IsInterfaceInRange params x = RefersBelow params x.rate

-- in a file of this version and of so many graphs, and a graph of so many parameters
abbrev pub IsBodyInRange : ℕ → ℕ → ℕ → Body → Type 0
IsBodyInRange version graphs params (Kernel kernel args ins outs) = All (λ e. RefersBelow params e) args × All (λ p. IsPortInRange params p) ins × All (λ p. IsPortInRange params p) outs
IsBodyInRange version graphs params (Config kernel args ins outs sets) = All (λ e. RefersBelow params e) args × All (λ p. IsPortInRange params p) outs × All (λ i. i < params) sets
IsBodyInRange version graphs params (Child k args) = (k < graphs) × All (λ e. RefersBelow params e) args
IsBodyInRange version graphs params (ConfigChild k args sets) = (version ≡ 3) × (k < graphs) × All (λ e. RefersBelow params e) args × All (λ i. i < params) sets

abbrev pub IsActorInRange : ℕ → ℕ → ℕ → Actor → Type 0
IsActorInRange version graphs params a = IsBodyInRange version graphs params a.body

-- the actor is there and has more than p ports
abbrev pub HasPort : List Graph → ℕ → Option Actor → Type 0
HasPort graphs p None = ⊥
HasPort graphs p (Some a) = p < port_count graphs a.body

abbrev pub IsEndInRange : List Graph → Graph → End → Type 0
IsEndInRange graphs g (end.Interface i) = i < length g.inputs + length g.outputs
IsEndInRange graphs g (end.Port a p) = HasPort graphs p (slice_get g.actors a)

-- the life of tokens in version 1: they go on over firings in the top graph alone
abbrev pub first_life : Bool → Life
first_life true = Permanent
first_life false = Firing

-- the life of a delay for which a file states this one: without tokens it is a firing's, and version 1 states none
abbrev pub life_of : ℕ → Bool → Life → List ℤ → Life
life_of version is_top stated [] = Firing
life_of version is_top stated (token ∷ tokens) = if version == 1 then first_life is_top else stated

pub record IsFifoInRange (version : ℕ) (graphs : List Graph) (is_top : Bool) (g : Graph) (f : Fifo) : Type 0 where
  pub tail : IsEndInRange graphs g f.tail
  pub head : IsEndInRange graphs g f.head
  pub life : f.life ≡ life_of version is_top f.life f.delay

pub record IsGraphInRange (version : ℕ) (graphs : List Graph) (is_top : Bool) (g : Graph) : Type 0 where
  pub params : All (λ p. IsParamInRange (length g.params) p) g.params
  pub inputs : All (λ x. IsInterfaceInRange (length g.params) x) g.inputs
  pub outputs : All (λ x. IsInterfaceInRange (length g.params) x) g.outputs
  pub actors : All (λ a. IsActorInRange version (length graphs) (length g.params) a) g.actors
  pub fifos : All (λ f. IsFifoInRange version graphs is_top g f) g.fifos
  pub exports : All (λ i. i < length g.params) g.exports
  pub exporting : (version ≡ 3) ⊎ (g.exports ≡ [])

abbrev pub EachGraphInRange : ℕ → ℕ → List Graph → Type 0
EachGraphInRange version top graphs = (n : ℕ) (d : Graph) → n < length graphs → IsGraphInRange version graphs (n == top) (slice_index_or graphs n d)

-- the version is 1, 2 or 3, every number that refers to a part refers to one that is there, and nothing stands that the version doesn't have
pub record InRange (graphs : Graphs) : Type 0 where
  pub first_version : 1 ≤ graphs.version
  pub last_version : graphs.version ≤ 3
  pub top : graphs.top < length graphs.graphs
  pub each_graph : EachGraphInRange graphs.version graphs.top graphs.graphs
