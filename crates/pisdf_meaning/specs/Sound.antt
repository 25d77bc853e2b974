-- What is known of graphs that are fired.
use Rattle.std.specs.Prelude.{◌≡◌, ℕ, zero, suc, ◌<◌, ◌^◌, ℤ, List, [], length, take, slice_get, slice_index_or, Some, true}
use Rattle.std.specs.List.{All}
use Rattle.kernel_gate.specs.Signed.{Counts}
use Rattle.param_resolver.specs.EarlyCheck.{early_faults, early_of}
use Rattle.param_resolver.specs.EarlyView.{EarlyView, trees_of}
use Rattle.pisdf_model.specs.InterfaceWires.{is_configuration}
use Rattle.pisdf_model.specs.Ports.{inherited_count}
use Rattle.pisdf_model.specs.declared.actor.Actor.{Actor}
use Rattle.pisdf_model.specs.declared.actor.Body.{Body}
use Rattle.pisdf_model.specs.declared.actor.Body.TheVariants.{Kernel, Config, Child, ConfigChild}
use Rattle.pisdf_model.specs.declared.graph.Graph.{Graph}
use Rattle.pisdf_model.specs.Nesting.{nesting_limit}
use Rattle.pisdf_model.specs.Valid.{AreValid}
use Rattle.pisdf_model.specs.declared.graph.Graphs.{Graphs}
use Rattle.pisdf_meaning.specs.Configuring.{configurations, configurations_from}
use Rattle.pisdf_meaning.specs.Kernels.{FitsKernel}
use Rattle.pisdf_meaning.specs.States.{tokens_at}

-- ---- actors and kernels

-- an actor's kernel is a place of these signatures, and its counts fit; a hierarchical actor gives each inherited
-- parameter of its child a value
abbrev pub BodyFits : List Counts → List Graph → Body → Type 0
BodyFits signatures graphs (Kernel kernel args ins outs) = FitsKernel signatures kernel (length args) (length ins) (length outs) 0
BodyFits signatures graphs (Config kernel args ins outs sets) = FitsKernel signatures kernel (length args) (length ins) (length outs) (length sets) × (length sets < 2 ^ 32)
BodyFits signatures graphs (Child place args) = length args ≡ inherited_count (slice_get graphs place)
BodyFits signatures graphs (ConfigChild place args sets) = length args ≡ inherited_count (slice_get graphs place)

-- each actor fits, and numbers of 32 bits tell the parts apart
pub record GraphFits (signatures : List Counts) (graphs : List Graph) (g : Graph) : Type 0 where
  pub fit : All (λ (a : Actor). BodyFits signatures graphs a.body) g.actors
  pub few_actors : length g.actors < 2 ^ 32
  pub few_params : length g.params < 2 ^ 32
  pub few_fifos : length g.fifos < 2 ^ 32
  pub few_inputs : length g.inputs < 2 ^ 32

-- ---- configuration actors

-- what stands for an actor that is not there
abbrev pub no_actor : Actor
no_actor = record { name = []; body = Kernel 0 [] [] [] }

abbrev pub actor_at : Graph → ℕ → Actor
actor_at g a = slice_index_or g.actors a no_actor

-- the actor at a place is configuration actor of this number
pub record IsConfiguration (g : Graph) (number a : ℕ) : Type 0 where
  pub inside : a < length g.actors
  pub is : is_configuration (actor_at g a).body ≡ true
  pub number_is : number ≡ length (configurations_from 0 0 (take a g.actors))

-- what the early check found of a configuration actor: an argument for each expression and a rate for each output; and of
-- the graph that it names, what the early check of that finds, which has no fault
abbrev pub KnowsBody : List Graph → EarlyView → ℕ → Body → Type 0
KnowsBody graphs early number (Kernel kernel args ins outs) = Unit {0}
KnowsBody graphs early number (Config kernel args ins outs sets) = (length (tokens_at early.args number) ≡ length args) × (length (slice_index_or early.outs number []) ≡ length outs)
KnowsBody graphs early number (Child place args) = Unit {0}
KnowsBody graphs early number (ConfigChild place args sets) =
    (length (tokens_at early.args number) ≡ length args) × (slice_index_or early.outs number [] ≡ (early_of graphs place (tokens_at early.args number)).outputs)
    × (slice_get (trees_of early.children) number ≡ Some (Some (early_of graphs place (tokens_at early.args number))))
    × (early_faults graphs place (tokens_at early.args number) ≡ [])

pub record Knows (graphs : List Graph) (g : Graph) (early : EarlyView) : Type 0 where
  pub one_each : length early.outs ≡ length (configurations g)
  pub each : (number a : ℕ) → IsConfiguration g number a → KnowsBody graphs early number (actor_at g a).body

-- each early check without a fault knows that
abbrev pub AllKnow : List Graph → Type 0
AllKnow graphs = (place : ℕ) (g : Graph) (inherited : List ℤ) → slice_get graphs place ≡ Some g → early_faults graphs place inherited ≡ [] → Knows graphs g (early_of graphs place inherited)

-- ---- all graphs

pub record AllFit (signatures : List Counts) (graphs : List Graph) : Type 0 where
  pub fit : All (GraphFits signatures graphs) graphs
  pub know : AllKnow graphs

-- the child of a body stands within
abbrev pub ChildWithin : (ℕ → Type 0) → Body → Type 0
ChildWithin P (Kernel kernel args ins outs) = Unit {0}
ChildWithin P (Config kernel args ins outs sets) = Unit {0}
ChildWithin P (Child place args) = P place
ChildWithin P (ConfigChild place args sets) = P place

-- the graph at a place is there, and from it on no more than n graphs are nested in each other
abbrev pub NestsWithin : ℕ → List Graph → ℕ → Type 0
NestsWithin zero graphs place = ⊥
NestsWithin (suc n) graphs place = (g : Graph) × (slice_get graphs place ≡ Some g) × All (λ (a : Actor). ChildWithin (NestsWithin n graphs) a.body) g.actors

-- graphs that can be run, the top one with no inherited parameter
pub record AreRunnable (signatures : List Counts) (graphs : Graphs) : Type 0 where
  pub fit : AllFit signatures graphs.graphs
  pub nests : NestsWithin nesting_limit graphs.graphs graphs.top
  pub none_inherited : inherited_count (slice_get graphs.graphs graphs.top) ≡ 0

-- ---- kernels alone

-- an actor's kernel is a place of these signatures, and its counts fit
abbrev pub KernelFits : List Counts → Body → Type 0
KernelFits signatures (Kernel kernel args ins outs) = FitsKernel signatures kernel (length args) (length ins) (length outs) 0
KernelFits signatures (Config kernel args ins outs sets) = FitsKernel signatures kernel (length args) (length ins) (length outs) (length sets)
KernelFits signatures (Child place args) = Unit {0}
KernelFits signatures (ConfigChild place args sets) = Unit {0}

-- the kernels of all actors fit
abbrev pub KernelsFit : List Counts → List Graph → Type 0
KernelsFit signatures graphs = All (λ (g : Graph). All (λ (a : Actor). KernelFits signatures a.body) g.actors) graphs

-- valid graphs whose kernels fit these signatures
pub record AreValidFor (signatures : List Counts) (graphs : Graphs) : Type 0 where
  pub valid : AreValid graphs
  pub kernels : KernelsFit signatures graphs.graphs
