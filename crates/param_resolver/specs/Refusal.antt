-- Where the early check of a graph fails, or the making of its level, as plain data; and the name of that part.
use Rattle.std.specs.Prelude.{◌≡◌, ℕ, List, [], map, slice_get, slice_index_or, Option, Some, None}
use Rattle.std.specs.Option.{option_map}
use Rattle.pisdf_model.specs.Details.{first}
use Rattle.pisdf_model.specs.Nesting.{children_of}
use Rattle.pisdf_model.specs.ParamOrder.{param_name}
use Rattle.pisdf_model.specs.Wires.{port_text}
use Rattle.pisdf_model.specs.declared.actor.Actor.{Actor}
use Rattle.pisdf_model.specs.declared.graph.Graph.{Graph}
use Rattle.param_resolver.specs.declared.fault.Why.{Why}
use Rattle.param_resolver.specs.declared.fault.EarlyFault.{EarlyFault, Param, Rate, Child', Memory}
use Rattle.param_resolver.specs.declared.fault.ResolveFault.{ResolveFault}
use Rattle.param_resolver.specs.declared.fault.ResolveFault.TheVariants as resolve
use Rattle.param_resolver.specs.declared.rates.PartFault.{PartFault}
use Rattle.param_resolver.specs.declared.rates.PartFault.TheVariants as part
use Rattle.param_resolver.specs.declared.fault.LevelFault.{LevelFault}
use Rattle.param_resolver.specs.declared.fault.LevelFault.TheVariants as level

-- a parameter by its place, a rate or an argument by its name, or a part of the graph that an actor names
pub data Refusal : Type 0 where
  param : ℕ → Why → Refusal
  rate : List ℕ → Why → Refusal
  child : ℕ → Refusal → Refusal

-- what a fault says, if it isn't want of memory
abbrev pub refusal_of : EarlyFault → Option Refusal
refusal_of (Param place why) = Some (param place why)
refusal_of (Rate name why) = Some (rate name why)
refusal_of (Child' actor pointer fault) = option_map (child actor) (refusal_of fault)
refusal_of Memory = None

abbrev pub part_refusal_of : PartFault → Option Refusal
part_refusal_of (part.Rate name why) = Some (rate name why)
part_refusal_of part.Memory = None

abbrev pub param_refusal_of : ResolveFault → Option Refusal
param_refusal_of (resolve.Param place why) = Some (param place why)
param_refusal_of resolve.Memory = None

abbrev pub level_refusal_of : LevelFault → Option Refusal
level_refusal_of (level.Rate name why) = Some (rate name why)
level_refusal_of (level.Child actor fault) = option_map (child actor) (refusal_of fault)
level_refusal_of level.Memory = None

-- want of memory is told as just that, also where it is met in the graph of an actor
abbrev pub TellsMemory : EarlyFault → Type 0
TellsMemory fault = refusal_of fault ≡ None → fault ≡ Memory

abbrev pub TellsLevelMemory : LevelFault → Type 0
TellsLevelMemory fault = level_refusal_of fault ≡ None → fault ≡ level.Memory

-- it stands first among these, unless it is want of memory
abbrev pub StandsFirst : List Refusal → Option Refusal → Type 0
StandsFirst refusals None = Unit {0}
StandsFirst refusals (Some refusal) = first refusals ≡ Some refusal

-- ---- the name of the part

abbrev pub actor_name : Graph → ℕ → List ℕ
actor_name g a = slice_index_or (map (λ (x : Actor). x.name) g.actors) a []

abbrev pub named_by : Option Actor → Option ℕ
named_by None = None
named_by (Some actor) = slice_get (children_of actor.body) 0

abbrev pub graph_at : List Graph → Option ℕ → Option Graph
graph_at graphs None = None
graph_at graphs (Some k) = slice_get graphs k

-- the graph that an actor names
abbrev pub child_graph : List Graph → Graph → ℕ → Option Graph
child_graph graphs g a = graph_at graphs (named_by (slice_get g.actors a))

-- a part of a child has the actor's name before it
abbrev pub part_name : List Graph → Option Graph → Refusal → List ℕ
part_name graphs None refusal = []
part_name graphs (Some g) (param place why) = param_name g place
part_name graphs (Some g) (rate name why) = name
part_name graphs (Some g) (child a refusal) = port_text (actor_name g a) (part_name graphs (child_graph graphs g a) refusal)

abbrev pub why_of_refusal : Refusal → Why
why_of_refusal (param place why) = why
why_of_refusal (rate name why) = why
why_of_refusal (child a refusal) = why_of_refusal refusal
