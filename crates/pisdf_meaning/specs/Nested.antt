-- What is known while a graph fires.
use Rattle.std.specs.Prelude.{◌≡◌, ℕ, ◌++◌, ℤ, List, [], length, take, drop, slice_get, Some, Result, Ok, Err}
use Rattle.std.specs.List.{All, flat_map}
use Rattle.kernel_gate.specs.Signed.{Counts}
use Rattle.param_resolver.specs.EarlyCheck.{early_faults}
use Rattle.param_resolver.specs.EarlyView.{EarlyView}
use Rattle.param_resolver.specs.LevelOf.{level_args}
use Rattle.param_resolver.specs.Numbering.{acting}
use Rattle.pisdf_model.specs.declared.actor.Actor.{Actor}
use Rattle.pisdf_model.specs.Valid.{AreValid}
use Rattle.pisdf_model.specs.declared.graph.Graph.{Graph}
use Rattle.pisdf_model.specs.declared.graph.Graphs.{Graphs}
use Rattle.pisdf_meaning.specs.Configuring.{Configuration, Configures, LeaveAll, configurations_from, early_in}
use Rattle.pisdf_meaning.specs.Endings.{Ends}
use Rattle.pisdf_meaning.specs.Running.{FiresActor}
use Rattle.pisdf_meaning.specs.Sound.{AllFit, ChildWithin, GraphFits, NestsWithin, actor_at}
use Rattle.pisdf_meaning.specs.States.{tokens_at}
use Rattle.pisdf_meaning.specs.Turns.{TracedFire}
use Rattle.pisdf_meaning.specs.declared.firing.Configured.{Configured}
use Rattle.pisdf_meaning.specs.declared.firing.Firing.{Firing}
use Rattle.pisdf_meaning.specs.declared.refusal.Refusal.{Refusal}

-- graphs can be run with the kernels of these signatures
pub record CanRun (signatures : List Counts) (graphs : Graphs) : Type 0 where
  pub valid : AreValid graphs
  pub fit : AllFit signatures graphs.graphs

-- a graph is fired, from whose actors on no more than n graphs are nested in each other, and this is what its early check
-- found, without a fault
pub record IsUnderway (signatures : List Counts) (n : ℕ) (graphs : Graphs) (g : Graph) (firing : Firing) (early : EarlyView) : Type 0 where
  pub can : CanRun signatures graphs
  pub here : slice_get graphs.graphs firing.graph ≡ Some g
  pub nests : All (λ (a : Actor). ChildWithin (NestsWithin n graphs.graphs) a.body) g.actors
  pub early_is : early ≡ early_in graphs.graphs firing
  pub sound : early_faults graphs.graphs firing.graph firing.inherited ≡ []

-- the same of the run of its level
pub record Holds (signatures : List Counts) (n : ℕ) (graphs : Graphs) (g : Graph) : Type 0 where
  pub can : CanRun signatures graphs
  pub here : GraphFits signatures graphs.graphs g
  pub nests : All (λ (a : Actor). ChildWithin (NestsWithin n graphs.graphs) a.body) g.actors

-- the actor at a place, as configuration actor of this number
abbrev pub configuration_at : Graph → ℕ → ℕ → Configuration
configuration_at g number a = record { number = number; place = a; name = (actor_at g a).name; body = (actor_at g a).body }

-- these, and then what the others leave
abbrev pub with_all : List Configured → Result (List Configured) Refusal → Result (List Configured) Refusal
with_all before (Ok more) = Ok (before ++ more)
with_all before (Err refusal) = Err refusal

abbrev pub outs_count : List Configured → ℕ
outs_count all = length (flat_map (λ (one : Configured). one.outs) all)

abbrev pub rates_count : List (List ℕ) → ℕ
rates_count outs = length (flat_map (λ (rates : List ℕ). rates) outs)

-- The configuration actors before a place left this: what those from there on leave besides, that is what all leave.
pub record HaveLeft (graphs : List Graph) (ends : Ends) (g : Graph) (firing : Firing) (early : EarlyView) (place : ℕ) (before : List Configured) : Type 0 where
  pub number_is : length before ≡ length (configurations_from 0 0 (take place g.actors))
  pub outs : outs_count before ≡ rates_count (take (length before) early.outs)
  pub goes_on : (rest : Result (List Configured) Refusal) → LeaveAll graphs ends g firing (configurations_from (length before) place (drop place g.actors)) rest → Configures graphs ends g firing (with_all before rest)

-- the firings of the actors of a level
abbrev pub actor_fires : List Graph → Ends → Graph → Firing → List ℤ → TracedFire
actor_fires graphs ends g firing values b k trace read answer = FiresActor graphs ends firing values (tokens_at (level_args g values) b) (slice_get (acting g) b) k trace read answer
