-- Graphs that are read alike among others: what a level is made from, where the interfaces of the graph have other rates.
use Rattle.std.specs.Prelude.{◌≡◌, ℕ, ℤ, List, Some, Ok}
use Rattle.std.specs.List.{AllByRecursion}
use Rattle.pisdf_model.specs.declared.actor.Actor.{Actor}
use Rattle.pisdf_model.specs.declared.graph.Graph.{Graph}
use Rattle.pisdf_model.specs.declared.graph.Interface.{Interface}
use Rattle.param_resolver.specs.LevelOf.{level_faults, links_of}
use Rattle.pisdf_meaning.specs.Endings.{child_path}
use Rattle.pisdf_meaning.specs.Meaning.{MeansWithin}
use Rattle.pisdf_meaning.specs.Running.{FiresActor, link_starts, state_after}
use Rattle.pisdf_meaning.specs.Sound.{ChildWithin}
use Rattle.pisdf_meaning.specs.declared.firing.Configured.{Configured}
use Rattle.pisdf_meaning.specs.declared.firing.Firing.{Firing}
use Rattle.pisdf_meaning.specs.declared.outcome.TraceRow.{TraceRow}
use Rattle.firing_laws.specs.Moving.{AreMoved, IsBelow}

-- each graph that an actor of this one names is below the one at `top`
abbrev pub HoldsBelow : List Graph → ℕ → Graph → Type 0
HoldsBelow graphs top g = AllByRecursion (λ (a : Actor). ChildWithin (IsBelow graphs top) a.body) g.actors

-- the graph with these interfaces
abbrev pub with_interfaces : List Interface → List Interface → Graph → Graph
with_interfaces inputs outputs g = record g { inputs = inputs; outputs = outputs }

-- The level of the one graph has the same faults and links as that of the other, begins with the same tokens on them, and
-- leaves the same state.
pub record IsLevelAlike (one other : List Graph) (g h : Graph) : Type 0 where
  pub faults : (values : List ℤ) → level_faults other h values ≡ level_faults one g values
  pub links : (values : List ℤ) → links_of other h values ≡ links_of one g values
  pub starts : (firing : Firing) → link_starts other h firing ≡ link_starts one g firing
  pub states : (configured : List Configured) (left : List (List ℤ)) → state_after other h configured left ≡ state_after one g configured left

-- what firing k of an actor gives that is done, firing j at another path and among the other graphs gives too, over n graphs nested in each other
abbrev pub ActorsMove : ℕ → ℕ → List Graph → List Graph → Type 0
ActorsMove n top one other = (firing there : Firing) (values args : List ℤ) (actor : Actor) (k j : ℕ) (trace : List TraceRow) (read outs : List (List ℤ)) → ChildWithin (IsBelow one top) actor.body →
    FiresActor one (MeansWithin n one) firing values args (Some actor) k trace read (Ok outs) →
    (moved : List TraceRow) × FiresActor other (MeansWithin n other) there values args (Some actor) j moved read (Ok outs) × AreMoved (child_path firing.path actor.name k) (child_path there.path actor.name j) trace moved
