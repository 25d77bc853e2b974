-- Which states hold tokens, told by a number for each graph.
use Rattle.std.specs.Prelude.{◌≡◌, ℕ, nat_lt, Bool, true, false, List, slice_index}
use Rattle.std.specs.List.{All}
use Rattle.pisdf_model.specs.Hold.{hold}
use Rattle.pisdf_model.specs.declared.actor.Actor.{Actor}
use Rattle.pisdf_model.specs.declared.actor.Body.{Body}
use Rattle.pisdf_model.specs.declared.actor.Body.TheVariants.{Kernel, Config, Child, ConfigChild}
use Rattle.pisdf_model.specs.declared.graph.Graph.{Graph}

-- the number of a graph is above 0 just where its state begins with tokens
pub record TellHolds (graphs : List Graph) (holds : List ℕ) : Type 0 where
  pub each : (place : ℕ) → nat_lt 0 (slice_index holds place) ≡ nat_lt 0 (hold graphs place)

abbrev pub names_graph : Body → Bool
names_graph (Kernel kernel args ins outs) = false
names_graph (Config kernel args ins outs sets) = false
names_graph (Child place args) = true
names_graph (ConfigChild place args sets) = true

-- so it is if the actor names a graph
abbrev pub TellHoldsTo : List Graph → List ℕ → Body → Type 0
TellHoldsTo graphs holds (Kernel kernel args ins outs) = Unit {0}
TellHoldsTo graphs holds (Config kernel args ins outs sets) = Unit {0}
TellHoldsTo graphs holds (Child place args) = TellHolds graphs holds
TellHoldsTo graphs holds (ConfigChild place args sets) = TellHolds graphs holds

abbrev pub TellHoldsToAll : List Graph → List ℕ → List Actor → Type 0
TellHoldsToAll graphs holds actors = All (λ (a : Actor). TellHoldsTo graphs holds a.body) actors
