-- What arrives over the edges, and that it is what the run of one thread, on queues without a bound, feeds.
use Rattle.std.specs.Prelude.{◌≡◌, ℕ, zero, suc, ◌+◌, List, [], ◌∷◌, ◌++◌}
use Rattle.sdf_level.specs.View.{LevelView}
use Rattle.sdf_level.specs.Invariants.{how_many}
use Rattle.sdf_level.specs.Firings.{firings, EachFiring}
use Rattle.sdf_level.specs.Run.{is_into_actor}
use Rattle.sdf_level.specs.Told.{lines_after, reads_after}
use Rattle.sdf_level.specs.LevelRun.{Ended, end_of}
use Rattle.sdf_level.specs.declared.link.Link.{Link}
use Rattle.sdf_level.specs.declared.node.Node.{Node}
use Rattle.sdf_level.specs.declared.node.Node.TheVariants as node
use Rattle.single_rate.specs.declared.wire.Wire.{Wire}
use Rattle.single_rate.specs.Flow.{Given, arrives_at}

-- what arrives at the first so many ports of a node
abbrev pub arrivals : {T : Type 0} → List Wire → List (List T) → Node → ℕ → List (List T)
arrivals wires on n zero = []
arrivals wires on n (suc port) = arrivals wires on n port ++ arrives_at wires on n port ∷ []

-- what arrives at a firing: a list for each input port
abbrev pub at_firing : {T : Type 0} → LevelView → List Wire → List (List T) → ℕ → ℕ → List (List T)
at_firing level wires on b k = arrivals wires on (node.Firing b k) (how_many (is_into_actor b) level.links)

-- what arrives at these sinks, the first of them having this number
abbrev pub at_sinks : {T : Type 0} → List Wire → List (List T) → ℕ → List ℕ → List (List T)
at_sinks wires on t [] = []
at_sinks wires on t (r ∷ sinks) = arrives_at wires on (node.Sink t) 0 ∷ at_sinks wires on (t + 1) sinks

-- what arrives at the ends of the delays of these links
abbrev pub at_ends : {T : Type 0} → List Wire → List (List T) → ℕ → List Link → List (List T)
at_ends wires on l [] = []
at_ends wires on l (link ∷ links) = arrives_at wires on (node.End l) 0 ∷ at_ends wires on (l + 1) links

abbrev pub arrived : {T : Type 0} → LevelView → List Wire → List (List T) → Ended T
arrived level wires on = record { outs = at_sinks wires on 0 level.sinks; left = at_ends wires on 0 level.links }

-- on queues, each firing of the list reads in its turn what arrives at it over the edges; and what the sinks keep and what
-- is left on the links after the list is what arrives at the Sinks and Ends
pub record Delivers {T : Type 0} (level : LevelView) (q : List ℕ) (given : Given T) (wires : List Wire) (on : List (List T)) (list : List ℕ) : Type 0 where
  pub firings : EachFiring (λ before b. reads_after level given.sources given.delays given.made before b ≡ at_firing level wires on b (firings b before)) [] list
  pub ends : end_of level q (lines_after level given.delays given.made list) ≡ arrived level wires on
