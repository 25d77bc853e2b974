-- The ports at which edges enter and leave the nodes of a graph.
use Rattle.std.specs.Prelude.{◌≡◌, ℕ, zero, suc, ◌+◌, ◌<◌, ◌≤◌, ◌==◌, List, [], ◌∷◌, ◌++◌, length, slice_index, if◌then◌else◌}
use Rattle.sdf_level.specs.View.{LevelView}
use Rattle.sdf_level.specs.Invariants.{IsLevel, how_many}
use Rattle.sdf_level.specs.Lists.{occurrences}
use Rattle.sdf_level.specs.Orders.{IsTurnOrder}
use Rattle.sdf_level.specs.Repetition.{IsRepetition}
use Rattle.sdf_level.specs.Run.{is_into_actor}
use Rattle.sdf_level.specs.declared.node.Node.{Node}
use Rattle.sdf_level.specs.declared.node.Node.TheVariants as node
use Rattle.sdf_level.specs.declared.single_rate.Edge.{Edge}
use Rattle.sdf_level.specs.declared.turn.Turn.{Turn}
use Rattle.single_rate.specs.Expanded.{nodes, edges}
use Rattle.single_rate.specs.Names.{output_rate}
use Rattle.single_rate.specs.Tiers.{node_at}

-- the ports at which edges enter a node, in the order of the edges, and those at which they leave it
abbrev pub ports_into : List Edge → ℕ → List ℕ
ports_into [] n = []
ports_into (e ∷ edges) n = (if e.head == n then e.head_port ∷ [] else []) ++ ports_into edges n

abbrev pub ports_from : List Edge → ℕ → List ℕ
ports_from [] n = []
ports_from (e ∷ edges) n = (if e.tail == n then e.tail_port ∷ [] else []) ++ ports_from edges n

-- so many numbers, from this one on
abbrev pub up_from : ℕ → ℕ → List ℕ
up_from k zero = []
up_from k (suc n) = k ∷ up_from (k + 1) n

-- counted from 0
abbrev pub AreCounted : List ℕ → Type 0
AreCounted ports = ports ≡ up_from 0 (length ports)

abbrev pub IsAtMostOne : List ℕ → Type 0
IsAtMostOne ports = AreCounted ports × (length ports ≤ 1)

-- no port twice
abbrev pub AreApart : List ℕ → Type 0
AreApart ports = (p : ℕ) → occurrences p ports ≤ 1

-- ports that the actor has
abbrev pub AreInputs : LevelView → ℕ → List ℕ → Type 0
AreInputs level b ports = (p : ℕ) → 0 < occurrences p ports → p < how_many (is_into_actor b) level.links

-- A firing's edges have ports of its actor, each for itself. The ports of other nodes are counted from 0 in the order of
-- their edges: a Source, an Init, an End and a Sink have one edge at most, and so has a Broadcast or Fork where edges enter,
-- and a Join or Round where they leave.
abbrev pub PortsAt : LevelView → Node → List ℕ → List ℕ → Type 0
PortsAt level (node.Source s) into from = (into ≡ []) × IsAtMostOne from
PortsAt level (node.Init l) into from = (into ≡ []) × IsAtMostOne from
PortsAt level (node.Firing a k) into from = AreApart into × AreInputs level a into × AreApart from
PortsAt level (node.End l) into from = IsAtMostOne into × (from ≡ [])
PortsAt level (node.Sink t) into from = IsAtMostOne into × (from ≡ [])
PortsAt level (node.Broadcast l) into from = (into ≡ 0 ∷ []) × AreCounted from
PortsAt level (node.Fork l i) into from = (into ≡ 0 ∷ []) × AreCounted from
PortsAt level (node.Join l j) into from = AreCounted into × (from ≡ 0 ∷ [])
PortsAt level (node.Round l) into from = AreCounted into × (from ≡ 0 ∷ [])

-- Where a node has tokens to give, an edge leaves it: a Source with a rate, an Init, and a firing at each output port with a rate.
abbrev pub UsesPorts : LevelView → Node → List ℕ → Type 0
UsesPorts level (node.Source s) from = 0 < slice_index level.sources s → 0 < occurrences 0 from
UsesPorts level (node.Init l) from = 0 < occurrences 0 from
UsesPorts level (node.Firing a k) from = (p : ℕ) → 0 < output_rate a p level.links → 0 < occurrences p from
UsesPorts level (node.End l) from = Unit {0}
UsesPorts level (node.Sink t) from = Unit {0}
UsesPorts level (node.Broadcast l) from = Unit {0}
UsesPorts level (node.Fork l i) from = Unit {0}
UsesPorts level (node.Join l j) from = Unit {0}
UsesPorts level (node.Round l) from = Unit {0}

abbrev pub PortsAreUsed : Type 0
PortsAreUsed =
    (level : LevelView) (q : List ℕ) (turns : List Turn) (n : ℕ) →
    IsLevel level → IsRepetition level q → IsTurnOrder level q turns → n < length (nodes level q turns) →
    UsesPorts level (node_at (nodes level q turns) n) (ports_from (edges level q turns) n)

abbrev pub EdgesHavePorts : Type 0
EdgesHavePorts =
    (level : LevelView) (q : List ℕ) (turns : List Turn) (n : ℕ) →
    IsLevel level → IsTurnOrder level q turns → n < length (nodes level q turns) →
    PortsAt level (node_at (nodes level q turns) n) (ports_into (edges level q turns) n) (ports_from (edges level q turns) n)
