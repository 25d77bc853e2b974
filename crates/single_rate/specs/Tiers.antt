-- The nodes and edges of a graph by their numbers: each node stands once, the firings in the order of one thread, and edges
-- lead from earlier tiers to later ones.
use Rattle.std.specs.Prelude.{◌≡◌, ℕ, ◌+◌, ◌<◌, List, ◌∷◌, ◌++◌, length, slice_index, slice_index_or}
use Rattle.std.specs.List.{All}
use Rattle.sdf_level.specs.View.{LevelView}
use Rattle.sdf_level.specs.Invariants.{IsLevel}
use Rattle.sdf_level.specs.Firings.{firings, actors_of}
use Rattle.sdf_level.specs.Orders.{IsTurnOrder}
use Rattle.sdf_level.specs.Repetition.{IsRepetition}
use Rattle.sdf_level.specs.declared.node.Node.{Node}
use Rattle.sdf_level.specs.declared.node.Node.TheVariants as node
use Rattle.sdf_level.specs.declared.turn.Turn.{Turn}
use Rattle.single_rate.specs.Nodes.{kind}
use Rattle.single_rate.specs.Expanded.{source_nodes, init_nodes, nodes, edges, place_of}
use Rattle.single_rate.specs.Sizes.{HasTokens}
use Rattle.single_rate.specs.Laws.{HasLengths}
use Rattle.single_rate.specs.Names.{names}

-- the node with this number
abbrev pub node_at : List Node → ℕ → Node
node_at list n = slice_index_or list n (node.Source 0)

-- the number of the first firing
abbrev pub first_firing : LevelView → ℕ
first_firing level = length (source_nodes 0 level.sources ++ init_nodes 0 level.links)

-- a node found at its number is that node, in any list; and in a graph's list it stands at no other
abbrev pub NodesAreFound : Type 0
NodesAreFound = (list : List Node) (n : Node) → place_of list n < length list → node_at list (place_of list n) ≡ n

abbrev pub NodesStandOnce : Type 0
NodesStandOnce =
    (level : LevelView) (q : List ℕ) (turns : List Turn) (n : ℕ) →
    IsTurnOrder level q turns → n < length (nodes level q turns) → place_of (nodes level q turns) (node_at (nodes level q turns) n) ≡ n

-- each firing has its number
abbrev pub FiringsAreThere : Type 0
FiringsAreThere =
    (level : LevelView) (q : List ℕ) (turns : List Turn) (a k : ℕ) →
    IsTurnOrder level q turns → k < slice_index q a → place_of (nodes level q turns) (node.Firing a k) < length (nodes level q turns)

-- by its place in the order of one thread
abbrev pub FiringsStandInOrder : Type 0
FiringsStandInOrder =
    (level : LevelView) (q : List ℕ) (turns : List Turn) (before after : List ℕ) (b : ℕ) →
    IsTurnOrder level q turns → actors_of turns ≡ before ++ b ∷ after →
    node_at (nodes level q turns) (first_firing level + length before) ≡ node.Firing b (firings b before)

-- the firing at this place in a list of firings, with those before it
pub record StandsAt (list : List ℕ) (place : ℕ) : Type 0 where
  pub before : List ℕ
  pub actor : ℕ
  pub after : List ℕ
  pub list_is : list ≡ before ++ actor ∷ after
  pub place_is : place ≡ length before

-- and there are no others
pub record IsOfFiring (level : LevelView) (turns : List Turn) (n : ℕ) : Type 0 where
  pub place : ℕ
  pub number : n ≡ first_firing level + place
  pub stands : StandsAt (actors_of turns) place

abbrev pub FiringsAreAll : Type 0
FiringsAreAll =
    (level : LevelView) (q : List ℕ) (turns : List Turn) (n : ℕ) →
    IsTurnOrder level q turns → kind (node_at (nodes level q turns) n) ≡ 2 → IsOfFiring level turns n

-- each edge leads to a later tier, and each firing has a later tier than those before it
pub record HaveTiers (level : LevelView) (q : List ℕ) (turns : List Turn) : Type 0 where
  pub tier : ℕ → ℕ
  pub rising : All (λ e. tier e.tail < tier e.head) (edges level q turns)
  pub in_order : (i j : ℕ) → i < j → j < length turns → tier (first_firing level + i) < tier (first_firing level + j)

abbrev pub GraphsHaveTiers : Type 0
GraphsHaveTiers = (level : LevelView) (q : List ℕ) (turns : List Turn) → IsLevel level → IsTurnOrder level q turns → HaveTiers level q turns

-- both ends of each edge are there
abbrev pub EndsAreThere : Type 0
EndsAreThere =
    (level : LevelView) (q : List ℕ) (turns : List Turn) → IsLevel level → IsTurnOrder level q turns →
    All (λ e. (e.tail < length (nodes level q turns)) × (e.head < length (nodes level q turns))) (edges level q turns)

-- no edge is empty
abbrev pub EdgesHaveTokens : Type 0
EdgesHaveTokens = (level : LevelView) (q : List ℕ) (turns : List Turn) → IsLevel level → IsRepetition level q → All HasTokens (edges level q turns)

-- names are as long as a level asks for
abbrev pub NamesHaveLengths : Type 0
NamesHaveLengths = (level : LevelView) (q : List ℕ) → IsLevel level → HasLengths level q (names level)
