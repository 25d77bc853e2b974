-- The graphs of small levels, evaluated.
use Rattle.std.proofs.Common.{◌≡◌, ℕ, List, [], ◌∷◌, refl}
use Rattle.sdf_level.specs.View.{LevelView}
use Rattle.sdf_level.specs.declared.node.Node.TheVariants as node
use Rattle.sdf_level.specs.declared.single_rate.Edge.{Edge}
use Rattle.sdf_level.specs.Firings.{turns_of}
use Rattle.sdf_level.proofs.ExampleLevels.{from_source, between, pairs, doubled, thrice, cut, ramp, keep_last, cycle}
use Rattle.single_rate.specs.Expanded.{nodes, edges}

abbrev edge : ℕ → ℕ → ℕ → ℕ → ℕ → Edge
edge t p h j s = record { tail = t; tail_port = p; head = h; head_port = j; size = s }

abbrev edges_of : LevelView → List ℕ → List ℕ → List Edge
edges_of level q order = edges level q (turns_of order)

pairs_nodes : nodes pairs (2 ∷ []) (turns_of (0 ∷ 0 ∷ [])) ≡ node.Source 0 ∷ node.Firing 0 0 ∷ node.Firing 0 1 ∷ node.Fork 0 0 ∷ node.Join 1 0 ∷ node.Sink 0 ∷ []
pairs_nodes = refl

pairs_edges : edges_of pairs (2 ∷ []) (0 ∷ 0 ∷ []) ≡ edge 0 0 3 0 4 ∷ edge 3 0 1 0 2 ∷ edge 3 1 2 0 2 ∷ edge 1 0 4 0 1 ∷ edge 2 0 4 1 1 ∷ edge 4 0 5 0 2 ∷ []
pairs_edges = refl

doubled_nodes : nodes doubled (3 ∷ 2 ∷ []) (turns_of (0 ∷ 0 ∷ 0 ∷ 1 ∷ 1 ∷ [])) ≡
    node.Source 0 ∷ node.Firing 0 0 ∷ node.Firing 0 1 ∷ node.Firing 0 2 ∷ node.Firing 1 0 ∷ node.Firing 1 1 ∷ node.Fork 0 0 ∷ node.Fork 1 1 ∷ node.Join 1 0 ∷ node.Join 1 1 ∷ node.Join 2 0 ∷ node.Sink 0 ∷ []
doubled_nodes = refl

doubled_edges : edges_of doubled (3 ∷ 2 ∷ []) (0 ∷ 0 ∷ 0 ∷ 1 ∷ 1 ∷ []) ≡
    edge 0 0 6 0 3 ∷ edge 6 0 1 0 1 ∷ edge 6 1 2 0 1 ∷ edge 6 2 3 0 1
    ∷ edge 2 0 7 0 2 ∷ edge 1 0 8 0 2 ∷ edge 7 0 8 1 1 ∷ edge 7 1 9 0 1 ∷ edge 3 0 9 1 2 ∷ edge 8 0 4 0 3 ∷ edge 9 0 5 0 3
    ∷ edge 4 0 10 0 1 ∷ edge 5 0 10 1 1 ∷ edge 10 0 11 0 2 ∷ []
doubled_edges = refl

thrice_nodes : nodes thrice (3 ∷ 1 ∷ []) (turns_of (0 ∷ 0 ∷ 0 ∷ 1 ∷ [])) ≡ node.Source 0 ∷ node.Firing 0 0 ∷ node.Firing 0 1 ∷ node.Firing 0 2 ∷ node.Firing 1 0 ∷ node.Broadcast 0 ∷ node.Join 1 0 ∷ node.Sink 0 ∷ []
thrice_nodes = refl

thrice_edges : edges_of thrice (3 ∷ 1 ∷ []) (0 ∷ 0 ∷ 0 ∷ 1 ∷ []) ≡
    edge 0 0 5 0 1 ∷ edge 5 0 1 0 1 ∷ edge 5 1 2 0 1 ∷ edge 5 2 3 0 1
    ∷ edge 1 0 6 0 1 ∷ edge 2 0 6 1 1 ∷ edge 3 0 6 2 1 ∷ edge 6 0 4 0 3 ∷ edge 4 0 7 0 1 ∷ []
thrice_edges = refl

last_nodes : nodes keep_last (4 ∷ []) (turns_of (0 ∷ 0 ∷ 0 ∷ 0 ∷ [])) ≡ node.Source 0 ∷ node.Firing 0 0 ∷ node.Firing 0 1 ∷ node.Firing 0 2 ∷ node.Firing 0 3 ∷ node.Fork 0 0 ∷ node.Round 1 ∷ node.Sink 0 ∷ []
last_nodes = refl

last_edges : edges_of keep_last (4 ∷ []) (0 ∷ 0 ∷ 0 ∷ 0 ∷ []) ≡
    edge 0 0 5 0 4 ∷ edge 5 0 1 0 1 ∷ edge 5 1 2 0 1 ∷ edge 5 2 3 0 1 ∷ edge 5 3 4 0 1
    ∷ edge 1 0 6 0 1 ∷ edge 2 0 6 1 1 ∷ edge 3 0 6 2 1 ∷ edge 4 0 6 3 1 ∷ edge 6 0 7 0 1 ∷ []
last_edges = refl

cycle_nodes : nodes (cycle 1) (1 ∷ 1 ∷ []) (turns_of (0 ∷ 1 ∷ [])) ≡ node.Source 0 ∷ node.Init 3 ∷ node.Firing 0 0 ∷ node.Firing 1 0 ∷ node.End 3 ∷ node.Sink 0 ∷ []
cycle_nodes = refl

cycle_edges : edges_of (cycle 1) (1 ∷ 1 ∷ []) (0 ∷ 1 ∷ []) ≡ edge 0 0 2 0 1 ∷ edge 2 0 3 0 1 ∷ edge 3 0 5 0 1 ∷ edge 1 0 2 1 1 ∷ edge 3 1 4 0 1 ∷ []
cycle_edges = refl

-- a source read once and again, from the start where it runs out
cut_nodes : nodes cut (2 ∷ []) (turns_of (0 ∷ 0 ∷ [])) ≡ node.Source 0 ∷ node.Firing 0 0 ∷ node.Firing 0 1 ∷ node.Broadcast 0 ∷ node.Join 1 0 ∷ node.Sink 0 ∷ []
cut_nodes = refl

cut_edges : edges_of cut (2 ∷ []) (0 ∷ 0 ∷ []) ≡ edge 0 0 3 0 3 ∷ edge 3 0 1 0 2 ∷ edge 3 1 2 0 2 ∷ edge 1 0 4 0 1 ∷ edge 2 0 4 1 1 ∷ edge 4 0 5 0 2 ∷ []
cut_edges = refl

-- one firing to many, of which a sink keeps the last
ramp_edges : edges_of (ramp 3) (1 ∷ 3 ∷ []) (0 ∷ 1 ∷ 1 ∷ 1 ∷ []) ≡
    edge 0 0 4 0 3 ∷ edge 4 0 1 0 1 ∷ edge 4 1 2 0 1 ∷ edge 4 2 3 0 1 ∷ edge 1 0 5 0 1 ∷ edge 2 0 5 1 1 ∷ edge 3 0 5 2 1 ∷ edge 5 0 6 0 1 ∷ []
ramp_edges = refl

-- two firings of each of two actors, at rates of 2, with a delay between them
abbrev held : ℕ → LevelView
held d = record { actors = 2; sources = 4 ∷ []; sinks = []; links = from_source 0 0 0 2 ∷ between 0 0 2 1 0 2 d ∷ [] }

abbrev held_edges : ℕ → List Edge
held_edges d = edges_of (held d) (2 ∷ 2 ∷ []) (0 ∷ 0 ∷ 1 ∷ 1 ∷ [])

-- less than a reader's rate
one_held_nodes : nodes (held 1) (2 ∷ 2 ∷ []) (turns_of (0 ∷ 0 ∷ 1 ∷ 1 ∷ [])) ≡
    node.Source 0 ∷ node.Init 1 ∷ node.Firing 0 0 ∷ node.Firing 0 1 ∷ node.Firing 1 0 ∷ node.Firing 1 1
    ∷ node.Fork 0 0 ∷ node.Fork 1 1 ∷ node.Fork 1 2 ∷ node.Join 1 0 ∷ node.Join 1 1 ∷ node.End 1 ∷ []
one_held_nodes = refl

one_held : held_edges 1 ≡
    edge 0 0 6 0 4 ∷ edge 6 0 2 0 2 ∷ edge 6 1 3 0 2
    ∷ edge 2 0 7 0 2 ∷ edge 3 0 8 0 2 ∷ edge 1 0 9 0 1 ∷ edge 7 0 9 1 1 ∷ edge 7 1 10 0 1 ∷ edge 8 0 10 1 1 ∷ edge 8 1 11 0 1 ∷ edge 9 0 4 0 2 ∷ edge 10 0 5 0 2 ∷ []
one_held = refl

-- as much
two_held : held_edges 2 ≡ edge 0 0 6 0 4 ∷ edge 6 0 2 0 2 ∷ edge 6 1 3 0 2 ∷ edge 1 0 4 0 2 ∷ edge 2 0 5 0 2 ∷ edge 3 0 7 0 2 ∷ []
two_held = refl

-- more
three_held : held_edges 3 ≡
    edge 0 0 6 0 4 ∷ edge 6 0 2 0 2 ∷ edge 6 1 3 0 2
    ∷ edge 1 0 7 0 3 ∷ edge 2 0 8 0 2 ∷ edge 7 0 4 0 2 ∷ edge 7 1 9 0 1 ∷ edge 8 0 9 1 1 ∷ edge 8 1 10 0 1 ∷ edge 3 0 10 1 2 ∷ edge 9 0 5 0 2 ∷ edge 10 0 11 0 3 ∷ []
three_held = refl

-- more than all that is read
five_held : held_edges 5 ≡
    edge 0 0 6 0 4 ∷ edge 6 0 2 0 2 ∷ edge 6 1 3 0 2
    ∷ edge 1 0 7 0 5 ∷ edge 7 0 4 0 2 ∷ edge 7 1 5 0 2 ∷ edge 7 2 8 0 1 ∷ edge 2 0 8 1 2 ∷ edge 3 0 8 2 2 ∷ edge 8 0 9 0 5 ∷ []
five_held = refl

-- a state that each firing of an actor leaves to the next
abbrev stateful : LevelView
stateful = record { actors = 1; sources = 4 ∷ []; sinks = []; links = from_source 0 0 0 2 ∷ between 0 0 3 0 1 3 3 ∷ [] }

stateful_nodes : nodes stateful (2 ∷ []) (turns_of (0 ∷ 0 ∷ [])) ≡ node.Source 0 ∷ node.Init 1 ∷ node.Firing 0 0 ∷ node.Firing 0 1 ∷ node.Fork 0 0 ∷ node.End 1 ∷ []
stateful_nodes = refl

stateful_edges : edges_of stateful (2 ∷ []) (0 ∷ 0 ∷ []) ≡ edge 0 0 4 0 4 ∷ edge 4 0 2 0 2 ∷ edge 4 1 3 0 2 ∷ edge 1 0 2 1 3 ∷ edge 2 0 3 1 3 ∷ edge 3 0 5 0 3 ∷ []
stateful_edges = refl

-- a link that carries no tokens, but holds a delay
abbrev idle : ℕ → LevelView
idle d = record { actors = 2; sources = []; sinks = []; links = between 0 0 0 1 0 0 d ∷ [] }

idle_nodes : nodes (idle 2) (1 ∷ 1 ∷ []) (turns_of (0 ∷ 1 ∷ [])) ≡ node.Init 0 ∷ node.Firing 0 0 ∷ node.Firing 1 0 ∷ node.End 0 ∷ []
idle_nodes = refl

idle_edges : edges_of (idle 2) (1 ∷ 1 ∷ []) (0 ∷ 1 ∷ []) ≡ edge 0 0 3 0 2 ∷ []
idle_edges = refl

no_edges : edges_of (idle 0) (1 ∷ 1 ∷ []) (0 ∷ 1 ∷ []) ≡ []
no_edges = refl
