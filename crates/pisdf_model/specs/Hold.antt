-- The state of a graph: the tokens that go on from one of its firings to the next. And how many of them stand in it at first.
use Rattle.std.specs.Prelude.{ℕ, zero, suc, ◌+◌, ◌==◌, nat_lt, min, ℤ, Bool, ◌&&◌, List, [], ◌++◌, length, map, sum_by, slice_index_or, Option, Some, None, slice_get}
use Rattle.std.specs.List.{flat_map, list_any}
use Rattle.pisdf_model.specs.Arrows.{to_of}
use Rattle.pisdf_model.specs.Nesting.{children, nesting_limit}
use Rattle.pisdf_model.specs.declared.actor.Actor.{Actor}
use Rattle.pisdf_model.specs.declared.actor.Body.{Body}
use Rattle.pisdf_model.specs.declared.actor.Body.TheVariants.{Kernel, Config, Child, ConfigChild}
use Rattle.pisdf_model.specs.declared.fifo.Fifo.{Fifo}
use Rattle.pisdf_model.specs.declared.fifo.Life.{Life}
use Rattle.pisdf_model.specs.declared.fifo.Life.TheVariants.{Firing, Permanent}
use Rattle.pisdf_model.specs.declared.graph.Graph.{Graph}

-- ---- the state of a graph

-- the tokens of a delay that go on over firings
abbrev pub kept_tokens : Life → List ℤ → List ℤ
kept_tokens Firing delay = []
kept_tokens Permanent delay = delay

abbrev pub kept_in : Fifo → List ℤ
kept_in f = kept_tokens f.life f.delay

-- a state in one line
abbrev pub in_line : List (List ℤ) → List ℤ
in_line state = flat_map (λ tokens. tokens) state

-- the state of an actor: that of the graph which it names, in one line, where these are the states of graphs
abbrev pub actor_state : (ℕ → List (List ℤ)) → Body → List ℤ
actor_state states (Kernel kernel args ins outs) = []
actor_state states (Config kernel args ins outs sets) = []
actor_state states (Child graph args) = in_line (states graph)
actor_state states (ConfigChild graph args sets) = in_line (states graph)

-- a list for each FIFO, then one for each actor
abbrev pub graph_state : (ℕ → List (List ℤ)) → Option Graph → List (List ℤ)
graph_state states None = []
graph_state states (Some g) = map kept_in g.fifos ++ map (λ (a : Actor). actor_state states a.body) g.actors

-- the state with which the graph at a place begins, over n graphs nested in each other
unfoldable pub initial_to : List Graph → ℕ → ℕ → List (List ℤ)
initial_to graphs zero place = []
initial_to graphs (suc n) place = graph_state (initial_to graphs n) (slice_get graphs place)

-- over as many graphs as may be nested in each other
abbrev pub initial : List Graph → ℕ → List (List ℤ)
initial graphs place = initial_to graphs nesting_limit place

-- ---- how many tokens it has

-- the most tokens that the state of a graph which an actor names begins with
abbrev pub hold_limit : ℕ
hold_limit = 262144

abbrev pub hold : List Graph → ℕ → ℕ
hold graphs place = length (in_line (initial graphs place))

-- some actor names the graph at a place
abbrev pub is_named : List Graph → ℕ → Bool
is_named graphs place = list_any (λ (g : Graph). list_any (λ child. child == place) (children g)) graphs

-- some actor names the graph at a place, and its state begins with more tokens than the limit
abbrev pub has_large_hold : List Graph → ℕ → Bool
has_large_hold graphs place = is_named graphs place && nat_lt hold_limit (hold graphs place)

-- ---- the same by numbers alone

-- how many tokens of a graph's own delays go on
abbrev pub own_hold : Graph → ℕ
own_hold g = sum_by (λ (f : Fifo). length (kept_in f)) g.fifos

-- the tokens of a graph's own delays, and those of its children, over n graphs nested in each other
unfoldable pub hold_over : List ℕ → List (List ℕ) → ℕ → ℕ → ℕ
hold_over own child_lists zero place = 0
hold_over own child_lists (suc n) place = slice_index_or own place 0 + sum_by (hold_over own child_lists n) (to_of child_lists place)

abbrev pub is_held : List (List ℕ) → ℕ → Bool
is_held child_lists place = list_any (λ to. list_any (λ child. child == place) to) child_lists

abbrev pub is_large : List ℕ → List (List ℕ) → ℕ → Bool
is_large own child_lists place = is_held child_lists place && nat_lt hold_limit (hold_over own child_lists nesting_limit place)

-- a number of tokens, counted to one more than the limit
abbrev pub capped_hold : ℕ → ℕ
capped_hold n = min n (hold_limit + 1)
