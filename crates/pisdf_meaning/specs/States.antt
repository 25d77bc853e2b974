-- The lists of a graph's state: one for each FIFO, then one for each actor.
use Rattle.std.specs.Prelude.{ℕ, ◌+◌, ℤ, List, [], ◌∷◌, length, map, take, drop, slice_index_or}
use Rattle.pisdf_model.specs.Hold.{initial}
use Rattle.pisdf_model.specs.declared.fifo.Life.{Life}
use Rattle.pisdf_model.specs.declared.fifo.Life.TheVariants.{Firing, Permanent}
use Rattle.pisdf_model.specs.declared.graph.Graph.{Graph}

abbrev pub tokens_at : List (List ℤ) → ℕ → List ℤ
tokens_at lists n = slice_index_or lists n []

-- the list of an actor: the state of the graph that it names, in one line
abbrev pub actor_list : Graph → List (List ℤ) → ℕ → List ℤ
actor_list g state a = tokens_at state (length g.fifos + a)

-- a line cut into lists of these lengths
abbrev pub cut : List ℕ → List ℤ → List (List ℤ)
cut [] line = []
cut (n ∷ ns) line = take n line ∷ cut ns (drop n line)

-- the state of the graph at a place, which stands in one line
abbrev pub state_in : List Graph → ℕ → List ℤ → List (List ℤ)
state_in graphs place line = cut (map (λ (tokens : List ℤ). length tokens) (initial graphs place)) line

-- with what a FIFO begins a firing of its graph: its delay, or the tokens that go on
abbrev pub begins_with : Life → List ℤ → List ℤ → List ℤ
begins_with Firing delay kept = delay
begins_with Permanent delay kept = kept

-- what goes on of what is left on it
abbrev pub goes_on : Life → List ℤ → List ℤ
goes_on Firing left = []
goes_on Permanent left = left
