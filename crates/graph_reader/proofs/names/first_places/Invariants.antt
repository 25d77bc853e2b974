use Rattle.std.proofs.Common.{◌≡◌, ◌-◌, ℕ, List, length}
use Rattle.graph_reader.specs.Lent.{lent, place_in}
use Rattle.graph_reader.proofs.Indexed.{first_from}
use Rattle.graph_reader.proofs.names.first_places.Given as goal

-- the places of the names behind are noted
abbrev pub invariant-loop-behind : goal.invariant-loop-behind
invariant-loop-behind l = (text : List ℕ) → place_in l.places text ≡ first_from (length l.names - l.behind) (lent l.names) text
