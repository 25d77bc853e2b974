use Rattle.std.proofs.Common.{◌≡◌, ◌++◌, ℤ, List, drop, length, map}
use Rattle.pisdf_meaning.specs.States.{cut}
use Rattle.pisdf_meaning.proofs.states.cut.Given as goal

-- what is left of the line is cut into lists as long as the rest
abbrev pub invariant-loop-list : goal.invariant-loop-list
invariant-loop-list l = cut (map (λ (tokens : List ℤ). length tokens) l.lists) l.line ≡ l.state.items ++ cut (map (λ (tokens : List ℤ). length tokens) (drop l.list-index l.lists)) l.rest
