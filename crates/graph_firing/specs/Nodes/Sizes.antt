-- Sizes of what is given.
use Rattle.std.specs.Prelude.{ℕ, ℤ, Bool, List, [], ◌∷◌, ◌++◌, map, length, if◌then◌else◌}
use Rattle.kernel_gate.specs.Value.{Places}
use Rattle.split_block.specs.View.{LeasePlace}
use Rattle.param_resolver.specs.EarlyCheck.{early_of}
use Rattle.pisdf_model.specs.Hold.{in_line, initial}
use Rattle.pisdf_model.specs.declared.graph.Graph.{Graph}
use Rattle.pisdf_meaning.specs.declared.firing.Firing.{Firing}

-- how long the outputs are that lie at these places
abbrev pub place_lens : Places → List ℕ
place_lens places = map (λ (p : LeasePlace). p.len) places.outputs

-- what a child gives on the outputs of its node, of which the last is the state that goes on, where one does
abbrev pub child_outs : Bool → List (List ℤ) → List (List ℤ) → List (List ℤ)
child_outs keeps outs state = outs ++ (if keeps then in_line state ∷ [] else [])

-- how long that is for the firing of a graph
abbrev pub call_lens : List Graph → Bool → Firing → List ℕ
call_lens graphs keeps d = (early_of graphs d.graph d.inherited).outputs ++ (if keeps then length (in_line (initial graphs d.graph)) ∷ [] else [])
