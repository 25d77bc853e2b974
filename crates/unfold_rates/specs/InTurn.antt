-- Iterations one after the other, in whose place one of the unfolded graphs stands.
use Rattle.std.specs.Prelude.{◌≡◌, ℕ, ◌*◌, ℤ, List, [], ◌∷◌, map}
use Rattle.std.specs.Arc.{arc_value}
use Rattle.kernel_gate.specs.Laws.{GiveLengths}
use Rattle.kernel_gate.specs.Signed.{Counts}
use Rattle.kernel_gate.specs.Value.{lengths}
use Rattle.pisdf_meaning.specs.Run.{IterationGives, top_needs}
use Rattle.pisdf_meaning.specs.Sound.{KernelsFit}
use Rattle.pisdf_meaning.specs.declared.outcome.Iteration.{Iteration}
use Rattle.pisdf_model.specs.Hold.{initial}
use Rattle.pisdf_model.specs.declared.graph.Graphs.{Graphs}
use Rattle.level_laws.specs.Parts.{parts}
use Rattle.unfold_rates.specs.Cut.{AreCut}
use Rattle.unfold_rates.specs.declared.unfolded.Unfolded.{Unfolded}

-- from this state on, iterations with these inputs, one after the other, give these, and leave this state
abbrev pub GiveInTurn : Graphs → List (List (List ℤ)) → List (List ℤ) → List Iteration → List (List ℤ) → Type 0
GiveInTurn graphs [] state given left = (given ≡ []) × (left ≡ state)
GiveInTurn graphs (ins ∷ rest) state given left =
    (one : Iteration) × (next : List (List ℤ)) × (more : List Iteration) ×
    IterationGives graphs ins state one next × GiveInTurn graphs rest next more left × (given ≡ one ∷ more)

-- a state of the top graph, and the tokens of so many iterations
pub record CanBegin (graphs : Graphs) (times : ℕ) (state ins : List (List ℤ)) : Type 0 where
  pub state_fits : lengths state ≡ lengths (initial graphs.graphs graphs.top)
  pub inputs_fit : lengths ins ≡ map (λ r. times * r) (top_needs graphs)

-- what an iteration of the unfolded graphs gives is cut into what the iterations give in turn, and the same state is left
pub record GoesInTurn (graphs : Graphs) (u : Unfolded) (state ins : List (List ℤ)) (iteration : Iteration) (left : List (List ℤ)) : Type 0 where
  pub pieces : List Iteration
  pub in_turn : GiveInTurn graphs (parts u.times ins) state pieces left
  pub cut : AreCut u iteration pieces

-- the iteration of the unfolded graphs that is cut into these, and leaves the same state
pub record GoesAsOne (u : Unfolded) (state ins : List (List ℤ)) (pieces : List Iteration) (left : List (List ℤ)) : Type 0 where
  pub iteration : Iteration
  pub gives : IterationGives (arc_value u.graphs) ins state iteration left
  pub cut : AreCut u iteration pieces

-- Where an iteration of the unfolded graphs begins with fitting tokens, and kernels give as many tokens as they are asked for, it
-- stands for those of the graphs: if it is done, so are they all, one after the other; and if they all are, so is it.
pub record UnfoldsTo (graphs : Graphs) (u : Unfolded) : Type 0 where
  pub there : (signatures : List Counts) (state ins : List (List ℤ)) (iteration : Iteration) (left : List (List ℤ)) →
      KernelsFit signatures graphs.graphs → GiveLengths signatures → CanBegin graphs u.times state ins →
      IterationGives (arc_value u.graphs) ins state iteration left → GoesInTurn graphs u state ins iteration left
  pub back : (signatures : List Counts) (state ins : List (List ℤ)) (pieces : List Iteration) (left : List (List ℤ)) →
      KernelsFit signatures graphs.graphs → GiveLengths signatures → CanBegin graphs u.times state ins →
      GiveInTurn graphs (parts u.times ins) state pieces left → GoesAsOne u state ins pieces left
