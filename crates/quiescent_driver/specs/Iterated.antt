-- The iterations of a run.
use Rattle.std.specs.Prelude.{◌≡◌, ℕ, zero, suc, ℤ, List, [], ◌∷◌, ◌++◌, Option, Some, None, slice_get, Result, Ok, Err}
use Rattle.pisdf_model.specs.Hold.{initial}
use Rattle.pisdf_model.specs.declared.graph.Graph.{Graph}
use Rattle.pisdf_model.specs.declared.graph.Graphs.{Graphs}
use Rattle.pisdf_meaning.specs.Run.{IterationEnds, IterationGives, Lack, after_early, first_lack, taken, top_needs}
use Rattle.pisdf_meaning.specs.declared.outcome.Iteration.{Iteration}
use Rattle.pisdf_meaning.specs.declared.refusal.Refusal.{Refusal}
use Rattle.quiescent_driver.specs.Streams.{rest_of}

-- an iteration from these streams goes through its early check, which finds this of the streams
pub record Checks (graphs : Graphs) (streams : List (List ℤ)) (found : Result (Option Lack) Refusal) : Type 0 where
  pub top : Graph
  pub top_is : slice_get graphs.graphs graphs.top ≡ Some top
  pub finds : after_early graphs top (first_lack 0 (top_needs graphs) streams) ≡ found

-- an iteration from this state and these streams is done, and leaves the state `next`
pub record Gives (graphs : Graphs) (state streams : List (List ℤ)) (iteration : Iteration) (next : List (List ℤ)) : Type 0 where
  pub checks : Checks graphs streams (Ok None)
  pub gives : IterationGives graphs (taken (top_needs graphs) streams) state iteration next

-- an iteration from this state and these streams is refused
pub record IsRefused (graphs : Graphs) (state streams : List (List ℤ)) (refusal : Refusal) : Type 0 where
  pub checks : Checks graphs streams (Ok None)
  pub ends : IterationEnds graphs (taken (top_needs graphs) streams) state (Err refusal)

-- the first k iterations of a run are done, and leave this state
abbrev pub HaveIterated : Graphs → List (List ℤ) → ℕ → List Iteration → List (List ℤ) → Type 0
HaveIterated graphs streams zero iterations state = (iterations ≡ []) × (state ≡ initial graphs.graphs graphs.top)
HaveIterated graphs streams (suc k) iterations state =
    (before : List Iteration) × (from : List (List ℤ)) × (iteration : Iteration) × HaveIterated graphs streams k before from
    × Gives graphs from (rest_of k (top_needs graphs) streams) iteration state × (iterations ≡ before ++ iteration ∷ [])
