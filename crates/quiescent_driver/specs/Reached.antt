-- How far a run has come.
use Rattle.std.specs.Prelude.{◌≡◌, ℕ, ◌+◌, ◌≤◌, ℤ, List, [], ◌∷◌, length, Bool, true, false, Option, Result, Ok, Err}
use Rattle.outer_world.specs.Sink.{Grows}
use Rattle.pisdf_model.specs.declared.graph.Graphs.{Graphs}
use Rattle.pisdf_meaning.specs.Run.{top_needs}
use Rattle.pisdf_meaning.specs.declared.outcome.Iteration.{Iteration}
use Rattle.quiescent_driver.specs.Iterated.{Gives, HaveIterated}
use Rattle.quiescent_driver.specs.Runs.{EndsRun, text_of}
use Rattle.quiescent_driver.specs.Streams.{rest_of}
use Rattle.quiescent_driver.specs.declared.end.RunEnd.{RunEnd}

-- the first k iterations were put, and leave this state
pub record Reached (g : Graphs) (streams : List (List ℤ)) (k : ℕ) (s : List (List ℤ)) (had has : Option (List ℕ)) : Type 0 where
  pub so_far : List Iteration
  pub done : HaveIterated g streams k so_far s
  pub written : Grows had has (text_of g so_far)

-- the run of n iterations ends so, where the first k were put before and left this state
abbrev pub EndsFrom : Graphs → List (List ℤ) → ℕ → ℕ → List (List ℤ) → Option (List ℕ) → Option (List ℕ) → ℕ → ℕ → RunEnd → Type 0
EndsFrom g streams n k state has new before now end =
    (had : Option (List ℕ)) (first : ℕ) → Reached g streams k state had has → first ≤ before → EndsRun g streams n had new first now end

-- ---- iterations one after the other

-- from iteration k and this state on, these iterations are done one after the other, and leave the state `left`
abbrev pub Iterate : Graphs → List (List ℤ) → ℕ → List (List ℤ) → List Iteration → List (List ℤ) → Type 0
Iterate g streams k state [] left = left ≡ state
Iterate g streams k state (one ∷ more) left =
    (next : List (List ℤ)) × Gives g state (rest_of k (top_needs g) streams) one next × Iterate g streams (k + 1) next more left

-- the run has come to iteration k, or ended before it
abbrev pub ComesTo : Graphs → List (List ℤ) → ℕ → ℕ → List (List ℤ) → Option (List ℕ) → Option (List ℕ) → ℕ → ℕ → Result (Unit {0}) RunEnd → Type 0
ComesTo g streams n k state had has first now (Ok done) = Reached g streams k state had has
ComesTo g streams n k state had has first now (Err end) = EndsRun g streams n had has first now end

-- where these iterations are done from iteration k on, in a run of n, they were put, or the run ended with one of them
abbrev pub PutsInTurn : Graphs → ℕ → List Iteration → Option (List ℕ) → Option (List ℕ) → ℕ → ℕ → Result (Unit {0}) RunEnd → Type 0
PutsInTurn g k its has new before now result =
    (streams state left : List (List ℤ)) (had : Option (List ℕ)) (n first : ℕ)
    → Iterate g streams k state its left → Reached g streams k state had has → first ≤ before → k + length its ≤ n
    → ComesTo g streams n (k + length its) left had new first now result

-- ---- a group of iterations

-- from iteration k on so many iterations were put, or none was, or the run ended with them
abbrev pub GroupComesTo : Graphs → List (List ℤ) → ℕ → ℕ → ℕ → List (List ℤ) → Option (List ℕ) → Option (List ℕ) → ℕ → ℕ → Result Bool RunEnd → Type 0
GroupComesTo g streams n k times state had has first now (Ok true) = Reached g streams (k + times) state had has
GroupComesTo g streams n k times state had has first now (Ok false) = Reached g streams k state had has
GroupComesTo g streams n k times state had has first now (Err end) = EndsRun g streams n had has first now end

abbrev pub PutsGroup : Graphs → List (List ℤ) → ℕ → ℕ → ℕ → List (List ℤ) → List (List ℤ) → Option (List ℕ) → Option (List ℕ) → ℕ → ℕ → Result Bool RunEnd → Type 0
PutsGroup g streams n k times state next has new before now result =
    (had : Option (List ℕ)) (first : ℕ) → Reached g streams k state had has → first ≤ before → GroupComesTo g streams n k times next had new first now result
