-- What one iteration of a run says.
use Rattle.std.specs.Prelude.{ℕ, ℤ, List, [], Option, Some, Result, Ok, Err}
use Rattle.outer_world.specs.Faults.{Rose}
use Rattle.outer_world.specs.Sink.{Grows}
use Rattle.pisdf_model.specs.declared.graph.Graphs.{Graphs}
use Rattle.pisdf_meaning.specs.declared.outcome.Iteration.{Iteration}
use Rattle.quiescent_driver.specs.Runs.{GrowsPartly}
use Rattle.quiescent_driver.specs.Iterated.{Checks, Gives, IsRefused}
use Rattle.quiescent_driver.specs.Top.{top_of}
use Rattle.quiescent_driver.specs.Texts.{iteration_text}
use Rattle.quiescent_driver.specs.declared.end.RunEnd.{RunEnd}
use Rattle.quiescent_driver.specs.declared.end.RunEnd.TheVariants as end
use Rattle.quiescent_driver.specs.declared.stop.Stop.{Stop}
use Rattle.quiescent_driver.specs.declared.stop.Stop.TheVariants as stop

-- an iteration from this state and these streams isn't done
abbrev pub StopsAt : Graphs → List (List ℤ) → List (List ℤ) → Stop → Type 0
StopsAt graphs state streams (stop.Short stream held needs) = Checks graphs streams (Ok (Some record { stream = stream; has = held; needs = needs }))
StopsAt graphs state streams (stop.Refused refusal) = IsRefused graphs state streams refusal
StopsAt graphs state streams stop.Memory = Unit {0}

-- iteration `number` ended the run
abbrev pub EndsAt : Graphs → ℕ → List (List ℤ) → List (List ℤ) → Option (List ℕ) → Option (List ℕ) → ℕ → ℕ → RunEnd → Type 0
EndsAt graphs number state streams had has before now (end.Done left) = ⊥
EndsAt graphs number state streams had has before now (end.Short stream held needs) =
    Checks graphs streams (Ok (Some record { stream = stream; has = held; needs = needs })) × Grows had has []
EndsAt graphs number state streams had has before now (end.Refused refusal) = IsRefused graphs state streams refusal × Grows had has []
EndsAt graphs number state streams had has before now end.WriteFault =
    Rose before now × (iteration : Iteration) × (next : List (List ℤ)) × Gives graphs state streams iteration next
    × GrowsPartly had has (iteration_text number (top_of graphs).outputs iteration)
EndsAt graphs number state streams had has before now end.Memory = Grows had has []

-- the text of an iteration was put whole; or a put failed, or there was no memory
abbrev pub PutsText : List ℕ → Option (List ℕ) → Option (List ℕ) → ℕ → ℕ → Result (Unit {0}) RunEnd → Type 0
PutsText text had has before now (Ok done) = Grows had has text
PutsText text had has before now (Err (end.Done left)) = ⊥
PutsText text had has before now (Err (end.Short stream held needs)) = ⊥
PutsText text had has before now (Err (end.Refused refusal)) = ⊥
PutsText text had has before now (Err end.WriteFault) = Rose before now × GrowsPartly had has text
PutsText text had has before now (Err end.Memory) = Grows had has []

-- iteration `number` was written whole and left this state, or it ended the run
abbrev pub Steps : Graphs → ℕ → List (List ℤ) → List (List ℤ) → List (List ℤ) → Option (List ℕ) → Option (List ℕ) → ℕ → ℕ → Result (Unit {0}) RunEnd → Type 0
Steps graphs number state next streams had has before now (Ok done) =
    (iteration : Iteration) × Gives graphs state streams iteration next × Grows had has (iteration_text number (top_of graphs).outputs iteration)
Steps graphs number state next streams had has before now (Err end) = EndsAt graphs number state streams had has before now end
