-- How a soak run ends.
use Rattle.std.specs.Prelude.{◌≡◌, ℕ, List, length, Result, Ok, Err}
use Rattle.pisdf_model.specs.declared.graph.Graphs.{Graphs}
use Rattle.pisdf_meaning.specs.Run as run
use Rattle.pisdf_program.specs.Soak.{all_tokens, soak_iterations, soak_streams, soak_row, sum_of}
use Rattle.pisdf_program.specs.declared.soak_totals.Total.{Total}
use Rattle.pisdf_program.specs.declared.status.Status.{Status}
use Rattle.pisdf_program.specs.declared.status.Status.TheVariants as status
use Rattle.quiescent_driver.specs.declared.stop.Stop.{Stop}
use Rattle.quiescent_driver.specs.declared.stop.Stop.TheVariants.{Short, Refused, Memory}

abbrev pub total_row : ℕ → Total → List ℕ
total_row number total = soak_row number (soak_iterations number) total.count total.sum

-- it ends so
pub record SoakEndsBy (graphs : Graphs) (number : ℕ) (end : run.RunEnd) : Type 0 where
  pub ran : run.Run
  pub is_run : run.IsRun graphs (soak_streams number) (soak_iterations number) ran
  pub ends : ran.end ≡ end

-- all its iterations are done, and this is the total of the tokens of y
pub record SoakIsDone (graphs : Graphs) (number : ℕ) (total : Total) : Type 0 where
  pub left : List ℕ
  pub done : SoakEndsBy graphs number (run.Done left)
  pub count : total.count ≡ length (all_tokens done.ran.iterations)
  pub sum : total.sum ≡ sum_of (all_tokens done.ran.iterations)

abbrev pub EndsSoak : Graphs → ℕ → Result Total Stop → Type 0
EndsSoak graphs number (Ok total) = SoakIsDone graphs number total
EndsSoak graphs number (Err (Short stream has needs)) = SoakEndsBy graphs number (run.Short record { stream = stream; has = has; needs = needs })
EndsSoak graphs number (Err (Refused refusal)) = SoakEndsBy graphs number (run.Refused refusal)
EndsSoak graphs number (Err Memory) = Unit {0}

-- no stream lacks tokens
abbrev pub LacksNothing : Stop → Type 0
LacksNothing (Short stream has needs) = ⊥
LacksNothing (Refused refusal) = Unit {0}
LacksNothing Memory = Unit {0}

-- how it may end: done, refused, its row couldn't be put, or there was no memory
abbrev pub IsSoakStatus : Status → Type 0
IsSoakStatus status.Done = Unit {0}
IsSoakStatus status.Usage = ⊥
IsSoakStatus (status.GraphRefused cause) = ⊥
IsSoakStatus (status.TokensRefused cause) = ⊥
IsSoakStatus (status.RunRefused refusal) = Unit {0}
IsSoakStatus (status.ReadFault which) = ⊥
IsSoakStatus status.WriteFault = Unit {0}
IsSoakStatus status.WantOfMemory = Unit {0}
IsSoakStatus (status.JournalRefused cause) = ⊥
