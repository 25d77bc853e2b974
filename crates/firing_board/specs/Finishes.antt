-- What a finish does.
use Rattle.std.specs.Prelude.{◌≡◌, ℕ, List, [], ◌∷◌, ◌++◌, Some, None, Result, slice_set}
use Rattle.kernel_gate.specs.Value.{FrameView}
use Rattle.kernel_gate.specs.declared.fault.KernelFault.{KernelFault}
use Rattle.nested_jobs.specs.Journals as steps
use Rattle.nested_jobs.specs.Rules.{Work}
use Rattle.job_preparing.specs.CompileTasks.{IsEndOf}
use Rattle.job_preparing.specs.Handing.{answer_with}
use Rattle.job_preparing.specs.declared.compiling.CompileEnd.{CompileEnd}
use Rattle.job_rules.specs.Doing.{Answers}
use Rattle.job_rules.specs.Words as words
use Rattle.job_rules.specs.Words.{Answer}
use Rattle.graph_firing.specs.Calls.{IsSoundFor}
use Rattle.board_rules.specs.Entries.{Step}
use Rattle.board_rules.specs.Keys.{Key}
use Rattle.board_rules.specs.Legal.{state_after}
use Rattle.firing_board.specs.Runs.{RunsWork}
use Rattle.firing_board.specs.View.{BoardView, IsAt}

-- work whose frame comes back so: what its kernel gives or refuses, or what its node copies, is the answer that it has
pub record MayComeBack (key : Key) (frame : FrameView) (result : Result (Unit {0}) KernelFault) (sound : Type 0) (work : words.Work) : Type 0 where
  pub answered : Answers key.graphs.graphs work (answer_with (Some (Work work)) frame result)
  pub sound_so : IsSoundFor (Some (Work work)) sound

-- a compilation that can end so, and has an answer
abbrev pub MayEnd : Key → CompileEnd → words.Work → Type 0
MayEnd key end (words.Fires spot asked) = ⊥
MayEnd key end (words.Copies node read lens) = ⊥
MayEnd key end (words.Compiles firing left) =
    IsEndOf key.graphs.graphs key.workers firing left end × ((answer : Answer) × Answers key.graphs.graphs (words.Compiles firing left) answer)

-- the finish is entered, with the answer that the work has which the worker runs; it has no frame any more, and the other
-- workers' are where they were
pub record Finishes (old new : BoardView) (w : ℕ) : Type 0 where
  pub entered : (taken : List Step) (work : words.Work) (answer : Answer) →
      IsAt old taken → RunsWork old.key (state_after old.key taken) w work → Answers old.key.graphs.graphs work answer → IsAt new (taken ++ steps.Finish w answer ∷ [])
  pub new_is : new ≡ record old { journal = new.journal; starved = new.starved; firings = new.firings; lent = slice_set old.lent w None }
