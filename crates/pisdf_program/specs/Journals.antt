-- What the calls of the command `journal` say.
use Rattle.std.specs.Prelude.{◌≡◌, ℕ, ◌≤◌, ℤ, List, [], Option, Some, None, Result, Ok, Err}
use Rattle.kernel_gate.specs.Table.{the_signatures}
use Rattle.outer_world.specs.Faults.{Rose}
use Rattle.outer_world.specs.Sink.{Grows}
use Rattle.pisdf_model.specs.declared.graph.Graphs.{Graphs}
use Rattle.pisdf_meaning.specs.Run as run
use Rattle.pisdf_meaning.specs.declared.outcome.Iteration.{Iteration}
use Rattle.pisdf_meaning.specs.declared.refusal.Refusal.{Refusal}
use Rattle.board_rules.specs.declared.entry.Entry.{Entry}
use Rattle.quiescent_driver.specs.Endings.{IsWhole}
use Rattle.quiescent_driver.specs.Journals.{boards, journal_text, key_at}
use Rattle.quiescent_driver.specs.Runs.{GrowsPartly}
use Rattle.quiescent_driver.specs.Iterated.{Checks, Gives, IsRefused}
use Rattle.quiescent_driver.specs.Streams.{rest_of}
use Rattle.quiescent_driver.specs.Texts.{joined}
use Rattle.pisdf_program.specs.Written.{AreTexts, Wrote, journals}
use Rattle.quiescent_driver.specs.declared.end.RunEnd.{RunEnd}
use Rattle.quiescent_driver.specs.declared.end.RunEnd.TheVariants as here
use Rattle.quiescent_driver.specs.declared.stop.Stop.{Stop}
use Rattle.quiescent_driver.specs.declared.stop.Stop.TheVariants as stop

-- ---- one board

-- an iteration whose board was closed without a refusal is done and leaves the state `next`, and one with a refusal is refused so
abbrev pub ClosesWith : Graphs → List (List ℤ) → List (List ℤ) → List (List ℤ) → Option Refusal → Type 0
ClosesWith graphs state next streams None = (iteration : Iteration) × Gives graphs state streams iteration next
ClosesWith graphs state next streams (Some refusal) = IsRefused graphs state streams refusal

-- an iteration has no board: a stream lacks tokens, or there was no memory
abbrev pub HasNoBoard : Graphs → List (List ℤ) → Stop → Type 0
HasNoBoard graphs streams (stop.Short stream held needs) = Checks graphs streams (Ok (Some record { stream = stream; has = held; needs = needs }))
HasNoBoard graphs streams (stop.Refused refusal) = ⊥
HasNoBoard graphs streams stop.Memory = Unit {0}

-- ---- one iteration

module _ (graphs : Graphs) (streams : List (List ℤ)) (workers n : ℕ) (state next : List (List ℤ)) (had has : Option (List ℕ)) where
  -- the text of a journal of iteration n was put, whole or in part
  abbrev pub PutsJournal : (List ℕ → Type 0) → Type 0
  PutsJournal Written = (entries : List Entry) × IsWhole (key_at graphs the_signatures streams workers n state) entries × Written (journal_text n entries)

  -- the journal of iteration n was put, and the iteration left the state `next`, or it ended the run
  abbrev pub EndsBoard : ℕ → ℕ → RunEnd → Type 0
  EndsBoard before now (here.Done left) = ⊥
  EndsBoard before now (here.Short stream held needs) =
      Checks graphs (rest_of n (run.top_needs graphs) streams) (Ok (Some record { stream = stream; has = held; needs = needs })) × Grows had has []
  EndsBoard before now (here.Refused refusal) = IsRefused graphs state (rest_of n (run.top_needs graphs) streams) refusal × PutsJournal (Grows had has)
  EndsBoard before now here.WriteFault =
      Rose before now × (refusal : Option Refusal) × ClosesWith graphs state next (rest_of n (run.top_needs graphs) streams) refusal × PutsJournal (GrowsPartly had has)
  EndsBoard before now here.Memory = Grows had has []

  abbrev pub StepsBoard : ℕ → ℕ → Result (Unit {0}) RunEnd → Type 0
  StepsBoard before now (Ok done) =
      (iteration : Iteration) × Gives graphs state (rest_of n (run.top_needs graphs) streams) iteration next × PutsJournal (Grows had has)
  StepsBoard before now (Err end) = EndsBoard before now end

-- ---- a run

-- the run of n iterations ends so, and its journals were written
abbrev pub ToldTo : Graphs → List (List ℤ) → ℕ → ℕ → Option (List ℕ) → Option (List ℕ) → (run.RunEnd → Type 0) → Type 0
ToldTo graphs streams workers n had has Ends = (r : run.Run) × run.IsRun graphs streams n r × Ends r.end × Wrote had has (journals graphs streams workers (boards graphs r))

-- there are at least m boards
abbrev pub HasBoards : Graphs → List (List ℤ) → ℕ → ℕ → Type 0
HasBoards graphs streams n m = (r : run.Run) → run.IsRun graphs streams n r → m ≤ boards graphs r

abbrev pub IsDone : run.RunEnd → Type 0
IsDone (run.Done left) = Unit {0}
IsDone (run.Short lack) = ⊥
IsDone (run.Refused refusal) = ⊥

-- how a run ended whose journals are put; a failed put and want of memory leave the first of them
abbrev pub EndsBoards : Graphs → List (List ℤ) → ℕ → ℕ → Option (List ℕ) → Option (List ℕ) → ℕ → ℕ → Result (Unit {0}) RunEnd → Type 0
EndsBoards graphs streams workers n had has before now (Ok done) = ToldTo graphs streams workers n had has IsDone
EndsBoards graphs streams workers n had has before now (Err (here.Done left)) = ⊥
EndsBoards graphs streams workers n had has before now (Err (here.Short stream held needs)) =
    ToldTo graphs streams workers n had has (λ end. end ≡ run.Short record { stream = stream; has = held; needs = needs })
EndsBoards graphs streams workers n had has before now (Err (here.Refused refusal)) = ToldTo graphs streams workers n had has (λ end. end ≡ run.Refused refusal)
EndsBoards graphs streams workers n had has before now (Err here.WriteFault) =
    Rose before now × (m : ℕ) × HasBoards graphs streams n m × (written : List (List ℕ)) × AreTexts (journals graphs streams workers m) written × GrowsPartly had has (joined written)
EndsBoards graphs streams workers n had has before now (Err here.Memory) = (m : ℕ) × HasBoards graphs streams n m × Wrote had has (journals graphs streams workers m)
