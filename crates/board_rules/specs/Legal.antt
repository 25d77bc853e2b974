-- Which journals are legal, which have ended, and what they tell.
use Rattle.std.specs.Prelude.{◌≡◌, List, [], ◌∷◌, ◌++◌}
use Rattle.pisdf_meaning.specs.Endings.{End}
use Rattle.pisdf_meaning.specs.Meaning.{Means}
use Rattle.nested_jobs.specs.Marks.{Done}
use Rattle.nested_jobs.specs.Journals as steps
use Rattle.nested_jobs.specs.Journals.{start, state, after, IsEnded}
use Rattle.nested_jobs.specs.Pick.{Few}
use Rattle.job_rules.specs.Doing.{Answers}
use Rattle.job_rules.specs.Words.{answer_of}
use Rattle.board_rules.specs.Keys.{Key, IsKey, rules, top_job}
use Rattle.board_rules.specs.Entries.{Step, BoardState, entry_of}
use Rattle.board_rules.specs.Picks.{IsPick}
use Rattle.board_rules.specs.declared.entry.Entry.{Entry}

-- a claim is of the pick
abbrev pub IsPicked : Key → BoardState → Step → Type 0
IsPicked key s (steps.Claim w []) = ⊥
IsPicked key s (steps.Claim w (i ∷ p)) = IsPick key s.marks w i p
IsPicked key s (steps.Finish w answer) = Unit {0}

abbrev pub ArePickedFrom : Key → BoardState → List Step → Type 0
ArePickedFrom key s [] = Unit {0}
ArePickedFrom key s (step ∷ rest) = IsPicked key s step × ArePickedFrom key (after (rules key) s step) rest

-- the state that the steps of a board leave
abbrev pub state_after : Key → List Step → BoardState
state_after key steps = state (rules key) (top_job key) steps

-- Each step is allowed where those before it were made: a worker that runs nothing claims the item that is picked for it, and
-- one that runs an item finishes it with an answer that its work may have.
pub record AreLegal (key : Key) (taken : List Step) : Type 0 where
  pub allowed : steps.Legal (rules key) (Answers key.graphs.graphs) key.workers (top_job key) taken
  pub picked : ArePickedFrom key (start (top_job key)) taken

abbrev pub entries_from : Key → BoardState → List Step → List Entry
entries_from key s [] = []
entries_from key s (step ∷ rest) = entry_of key s step ++ entries_from key (after (rules key) s step) rest

-- the journal of these steps
abbrev pub journal_of : Key → List Step → List Entry
journal_of key taken = entries_from key (start (top_job key)) taken

-- nothing is enabled and nothing runs
abbrev pub HasEnded : Key → List Step → Type 0
HasEnded key taken = IsEnded (rules key) key.workers (state_after key taken)

-- the top job is done, and one thread gets this end of it
pub record TellsOneThread (key : Key) (taken : List Step) : Type 0 where
  pub end : End
  pub done : (state_after key taken).marks [] ≡ Done (answer_of end)
  pub means : Means key.graphs.graphs (top_job key) end

-- every legal journal that has ended tells what one thread gets
abbrev pub EndedJournalsTell : Type 0
EndedJournalsTell = (key : Key) (taken : List Step) → IsKey key → AreLegal key taken → HasEnded key taken → TellsOneThread key taken

-- and at each depth at most as many jobs are open as there are workers
abbrev pub FewJobsAreOpen : Type 0
FewJobsAreOpen = (key : Key) (taken : List Step) → IsKey key → AreLegal key taken → Few key.workers (state_after key taken).marks
