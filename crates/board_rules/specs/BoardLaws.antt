-- How the steps of a board change what code keeps of it.
use Rattle.std.specs.Prelude.{◌≡◌, ℕ, ◌<◌, true, false, Some, None, List, [], ◌∷◌, ◌++◌}
use Rattle.pisdf_meaning.specs.declared.firing.Firing.{Firing}
use Rattle.nested_jobs.specs.Rules.{Call, Place, Work}
use Rattle.nested_jobs.specs.Marks.{Busy, Done, Free, Marks, Open, put}
use Rattle.nested_jobs.specs.Journals as steps
use Rattle.nested_jobs.specs.Tables.{Row, answers_in, fresh_row, is_quiet_row, put_row, with_mark}
use Rattle.job_rules.specs.Doing.{Answers}
use Rattle.job_rules.specs.Items.{graph_of, outcome, rule}
use Rattle.job_rules.specs.Words as words
use Rattle.job_rules.specs.Words.{Answer}
use Rattle.board_rules.specs.Keys.{IsKey, Key, rules, top_job}
use Rattle.board_rules.specs.Entries.{Step, item_of}
use Rattle.board_rules.specs.Legal.{AreLegal, HasEnded, journal_of, state_after}
use Rattle.board_rules.specs.Board.{HasOpened, Held, IsClosing, KeptAs, OpenJobs, hold}
use Rattle.board_rules.specs.Picks.{IsPick}
use Rattle.board_rules.specs.declared.entry.Entry.TheVariants.{Claim, Finish}

-- a board begins with the row of the top job
abbrev pub BoardsStart : Type 0
BoardsStart = (key : Key) (k : ℕ) → KeptAs key [] (put_row (λ l. None) k (Some (fresh_row [] (top_job key)))) (λ w. None)

-- ---- claims

-- nothing need be opened
abbrev pub NothingOpened : Type 0
NothingOpened =
    (key : Key) (taken : List Step) (table : OpenJobs) (held : Held) (a : Place) → IsKey key → KeptAs key taken table held →
    HasOpened key table (state_after key taken).marks a table (state_after key taken).marks

-- one job more is opened
abbrev pub OneMoreOpened : Type 0
OneMoreOpened =
    (key : Key) (old : OpenJobs) (m : Marks Firing Answer) (table : OpenJobs) (n : Marks Firing Answer) (k l i j : ℕ) (way : List ℕ) (row : Row Firing Answer) (d : Firing) → IsKey key →
    HasOpened key old m (j ∷ way ++ i ∷ row.place) table n →
    table k ≡ Some row → table l ≡ None → row.marks i ≡ Free → rule key.graphs.graphs row.job (answers_in row) i ≡ Some (Call d) →
    HasOpened key old m (j ∷ way ++ i ∷ row.place) (put_row (put_row table k (Some (with_mark row i (Open d)))) l (Some (fresh_row (i ∷ row.place) d))) (put n (i ∷ row.place) (Open d))

-- the item that is picked is claimed
abbrev pub ClaimsKeep : Type 0
ClaimsKeep =
    (key : Key) (taken : List Step) (table : OpenJobs) (held : Held) (w k i : ℕ) (row : Row Firing Answer) (work : words.Work) (later : OpenJobs) (n : Marks Firing Answer) → IsKey key →
    KeptAs key taken table held → w < key.workers → held w ≡ None → IsPick key (state_after key taken).marks w i row.place →
    HasOpened key table (state_after key taken).marks (i ∷ row.place) later n →
    later k ≡ Some row → row.marks i ≡ Free → rule key.graphs.graphs row.job (answers_in row) i ≡ Some (Work work) →
    KeptAs key (taken ++ steps.Claim w (i ∷ row.place) ∷ []) (put_row later k (Some (with_mark row i Busy))) (hold held w (Some (k, i)))

-- ---- finishes

-- the item that a worker runs is busy, and its task is work
pub record IsHeld (key : Key) (i : ℕ) (row : Row Firing Answer) : Type 0 where
  pub busy : row.marks i ≡ Busy
  pub work : words.Work
  pub task : rule key.graphs.graphs row.job (answers_in row) i ≡ Some (Work work)

abbrev pub HeldAreBusy : Type 0
HeldAreBusy =
    (key : Key) (taken : List Step) (table : OpenJobs) (held : Held) (w k i : ℕ) (row : Row Firing Answer) → IsKey key →
    KeptAs key taken table held → w < key.workers → held w ≡ Some (k, i) → table k ≡ Some row → IsHeld key i row

-- it is finished with an answer that its work may have
abbrev pub FinishesBegin : Type 0
FinishesBegin =
    (key : Key) (taken : List Step) (table : OpenJobs) (held : Held) (w k i : ℕ) (row : Row Firing Answer) (work : words.Work) (answer : Answer) → IsKey key →
    KeptAs key taken table held → w < key.workers → held w ≡ Some (k, i) → table k ≡ Some row →
    rule key.graphs.graphs row.job (answers_in row) i ≡ Some (Work work) → Answers key.graphs.graphs work answer →
    IsClosing key taken held w answer (put_row table k (Some (with_mark row i (Done answer)))) (put (state_after key taken).marks (i ∷ row.place) (Done answer)) row.place

-- a job that is quiet is closed
abbrev pub ClosingsGoOn : Type 0
ClosingsGoOn =
    (key : Key) (taken : List Step) (held : Held) (w : ℕ) (answer : Answer) (table : OpenJobs) (n : Marks Firing Answer) (k l i : ℕ) (row upper : Row Firing Answer) → IsKey key →
    IsClosing key taken held w answer table n (i ∷ upper.place) →
    table k ≡ Some row → table l ≡ Some upper → row.place ≡ i ∷ upper.place → is_quiet_row (rules key) row ≡ true →
    (upper.marks i ≡ Open row.job)
    × IsClosing key taken held w answer (put_row (put_row table k None) l (Some (with_mark upper i (Done (outcome key.graphs.graphs row.job (answers_in row))))))
    (put n (i ∷ upper.place) (Done (outcome key.graphs.graphs row.job (answers_in row)))) upper.place

-- at one that isn't quiet all is done
abbrev pub ClosingsStop : Type 0
ClosingsStop =
    (key : Key) (taken : List Step) (held : Held) (w : ℕ) (answer : Answer) (table : OpenJobs) (n : Marks Firing Answer) (k : ℕ) (row : Row Firing Answer) → IsKey key →
    IsClosing key taken held w answer table n row.place → table k ≡ Some row → is_quiet_row (rules key) row ≡ false →
    KeptAs key (taken ++ steps.Finish w answer ∷ []) table (hold held w None)

-- and at the top job, whose outcome is then known
pub record IsOver (key : Key) (taken : List Step) (table : OpenJobs) (held : Held) (result : Answer) : Type 0 where
  pub kept : KeptAs key taken table held
  pub done : (state_after key taken).marks [] ≡ Done result

abbrev pub ClosingsEnd : Type 0
ClosingsEnd =
    (key : Key) (taken : List Step) (held : Held) (w : ℕ) (answer : Answer) (table : OpenJobs) (n : Marks Firing Answer) (k : ℕ) (row : Row Firing Answer) → IsKey key →
    IsClosing key taken held w answer table n [] → table k ≡ Some row → row.place ≡ [] → is_quiet_row (rules key) row ≡ true →
    IsOver key (taken ++ steps.Finish w answer ∷ []) (put_row table k None) (hold held w None) (outcome key.graphs.graphs row.job (answers_in row))

-- ---- the journal

-- a claim appends the path and the item of the row whose item is claimed, and nothing else
abbrev pub ClaimsAreEntered : Type 0
ClaimsAreEntered =
    (key : Key) (taken : List Step) (table : OpenJobs) (w k i : ℕ) (row : Row Firing Answer) (later : OpenJobs) (n : Marks Firing Answer) → IsKey key →
    HasOpened key table (state_after key taken).marks (i ∷ row.place) later n → later k ≡ Some row →
    journal_of key (taken ++ steps.Claim w (i ∷ row.place) ∷ []) ≡ journal_of key taken ++ Claim w row.job.path (item_of (graph_of key.graphs.graphs row.job) i) ∷ []

-- a finish appends itself
abbrev pub FinishesAreEntered : Type 0
FinishesAreEntered = (key : Key) (taken : List Step) (w : ℕ) (answer : Answer) → journal_of key (taken ++ steps.Finish w answer ∷ []) ≡ journal_of key taken ++ Finish w ∷ []

-- where a journal has ended it doesn't go on
abbrev pub EndedJournalsStay : Type 0
EndedJournalsStay = (key : Key) (taken : List Step) (e : Step) → HasEnded key taken → ¬ (AreLegal key (taken ++ e ∷ []))
