-- What a replay tells of a board.
use Rattle.std.specs.Prelude.{◌≡◌, ℕ, ℤ, ◌+◌, ◌<◌, ◌≤◌, List, [], ◌∷◌, ◌++◌, drop, length, slice_set, take, Option, Some, None}
use Rattle.kernel_gate.specs.Signed.{Counts}
use Rattle.nested_jobs.specs.Journals as steps
use Rattle.nested_jobs.specs.Marks.{Busy, Done, Marks}
use Rattle.job_preparing.specs.View.{HasInherited}
use Rattle.job_rules.specs.Words as words
use Rattle.pisdf_model.specs.declared.graph.Graphs.{Graphs}
use Rattle.pisdf_meaning.specs.declared.firing.Firing.{Firing}
use Rattle.board_rules.specs.Board.{Held}
use Rattle.board_rules.specs.Entries.{Step}
use Rattle.board_rules.specs.Keys.{IsKey, Key, top_job}
use Rattle.board_rules.specs.Legal.{AreLegal, journal_of, state_after}
use Rattle.board_rules.specs.declared.entry.Entry.{Entry}
use Rattle.quiescent_driver.specs.Journals.{entry_line, journal_text}
use Rattle.audit_job.specs.Marks.{answer_of}
use Rattle.audit_job.specs.declared.answer.Answer.{Answer}
use Rattle.audit_job.specs.declared.answer.Answer.TheVariants as own
use Rattle.journal_audit.specs.Closing.{ClosesTo}
use Rattle.journal_audit.specs.Reading.{NoStepWrites, first_line}
use Rattle.journal_audit.specs.Slots.{MarksSlot}
use Rattle.journal_audit.specs.Standing.{IsOpenAt, KeepsBoard}
use Rattle.journal_audit.specs.Table.{held_of, row_at}
use Rattle.journal_audit.specs.declared.auditing.Next.{Next}
use Rattle.journal_audit.specs.declared.auditing.Next.TheVariants as next
use Rattle.journal_audit.specs.declared.board.Read.{Read}
use Rattle.journal_audit.specs.declared.replay.Replay.{Replay}
use Rattle.journal_audit.specs.declared.table.Row.{Row}
use Rattle.journal_audit.specs.declared.table.Run.{Run}

-- the top job is open, or ended so
abbrev pub HasEnd : Marks Firing words.Answer → Option Answer → Type 0
HasEnd m None = IsOpenAt m []
HasEnd m (Some answer) = m [] ≡ Done (answer_of answer)

-- the replay is of a board of this key after these steps
pub record Replays (graphs : Graphs) (key : Key) (taken : List Step) (replay : Replay) : Type 0 where
  pub keeps : KeepsBoard graphs replay.rows.items key taken (held_of replay.running.items)
  pub workers_are : replay.workers ≡ key.workers
  pub one_each : length replay.running.items ≡ key.workers
  pub end_is : HasEnd (state_after key taken).marks replay.end

abbrev pub IsReplay : Graphs → Replay → Type 0
IsReplay graphs replay = (key : Key) × (taken : List Step) × Replays graphs key taken replay

-- a step was made, whose entry has this line
pub record Makes (graphs : Graphs) (key : Key) (n : ℕ) (taken : List Step) (line : List ℕ) (new : Replay) : Type 0 where
  pub step : Step
  pub entry : Entry
  pub entered : journal_of key (taken ++ step ∷ []) ≡ journal_of key taken ++ entry ∷ []
  pub line_is : line ≡ entry_line n entry
  pub replays : Replays graphs key (taken ++ step ∷ []) new

-- the firing is that of the top job of a key
pub record IsTop (graphs : Graphs) (workers : ℕ) (firing : Firing) (key : Key) : Type 0 where
  pub is_key : IsKey key
  pub graphs_are : key.graphs ≡ graphs
  pub workers_are : key.workers ≡ workers
  pub firing_is : firing ≡ top_job key
  pub inherited : HasInherited graphs.graphs firing

-- a worker runs this, and the board's kernels have these signatures
pub record RunsIt (graphs : Graphs) (signatures : List Counts) (workers : ℕ) (rows : List (Option Row)) (run : Run) (key : Key) (taken : List Step) (held : Held) (w : ℕ) : Type 0 where
  pub keeps : KeepsBoard graphs rows key taken held
  pub workers_are : workers ≡ key.workers
  pub signatures_are : key.signatures ≡ signatures
  pub is_worker : w < key.workers
  pub runs : held w ≡ Some (run.row, run.item)

abbrev pub IsRun : Graphs → List Counts → ℕ → List (Option Row) → Run → Type 0
IsRun graphs signatures workers rows run = (key : Key) × (taken : List Step) × (held : Held) × (w : ℕ) × RunsIt graphs signatures workers rows run key taken held w

-- it is finished with some answer
abbrev pub FinishesRun : Key → List Step → Held → ℕ → List (Option Row) → Option Answer → Type 0
FinishesRun key taken held w rows end = (answer : words.Answer) × ClosesTo rows record { key = key; taken = taken; held = held; worker = w; answer = answer } end

-- a worker runs an item, and nothing else changes
pub record Enters (old : Replay) (worker : ℕ) (run : Run) (new : Replay) : Type 0 where
  pub slot : Option Row
  pub marks : MarksSlot run.item Busy (row_at old.rows.items run.row) slot
  pub rows_are : new.rows.items ≡ slice_set old.rows.items run.row slot
  pub running_are : new.running.items ≡ slice_set old.running.items worker (Some run)
  pub workers_are : new.workers ≡ old.workers
  pub end_is : new.end ≡ old.end

-- a worker finished what it ran, with some answer
abbrev pub Leaves : Graphs → Key → List Step → ℕ → Replay → Type 0
Leaves graphs key taken w new = (answer : words.Answer) × Replays graphs key (taken ++ steps.Finish w answer ∷ []) new

-- ---- how a text is read

-- the lines of these steps were read, so many bytes of the text, and the replay is at them
pub record HasReplayed (graphs : Graphs) (key : Key) (n : ℕ) (text : List ℕ) (bytes lines : ℕ) (taken : List Step) : Type 0 where
  pub inside : bytes ≤ length text
  pub text_is : take bytes text ≡ journal_text n (journal_of key taken)
  pub lines_are : lines ≡ length (journal_of key taken)
  pub few : lines + lines ≤ bytes

pub record ReplaysText (graphs : Graphs) (key : Key) (n : ℕ) (text : List ℕ) (bytes lines : ℕ) (replay : Replay) : Type 0 where
  pub taken : List Step
  pub read : HasReplayed graphs key n text bytes lines taken
  pub replays : Replays graphs key taken replay

-- where reading ended: at the end of the journal, or with a text that no step goes on with
abbrev pub StopsAt : Key → ℕ → List Step → List ℕ → Option Answer → Type 0
StopsAt key n taken rest None = IsOpenAt (state_after key taken).marks [] × NoStepWrites key n taken (first_line rest)
StopsAt key n taken rest (Some answer) = (state_after key taken).marks [] ≡ Done (answer_of answer)

pub record HasReadBoard (graphs : Graphs) (key : Key) (n : ℕ) (text : List ℕ) (read : Read) : Type 0 where
  pub taken : List Step
  pub legal : AreLegal key taken
  pub part : HasReplayed graphs key n text read.bytes read.lines taken
  pub stops : StopsAt key n taken (drop read.bytes text) read.end

-- a board whose top job ended so leaves this state for the next, or none comes
abbrev pub EndsBoard : Option Answer → List (List ℤ) → List (List ℤ) → Next → Type 0
EndsBoard None old new n = (n ≡ next.Bad) × (new ≡ old)
EndsBoard (Some (own.Gives given)) old new n = (n ≡ next.Board) × (new ≡ given.state)
EndsBoard (Some (own.Schedules schedule)) old new n = (n ≡ next.Nothing) × (new ≡ old)
EndsBoard (Some (own.Refuses refusal)) old new n = (n ≡ next.Nothing) × (new ≡ old)
