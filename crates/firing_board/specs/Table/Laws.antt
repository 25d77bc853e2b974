-- What the calls of a table mean to the marks that it stands for.
use Rattle.std.specs.Prelude.{◌≡◌, ℕ, List, [], ◌∷◌, Some, None}
use Rattle.board_rules.specs.Board.{Held, KeptAs, OpenJobs}
use Rattle.board_rules.specs.Asking.{JobRow}
use Rattle.board_rules.specs.AskingLaws.{AreKeys}
use Rattle.board_rules.specs.Entries.{Step}
use Rattle.board_rules.specs.Keys.{IsKey, Key, rules, top_job}
use Rattle.job_preparing.specs.Handing.{mark_at}
use Rattle.job_rules.specs.Items.{rule}
use Rattle.job_rules.specs.Meant.{IsFit}
use Rattle.job_rules.specs.Words.{Answer}
use Rattle.nested_jobs.specs.Journals.{start}
use Rattle.nested_jobs.specs.Marks.{Busy, Done, Mark, Marks, Open, put}
use Rattle.nested_jobs.specs.Rules.{Call}
use Rattle.nested_jobs.specs.Steps.{claimed}
use Rattle.nested_jobs.specs.Tables.{answers_in, fresh_row, put_row, with_mark}
use Rattle.graph_firing.specs.View.{IsOfferedWork}
use Rattle.pisdf_model.specs.declared.graph.Graphs.{Graphs}
use Rattle.pisdf_meaning.specs.declared.firing.Firing.{Firing}
use Rattle.firing_board.specs.Table.Calls.{IsStarted, MarksItem, OpensChild}
use Rattle.firing_board.specs.Table.Suits.{Suits}
use Rattle.firing_board.specs.Table.View.{TableView, job_row, keys_of, table_of}

-- ---- tables as boards see them

-- one row is there at the start
abbrev pub TablesStart : Type 0
TablesStart = (graphs : Graphs) (workers : ℕ) (top : Firing) (v : TableView) → (s : IsStarted graphs workers top v) → table_of v ≡ put_row (λ l. None) s.key (Some (fresh_row [] top))

-- an item of a row is marked
abbrev pub TablesMark : Type 0
TablesMark = (k item : ℕ) (mark : Mark Firing Answer) (old new : TableView) → (o : MarksItem k item mark old new) → table_of new ≡ put_row (table_of old) k (Some (with_mark (job_row o.before) item mark))

-- a row is added, whose item in the row round it is open
abbrev pub TablesOpen : Type 0
TablesOpen = (k item l : ℕ) (old new : TableView) → (o : OpensChild k item old l new) →
    table_of new ≡ put_row (put_row (table_of old) k (Some (with_mark (job_row o.upper) item (Open o.firing)))) l (Some (fresh_row (item ∷ o.upper.place) o.firing))

-- the keys of the rows are keys of the table, each once
abbrev pub KeysAreRows : Type 0
KeysAreRows = (v : TableView) → AreKeys (table_of v) (keys_of v)

-- ---- what a table stands for

abbrev pub StartsSuit : Type 0
StartsSuit = (key : Key) (v : TableView) → IsKey key → IsStarted key.graphs key.workers (top_job key) v → Suits key (start {A = Answer} (top_job key)).marks v

abbrev pub OpeningsSuit : Type 0
OpeningsSuit = (key : Key) (m : Marks Firing Answer) (k item l : ℕ) (old new : TableView) → (o : OpensChild k item old l new) → Suits key m old → Suits key (put m (item ∷ o.upper.place) (Open o.firing)) new

abbrev pub ClaimsSuit : Type 0
ClaimsSuit = (key : Key) (m : Marks Firing Answer) (k item : ℕ) (old new : TableView) → (o : MarksItem k item Busy old new) → IsOfferedWork o.before.job item → Suits key m old → Suits key (claimed (rules key) m (item ∷ o.before.place)) new

abbrev pub FinishesSuit : Type 0
FinishesSuit = (key : Key) (m : Marks Firing Answer) (k item : ℕ) (answer : Answer) (old new : TableView) → (o : MarksItem k item (Done answer) old new) → mark_at o.before.job.marks item ≡ Busy → Suits key m old → Suits key (put m (item ∷ o.before.place) (Done answer)) new

-- ---- which firings are called

-- an item of a row calls only firings that are given what their graphs take
abbrev pub CallsAreFit : Type 0
CallsAreFit = (key : Key) (taken : List Step) (table : OpenJobs) (held : Held) (k item : ℕ) (row : JobRow) (firing : Firing) → IsKey key → KeptAs key taken table held →
    table k ≡ Some row → rule key.graphs.graphs row.job (answers_in row) item ≡ Some (Call firing) → IsFit key.graphs.graphs firing

-- and so does a firing of which nothing is claimed, if it is given that
abbrev pub FirstCallsAreFit : Type 0
FirstCallsAreFit = (key : Key) (job : Firing) (item : ℕ) (firing : Firing) → IsKey key → IsFit key.graphs.graphs job →
    rule key.graphs.graphs job (λ i. None) item ≡ Some (Call firing) → IsFit key.graphs.graphs firing
