-- How the rows of a board are asked for what a worker is handed, and how a board ends.
use Rattle.std.specs.Prelude.{◌≡◌, ◌≢◌, ◌↔◌, ℕ, ◌*◌, ◌≤◌, true, false, Some, None, List, [], ◌∷◌, ◌++◌, length}
use Rattle.std.specs.List.{AllByRecursion}
use Rattle.pisdf_meaning.specs.Endings.{End}
use Rattle.pisdf_meaning.specs.Meaning.{Means}
use Rattle.pisdf_meaning.specs.declared.firing.Firing.{Firing}
use Rattle.nested_jobs.specs.Rules.{Place, Task, Work}
use Rattle.nested_jobs.specs.Marks.{Done, Free, Marks, Open}
use Rattle.nested_jobs.specs.Steps.{IsEnabled}
use Rattle.nested_jobs.specs.Tables.{answers_in}
use Rattle.job_rules.specs.Items.{rule}
use Rattle.job_rules.specs.Words as words
use Rattle.job_rules.specs.Words.{Answer, answer_of}
use Rattle.board_rules.specs.Keys.{IsKey, Key, rules, top_job}
use Rattle.board_rules.specs.Entries.{Step}
use Rattle.board_rules.specs.Legal.{AreLegal, HasEnded, state_after}
use Rattle.board_rules.specs.Board.{HasOpened, Held, KeptAs, OpenJobs}
use Rattle.board_rules.specs.Asking.{IsFirstOfAll, JobRow, NoRowOffers, Offer}
use Rattle.board_rules.specs.Offers.{AreFirst}
use Rattle.board_rules.specs.Picks.{IsPick, steps_to}

-- the first work of all rows is the pick
abbrev pub FirstWorkIsPicked : Type 0
FirstWorkIsPicked =
    (key : Key) (taken : List Step) (table : OpenJobs) (held : Held) (w k : ℕ) (row : JobRow) (offer : Offer) → IsKey key → KeptAs key taken table held →
    IsFirstOfAll key (state_after key taken).marks w false table k row offer →
    IsPick key (state_after key taken).marks w offer.item row.place

-- where no row offers work, the first call of all rows opens a child, whose first item is the pick
abbrev pub FirstCallIsOpened : Type 0
FirstCallIsOpened =
    (key : Key) (taken : List Step) (table : OpenJobs) (held : Held) (w k i j : ℕ) (p : Place) (way : List ℕ) (row : JobRow) (offer : Offer) → IsKey key → KeptAs key taken table held →
    NoRowOffers key false table → IsFirstOfAll key (state_after key taken).marks w true table k row offer →
    AreFirst (j ∷ way) → i ∷ p ≡ j ∷ way ++ offer.item ∷ row.place → IsEnabled (rules key) (state_after key taken).marks (i ∷ p) →
    IsPick key (state_after key taken).marks w i p

-- where no row offers anything, nothing is enabled
abbrev pub NothingIsEnabled : Type 0
NothingIsEnabled =
    (key : Key) (taken : List Step) (table : OpenJobs) (held : Held) (a : Place) → IsKey key → KeptAs key taken table held →
    NoRowOffers key false table → NoRowOffers key true table → ¬ (IsEnabled (rules key) (state_after key taken).marks a)

-- the first item of a job of which nothing is claimed has a task
abbrev pub JobsBegin : Type 0
JobsBegin = (key : Key) (job : Firing) → (task : Task Firing words.Work) × (rule key.graphs.graphs job (λ i. None) 0 ≡ Some task)

-- the journal has ended exactly where the top job is done
abbrev pub BoardsEnd : Type 0
BoardsEnd = (key : Key) (taken : List Step) → IsKey key → AreLegal key taken → HasEnded key taken ↔ ((answer : Answer) × ((state_after key taken).marks [] ≡ Done answer))

-- and its end is that which one thread gets
abbrev pub EndsAreMeant : Type 0
EndsAreMeant = (key : Key) (taken : List Step) (end : End) → IsKey key → AreLegal key taken → (state_after key taken).marks [] ≡ Done (answer_of end) → Means key.graphs.graphs (top_job key) end

-- a job that stays open keeps its path
abbrev pub PathsStay : Type 0
PathsStay =
    (key : Key) (taken : List Step) (e : Step) (p : Place) (c d : Firing) → IsKey key → AreLegal key taken → AreLegal key (taken ++ e ∷ []) →
    (state_after key taken).marks p ≡ Open c → (state_after key (taken ++ e ∷ [])).marks p ≡ Open d →
    steps_to key (state_after key (taken ++ e ∷ [])).marks p ≡ steps_to key (state_after key taken).marks p

-- and no two open jobs have one
abbrev pub PathsAreApart : Type 0
PathsAreApart =
    (key : Key) (taken : List Step) (p q : Place) (c d : Firing) → IsKey key → AreLegal key taken →
    (state_after key taken).marks p ≡ Open c → (state_after key taken).marks q ≡ Open d →
    steps_to key (state_after key taken).marks p ≡ steps_to key (state_after key taken).marks q → p ≡ q

-- Where jobs were opened for that call, each of them the first item of the one round it, down to work, this work is the pick.
abbrev pub OpenedWorkIsPicked : Type 0
OpenedWorkIsPicked =
    (key : Key) (taken : List Step) (table : OpenJobs) (held : Held) (w k l i j : ℕ) (way : List ℕ) (row inner : JobRow) (offer : Offer) (work : words.Work) (later : OpenJobs) (n : Marks Firing Answer) → IsKey key → KeptAs key taken table held →
    NoRowOffers key false table → IsFirstOfAll key (state_after key taken).marks w true table k row offer →
    AreFirst (j ∷ way) → i ∷ inner.place ≡ j ∷ way ++ offer.item ∷ row.place →
    HasOpened key table (state_after key taken).marks (i ∷ inner.place) later n →
    later l ≡ Some inner → inner.marks i ≡ Free → rule key.graphs.graphs inner.job (answers_in inner) i ≡ Some (Work work) →
    IsPick key (state_after key taken).marks w i inner.place

-- these keys have rows, and none stands twice
abbrev pub AreKeys : OpenJobs → List ℕ → Type 0
AreKeys table [] = Unit {0}
AreKeys table (k ∷ keys) = ((row : JobRow) × (table k ≡ Some row)) × AllByRecursion (λ l. k ≢ l) keys × AreKeys table keys

-- a table has at most 8 times as many rows as there are workers
abbrev pub RowsAreFew : Type 0
RowsAreFew =
    (key : Key) (taken : List Step) (table : OpenJobs) (held : Held) (keys : List ℕ) → IsKey key → KeptAs key taken table held →
    AreKeys table keys → length keys ≤ 8 * key.workers
