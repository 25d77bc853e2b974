-- Laws of the journals of boards.
use Rattle.std.specs.Prelude.{◌≡◌, ◌⊎◌, ℕ, ◌*◌, ◌<◌, ◌≤◌, true, false, List, [], ◌∷◌, ◌++◌, length, None, Some}
use Rattle.pisdf_model.specs.declared.graph.Graphs.{Graphs}
use Rattle.pisdf_meaning.specs.Endings.{End}
use Rattle.pisdf_meaning.specs.declared.firing.Firing.{Firing}
use Rattle.pisdf_meaning.specs.declared.firing.Given.{Given}
use Rattle.nested_jobs.specs.Rules.{Place}
use Rattle.nested_jobs.specs.Marks.{Done, Marks, Open, values}
use Rattle.nested_jobs.specs.Journals.{Runs}
use Rattle.nested_jobs.specs.Pick.{AreAllOpen, Distinct}
use Rattle.nested_jobs.specs.Steps.{IsEnabled}
use Rattle.job_rules.specs.Doing.{Answers}
use Rattle.job_rules.specs.Items.{Prepared, count, graph_of, prepared_in}
use Rattle.job_rules.specs.Words.{Answer, Gives, Work, answer_of}
use Rattle.board_rules.specs.Keys.{IsKey, Key, rules}
use Rattle.board_rules.specs.Entries.{BoardState, Step}
use Rattle.board_rules.specs.Legal.{AreLegal, HasEnded, journal_of, state_after}
use Rattle.board_rules.specs.Offers.{AreFirst, IsBest, NoneOffers}
use Rattle.board_rules.specs.Picks.{AreMapped, IsPick, Standing}
use Rattle.board_rules.specs.declared.entry.Entry.{Entry}

-- ---- the pick

-- the open jobs that are compiled have list schedules, which tell homes and priorities
abbrev pub JobsAreMapped : Type 0
JobsAreMapped = (key : Key) (taken : List Step) → IsKey key → AreLegal key taken → AreMapped key (state_after key taken).marks

-- an item is picked for the worker
abbrev pub HasPick : Key → BoardState → ℕ → Type 0
HasPick key s w = (i : ℕ) × (p : Place) × IsPick key s.marks w i p

-- where an item is enabled, one is picked for each worker
abbrev pub PicksExist : Type 0
PicksExist =
    (key : Key) (taken : List Step) (w : ℕ) (a : Place) → IsKey key → AreLegal key taken →
    IsEnabled (rules key) (state_after key taken).marks a → HasPick key (state_after key taken) w

-- and only one
abbrev pub PicksAreOne : Type 0
PicksAreOne =
    (key : Key) (taken : List Step) (w i j : ℕ) (p q : Place) → IsKey key → AreLegal key taken →
    IsPick key (state_after key taken).marks w i p → IsPick key (state_after key taken).marks w j q → i ∷ p ≡ j ∷ q

-- ---- what a worker is answered

-- nothing is enabled, and a worker runs an item
pub record HasToWait (key : Key) (s : BoardState) : Type 0 where
  pub none_enabled : (a : Place) → ¬ (IsEnabled (rules key) s.marks a)
  pub worker : ℕ
  pub place : Place
  pub runs : Runs key.workers s worker place

-- an item is picked, or the worker has to wait, or the journal has ended
abbrev pub WorkersAreAnswered : Type 0
WorkersAreAnswered =
    (key : Key) (taken : List Step) (w : ℕ) → IsKey key → AreLegal key taken →
    HasPick key (state_after key taken) w ⊎ (HasToWait key (state_after key taken) ⊎ HasEnded key taken)

-- no two of these
pub record IsOneAnswer (key : Key) (taken : List Step) (w : ℕ) : Type 0 where
  pub no_pick_to_wait : HasPick key (state_after key taken) w → ¬ (HasToWait key (state_after key taken))
  pub no_pick_at_end : HasPick key (state_after key taken) w → ¬ (HasEnded key taken)
  pub no_wait_at_end : HasToWait key (state_after key taken) → ¬ (HasEnded key taken)

abbrev pub AnswersAreOne : Type 0
AnswersAreOne = (key : Key) (taken : List Step) (w : ℕ) → IsOneAnswer key taken w

-- a worker that is alone doesn't wait
abbrev pub NoneWaitsAlone : Type 0
NoneWaitsAlone = (key : Key) (taken : List Step) → key.workers ≡ 1 → (state_after key taken).running 0 ≡ None → ¬ (HasToWait key (state_after key taken))

-- ---- the pick, job by job

-- the best work of an open job to which all others yield is the pick
abbrev pub WorkIsPicked : Type 0
WorkIsPicked =
    (key : Key) (taken : List Step) (w k : ℕ) (q : Place) (s : Standing) → IsKey key → AreLegal key taken →
    IsBest key (state_after key taken).marks w false q k s → IsPick key (state_after key taken).marks w k q

-- where no job offers work, the best call of an open job to which all others yield opens a child, whose first item is the pick
abbrev pub ChildIsOpened : Type 0
ChildIsOpened =
    (key : Key) (taken : List Step) (w k i : ℕ) (p q : Place) (s : Standing) (j : ℕ) (way : List ℕ) → IsKey key → AreLegal key taken →
    NoneOffers key (state_after key taken).marks w false → IsBest key (state_after key taken).marks w true q k s →
    AreFirst (j ∷ way) → i ∷ p ≡ j ∷ way ++ k ∷ q → IsEnabled (rules key) (state_after key taken).marks (i ∷ p) →
    IsPick key (state_after key taken).marks w i p

-- ---- how many jobs are open

-- none at depth 8 or deeper
abbrev pub OpenJobsAreShallow : Type 0
OpenJobsAreShallow = (key : Key) (taken : List Step) (p : Place) (firing : Firing) → IsKey key → AreLegal key taken → (state_after key taken).marks p ≡ Open firing → length p < 8

-- so in all at most 8 times as many as workers
abbrev pub OpenJobsAreFew : Type 0
OpenJobsAreFew =
    (key : Key) (taken : List Step) (ps : List Place) → IsKey key → AreLegal key taken →
    Distinct ps → AreAllOpen (state_after key taken).marks ps → length ps ≤ 8 * key.workers

-- ---- how many workers there are doesn't matter

-- the keys differ in signatures and the number of workers at most
pub record DifferInWorkers (one other : Key) : Type 0 where
  pub graphs : one.graphs ≡ other.graphs
  pub delays : one.delays ≡ other.delays
  pub ins : one.ins ≡ other.ins

-- both journals leave the top job done, with the same end
pub record EndAlike (one other : BoardState) : Type 0 where
  pub end : End
  pub one_done : one.marks [] ≡ Done (answer_of end)
  pub other_done : other.marks [] ≡ Done (answer_of end)

-- legal journals of such keys that have ended end alike
abbrev pub WorkersDontMatter : Type 0
WorkersDontMatter =
    (one other : Key) (taken others : List Step) → DifferInWorkers one other → IsKey one → IsKey other →
    AreLegal one taken → HasEnded one taken → AreLegal other others → HasEnded other others →
    EndAlike (state_after one taken) (state_after other others)

-- ---- journals of entries

-- work has at most one answer
abbrev pub WorkHasOneAnswer : Type 0
WorkHasOneAnswer = (graphs : Graphs) (work : Work) (a b : Answer) → Answers graphs.graphs work a → Answers graphs.graphs work b → a ≡ b

-- entries are a legal journal where they are that of legal steps
abbrev pub IsLegal : Key → List Entry → Type 0
IsLegal key entries = (taken : List Step) × AreLegal key taken × (journal_of key taken ≡ entries)

-- these steps, and so the state that they leave, are told by the entries
abbrev pub JournalsTellSteps : Type 0
JournalsTellSteps =
    (key : Key) (taken others : List Step) → IsKey key → AreLegal key taken → AreLegal key others →
    journal_of key taken ≡ journal_of key others → taken ≡ others

-- ---- jobs that are closed

-- every item of the job is finished: its configuration actors, its compilation, and every node
pub record HasFinished (key : Key) (m : Marks Firing Answer) (p : Place) (job : Firing) : Type 0 where
  pub prepared : Prepared
  pub prepared_so : prepared_in (graph_of key.graphs.graphs job) (values m p) ≡ Some prepared
  pub each : (i : ℕ) → i < count key.graphs.graphs job (values m p) → (answer : Answer) × (values m p i ≡ Some answer)

-- a job that a step closes, and that gives something, has finished every item
abbrev pub ClosedJobsHaveFinished : Type 0
ClosedJobsHaveFinished =
    (key : Key) (taken : List Step) (e : Step) (p : Place) (job : Firing) (given : Given) → IsKey key → AreLegal key taken → AreLegal key (taken ++ e ∷ []) →
    (state_after key taken).marks p ≡ Open job → (state_after key (taken ++ e ∷ [])).marks p ≡ Done (Gives given) →
    HasFinished key (state_after key (taken ++ e ∷ [])).marks p job
