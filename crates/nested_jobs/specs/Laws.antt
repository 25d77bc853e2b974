-- Laws of journals, over any jobs, work and answers, and any rules and relations.
use Rattle.std.specs.Prelude.{◌≡◌, ◌⊎◌, ◌↔◌, ℕ, suc, ◌+◌, ◌-◌, ◌*◌, ◌<◌, ◌≤◌, false, Some, None, List, [], ◌++◌, length}
use Rattle.nested_jobs.specs.Rules.{Place, Task, Rules}
use Rattle.nested_jobs.specs.Marks.{Open, Done, Marks, values}
use Rattle.nested_jobs.specs.Steps.{IsEnabled, is_quiet, closed}
use Rattle.nested_jobs.specs.Journals.{Entry, State, start, after, state, task_of, Allowed, Legal, Runs, IsEnded, AnsweredFrom}
use Rattle.nested_jobs.specs.Meanings.{Meanings, Sound, Settled, Lawful, Meant, Tellings, among, told}
use Rattle.nested_jobs.specs.Invariants.{Nested}
use Rattle.nested_jobs.specs.Pick.{ArePreferredFrom, AreAllOpen, Distinct, Few, IsIn}

-- every legal journal that has ended, whatever its order, leaves the top job done with an answer that it may have
abbrev pub EndedJournalsTell : Type 0 → Type 0 → Type 0 → Type 0 → Type 0 → Type 0 → Type 0
EndedJournalsTell J W A R M F =
    (rs : Rules J W A) (rank : J → ℕ) (t : Tellings J W A R M F) (depth workers : ℕ) (top : J) (journal : List (Entry A)) →
    Lawful rs rank → Meant rs (told t) → (told t).fit top → rank top < depth →
    Legal rs (told t).answers workers top journal → IsEnded rs workers (state rs top journal) →
    (a : A) × ((state rs top journal).marks [] ≡ Done a) × (told t).means depth top a

-- in every state of every journal whose finishes bring answers that their work may have, legal or not, each finished item of
-- an open job has an answer that its task may have, with as many levels as are left below the job's place
abbrev pub AnswersAreSound : Type 0 → Type 0 → Type 0 → Type 0 → Type 0 → Type 0 → Type 0
AnswersAreSound J W A R M F =
    (rs : Rules J W A) (rank : J → ℕ) (t : Tellings J W A R M F) (depth : ℕ) (top : J) (journal : List (Entry A)) (p : Place) (j : J) →
    Lawful rs rank → Meant rs (told t) → (told t).fit top → rank top < depth →
    AnsweredFrom rs (told t).answers (start top) journal → (state rs top journal).marks p ≡ Open j →
    Sound rs (told t) (depth - suc (length p)) j (values (state rs top journal).marks p)

-- an item that stands in the job at this place or below it is enabled, or a worker runs it
pub record GoesOn {J W A : Type 0} (rs : Rules J W A) (workers : ℕ) (s : State J A) (p : Place) : Type 0 where
  pub place : Place
  pub way : List ℕ
  pub is_below : place ≡ way ++ p
  pub goes_on : IsEnabled rs s.marks place ⊎ ((w : ℕ) × Runs workers s w place)

-- in every state of a legal journal each open job goes on
abbrev pub OpenJobsGoOn : Type 0 → Type 0 → Type 0 → Type 0 → Type 0
OpenJobsGoOn J W A R =
    (rs : Rules J W A) (rank : J → ℕ) (answered : R → W × A) (workers : ℕ) (top : J) (journal : List (Entry A)) (p : Place) (j : J) →
    Lawful rs rank → Legal rs (among answered) workers top journal → (state rs top journal).marks p ≡ Open j →
    GoesOn rs workers (state rs top journal) p

-- a legal journal has ended exactly where the top job is done
abbrev pub EndsAtTop : Type 0 → Type 0 → Type 0 → Type 0 → Type 0
EndsAtTop J W A R =
    (rs : Rules J W A) (rank : J → ℕ) (answered : R → W × A) (workers : ℕ) (top : J) (journal : List (Entry A)) →
    Lawful rs rank → Legal rs (among answered) workers top journal →
    IsEnded rs workers (state rs top journal) ↔ ((a : A) × ((state rs top journal).marks [] ≡ Done a))

-- where it hasn't ended, an item is enabled or a worker runs one
abbrev pub NoneIsStuck : Type 0 → Type 0 → Type 0 → Type 0 → Type 0
NoneIsStuck J W A R =
    (rs : Rules J W A) (rank : J → ℕ) (answered : R → W × A) (workers : ℕ) (top : J) (journal : List (Entry A)) →
    Lawful rs rank → Legal rs (among answered) workers top journal → ¬ (IsEnded rs workers (state rs top journal)) →
    GoesOn rs workers (state rs top journal) []

-- with one worker, where nothing runs and the journal hasn't ended, an item is enabled
abbrev pub OneNeverWaits : Type 0 → Type 0 → Type 0 → Type 0 → Type 0
OneNeverWaits J W A R =
    (rs : Rules J W A) (rank : J → ℕ) (answered : R → W × A) (top : J) (journal : List (Entry A)) →
    Lawful rs rank → Legal rs (among answered) 1 top journal → ¬ (IsEnded rs 1 (state rs top journal)) → (state rs top journal).running 0 ≡ None →
    (a : Place) × IsEnabled rs (state rs top journal).marks a

-- no open job is quiet in a state of a legal journal: the finish that makes it quiet closes it
abbrev pub QuietJobsAreClosed : Type 0 → Type 0 → Type 0 → Type 0 → Type 0
QuietJobsAreClosed J W A R =
    (rs : Rules J W A) (rank : J → ℕ) (answered : R → W × A) (workers : ℕ) (top : J) (journal : List (Entry A)) (p : Place) (j : J) →
    Lawful rs rank → Legal rs (among answered) workers top journal → (state rs top journal).marks p ≡ Open j →
    is_quiet rs (state rs top journal).marks j p ≡ false

-- where claims open jobs by the first two rules of the pick, at most as many jobs as workers are open at each depth
abbrev pub FewJobsAreOpen : Type 0 → Type 0 → Type 0 → Type 0 → Type 0
FewJobsAreOpen J W A R =
    (rs : Rules J W A) (rank : J → ℕ) (answered : R → W × A) (workers : ℕ) (top : J) (journal : List (Entry A)) →
    Lawful rs rank → 0 < workers → Legal rs (among answered) workers top journal → ArePreferredFrom rs (start top) journal →
    Few workers (state rs top journal).marks

-- in every state of every journal, legal or not, an open job lies no deeper than its rank falls short of the top job's
abbrev pub OpenJobsAreShallow : Type 0 → Type 0 → Type 0 → Type 0
OpenJobsAreShallow J W A =
    (rs : Rules J W A) (rank : J → ℕ) (top : J) (journal : List (Entry A)) (p : Place) (j : J) →
    Lawful rs rank → (state rs top journal).marks p ≡ Open j → rank j + length p ≤ rank top

-- while a worker runs an item, whatever the others do, the item's task stays
abbrev pub TasksStay : Type 0 → Type 0 → Type 0 → Type 0 → Type 0
TasksStay J W A R =
    (rs : Rules J W A) (rank : J → ℕ) (answered : R → W × A) (workers : ℕ) (top : J) (journal : List (Entry A)) (e : Entry A) (w : ℕ) (a : Place) (t : Task J W) →
    Lawful rs rank → Legal rs (among answered) workers top journal → Allowed rs (among answered) workers (state rs top journal) e →
    (state rs top journal).running w ≡ Some a → (after rs (state rs top journal) e).running w ≡ Some a →
    task_of rs (state rs top journal).marks a ≡ Some t → task_of rs (after rs (state rs top journal) e).marks a ≡ Some t

-- in every state of every journal, legal or not, the enabled items are among finitely many
abbrev pub EnabledItemsAreListed : Type 0 → Type 0 → Type 0 → Type 0
EnabledItemsAreListed J W A =
    (rs : Rules J W A) (rank : J → ℕ) (top : J) (journal : List (Entry A)) →
    Lawful rs rank → (list : List Place) × ((a : Place) → IsEnabled rs (state rs top journal).marks a → IsIn a list)

-- where at most so many jobs are open at each depth, and none at this depth or deeper, at most so many times the depth are open
abbrev pub FewAreOpenInAll : Type 0 → Type 0 → Type 0
FewAreOpenInAll J A =
    (m : Marks J A) (most depth : ℕ) (ps : List Place) →
    Few most m → ((p : Place) (j : J) → m p ≡ Open j → length p < depth) → Distinct ps → AreAllOpen m ps → length ps ≤ depth * most

-- what a job answers that is closed, of which nothing more would have come
pub record ClosesAs {J W A : Type 0} (rs : Rules J W A) (ms : Meanings J W A) (n : ℕ) (m : Marks J A) (p : Place) (j : J) (a : A) : Type 0 where
  pub settled : Settled rs ms n j (values m p)
  pub outcome_is : a ≡ rs.outcome j (values m p)

-- a job that is open before a step of a legal journal and done after it was settled, and its answer is its outcome
abbrev pub ClosedJobsAreSettled : Type 0 → Type 0 → Type 0 → Type 0 → Type 0 → Type 0 → Type 0
ClosedJobsAreSettled J W A R M F =
    (rs : Rules J W A) (rank : J → ℕ) (t : Tellings J W A R M F) (depth workers : ℕ) (top : J) (journal : List (Entry A)) (e : Entry A) (p : Place) (j : J) (a : A) →
    Lawful rs rank → Meant rs (told t) → (told t).fit top → rank top < depth →
    Legal rs (told t).answers workers top journal → Allowed rs (told t).answers workers (state rs top journal) e →
    (state rs top journal).marks p ≡ Open j → (after rs (state rs top journal) e).marks p ≡ Done a →
    ClosesAs rs (told t) (depth - suc (length p)) (after rs (state rs top journal) e).marks p j a

-- closings from the deepest job up stop at the first job that isn't quiet: those round it aren't either
abbrev pub ClosingsStop : Type 0 → Type 0 → Type 0 → Type 0
ClosingsStop J W A =
    (rs : Rules J W A) (rank : J → ℕ) (top : J) (m : Marks J A) (p : Place) (j : J) →
    Lawful rs rank → Nested rs top m → m p ≡ Open j → is_quiet rs m j p ≡ false → closed rs m p ≡ m
