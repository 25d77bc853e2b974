-- How a pick is found job by job: what each open job has to offer, and which of its offers is the best.
use Rattle.std.specs.Prelude.{◌≡◌, ◌≢◌, ◌⊎◌, ℕ, ◌<◌, Bool, true, false, List, [], ◌∷◌, Some, length}
use Rattle.pisdf_meaning.specs.declared.firing.Firing.{Firing}
use Rattle.nested_jobs.specs.Rules.{Call, Place, Task, Work}
use Rattle.nested_jobs.specs.Marks.{Free, Marks, Open, values}
use Rattle.job_rules.specs.Items.{graph_of, prepared_in, rule}
use Rattle.job_rules.specs.Words as words
use Rattle.job_rules.specs.Words.{Answer}
use Rattle.board_rules.specs.Keys.{Key}
use Rattle.board_rules.specs.Picks.{ItemStands, Standing, goes_before, steps_to}

abbrev pub calls : Task Firing words.Work → Bool
calls (Work work) = false
calls (Call firing) = true

-- An open job offers each of its free items that has a task. The item stands so for a worker; of one that calls a job nothing
-- is said of the items in that job.
pub record Offers (key : Key) (m : Marks Firing Answer) (w : ℕ) (opens : Bool) (q : Place) (k : ℕ) (s : Standing) : Type 0 where
  pub job : Firing
  pub is_open : m q ≡ Open job
  pub free : m (k ∷ q) ≡ Free
  pub task : Task Firing words.Work
  pub has_task : rule key.graphs.graphs job (values m q) k ≡ Some task
  pub kind : calls task ≡ opens
  pub opens_is : s.opens ≡ opens
  pub depth_is : s.depth ≡ length q
  pub path_is : s.path ≡ steps_to key m q
  pub number_is : s.number ≡ k
  pub within_is : s.within ≡ []
  pub at_home : ItemStands key (graph_of key.graphs.graphs job) job (prepared_in (graph_of key.graphs.graphs job) (values m q)) w k s

-- the best that a job has to offer, by home, urgency and number
pub record IsBestIn (key : Key) (m : Marks Firing Answer) (w : ℕ) (opens : Bool) (q : Place) (k : ℕ) (s : Standing) : Type 0 where
  pub offered : Offers key m w opens q k s
  pub first : (l : ℕ) (u : Standing) → Offers key m w opens q l u → l ≢ k → goes_before s u ≡ true

-- no job offers work, or none a call
abbrev pub NoneOffers : Key → Marks Firing Answer → ℕ → Bool → Type 0
NoneOffers key m w opens = (q : Place) (k : ℕ) (s : Standing) → ¬ (Offers key m w opens q k s)

-- a job that is less deep isn't asked; another has nothing to offer, or what it has best goes after this
abbrev pub Yields : Key → Marks Firing Answer → ℕ → Bool → Place → Standing → Place → Type 0
Yields key m w opens q s r =
    (length r < length q)
    ⊎ (((l : ℕ) (u : Standing) → ¬ (Offers key m w opens r l u))
    ⊎ ((l : ℕ) × (u : Standing) × IsBestIn key m w opens r l u × (goes_before s u ≡ true)))

-- the best of a job, to which every other open job yields
pub record IsBest (key : Key) (m : Marks Firing Answer) (w : ℕ) (opens : Bool) (q : Place) (k : ℕ) (s : Standing) : Type 0 where
  pub best : IsBestIn key m w opens q k s
  pub others : (r : Place) (c : Firing) → m r ≡ Open c → r ≢ q → Yields key m w opens q s r

-- each number is 0: the first item of a job, of the job that this one calls, and so on
abbrev pub AreFirst : List ℕ → Type 0
AreFirst [] = Unit {0}
AreFirst (j ∷ way) = (j ≡ 0) × AreFirst way
