-- What each open job of a table is asked for: the best of the items that it offers.
use Rattle.std.specs.Prelude.{◌≡◌, ◌≢◌, ◌⊎◌, ℕ, ◌<◌, nat_lt, Bool, true, not, ◌&&◌, Option, Some, None, [], length}
use Rattle.pisdf_model.specs.declared.graph.Graph.{Graph}
use Rattle.pisdf_meaning.specs.declared.firing.Firing.{Firing}
use Rattle.nested_jobs.specs.Rules.{Task}
use Rattle.nested_jobs.specs.Marks.{Free, Marks}
use Rattle.nested_jobs.specs.Tables.{Row, answers_in}
use Rattle.job_rules.specs.Items.{Prepared, graph_of, prepared_in, rule}
use Rattle.job_rules.specs.Words as words
use Rattle.job_rules.specs.Words.{Answer}
use Rattle.board_rules.specs.Keys.{Key}
use Rattle.board_rules.specs.Board.{OpenJobs}
use Rattle.board_rules.specs.Offers.{calls}
use Rattle.nested_jobs.specs.Pick.{decide, is_more_urgent}
use Rattle.board_rules.specs.Picks.{ItemStands, Standing, goes_before, steps_to}

-- an item that a job offers: its number, whether its home is another worker, and its priority, where it is a node
pub record Offer : Type 0 where
  pub item : ℕ
  pub away : Bool
  pub urgency : Option ℕ

abbrev pub JobRow : Type 0
JobRow = Row Firing Answer

abbrev pub graph_in : Key → JobRow → Graph
graph_in key row = graph_of key.graphs.graphs row.job

abbrev pub prepared_of : Key → JobRow → Option Prepared
prepared_of key row = prepared_in (graph_in key row) (answers_in row)

-- the item is free, and its task is work, or a call
pub record IsOffered (key : Key) (opens : Bool) (row : JobRow) (i : ℕ) : Type 0 where
  pub free : row.marks i ≡ Free
  pub task : Task Firing words.Work
  pub has_task : rule key.graphs.graphs row.job (answers_in row) i ≡ Some task
  pub kind : calls task ≡ opens

-- where the item stands among all that are offered
abbrev pub standing_of : Key → Marks Firing Answer → Bool → JobRow → Offer → Standing
standing_of key m opens row offer = record { opens = opens; depth = length row.place; away = offer.away; urgency = offer.urgency; path = steps_to key m row.place; number = offer.item; within = [] }

-- its home and its priority are those of the list schedule
abbrev pub IsHomed : Key → Marks Firing Answer → ℕ → Bool → JobRow → Offer → Type 0
IsHomed key m w opens row offer = ItemStands key (graph_in key row) row.job (prepared_of key row) w offer.item (standing_of key m opens row offer)

-- by home, then urgency, then number
abbrev pub goes_first : Offer → Offer → Bool
goes_first a b =
    decide (not a.away && b.away) (a.away && not b.away)
    (decide (is_more_urgent a.urgency b.urgency) (is_more_urgent b.urgency a.urgency)
    (nat_lt a.item b.item))

pub record IsFirstIn (key : Key) (m : Marks Firing Answer) (w : ℕ) (opens : Bool) (row : JobRow) (offer : Offer) : Type 0 where
  pub offered : IsOffered key opens row offer.item
  pub homed : IsHomed key m w opens row offer
  pub first : (j : ℕ) → IsOffered key opens row j → j ≢ offer.item → (other : Offer) × (other.item ≡ j) × IsHomed key m w opens row other × (goes_first offer other ≡ true)

-- the first, and none exactly where none is offered
abbrev pub IsAskedFor : Key → Marks Firing Answer → ℕ → Bool → JobRow → Option Offer → Type 0
IsAskedFor key m w opens row None = (i : ℕ) → ¬ (IsOffered key opens row i)
IsAskedFor key m w opens row (Some offer) = IsFirstIn key m w opens row offer

-- a row gives way: its job is less deep, or offers nothing, or its first goes after this
abbrev pub GivesWay : Key → Marks Firing Answer → ℕ → Bool → JobRow → Offer → JobRow → Type 0
GivesWay key m w opens row offer other =
    (length other.place < length row.place)
    ⊎ (IsAskedFor key m w opens other None
    ⊎ ((rest : Offer) × IsFirstIn key m w opens other rest × (goes_before (standing_of key m opens row offer) (standing_of key m opens other rest) ≡ true)))

-- the first of the first of all rows
pub record IsFirstOfAll (key : Key) (m : Marks Firing Answer) (w : ℕ) (opens : Bool) (table : OpenJobs) (k : ℕ) (row : JobRow) (offer : Offer) : Type 0 where
  pub here : table k ≡ Some row
  pub first : IsFirstIn key m w opens row offer
  pub others : (l : ℕ) (other : JobRow) → table l ≡ Some other → l ≢ k → GivesWay key m w opens row offer other

-- no row offers anything of this kind
abbrev pub NoRowOffers : Key → Bool → OpenJobs → Type 0
NoRowOffers key opens table = (k : ℕ) (row : JobRow) → table k ≡ Some row → (i : ℕ) → ¬ (IsOffered key opens row i)
