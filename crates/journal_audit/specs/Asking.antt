-- How rows are asked one after the other for what they offer a worker.
use Rattle.std.specs.Prelude.{◌≡◌, ◌≢◌, ℕ, ◌<◌, Bool, false, List, length, Option, Some, None, if◌then◌else◌}
use Rattle.std.specs.Ordering.{bool_cmp, nat_cmp, ordering_then}
use Rattle.std.specs.declared.cmp.Ordering.{Ordering}
use Rattle.nested_jobs.specs.Pick.{is_more_urgent}
use Rattle.nested_jobs.specs.Marks.{Marks, Open}
use Rattle.nested_jobs.specs.Rules.{Place}
use Rattle.job_rules.specs.Words.{Answer}
use Rattle.pisdf_meaning.specs.declared.firing.Firing.{Firing}
use Rattle.board_rules.specs.Asking.{IsFirstIn, IsFirstOfAll, IsOffered, JobRow, NoRowOffers, standing_of}
use Rattle.board_rules.specs.Keys.{Key}
use Rattle.board_rules.specs.Picks.{goes_before, steps_to}
use Rattle.audit_job.specs.Offering.{offer_of, ordering_by}
use Rattle.audit_job.specs.declared.offering.Offer.{Offer}
use Rattle.journal_audit.specs.Table.{job_row, row_at, table_of}
use Rattle.journal_audit.specs.declared.table.Asked.{Asked}
use Rattle.journal_audit.specs.declared.table.Row.{Row}
use Rattle.journal_audit.specs.declared.table.Run.{Run}

-- what a row offers first
abbrev pub IsFirstOf : Key → Marks Firing Answer → ℕ → Bool → ℕ → Option Row → Option Asked → Type 0
IsFirstOf key m w calls k None answer = answer ≡ None
IsFirstOf key m w calls k (Some row) None = (i : ℕ) → ¬ (IsOffered key calls (job_row row) i)
IsFirstOf key m w calls k (Some row) (Some asked) = (asked.row ≡ k) × IsFirstIn key m w calls (job_row row) (offer_of asked.offer)

-- ---- the order of what rows offer

abbrev pub goes_before_in : Key → Marks Firing Answer → Bool → Option Row → Offer → Option Row → Offer → Bool
goes_before_in key m calls None offer other rest = false
goes_before_in key m calls (Some row) offer None rest = false
goes_before_in key m calls (Some row) offer (Some other) rest = goes_before (standing_of key m calls (job_row row) (offer_of offer)) (standing_of key m calls (job_row other) (offer_of rest))

-- how two offers stand by the rules before that of paths: by depth, home and urgency
abbrev pub early_order : Row → Asked → Row → Asked → Ordering
early_order row one beside other =
    ordering_then (ordering_then (nat_cmp (length beside.place) (length row.place)) (bool_cmp one.offer.away other.offer.away))
    (ordering_by (is_more_urgent one.offer.urgency other.offer.urgency) (is_more_urgent other.offer.urgency one.offer.urgency))

-- of two offers of rows the first goes before the other
abbrev pub stands_before : Key → Marks Firing Answer → Bool → List (Option Row) → Asked → Asked → Bool
stands_before key m calls rows one other = goes_before_in key m calls (row_at rows one.row) one.offer (row_at rows other.row) other.offer

abbrev pub first_of_two : Key → Marks Firing Answer → Bool → List (Option Row) → Asked → Asked → Asked
first_of_two key m calls rows best next = if stands_before key m calls rows next best then next else best

abbrev pub better : Key → Marks Firing Answer → Bool → List (Option Row) → Option Asked → Option Asked → Option Asked
better key m calls rows None next = next
better key m calls rows (Some best) None = Some best
better key m calls rows (Some best) (Some next) = Some (first_of_two key m calls rows best next)

-- ---- the best of the rows before one

abbrev pub Follows : Key → Marks Firing Answer → Bool → List (Option Row) → Asked → Option Asked → Type 0
Follows key m calls rows best None = Unit {0}
Follows key m calls rows best (Some other) = stands_before key m calls rows other best ≡ false

-- a row offers nothing, or nothing that goes before this
pub record GivesWayTo (key : Key) (m : Marks Firing Answer) (w : ℕ) (calls : Bool) (rows : List (Option Row)) (best : Asked) (k : ℕ) : Type 0 where
  pub answer : Option Asked
  pub is_first : IsFirstOf key m w calls k (row_at rows k) answer
  pub follows : Follows key m calls rows best answer

pub record IsBest (key : Key) (m : Marks Firing Answer) (w : ℕ) (calls : Bool) (rows : List (Option Row)) (n : ℕ) (best : Asked) : Type 0 where
  pub below : best.row < n
  pub is_first : IsFirstOf key m w calls best.row (row_at rows best.row) (Some best)
  pub others : (k : ℕ) → k < n → k ≢ best.row → GivesWayTo key m w calls rows best k

-- the first of what the first n rows offer first
abbrev pub IsBestOf : Key → Marks Firing Answer → ℕ → Bool → List (Option Row) → ℕ → Option Asked → Type 0
IsBestOf key m w calls rows n None = (k : ℕ) → k < n → IsFirstOf key m w calls k (row_at rows k) None
IsBestOf key m w calls rows n (Some best) = IsBest key m w calls rows n best

-- ---- what all rows offer

-- no two open jobs have one path
abbrev pub PathsDiffer : Key → Marks Firing Answer → Type 0
PathsDiffer key m = (p q : Place) (c d : Firing) → m p ≡ Open c → m q ≡ Open d → steps_to key m p ≡ steps_to key m q → p ≡ q

-- the item goes first of all that are offered of this kind
pub record HasFirst (key : Key) (m : Marks Firing Answer) (w : ℕ) (calls : Bool) (rows : List (Option Row)) (run : Run) : Type 0 where
  pub row : JobRow
  pub away : Bool
  pub urgency : Option ℕ
  pub first : IsFirstOfAll key m w calls (table_of rows) run.row row record { item = run.item; away = away; urgency = urgency }

-- and none exactly where no row offers any
abbrev pub IsFirstRun : Key → Marks Firing Answer → ℕ → Bool → List (Option Row) → Option Run → Type 0
IsFirstRun key m w calls rows None = NoRowOffers key calls (table_of rows)
IsFirstRun key m w calls rows (Some run) = HasFirst key m w calls rows run
