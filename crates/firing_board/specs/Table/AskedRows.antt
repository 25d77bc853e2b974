-- How rows are asked one after the other.
use Rattle.std.specs.Prelude.{◌≡◌, ◌≢◌, ℕ, ◌<◌, Bool, true, false, List, [], Option, Some, None, length, slice_index_or, if◌then◌else◌}
use Rattle.std.specs.declared.cmp.Ordering.{Ordering}
use Rattle.std.specs.declared.cmp.Ordering.TheVariants.{Less, Equal, Greater}
use Rattle.board_rules.specs.Picks.{Standing, goes_before}
use Rattle.graph_firing.specs.Offers.{IsPick}
use Rattle.graph_firing.specs.View.{IsOfferedCall, IsOfferedWork, OpenView}
use Rattle.graph_firing.specs.declared.offer.Offer.{Offer}
use Rattle.firing_board.specs.declared.table.pick.Asked.{Asked}
use Rattle.firing_board.specs.declared.table.row.Row.{Row}

-- how two stand, of which the first goes before the second, or the second before the first
abbrev pub ordering_by : (first second : Bool) → Ordering
ordering_by first second = if first then Less else (if second then Greater else Equal)

-- the row at a key
abbrev pub row_in : List (Option Row) → ℕ → Option Row
row_in rows k = slice_index_or rows k None

-- ---- what a row offers

-- work of its own, or a call
abbrev pub IsOfferedAs : (calls : Bool) → OpenView → ℕ → Type 0
IsOfferedAs false job i = IsOfferedWork job i
IsOfferedAs true job i = IsOfferedCall job i

-- what the row at this key offers first
abbrev pub IsFirstOf : ℕ → Bool → ℕ → Option Row → Option Asked → Type 0
IsFirstOf w calls k None answer = answer ≡ None
IsFirstOf w calls k (Some row) None = IsPick (IsOfferedAs calls row.job) row.job w None
IsFirstOf w calls k (Some row) (Some asked) = (asked.row ≡ k) × IsPick (IsOfferedAs calls row.job) row.job w (Some asked.offer)

-- ---- the order of what rows offer

-- where an offer of a row stands among all of its kind
abbrev pub standing_of : Row → Offer → Standing
standing_of row offer = record { opens = false; depth = length row.place; away = offer.away; urgency = offer.urgency; path = row.steps; number = offer.item; within = [] }

abbrev pub goes_before_in : Option Row → Offer → Option Row → Offer → Bool
goes_before_in None offer other rest = false
goes_before_in (Some row) offer None rest = false
goes_before_in (Some row) offer (Some other) rest = goes_before (standing_of row offer) (standing_of other rest)

-- of two offers of rows the first goes before the other
abbrev pub stands_before : List (Option Row) → Asked → Asked → Bool
stands_before rows one other = goes_before_in (row_in rows one.row) one.offer (row_in rows other.row) other.offer

abbrev pub first_of_two : List (Option Row) → Asked → Asked → Asked
first_of_two rows best next = if stands_before rows next best then next else best

abbrev pub better : List (Option Row) → Option Asked → Option Asked → Option Asked
better rows None next = next
better rows (Some best) None = Some best
better rows (Some best) (Some next) = Some (first_of_two rows best next)

-- ---- the best of the rows before one

abbrev pub Follows : List (Option Row) → Asked → Option Asked → Type 0
Follows rows best None = Unit {0}
Follows rows best (Some other) = stands_before rows other best ≡ false

-- a row offers nothing, or nothing that goes before this
pub record GivesWayTo (w : ℕ) (calls : Bool) (rows : List (Option Row)) (best : Asked) (k : ℕ) : Type 0 where
  pub answer : Option Asked
  pub is_first : IsFirstOf w calls k (row_in rows k) answer
  pub follows : Follows rows best answer

pub record IsBest (w : ℕ) (calls : Bool) (rows : List (Option Row)) (n : ℕ) (best : Asked) : Type 0 where
  pub below : best.row < n
  pub is_first : IsFirstOf w calls best.row (row_in rows best.row) (Some best)
  pub others : (k : ℕ) → k < n → k ≢ best.row → GivesWayTo w calls rows best k

-- the first of what the first n rows offer first
abbrev pub IsBestOf : ℕ → Bool → List (Option Row) → ℕ → Option Asked → Type 0
IsBestOf w calls rows n None = (k : ℕ) → k < n → IsFirstOf w calls k (row_in rows k) None
IsBestOf w calls rows n (Some best) = IsBest w calls rows n best
