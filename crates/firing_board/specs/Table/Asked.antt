-- What a table answers that is asked what goes first.
use Rattle.std.specs.Prelude.{◌≡◌, ℕ, Bool, true, false, List, Option, Some, None}
use Rattle.board_rules.specs.Asking.{IsFirstOfAll, JobRow, NoRowOffers}
use Rattle.board_rules.specs.Asking as board
use Rattle.board_rules.specs.Keys.{Key}
use Rattle.board_rules.specs.Picks.{steps_to}
use Rattle.job_rules.specs.Words.{Answer}
use Rattle.nested_jobs.specs.Marks.{Marks, Open}
use Rattle.nested_jobs.specs.Rules.{Place}
use Rattle.graph_firing.specs.declared.offer.Offer.{Offer}
use Rattle.pisdf_meaning.specs.declared.firing.Firing.{Firing}
use Rattle.firing_board.specs.Table.Suits.{Suits}
use Rattle.firing_board.specs.Table.View.{TableView, table_of}
use Rattle.firing_board.specs.declared.table.pick.Asked.{Asked}
use Rattle.firing_board.specs.declared.table.pick.Picked.{Picked}
use Rattle.firing_board.specs.declared.table.pick.Picked.TheVariants.{Work, Call}
use Rattle.firing_board.specs.declared.table.row.Row.{Row}
use Rattle.firing_board.specs.declared.run.Run.{Run}

-- an offer as the rules of boards have it
abbrev pub offer_of : Offer → board.Offer
offer_of offer = record { item = offer.item; away = offer.away; urgency = offer.urgency }

-- the first of all offers of this kind, and none exactly where no row offers any
abbrev pub IsFirstOffer : Key → Marks Firing Answer → ℕ → Bool → TableView → Option Asked → Type 0
IsFirstOffer key m w opens v None = NoRowOffers key opens (table_of v)
IsFirstOffer key m w opens v (Some asked) = (row : JobRow) × IsFirstOfAll key m w opens (table_of v) asked.row row (offer_of asked.offer)

-- no two open jobs have one path
abbrev pub PathsDiffer : Key → Marks Firing Answer → Type 0
PathsDiffer key m = (p q : Place) (c d : Firing) → m p ≡ Open c → m q ≡ Open d → steps_to key m p ≡ steps_to key m q → p ≡ q

-- whatever the table stands for, where no two of its jobs have one path
abbrev pub IsAsked : ℕ → Bool → TableView → Option Asked → Type 0
IsAsked w opens v answer = (key : Key) (m : Marks Firing Answer) → Suits key m v → PathsDiffer key m → IsFirstOffer key m w opens v answer

-- the item that is asked for
abbrev pub run_of : Asked → Run
run_of asked = record { row = asked.row; item = asked.offer.item }

-- the item of the first of all offers of this kind
pub record IsFirstRun (w : ℕ) (opens : Bool) (v : TableView) (run : Run) : Type 0 where
  pub asked : Asked
  pub run_is : run ≡ run_of asked
  pub is_asked : IsAsked w opens v (Some asked)

-- rule 1: the first work, or, where no row offers work, the first call; none exactly where no row offers either
abbrev pub IsPicked : ℕ → TableView → Option Picked → Type 0
IsPicked w v (Some (Work work)) = IsFirstRun w false v work
IsPicked w v (Some (Call call)) = IsAsked w false v None × IsFirstRun w true v call
IsPicked w v None = IsAsked w false v None × IsAsked w true v None

-- the same of a table with these rows
abbrev pub IsPickedOf : ℕ → List (Option Row) → Option Picked → Type 0
IsPickedOf w rows answer = (v : TableView) → v.rows ≡ rows → IsPicked w v answer
