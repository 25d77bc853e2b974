-- What one row offers goes first of all, where it is the only row.
use Rattle.std.proofs.Common.{◌≡◌, ℕ, Bool, true, false, Option, Some, None, List, length, refl, sym, ◌∙◌, get_or, subst, arith}
use Rattle.std.proofs.lemmas.List.{get_or_read}
use Rattle.graph_firing.specs.Offers.{IsPick, IsPickedNumber, number_of}
use Rattle.graph_firing.specs.View.{IsOfferedCall, IsOfferedWork}
use Rattle.graph_firing.specs.declared.offer.Offer.{Offer}
use Rattle.firing_board.specs.Table.Asked.{IsAsked, IsPickedOf, run_of}
use Rattle.firing_board.specs.Table.AskedRows.{IsFirstOf, IsOfferedAs, row_in}
use Rattle.firing_board.specs.Table.View.{TableView}
use Rattle.firing_board.specs.declared.table.pick.Asked.{Asked}
use Rattle.firing_board.specs.declared.table.pick.Picked.TheVariants.{Work, Call}
use Rattle.firing_board.specs.declared.table.row.Row.{Row}
use Rattle.firing_board.proofs.OfTable.AskedBest.{alone}
use Rattle.firing_board.proofs.OfTable.AskedFirst.{asked_so}

abbrev asked_by : Option Offer → Option Asked
asked_by None = None
asked_by (Some offer) = Some record { row = 0; offer = offer }

module _ (w : ℕ) (rows : List (Option Row)) (one : length rows ≡ 1) (slot : Option Row) (read : slot ≡ get_or rows 0 slot) (row : Row) (some : slot ≡ Some row) where
  here : row_in rows 0 ≡ Some row
  here = sym (get_or_read rows 0 slot (omega arith) read None) ∙ some

  first_by : (opens : Bool) (offer : Option Offer) → IsPick (IsOfferedAs opens row.job) row.job w offer → IsFirstOf w opens 0 (Some row) (asked_by offer)
  first_by opens None pick = pick
  first_by opens (Some offer) pick = (refl, pick)

  asked : (opens : Bool) (offer : Option Offer) → IsPick (IsOfferedAs opens row.job) row.job w offer → (v : TableView) → v.rows ≡ rows → IsAsked w opens v (asked_by offer)
  asked opens offer pick =
      let first = subst (λ (o : Option Row). IsFirstOf w opens 0 o (asked_by offer)) (sym here) (first_by opens offer pick) in
      asked_so w opens rows (asked_by offer) (alone rows w opens one (asked_by offer) first)

  -- the first work
  work_by : (item : ℕ) (offer : Option Offer) → IsPick (IsOfferedWork row.job) row.job w offer → Some item ≡ number_of offer → IsPickedOf w rows (Some (Work record { row = 0; item = item }))
  work_by item None pick is = absurd (cc)
  work_by item (Some offer) pick is =
      let at : Asked = record { row = 0; offer = offer } in
      let same : record { row = 0; item = item } ≡ run_of at = cc in
      λ v rows_are. record { asked = at; run_is = same; is_asked = asked false (Some offer) pick v rows_are }

  no_work_by : (offer : Option Offer) → IsPick (IsOfferedWork row.job) row.job w offer → None ≡ number_of offer → (v : TableView) → v.rows ≡ rows → IsAsked w false v None
  no_work_by None pick is = asked false None pick
  no_work_by (Some offer) pick is = absurd (cc)

  pub alone_work : (item : ℕ) → IsPickedNumber (IsOfferedWork row.job) row.job w (Some item) → IsPickedOf w rows (Some (Work record { row = 0; item = item }))
  alone_work item p = work_by item p.offer p.is_pick p.number_is

  -- no work, and the first call
  pub alone_call : IsPickedNumber (IsOfferedWork row.job) row.job w None → (offer : Offer) → IsPick (IsOfferedCall row.job) row.job w (Some offer) → IsPickedOf w rows (Some (Call record { row = 0; item = offer.item }))
  alone_call p offer pick =
      let at : Asked = record { row = 0; offer = offer } in
      λ v rows_are. (no_work_by p.offer p.is_pick p.number_is v rows_are, record { asked = at; run_is = refl; is_asked = asked true (Some offer) pick v rows_are })

  -- neither
  pub alone_none : IsPickedNumber (IsOfferedWork row.job) row.job w None → IsPick (IsOfferedCall row.job) row.job w None → IsPickedOf w rows None
  alone_none p pick = λ v rows_are. (no_work_by p.offer p.is_pick p.number_is v rows_are, asked true None pick v rows_are)
