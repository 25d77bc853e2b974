use Rattle.std.proofs.Common.{List, Option, false, sym, subst}
use Rattle.board_rules.specs.Asking.{NoRowOffers}
use Rattle.board_rules.specs.Board.{Held}
use Rattle.board_rules.specs.Entries.{Step}
use Rattle.board_rules.specs.Keys.{Key}
use Rattle.board_rules.specs.Legal.{state_after}
use Rattle.journal_audit.specs.Asking.{HasFirst}
use Rattle.journal_audit.specs.Opening.{Finds}
use Rattle.journal_audit.specs.Standing.{KeepsBoard, StandsSo}
use Rattle.journal_audit.specs.Table.{table_of}
use Rattle.journal_audit.specs.declared.table.Row.{Row}
use Rattle.journal_audit.specs.declared.table.Run.{Run}
use Rattle.journal_audit.proofs.Found.{differ, stands, work_found}
use Rattle.journal_audit.proofs.Openings.{if_ok}
use Rattle.journal_audit.proofs.opening.find.Goals as goal

pub first_of_all-requires : goal.first_of_all-requires
first_of_all-requires c =
    let r = c.requires in
    let so = stands c.rules_are_lawful.ensures c.args.graphs.now c.args.rows.now.items r.0 r.1 r.2 r.3 in (
      r.0,
      (state_after r.0 r.1).marks,
      subst (λ (rs : List (Option Row)). StandsSo c.args.graphs.now rs r.0 (state_after r.0 r.1).marks) (sym c.as_slice.ensures.value) so,
    )

pub returns-in-Some : goal.returns-in-Some
returns-in-Some c = λ key taken held b.
    let law = c.rules_are_lawful.ensures in
    let graphs = c.args.graphs.now in
    let rows = c.args.rows.now.items in
    let m = (state_after key taken).marks in
    let so = stands law graphs rows key taken held b in
    let apart = differ law graphs rows key taken held b c.paths_stay.ensures.apart in
    let f = c.in-Some.ensures key m (subst (λ (rs : List (Option Row)). StandsSo graphs rs key m) (sym c.as_slice.ensures.value) so) apart in
    work_found law graphs rows key taken held b c.boards_keep.ensures.nothing_opened c.rows_are_asked.ensures.work c.args.worker c.in-Some.run'
    (subst (λ (rs : List (Option Row)). HasFirst key m c.args.worker false rs c.in-Some.run') c.as_slice.ensures.value f)

pub find_call-requires : goal.find_call-requires
find_call-requires c =
    let r = c.requires in
    let law = c.rules_are_lawful.ensures in
    let graphs = c.args.graphs.now in
    let rows = c.args.rows.now.items in
    let m = (state_after r.0 r.1).marks in
    let so = stands law graphs rows r.0 r.1 r.2 r.3 in
    let apart = differ law graphs rows r.0 r.1 r.2 r.3 c.paths_stay.ensures.apart in
    let none = c.in-None.ensures r.0 m (subst (λ (rs : List (Option Row)). StandsSo graphs rs r.0 m) (sym c.as_slice.ensures.value) so) apart in
    (r.0, r.1, r.2, r.3, subst (λ (rs : List (Option Row)). NoRowOffers r.0 false (table_of rs)) c.as_slice.ensures.value none)

pub returns-in-None : goal.returns-in-None
returns-in-None c =
    let law = c.rules_are_lawful.ensures in
    let graphs = c.args.graphs.now in
    let rows = c.args.rows.now.items in
    let new = c.find_call.new.rows.items in
    let w = c.args.worker in
    if_ok c.find_call.result
    (λ (found : Option Run). (key : Key) (taken : List Step) (held : Held) → KeepsBoard graphs rows key taken held → NoRowOffers key false (table_of rows) → Finds graphs key taken rows w new found)
    (λ (found : Option Run). (key : Key) (taken : List Step) (held : Held) → KeepsBoard graphs rows key taken held → Finds graphs key taken rows w new found)
    (λ (found : Option Run) (h : (key : Key) (taken : List Step) (held : Held) → KeepsBoard graphs rows key taken held → NoRowOffers key false (table_of rows) → Finds graphs key taken rows w new found). λ key taken held b.
    let m = (state_after key taken).marks in
    let so = stands law graphs rows key taken held b in
    let apart = differ law graphs rows key taken held b c.paths_stay.ensures.apart in
    let none = c.in-None.ensures key m (subst (λ (rs : List (Option Row)). StandsSo graphs rs key m) (sym c.as_slice.ensures.value) so) apart in
    h key taken held b (subst (λ (rs : List (Option Row)). NoRowOffers key false (table_of rs)) c.as_slice.ensures.value none))
    c.find_call.ensures
