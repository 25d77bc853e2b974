use Rattle.std.proofs.Common.{List, Option, true, sym, subst}
use Rattle.board_rules.specs.Asking.{NoRowOffers}
use Rattle.board_rules.specs.Legal.{state_after}
use Rattle.journal_audit.specs.Asking.{HasFirst}
use Rattle.journal_audit.specs.Standing.{StandsSo}
use Rattle.journal_audit.specs.Table.{table_of}
use Rattle.journal_audit.specs.declared.table.Row.{Row}
use Rattle.journal_audit.proofs.Found.{call_found, differ, first_calls, none_found, stands}
use Rattle.journal_audit.proofs.opening.find_call.Goals as goal

pub first_of_all-requires : goal.first_of_all-requires
first_of_all-requires c =
    let r = c.requires in
    let so = stands c.rules_are_lawful.ensures c.args.graphs.now c.args.rows.now.items r.0 r.1 r.2 r.3 in (
      r.0,
      (state_after r.0 r.1).marks,
      subst (λ (rs : List (Option Row)). StandsSo c.args.graphs.now rs r.0 (state_after r.0 r.1).marks) (sym c.as_slice.ensures.value) so,
    )

pub open_way-requires : goal.open_way-requires
open_way-requires c =
    let r = c.requires in
    let law = c.rules_are_lawful.ensures in
    let graphs = c.args.graphs.now in
    let rows = c.args.rows.now.items in
    let m = (state_after r.0 r.1).marks in
    let so = stands law graphs rows r.0 r.1 r.2 r.3 in
    let apart = differ law graphs rows r.0 r.1 r.2 r.3 c.paths_stay.ensures.apart in
    let f = c.in-Some.ensures r.0 m (subst (λ (rs : List (Option Row)). StandsSo graphs rs r.0 m) (sym c.as_slice.ensures.value) so) apart in
    (r.0, m, first_calls law graphs rows r.0 r.1 r.2 r.3 c.calls_are_fit.ensures.kept c.args.worker c.in-Some.at (subst (λ (rs : List (Option Row)). HasFirst r.0 m c.args.worker true rs c.in-Some.at) c.as_slice.ensures.value f))

pub returns-in_ok-run-in-Some : goal.returns-in_ok-run-in-Some
returns-in_ok-run-in-Some c = λ key taken held b none.
    let law = c.rules_are_lawful.ensures in
    let graphs = c.args.graphs.now in
    let rows = c.args.rows.now.items in
    let m = (state_after key taken).marks in
    let so = stands law graphs rows key taken held b in
    let apart = differ law graphs rows key taken held b c.paths_stay.ensures.apart in
    let f = c.in-Some.ensures key m (subst (λ (rs : List (Option Row)). StandsSo graphs rs key m) (sym c.as_slice.ensures.value) so) apart in
    let here = subst (λ (rs : List (Option Row)). HasFirst key m c.args.worker true rs c.in-Some.at) c.as_slice.ensures.value f in
    call_found law graphs rows key taken held b c.calls_are_fit.ensures.kept c.boards_keep.ensures.nothing_opened c.rows_are_asked.ensures.opened none c.args.worker c.in-Some.at here c.open_way.new.rows.items c.in_ok-run-in-Some.run'
    (λ calls. c.in_ok-run-in-Some.ensures key m calls)

pub returns-in-None : goal.returns-in-None
returns-in-None c = λ key taken held b none.
    let law = c.rules_are_lawful.ensures in
    let graphs = c.args.graphs.now in
    let rows = c.args.rows.now.items in
    let m = (state_after key taken).marks in
    let so = stands law graphs rows key taken held b in
    let apart = differ law graphs rows key taken held b c.paths_stay.ensures.apart in
    let no_calls = c.in-None.ensures key m (subst (λ (rs : List (Option Row)). StandsSo graphs rs key m) (sym c.as_slice.ensures.value) so) apart in
    none_found law graphs rows key taken held b c.rows_are_asked.ensures.none none (subst (λ (rs : List (Option Row)). NoRowOffers key true (table_of rs)) c.as_slice.ensures.value no_calls)
