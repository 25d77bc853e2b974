use Rattle.std.proofs.Common.{List, Some, refl, sym, subst}
use Rattle.board_rules.specs.Entries.{Step}
use Rattle.board_rules.specs.Keys.{Key}
use Rattle.board_rules.specs.Legal.{state_after}
use Rattle.firing_board.specs.Core.{StandsAt}
use Rattle.firing_board.specs.Finding.{IsFound}
use Rattle.firing_board.specs.Opening.{Calls, OpensWay}
use Rattle.firing_board.specs.declared.run.Run.{Run}
use Rattle.firing_board.specs.Table.Asked.{IsPicked}
use Rattle.firing_board.specs.Wanting.{PicksInNew}
use Rattle.firing_board.specs.declared.table.pick.Picked.{Picked}
use Rattle.firing_board.proofs.Found.{call_found, call_wants, first_calls, no_work, none_found, work_found}
use Rattle.firing_board.proofs.Openings.{on_err_by}
use Rattle.firing_board.proofs.finding.find.Goals as goal

pub returns-in-Some-Work-clause-found : goal.returns-in-Some-Work-clause-found
returns-in-Some-Work-clause-found c = λ key taken s.
    let first = subst (λ (p : Picked). IsPicked c.args.worker c.args.core.now.table (Some p)) c.in-Some-Work.field-0-is c.in-Some-Work.ensures in
    let old = c.args.core.now in
    subst (λ (run : Run). IsFound key taken old c.args.worker old run) (sym first.run_is)
    (work_found c.paths_stay.ensures.apart key taken old s c.boards_keep.ensures.nothing_opened c.rows_are_asked.ensures.work c.args.worker first.asked first.is_asked)

pub open_way-requires : goal.open_way-requires
open_way-requires c =
    let key = c.requires.0 in
    let taken = c.requires.1 in
    let first = subst (λ (p : Picked). IsPicked c.args.worker c.args.core.now.table (Some p)) c.in-Some-Call.field-0-is c.in-Some-Call.ensures in
    let old = c.args.core.now in
    let m = (state_after key taken).marks in
    record {
      key = key;
      marks = m;
      calls = subst (λ (run : Run). Calls key m old.table run) (sym first.1.run_is)
          (first_calls c.paths_stay.ensures.apart key taken old c.requires.2 c.calls_are_fit.ensures.kept c.args.worker first.1.asked first.1.is_asked);
    }

pub returns-in_ok-run-in-Some-Call-clause-found : goal.returns-in_ok-run-in-Some-Call-clause-found
returns-in_ok-run-in-Some-Call-clause-found c = λ key taken s.
    let first = subst (λ (p : Picked). IsPicked c.args.worker c.args.core.now.table (Some p)) c.in-Some-Call.field-0-is c.in-Some-Call.ensures in
    let none = no_work c.paths_stay.ensures.apart key taken c.args.core.now s c.args.worker first.0 in
    let old = c.args.core.now in
    let new = c.open_way.new.core in
    let run = c.in_ok-run-in-Some-Call.run' in
    let way = subst (λ (at : Run). OpensWay old at new run) first.1.run_is c.in_ok-run-in-Some-Call.ensures.opened in
    call_found c.paths_stay.ensures.apart key taken old s c.calls_are_fit.ensures.kept c.boards_keep.ensures.nothing_opened c.rows_are_asked.ensures.opened none c.args.worker first.1.asked first.1.is_asked new run way

pub returns-in-None-clause-found : goal.returns-in-None-clause-found
returns-in-None-clause-found c = λ key taken s.
    let none = no_work c.paths_stay.ensures.apart key taken c.args.core.now s c.args.worker c.in-None.ensures.0 in
    (refl, none_found c.paths_stay.ensures.apart key taken c.args.core.now s c.rows_are_asked.ensures.none none c.args.worker c.in-None.ensures.1)

pub returns-in_err-run-in-Some-Call-clause-wants : goal.returns-in_err-run-in-Some-Call-clause-wants
returns-in_err-run-in-Some-Call-clause-wants c =
    let old = c.args.core.now in
    let w = c.args.worker in
    let first = subst (λ (p : Picked). IsPicked c.args.worker c.args.core.now.table (Some p)) c.in-Some-Call.field-0-is c.in-Some-Call.ensures in
    on_err_by c.from_residual.result ((key : Key) (taken : List Step) → StandsAt key taken old → PicksInNew key (state_after key taken) w)
    (λ key taken s.
    let none = no_work c.paths_stay.ensures.apart key taken old s w first.0 in
    call_wants c.paths_stay.ensures.apart key taken old s c.workers_are_answered.ensures.picked (c.rules_are_lawful.ensures key.graphs s.suits.is_key.valid.valid) none w first.1.asked first.1.is_asked)
