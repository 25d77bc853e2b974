use Rattle.std.proofs.Common.{true, false}
use Rattle.board_rules.specs.Asking.{standing_of}
use Rattle.board_rules.specs.Legal.{state_after}
use Rattle.board_rules.proofs.Asking.{child_is_opened, work_is_picked}
use Rattle.board_rules.proofs.Known.{board_laws, known}
use Rattle.board_rules.proofs.Rows.{best_of_all, job_begins, none_offers, nothing_enabled}
use Rattle.board_rules.proofs.Standing.{mapped_so}
use Rattle.board_rules.specs.Keys.{rules, top_job}
use Rattle.job_rules.specs.Meant.{rank}
use Rattle.nested_jobs.proofs.Tabling.{claims}
use Rattle.board_rules.proofs.laws.rows_are_asked.Goals as goal

pub returns-clause-work : goal.returns-clause-work
returns-clause-work c = λ key taken table held w k row offer is kept all.
    let laws = board_laws key (c.job_laws.ensures key is) in
    let m = (state_after key taken).marks in
    let so = known key is laws taken kept.legal in
    work_is_picked key is laws m so w (mapped_so key is laws m so) offer.item row.place (standing_of key m false row offer) (best_of_all key is laws m so table kept.stands w false k row offer all)

pub returns-clause-child : goal.returns-clause-child
returns-clause-child c = λ key taken table held w k i j p way row offer is kept none all zeros at on.
    let laws = board_laws key (c.job_laws.ensures key is) in
    let m = (state_after key taken).marks in
    let so = known key is laws taken kept.legal in
    child_is_opened key is laws m so w (mapped_so key is laws m so) (none_offers key is laws m so table kept.stands w false none) offer.item i p row.place (standing_of key m true row offer) j way
    (best_of_all key is laws m so table kept.stands w true k row offer all) zeros at on

pub returns-clause-none : goal.returns-clause-none
returns-clause-none c = λ key taken table held a is kept no_work no_call.
    let laws = board_laws key (c.job_laws.ensures key is) in
    nothing_enabled key is laws (state_after key taken).marks (known key is laws taken kept.legal) table kept.stands no_work no_call a

pub returns-clause-begin : goal.returns-clause-begin
returns-clause-begin c = job_begins

pub returns-clause-opened : goal.returns-clause-opened
returns-clause-opened c = λ key taken table held w k l i j way row inner offer work later n is kept none all zeros at opened here free task.
    let laws = board_laws key (c.job_laws.ensures key is) in
    let m = (state_after key taken).marks in
    let so = known key is laws taken kept.legal in
    let on = claims (rules key) (rank key.graphs.graphs) laws.lawful (top_job key) later n opened.nested opened.stands l inner here i work free task in
    child_is_opened key is laws m so w (mapped_so key is laws m so) (none_offers key is laws m so table kept.stands w false none) offer.item i inner.place row.place (standing_of key m true row offer) j way
    (best_of_all key is laws m so table kept.stands w true k row offer all) zeros at (opened.enables on.0)
