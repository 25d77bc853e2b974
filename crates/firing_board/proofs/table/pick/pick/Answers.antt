use Rattle.std.proofs.Common.{true, false, Some, None}
use Rattle.firing_board.proofs.OfTable.AskedFirst.{asked_so}
use Rattle.firing_board.proofs.table.pick.pick.Goals as goal

pub returns-in-Some : goal.returns-in-Some
returns-in-Some c = λ v is. record { asked = c.in-Some.work; run_is = c.run_of.ensures; is_asked = asked_so c.args.worker false c.args.rows.now (Some c.in-Some.work) c.in-Some.ensures v is }

pub returns-in-Some-best_of : goal.returns-in-Some-best_of
returns-in-Some-best_of c = λ v is.
    let rows = c.args.rows.now in
    let call = c.in-Some-best_of.call in
    (asked_so c.args.worker false rows None c.in-None.ensures v is, record { asked = call; run_is = c.run_of-in-Some-best_of.ensures; is_asked = asked_so c.args.worker true rows (Some call) c.in-Some-best_of.ensures v is })

pub returns-in-None-best_of : goal.returns-in-None-best_of
returns-in-None-best_of c = λ v is.
    let rows = c.args.rows.now in
    (asked_so c.args.worker false rows None c.in-None.ensures v is, asked_so c.args.worker true rows None c.in-None-best_of.ensures v is)
