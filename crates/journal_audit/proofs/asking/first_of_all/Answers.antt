use Rattle.journal_audit.proofs.AskedFirst.{best_is, none_is}
use Rattle.journal_audit.proofs.asking.first_of_all.Goals as goal

pub returns-in-Some : goal.returns-in-Some
returns-in-Some c = λ key m so differ.
    best_is c.args.graphs.now c.args.rows.now key m so differ c.args.worker c.args.calls c.in-Some.asked (c.in-Some.ensures key m so)

pub returns-in-None : goal.returns-in-None
returns-in-None c = λ key m so differ.
    none_is c.args.graphs.now c.args.rows.now key m so differ c.args.worker c.args.calls (c.in-None.ensures key m so)
