use Rattle.firing_board.proofs.OfTable.Beginnings.{first_calls, none_first}
use Rattle.firing_board.proofs.table.begins.begins_with.Goals as goal

pub returns-else-offer-eq0 : goal.returns-else-offer-eq0
returns-else-offer-eq0 c = first_calls c.args.job.now c.requires c.rows_are_asked.ensures.begin (none_first c.args.job.now c.requires 0 c.in-Some.offer c.in-Some.ensures c.if-offer-eq0.false)

pub returns-in-None : goal.returns-in-None
returns-in-None c = first_calls c.args.job.now c.requires c.rows_are_asked.ensures.begin (c.in-None.ensures 0)
