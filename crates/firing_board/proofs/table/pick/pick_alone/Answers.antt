use Rattle.firing_board.proofs.OfTable.AskedAlone.{alone_call, alone_none, alone_work}
use Rattle.firing_board.proofs.table.pick.pick_alone.Goals as goal

pub returns-in-Some-first_work : goal.returns-in-Some-first_work
returns-in-Some-first_work c = alone_work c.args.worker c.args.rows.now c.requires c.index-rows-0.result c.index-rows-0.is c.in-Some.row c.in-Some.is c.in-Some-first_work.item c.in-Some-first_work.ensures

pub returns-in-Some-pick_call : goal.returns-in-Some-pick_call
returns-in-Some-pick_call c = alone_call c.args.worker c.args.rows.now c.requires c.index-rows-0.result c.index-rows-0.is c.in-Some.row c.in-Some.is c.in-None-first_work.ensures c.in-Some-pick_call.offer c.in-Some-pick_call.ensures

pub returns-in-None-pick_call : goal.returns-in-None-pick_call
returns-in-None-pick_call c = alone_none c.args.worker c.args.rows.now c.requires c.index-rows-0.result c.index-rows-0.is c.in-Some.row c.in-Some.is c.in-None-first_work.ensures c.in-None-pick_call.ensures
