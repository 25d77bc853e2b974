use Rattle.placement_checker.proofs.Rows.{bit_set, bit_cleared, others_beside_set, others_beside_cleared}
use Rattle.placement_checker.proofs.row.put_bit.Goals as goal

pub returns-then-on-clause-put : goal.returns-then-on-clause-put
returns-then-on-clause-put c = bit_set c.args.row.now c.args.bit c.requires c.args.on c.if-on.true

pub returns-then-on-clause-others : goal.returns-then-on-clause-others
returns-then-on-clause-others c = others_beside_set c.args.row.now c.args.bit c.requires

pub returns-else-on-clause-put : goal.returns-else-on-clause-put
returns-else-on-clause-put c = bit_cleared c.args.row.now c.args.bit c.requires c.args.on c.if-on.false

pub returns-else-on-clause-others : goal.returns-else-on-clause-others
returns-else-on-clause-others c = others_beside_cleared c.args.row.now c.args.bit c.requires
