use Rattle.placement.specs.Placing.{all_in}
use Rattle.placement_checker.specs.Rows.{RowHas}
use Rattle.placement.proofs.Shut.{least_from_found}
use Rattle.placement.proofs.least.first_fit.Goals as goal

pub returns : goal.returns
returns c = least_from_found (RowHas c.args.sought.now.row.now) c.args.sought.now.size (all_in c.args.placed.now) c.args.start c.search.result c.requires.filled c.requires.blocked c.search.ensures
