use Rattle.std.proofs.Common.{◌≤◌, ◌*◌, arith}
use Rattle.quiescent_driver.proofs.Groups.{within_run}
use Rattle.quiescent_driver.proofs.unfolded.iterations_in.Goals as goal

pub overflow_mul-result : goal.overflow_mul-result
overflow_mul-result c = let le = within_run c.args.iterations c.args.times c.args.groups c.requires.within in omega (arith, le, c.ranges.iterations)

pub returns-clause-within : goal.returns-clause-within
returns-clause-within c = within_run c.args.iterations c.args.times c.args.groups c.requires.within
