use Rattle.std.proofs.Common.{◌≡◌, Ok, true, rules}
use Rattle.quiescent_driver.proofs.Ending.{ends_here}
use Rattle.board_calls.proofs.iterations.outcome_of.Goals as goal

pub returns-in_ok-outcome-in-Ok-true : goal.returns-in_ok-outcome-in-Ok-true
returns-in_ok-outcome-in-Ok-true c =
    let is : c.args.ended ≡ Ok true = first_of (cc, search rules) in
    ends_here c.args.board c.in_ok-outcome-in-Ok-true.field-0 (c.requires.over is) c.in_ok-outcome-in-Ok-true.ensures
