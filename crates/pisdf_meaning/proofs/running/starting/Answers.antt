use Rattle.std.proofs.Common.{◌<◌, ◌≤◌, ⊎_elim, [], arith}
use Rattle.std.proofs.lemmas.Bool.{cases_lt}
use Rattle.std.proofs.lemmas.List.{get_or_past}
use Rattle.sdf_level.specs.Lists.{lists_of}
use Rattle.pisdf_meaning.proofs.running.starting.Goals as goal

pub returns-clause-rows : goal.returns-clause-rows
returns-clause-rows c =
    let empty = c.in_ok-rows.ensures in
    λ b. ⊎_elim
    (λ (inside : b < c.args.actors). empty.each b inside)
    (λ (past : c.args.actors ≤ b). get_or_past (lists_of c.in_ok-rows.rows.items) b [] (let long = empty.one_each in omega arith))
    (cases_lt b c.args.actors)
