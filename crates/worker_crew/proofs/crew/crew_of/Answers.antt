use Rattle.std.proofs.Common.{rules, ℕ, ◌<◌, length, sym, subst, arith}
use Rattle.board_lock.specs.Passes.{first_part, second_part}
use Rattle.worker_crew.specs.Passes.{HasSeenOver}
use Rattle.worker_crew.specs.Worked.{HasWorked}
use Rattle.worker_crew.proofs.Halving.{both_over, both_worked}
use Rattle.worker_crew.proofs.crew.crew_of.Goals as goal

pub returns-clause-worked : goal.returns-clause-worked
returns-clause-worked g c =
    let p = c.args.pass.known in
    let a = c.crew-first.result.known in
    let b = c.work-others.result.known in
    let at : ℕ = c.max-threads.result in
    let first : HasWorked (first_part at p) a = search rules in
    let second : HasWorked (second_part at p) b = search rules in
    let some : 0 < at = omega arith in
    let less : at < length p.own = omega arith in
    subst (HasWorked p) (sym c.join.ensures.known) (both_worked p a b at some less first second)

pub returns-clause-over : goal.returns-clause-over
returns-clause-over g c =
    let p = c.args.pass.known in
    let a = c.crew-first.result.known in
    let b = c.work-others.result.known in
    let at : ℕ = c.max-threads.result in
    let first : HasWorked (first_part at p) a = search rules in
    let second : HasWorked (second_part at p) b = search rules in
    let first_over : HasSeenOver a = search rules in
    let second_over : HasSeenOver b = search rules in
    let some : 0 < at = omega arith in
    let less : at < length p.own = omega arith in
    subst HasSeenOver (sym c.join.ensures.known) (both_over p a b at some less first second first_over second_over)
