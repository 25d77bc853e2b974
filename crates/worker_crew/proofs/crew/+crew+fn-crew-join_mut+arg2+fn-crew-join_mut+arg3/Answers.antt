use Rattle.std.proofs.Common.{rules, ℕ, ◌/◌, ◌<◌, length, sym, subst, arith}
use denote.Exit.{no}
use denote.Param.{param}
use denote.Param.Send.{IsSync, arg_send, param_send}
use Rattle.board_lock.specs.Passes.{first_part, second_part}
use Rattle.worker_crew.specs.Passes.{HasSeenOver}
use Rattle.worker_crew.specs.Worked.{HasWorked}
use Rattle.worker_crew.proofs.Halving.{both_over, both_worked}
use Rattle.worker_crew.proofs.Sending.{captures_send}
use Rattle.worker_crew.proofs.crew.+crew+fn-crew-join_mut+arg2+fn-crew-join_mut+arg3.Goals as goal

pub join_mut-requires-send-F : goal.join_mut-requires-send-F
join_mut-requires-send-F g t c κs within =
    let k : IsSync (param 0 g.row.K) = search (rules, c) parts 8 in
    let r : IsSync (param 1 g.row.R) = search (rules, c) parts 8 in
    param_send 1 _ (arg_send _ no _ (captures_send g.row.K g.row.R k r _ _ _ _ _ _ _ _ _ _ _))

pub returns-clause-worked : goal.returns-clause-worked
returns-clause-worked g t c =
    let p = c.args.pass.known in
    let a = c.full.result.known in
    let b = c.full-2.result.known in
    let half : ℕ = c.count-half.result / 2 in
    let first : HasWorked (first_part half p) a = search rules in
    let second : HasWorked (second_part half p) b = search rules in
    let many = c.if-count-lt2.false in
    let one = c.count.ensures in
    let other = c.count-half.ensures in
    let some : 0 < half = omega arith in
    let less : half < length p.own = omega arith in
    subst (HasWorked p) (sym c.join.ensures.known) (both_worked p a b half some less first second)

pub returns-clause-over : goal.returns-clause-over
returns-clause-over g t c =
    let p = c.args.pass.known in
    let a = c.full.result.known in
    let b = c.full-2.result.known in
    let half : ℕ = c.count-half.result / 2 in
    let first : HasWorked (first_part half p) a = search rules in
    let second : HasWorked (second_part half p) b = search rules in
    let first_over : HasSeenOver a = search rules in
    let second_over : HasSeenOver b = search rules in
    let many = c.if-count-lt2.false in
    let one = c.count.ensures in
    let other = c.count-half.ensures in
    let some : 0 < half = omega arith in
    let less : half < length p.own = omega arith in
    subst HasSeenOver (sym c.join.ensures.known) (both_over p a b half some less first second first_over second_over)
