use Rattle.std.proofs.Common.{◌^◌, ◌<◌, List, Option, subst, arith}
use Rattle.journal_audit.specs.declared.table.Run.{Run}
use Rattle.journal_audit.specs.Stepping.{IsSpeaker}
use Rattle.journal_audit.proofs.Speaking.{nobody}
use Rattle.journal_audit.proofs.stepping.step.Goals as goal

pub step_worker-requires-clause-speaks : goal.step_worker-requires-clause-speaks
step_worker-requires-clause-speaks g c = subst (IsSpeaker c.args.number c.args.replay.now.running.items c.args.line.now) c.in-Some.is (subst (λ (rs : List (Option Run)). IsSpeaker c.args.number rs c.args.line.now c.in_ok-spoken.spoken) c.as_slice.ensures.value c.in_ok-spoken.ensures)

pub returns-in-None : goal.returns-in-None
returns-in-None g c = λ key taken r signed.
    let small : c.args.number < 2 ^ 32 = omega arith in
    nobody c.args.graphs.now key taken c.args.replay.now r (c.board_laws.ensures key r.keeps.is_key) c.lines_begin.ensures.begin c.lines_begin.ensures.tell c.args.number small c.args.line.now
    (subst (IsSpeaker c.args.number c.args.replay.now.running.items c.args.line.now) c.in-None.is (subst (λ (rs : List (Option Run)). IsSpeaker c.args.number rs c.args.line.now c.in_ok-spoken.spoken) c.as_slice.ensures.value c.in_ok-spoken.ensures))
