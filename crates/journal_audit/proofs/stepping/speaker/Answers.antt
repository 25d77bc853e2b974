use Rattle.std.proofs.Common.{◌≡◌, ⊎_elim, ◌<◌, ◌≤◌, None, ap, ◌∙◌, subst, arith}
use Rattle.std.specs.Cmp.{unsigned_Decides}
use Rattle.std.proofs.lemmas.Bool.{cases_lt}
use Rattle.journal_audit.specs.Stepping.{Begins, line_start}
use Rattle.journal_audit.proofs.Speakers.{at_any, begins, begins_not}
use Rattle.journal_audit.proofs.stepping.speaker.Goals as goal

pub returns-then-starts_with : goal.returns-then-starts_with
returns-then-starts_with c =
    let running = c.args.running.now in
    let w = c.loop-worker.worker in
    let is = c.as_bytes.ensures.value ∙ (c.in_ok-start.ensures ∙ ap (line_start c.args.number w) (at_any running w _ None c.loop-worker-test.true)) in
    (c.loop-worker-test.true, begins _ unsigned_Decides c.args.number running c.args.line.now w c.as_bytes.result.now is c.starts_with.result c.starts_with.ensures.value c.if-starts_with.true)

pub loop-worker-preserved : goal.loop-worker-preserved
loop-worker-preserved c = λ v less.
    let running = c.args.running.now in
    let w = c.loop-worker.worker in
    let is = c.as_bytes.ensures.value ∙ (c.in_ok-start.ensures ∙ ap (line_start c.args.number w) (at_any running w _ None c.loop-worker-test.true)) in
    ⊎_elim
    (λ (l : v < w). c.loop-worker.invariant v l)
    (λ (ge : w ≤ v).
    let same : v ≡ w = omega arith in
    λ speaks. begins_not _ unsigned_Decides c.args.number running c.args.line.now w c.as_bytes.result.now is c.starts_with.result c.starts_with.ensures.value c.if-starts_with.false
    (subst (Begins c.args.number running c.args.line.now) same speaks))
    (cases_lt v w)

pub returns : goal.returns
returns c = λ w less. let past = c.loop-worker-test.false in c.loop-worker.invariant w (omega arith)
