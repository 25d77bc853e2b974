use Rattle.std.proofs.Common.{◌+◌, true, sym, ap, ◌∙◌, subst, arith}
use Rattle.one_job.specs.Ready.{put, is_child_at, AreStarted}
use Rattle.one_job.proofs.StartReady.{started_in, started_out}
use Rattle.one_job.proofs.ready.put_first.Goals as goal
use Rattle.one_job.proofs.ready.put_first.Goals.{then-waiting-n-eq0, else-waiting-n-eq0}

pub loop-n-preserved : goal.loop-n-preserved
loop-n-preserved c =
    let child = is_child_at c.args.nodes.now c.args.kinds.now in
    let waiting = c.args.waiting.now in
    let n = c.loop-n.n in
    elim c.if-waiting-n-eq0.branch [
      | then-waiting-n-eq0 w ↦
          subst (AreStarted child waiting (n + 1) c.args.ready.now) (sym (w.ready-is ∙ (w.insert.ensures ∙ ap (λ b. put c.loop-n.ready b n true) w.is_child.ensures)))
          (started_in child waiting n c.args.ready.now c.loop-n.ready c.loop-n.invariant
          (let one = (c.loop-n.invariant.ranked (child n)).wide in let wide = c.requires.wide (child n) in let below = c.loop-n-test.true in omega arith) w.if-waiting-n-eq0.true)
      | else-waiting-n-eq0 w ↦
          subst (AreStarted child waiting (n + 1) c.args.ready.now) (sym w.ready-is)
          (started_out child waiting n c.args.ready.now c.loop-n.ready c.loop-n.invariant w.if-waiting-n-eq0.false)
    ]
