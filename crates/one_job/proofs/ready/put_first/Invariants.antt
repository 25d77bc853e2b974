use Rattle.one_job.specs.Ready.{is_child_at, AreStarted}
use Rattle.one_job.proofs.ready.put_first.Given as goal

abbrev pub invariant-loop-n : goal.invariant-loop-n
invariant-loop-n l = AreStarted (is_child_at l.nodes l.kinds) l.waiting l.n l.initial.ready l.ready
