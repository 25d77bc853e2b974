use Rattle.std.proofs.Common.{drop}
use Rattle.one_job.specs.Ready.{is_child_at, Releases}
use Rattle.one_job.proofs.ready.release.Given as goal

abbrev pub invariant-loop-port : goal.invariant-loop-port
invariant-loop-port l = Releases (is_child_at l.nodes l.kinds) l.edges l.ports (drop l.port-index l.ports) l.initial.waiting l.waiting l.initial.ready l.ready
