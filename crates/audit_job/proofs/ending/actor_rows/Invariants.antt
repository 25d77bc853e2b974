use Rattle.std.proofs.Common.{◌≡◌}
use Rattle.pisdf_meaning.specs.Running.{traces_below}
use Rattle.audit_job.specs.Ending.{traces_of}
use Rattle.audit_job.specs.Marks.{answers}
use Rattle.audit_job.proofs.ending.actor_rows.Given as goal

abbrev pub invariant-loop-turn : goal.invariant-loop-turn
invariant-loop-turn l = l.rows.items ≡ traces_below (traces_of l.places (answers l.marks)) l.turn
