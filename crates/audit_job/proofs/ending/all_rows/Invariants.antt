use Rattle.std.proofs.Common.{◌≡◌, ℕ, ◌<◌, [], length, get_or}
use Rattle.pisdf_meaning.specs.Running.{traces_below}
use Rattle.sdf_level.specs.Lists.{lists_of}
use Rattle.audit_job.specs.Ending.{traces_at}
use Rattle.audit_job.specs.Marks.{answers}
use Rattle.audit_job.proofs.ending.all_rows.Given as goal

abbrev pub invariant-loop-actor : goal.invariant-loop-actor
invariant-loop-actor l = record {
  many : length l.all.items ≡ l.actor;
  each : (b : ℕ) → b < l.actor → get_or (lists_of l.all.items) b [] ≡ traces_below (traces_at l.nodes (answers l.marks) b) (get_or l.counts b 0);
}
