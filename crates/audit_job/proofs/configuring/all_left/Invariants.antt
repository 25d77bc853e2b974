use Rattle.std.proofs.Common.{◌≡◌, ◌≤◌, List, length, take, Some}
use Rattle.job_rules.specs.Items.{left_from}
use Rattle.pisdf_meaning.specs.Configuring.{Configuration}
use Rattle.audit_job.specs.Marks.{answers}
use Rattle.audit_job.proofs.configuring.all_left.Given as goal

abbrev pub invariant-loop-item : goal.invariant-loop-item
invariant-loop-item l = (cs : List Configuration) → l.count ≤ length cs → left_from (answers l.marks) 0 (take l.item cs) ≡ Some l.left.items
