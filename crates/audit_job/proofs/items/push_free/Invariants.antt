use Rattle.std.proofs.Common.{◌≡◌, ◌++◌}
use Rattle.std.specs.Prelude.{replicate}
use Rattle.audit_job.specs.declared.answer.Mark.TheVariants.{Free}
use Rattle.audit_job.proofs.items.push_free.Given as goal

-- the free items so far
abbrev pub invariant-loop-item : goal.invariant-loop-item
invariant-loop-item l = l.marks.items ≡ l.initial.marks.items ++ replicate l._item Free
