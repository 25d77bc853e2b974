use Rattle.std.proofs.Common.{◌≡◌, ◌++◌, take}
use Rattle.pisdf_model.specs.Hold.{in_line}
use Rattle.audit_job.proofs.reading.push_lists.Given as goal

abbrev pub invariant-loop-tokens : goal.invariant-loop-tokens
invariant-loop-tokens l = l.line.items ≡ l.initial.line.items ++ in_line (take l.tokens-index l.lists)
