use Rattle.std.proofs.Common.{◌≡◌, length, take}
use Rattle.pisdf_model.specs.Hold.{in_line}
use Rattle.job_preparing.proofs.asking.token_count.Given as goal

abbrev pub invariant-loop-list : goal.invariant-loop-list
invariant-loop-list l = l.count ≡ length (in_line (take l.list-index l.lists))
