use Rattle.std.proofs.Common.{◌≡◌, take, vec_capacity}
use Rattle.pisdf_model.specs.Hold.{in_line}
use Rattle.job_preparing.proofs.ending.in_line.Given as goal

abbrev pub invariant-loop-list : goal.invariant-loop-list
invariant-loop-list l = record {
  items : l.line.items ≡ in_line (take l.list-index l.state);
  capacity : vec_capacity l.line ≡ vec_capacity l.initial.line;
}
