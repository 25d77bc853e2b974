use Rattle.std.proofs.Common.{◌≡◌, ◌+◌, ◌-◌, ◌≤◌, ◌++◌, length, take, vec_capacity}
use Rattle.one_job.proofs.stock.put_values.Given as goal

abbrev pub invariant-loop-value : goal.invariant-loop-value
invariant-loop-value l = record {
  items : l.list.items ≡ l.fn.list.items ++ take l.value-index l.values;
  room : length l.list.items + (length l.values - l.value-index) ≤ vec_capacity l.list;
  capacity : vec_capacity l.list ≡ vec_capacity l.fn.list;
}
