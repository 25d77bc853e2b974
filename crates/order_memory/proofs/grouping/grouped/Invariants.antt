use Rattle.std.proofs.Common.{◌≡◌, length, take}
use Rattle.std.specs.List.{sum_by}
use Rattle.sdf_level.specs.Lists.{lists_of}
use Rattle.worker_mapping.specs.Neighbours.{AreAfter}
use Rattle.order_memory.proofs.grouping.grouped.Given as goal

-- the lists of the pairs so far
abbrev pub invariant-loop-pair : goal.invariant-loop-pair
invariant-loop-pair l = record {
  lists : AreAfter l.keys (take l.pair-index l.pairs) (lists_of l.lists.items);
  whole : sum_by length (lists_of l.lists.items) ≡ l.pair-index;
}
