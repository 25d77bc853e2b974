use Rattle.std.proofs.Common.{◌≡◌, length, take}
use Rattle.worker_mapping.proofs.Homes.{HaveHomes}
use Rattle.worker_mapping.proofs.mapping.homes.Given as goal

-- the entries so far have their homes
abbrev pub invariant-loop-entry : goal.invariant-loop-entry
invariant-loop-entry l = record {
  long : length l.home.items ≡ l.nodes;
  each : HaveHomes l.home.items (take l.entry-index l.entries);
}
