use Rattle.std.proofs.Common.{◌≡◌, ◌++◌, map, take}
use Rattle.graph_reader.specs.Lent.{lent}
use Rattle.graph_reader.proofs.names.lend_names.Given as goal

abbrev pub invariant-loop-item : goal.invariant-loop-item
invariant-loop-item g l = lent l.names.items ≡ lent l.initial.names.items ++ map g.T.Named.named (take l.item-index l.items)
