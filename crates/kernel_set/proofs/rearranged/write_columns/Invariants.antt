use Rattle.std.proofs.Common.{◌≡◌, ◌*◌, take}
use Rattle.std.specs.List.{flat_map}
use Rattle.kernel_gate.specs.Rearranged.{column}
use Rattle.kernel_gate.specs.Tokens.{places}
use Rattle.kernel_set.proofs.rearranged.write_columns.Given as goal

abbrev pub invariant-loop-c : goal.invariant-loop-c
invariant-loop-c l = take (l.c * l.rows) l.o ≡ flat_map (column l.x l.rows l.cols) (take l.c (places l.cols))
