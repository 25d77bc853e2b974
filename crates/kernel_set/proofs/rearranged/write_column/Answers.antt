use Rattle.std.proofs.Common.{◌*◌, ◌+◌, length, arith}
use Rattle.std.specs.Prelude.{pos}
use Rattle.std.proofs.lemmas.List.FromFn.{fill_by_all}
use Rattle.kernel_gate.specs.Tokens.{token}
use Rattle.kernel_set.proofs.rearranged.write_column.Goals as goal

pub returns : goal.returns
returns c =
    fill_by_all (λ a. token c.args.x.now (a * c.args.cols + c.args.c)) c.loop-a.o (length c.args.o.now) (pos 0) c.loop-a.auto.o (λ k h. c.loop-a.invariant k (omega arith))
