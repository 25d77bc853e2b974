use Rattle.std.proofs.Common.{◌*◌, length, arith}
use Rattle.std.specs.Prelude.{pos}
use Rattle.std.proofs.lemmas.List.FromFn.{fill_by_all}
use Rattle.kernel_gate.specs.Tokens.{token}
use Rattle.kernel_set.proofs.rearranged.write_firsts.Goals as goal

pub returns : goal.returns
returns c =
    fill_by_all (λ n. token c.args.x.now (n * c.args.run)) c.loop-n.o (length c.args.o.now) (pos 0) c.loop-n.auto.o (λ k h. c.loop-n.invariant k (omega arith))
