use Rattle.std.proofs.Common.{ap, ◌∙◌, sym, rules, FitsSigned, w64}
use Rattle.std.specs.Prelude.{Ok}
use Rattle.std.proofs.lemmas.Int.{to_z-of_z}
use Rattle.kernel_set.specs.Written.{alone}
use Rattle.kernel_set.proofs.Steps.{only_written}
use Rattle.kernel_set.proofs.sums.write_token.Goals as goal

pub returns-in-Ok : goal.returns-in-Ok
returns-in-Ok c =
    let y : FitsSigned w64 c.in-Ok.y = search rules in
    ap alone c.in-Ok.is ∙ ap Ok (sym (rw (to_z-of_z w64 c.in-Ok.y y) (only_written c.args.o.now c.in-Ok.y c.requires)))
