use Rattle.std.proofs.Common.{◌≡◌, false}
use Rattle.std.specs.Prelude.{codes}
use Rattle.std.specs.Str.{bytes_eq}
use Rattle.param_expr.proofs.Numerals.{no_text_no_name, other_word}
use Rattle.param_expr.proofs.symbol.word.Goals as goal

pub returns-in-Err : goal.returns-in-Err
returns-in-Err c =
    let no_min : bytes_eq c.args.word.now (codes "min") ≡ false = cc in
    let no_max : bytes_eq c.args.word.now (codes "max") ≡ false = cc in
    other_word c.args.word.now no_min no_max (no_text_no_name c.args.word.now c.in-Err.ensures.cases.0)
