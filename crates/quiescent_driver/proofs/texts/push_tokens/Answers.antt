use Rattle.std.proofs.Common.{◌++◌, arith, ap, sym, ◌∙◌}
use Rattle.std.proofs.lemmas.List.{append-nil}
use Rattle.quiescent_driver.proofs.Rows.{no_rows}
use Rattle.quiescent_driver.proofs.texts.push_tokens.Goals as goal

pub returns : goal.returns
returns c =
    let text = c.loop-output.text.items in
    sym (append-nil text) ∙ ap (λ r. text ++ r) (sym (no_rows c.args.number c.loop-output.output c.args.outputs.now c.args.lists.now (omega arith)))
    ∙ c.loop-output.invariant
