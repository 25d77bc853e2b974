use Rattle.std.proofs.Common.{◌++◌, arith, ap, sym, ◌∙◌, string_bytes}
use Rattle.std.proofs.lemmas.List.{append-nil}
use Rattle.pisdf_program.proofs.Rows.{no_lines}
use Rattle.pisdf_program.proofs.line.left_lines.Goals as goal

pub returns : goal.returns
returns c =
    let text = string_bytes c.loop-input.text in
    sym (append-nil text) ∙ ap (λ r. text ++ r) (sym (no_lines c.loop-input.input c.args.inputs.now c.args.left.now (omega arith)))
    ∙ c.loop-input.invariant
