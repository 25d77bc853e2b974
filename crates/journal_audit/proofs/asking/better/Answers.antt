use Rattle.std.proofs.Common.{Option, Some, sym, ap, ◌∙◌}
use Rattle.journal_audit.specs.Asking.{better}
use Rattle.journal_audit.specs.declared.table.Asked.{Asked}
use Rattle.journal_audit.proofs.asking.better.Goals as goal

pub returns-in-Some-Some : goal.returns-in-Some-Some
returns-in-Some-Some c = λ graphs key m calls so.
    let P : Asked → Option Asked = λ a. Some a in
    ap P (c.first_of_two.ensures graphs key m calls so) ∙ (λ x. better key m calls c.args.rows.now (sym c.in-Some-Some.is-0 x) (sym c.in-Some-Some.is-1 x))
