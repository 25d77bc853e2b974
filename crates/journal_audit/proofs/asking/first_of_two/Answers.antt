use Rattle.std.proofs.Common.{Bool, if◌then◌else◌, sym, ap, ◌∙◌}
use Rattle.journal_audit.specs.declared.table.Asked.{Asked}
use Rattle.journal_audit.proofs.asking.first_of_two.Goals as goal

pub returns-then-goes_before : goal.returns-then-goes_before
returns-then-goes_before c = λ graphs key m calls so.
    let P : Bool → Asked = λ b. if b then c.args.next else c.args.best in
    sym (ap P (sym (c.goes_before.ensures graphs key m calls so) ∙ c.if-goes_before.true))

pub returns-else-goes_before : goal.returns-else-goes_before
returns-else-goes_before c = λ graphs key m calls so.
    let P : Bool → Asked = λ b. if b then c.args.next else c.args.best in
    sym (ap P (sym (c.goes_before.ensures graphs key m calls so) ∙ c.if-goes_before.false))
