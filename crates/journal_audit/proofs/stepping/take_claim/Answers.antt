use Rattle.std.proofs.Common.{◌≡◌, Option, Some, List, refl, sym, ap, ◌∙◌}
use Rattle.std.specs.Cmp.{unsigned_Decides}
use Rattle.std.proofs.lemmas.Slice.Eq.{slice_eq-Decides}
use Rattle.journal_audit.specs.Stepping.{ClaimLineIs}
use Rattle.journal_audit.specs.Table.{row_at}
use Rattle.journal_audit.specs.declared.table.Row.{Row}
use Rattle.journal_audit.proofs.Rows.{in_slot}
use Rattle.journal_audit.proofs.Speaking.{not_false}
use Rattle.journal_audit.proofs.stepping.take_claim.Goals as goal

pub returns : goal.returns
returns c =
    let rows = c.args.replay.now.rows.items in
    let k = c.args.run.row in
    let there : row_at rows k ≡ Some c.row_at.result.now = sym (ap (λ (rs : List (Option Row)). row_at rs k) c.as_slice.ensures.value) ∙ c.row_at.ensures in
    let d = slice_eq-Decides unsigned_Decides c.args.line.now c.as_bytes.result.now _ refl in
    let same = d.0 (not_false _ (sym c.ne.ensures ∙ c.if-ne.false)) in (
      in_slot (ClaimLineIs c.args.number c.args.worker c.args.run.item c.args.line.now) (row_at rows k) c.row_at.result.now there
          (λ graphs workers job. same ∙ (c.as_bytes.ensures.value ∙ c.in_ok-right.ensures graphs workers job)),
      c.enter.ensures,
    )
