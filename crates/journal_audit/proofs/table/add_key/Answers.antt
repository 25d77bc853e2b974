use Rattle.std.proofs.Common.{◌≡◌, ℕ, List, Option, length, sym, subst, arith}
use Rattle.journal_audit.specs.Table.{IsVacant, SameRows}
use Rattle.journal_audit.specs.declared.table.Row.{Row}
use Rattle.journal_audit.proofs.Rows.{pushed_vacant}
use Rattle.journal_audit.proofs.table.add_key.Goals as goal

pub returns : goal.returns
returns c =
    let rows = c.args.rows.now.items in
    let P : ℕ → List (Option Row) → Type 0 = λ k new. IsVacant new k × SameRows rows new in
    let o = c.args.rows.now.ok.0 in
    let e = c.len-key.ensures in
    let same : length rows ≡ c.len-key.result = omega arith in
    subst (λ (k : ℕ). P k c.push.new.self.items) same (subst (P (length rows)) (sym c.in_ok-push.ensures.items) (pushed_vacant rows))
