use Rattle.std.proofs.Common.{◌≡◌, ℕ, List, length, sym, ap, ◌∙◌, subst}
use Rattle.std.specs.Ordering.{is_lt, ordering_then}
use Rattle.journal_audit.specs.Standing.{IsOpenAt}
use Rattle.journal_audit.proofs.ComparedPaths.{paths_order}
use Rattle.journal_audit.proofs.AskedRows.{equal, greater, less, open_at, same_length}
use Rattle.journal_audit.proofs.asking.goes_before.Goals as goal

pub returns-in-Less : goal.returns-in-Less
returns-in-Less c = λ graphs key m calls so.
    less c.args.rows.now c.args.one c.args.other c.row_at-row.result.now c.row_at-beside.result.now c.row_at-row.ensures c.row_at-beside.ensures key m calls (sym c.compare_early-early.ensures ∙ c.in-Less.is)

pub returns-in-Greater : goal.returns-in-Greater
returns-in-Greater c = λ graphs key m calls so.
    greater c.args.rows.now c.args.one c.args.other c.row_at-row.result.now c.row_at-beside.result.now c.row_at-row.ensures c.row_at-beside.ensures key m calls (sym c.compare_early-early.ensures ∙ c.in-Greater.is)

pub compare_paths-paths-requires : goal.compare_paths-paths-requires
compare_paths-paths-requires c =
    let s = c.requires.stands in
    let rows = c.args.rows.now in
    let row = c.row_at-row.result.now in
    let beside = c.row_at-beside.result.now in
    let one = open_at s.0 rows s.1 s.2 s.3 c.args.one.row row c.row_at-row.ensures in
    let other = open_at s.0 rows s.1 s.2 s.3 c.args.other.row beside c.row_at-beside.ensures in
    let long = same_length rows c.args.one c.args.other row beside c.row_at-row.ensures c.row_at-beside.ensures (sym c.compare_early-early.ensures ∙ c.in-Equal.is) in
    (s.0, s.1, s.2, s.3, subst (IsOpenAt s.2) (sym c.items.ensures) one, subst (IsOpenAt s.2) (sym c.items-in-Equal.ensures) other, ap (λ (p : List ℕ). length p) c.items.ensures ∙ (long ∙ ap (λ (p : List ℕ). length p) (sym c.items-in-Equal.ensures)))

pub returns-in-Equal : goal.returns-in-Equal
returns-in-Equal c = λ graphs key m calls so.
    let rows = c.args.rows.now in
    let row = c.row_at-row.result.now in
    let beside = c.row_at-beside.result.now in
    let one = open_at graphs rows key m so c.args.one.row row c.row_at-row.ensures in
    let other = open_at graphs rows key m so c.args.other.row beside c.row_at-beside.ensures in
    let early = sym c.compare_early-early.ensures ∙ c.in-Equal.is in
    let paths : c.compare_paths-paths.result ≡ paths_order key m row.place beside.place =
    c.compare_paths-paths.ensures graphs key m so (subst (IsOpenAt m) (sym c.items.ensures) one) (subst (IsOpenAt m) (sym c.items-in-Equal.ensures) other) ∙ (λ x. paths_order key m (c.items.ensures x) (c.items-in-Equal.ensures x)) in
    c.is_lt.ensures
    ∙ (ap is_lt (c.then.ensures ∙ (λ x. ordering_then (paths x) (c.cmp-numbers.ensures x)))
    ∙ equal rows c.args.one c.args.other row beside c.row_at-row.ensures c.row_at-beside.ensures key m calls early)
