use Rattle.placement_checker.specs.Rows.{IsRowOf}
use Rattle.placement_checker.proofs.exclusion.Exclusion.write_row.Given as goal

-- the bits below f are written
abbrev pub invariant-loop-f : goal.invariant-loop-f
invariant-loop-f g l = IsRowOf (g.Self.Exclusion.excludes l.self) l.f l.e l.row
