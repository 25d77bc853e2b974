-- Rows that can be moved from a path stand within it.
use Rattle.std.proofs.Common.{◌≡◌, ℕ, true, List, [], ◌∷◌, ◌++◌, map, refl, sym, subst}
use Rattle.std.specs.List.{AllByRecursion}
use Rattle.firing_laws.specs.Moving.{AreMoved, GoesDown, under}
use Rattle.pisdf_meaning.specs.declared.outcome.TraceRow.{TraceRow}
use Rattle.unfold_rates.specs.Cut.{ends_or_goes_down}
use Rattle.unfold_rates.proofs.Within.{AllWithin, within_test}

down_test : (rest : List ℕ) → GoesDown rest → ends_or_goes_down rest ≡ true
down_test [] down = refl
down_test (b ∷ rest) down = rw down refl

below_within : (path : List ℕ) (below : List TraceRow) → AllByRecursion (λ (row : TraceRow). GoesDown row.path) below → AllWithin path (map (under path) below)
below_within path [] down = tt
below_within path (row ∷ below) down = (within_test path (path ++ row.path) record { rest = row.path; is = refl; down = down_test row.path down.0 }, below_within path below down.1)

-- rows that are moved stand within the path from which they are
pub moved_within : (path other : List ℕ) (rows moved : List TraceRow) → AreMoved path other rows moved → AllWithin path rows
moved_within path other rows moved are = let P : List TraceRow → Type 0 = λ r. AllWithin path r in subst P (sym are.rows_are) (below_within path are.below are.down)
