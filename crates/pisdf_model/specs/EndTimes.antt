-- How often ends stand at places.
use Rattle.std.specs.Prelude.{ℕ, Option, Some, None}
use Rattle.std.specs.BTreeMap.{BTreeMap, get}
use Rattle.std.specs.Map.{count_at}
use Rattle.std.specs.Option.{option_cmp}
use Rattle.std.specs.Ordering.{nat_cmp, ordering_then}
use Rattle.std.specs.declared.cmp.Ordering.{Ordering}
use Rattle.pisdf_model.specs.declared.fifo.End.{End}
use Rattle.pisdf_model.specs.declared.fifo.End.TheVariants.{Interface, Port}

-- an end's actor, if it is at a port, and its number there
abbrev pub place_of : End → Option ℕ × ℕ
place_of (Interface i) = (None, i)
place_of (Port a p) = (Some a, p)

abbrev pub place_cmp : Option ℕ × ℕ → Option ℕ × ℕ → Ordering
place_cmp x y = ordering_then (option_cmp nat_cmp x.0 y.0) (nat_cmp x.1 y.1)

abbrev pub times_at : BTreeMap (Option ℕ × ℕ) ℕ → Option ℕ × ℕ → ℕ
times_at times place = count_at (get place_cmp times) place
