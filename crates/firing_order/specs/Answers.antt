-- What is said of the counts left.
use Rattle.std.specs.Prelude.{ℕ, List}
use Rattle.firing_order.specs.declared.stuck.Stuck.{Stuck}
use Rattle.firing_order.specs.declared.stuck.Stuck.TheVariants.{Left, Memory}

-- where these counts are left, this holds of them
abbrev pub IfLeft : (List ℕ → Type 0) → Stuck → Type 0
IfLeft P (Left left) = P left
IfLeft P Memory = Unit {0}
