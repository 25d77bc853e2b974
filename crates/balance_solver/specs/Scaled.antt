-- Two groups made one.
use Rattle.std.specs.Prelude.{◌≡◌, ℕ, ◌*◌, ◌<◌, ◌≤◌, ◌==◌, List, length, slice_index, if◌then◌else◌}
use Rattle.sdf_level.specs.Lists.{occurrences}
use Rattle.sdf_level.specs.Groups.{AreUnited}
use Rattle.sdf_level.specs.Balance.{base_entry_limit}

-- what the entry of an actor is multiplied by that stands so often in a list
abbrev pub scaled_by : ℕ → ℕ → ℕ
scaled_by k times = if k == 0 then 1 else times

-- the entries of these actors are multiplied, and the others as they were
pub record AreScaled (q q' actors : List ℕ) (times : ℕ) : Type 0 where
  pub entries : (a : ℕ) → a < length q → slice_index q' a ≡ slice_index q a * scaled_by (occurrences a actors) times
  pub within : (a : ℕ) → a < length q → slice_index q a ≤ base_entry_limit → slice_index q' a ≤ base_entry_limit

-- the entry of one of these actors would pass the limit
abbrev pub HasTooLarge : List ℕ → List ℕ → ℕ → Type 0
HasTooLarge q actors times = (a : ℕ) × (a < length q) × (1 ≤ occurrences a actors) × (base_entry_limit < slice_index q a * times)

-- what an actor of this group is multiplied by
abbrev pub factor : ℕ → ℕ → ℕ → ℕ → ℕ → ℕ
factor into from x y g = if g == into then x else (if g == from then y else 1)

-- the entries of both groups are multiplied, and they are one
pub record IsScaled (group q group' q' : List ℕ) (into from x y : ℕ) : Type 0 where
  pub one_each : length group ≡ length q
  pub entries : (a : ℕ) → a < length q → slice_index q' a ≡ slice_index q a * factor into from x y (slice_index group a)
  pub within : (a : ℕ) → a < length q → slice_index q a ≤ base_entry_limit → slice_index q' a ≤ base_entry_limit
  pub united : AreUnited group group' into from

-- some entry would pass the limit
abbrev pub IsTooLarge : List ℕ → List ℕ → ℕ → ℕ → ℕ → ℕ → Type 0
IsTooLarge group q into from x y = (a : ℕ) × (a < length q) × (base_entry_limit < slice_index q a * factor into from x y (slice_index group a))
