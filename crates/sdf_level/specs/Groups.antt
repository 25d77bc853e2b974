-- Disjoint groups of actors: for each actor the number of its group, and for each number a list of that group's actors.
use Rattle.std.specs.Prelude.{◌≡◌, ℕ, ◌<◌, ◌⊎◌, ◌==◌, List, [], length, slice_index, slice_index_or, if◌then◌else◌}
use Rattle.std.specs.List.{All}
use Rattle.sdf_level.specs.Lists.{occurrences, lists_of}
use Rattle.sdf_level.specs.declared.groups.Groups.{Groups}

-- of n actors each stands once in the list of its group, and in no other
pub record AreGroups (n : ℕ) (number : List ℕ) (lists : List (List ℕ)) : Type 0 where
  pub one_number : length number ≡ n
  pub one_list : length lists ≡ n
  pub below : (a : ℕ) → a < n → slice_index number a < n
  pub there : (g : ℕ) → g < n → All (λ a. a < n) (slice_index_or lists g [])
  pub each : (g a : ℕ) → g < n → a < n → occurrences a (slice_index_or lists g []) ≡ (if slice_index number a == g then 1 else 0)

abbrev pub IsGrouping : ℕ → Groups → Type 0
IsGrouping n groups = AreGroups n groups.number.items (lists_of groups.actors.items)

-- the number of an actor's group, once the groups g and h are one, with the number kept
abbrev pub united : ℕ → ℕ → ℕ → ℕ → ℕ
united g h kept x = if x == g then kept else (if x == h then kept else x)

-- two groups are made one, which has the number of one of them
pub record AreUnited (number number' : List ℕ) (g h : ℕ) : Type 0 where
  pub one_each : length number' ≡ length number
  pub kept : ℕ
  pub either : (kept ≡ g) ⊎ (kept ≡ h)
  pub each : (a : ℕ) → a < length number → slice_index number' a ≡ united g h kept (slice_index number a)

-- these actors have this number, and the others the number that they had
abbrev pub AreRenumbered : List ℕ → List ℕ → List ℕ → ℕ → Type 0
AreRenumbered number number' actors g = (a : ℕ) → a < length number → slice_index number' a ≡ (if occurrences a actors == 0 then slice_index number a else g)
