-- What a node that is placed changes for the nodes after it.
use Rattle.std.specs.Prelude.{◌≡◌, ℕ, ◌+◌, ◌<◌, ◌⊎◌, ◌↔◌, max, List, Contains, length, slice_index, nat_lt, if◌then◌else◌}
use Rattle.sdf_level.specs.Lists.{occurrences}

-- the places at which a list has 0
abbrev pub ArePlacesOfZero : List ℕ → List ℕ → Type 0
ArePlacesOfZero counts places = (n : ℕ) → Contains places n ↔ ((n < length counts) × (slice_index counts n ≡ 0))

-- Each of these waits for one node less for each time that it stands there, is ready at that end or later,
-- and is a candidate where it waits for none.
pub record Releases (heads : List ℕ) (end : ℕ) (waiting ready candidates waiting' ready' candidates' : List ℕ) : Type 0 where
  pub waiting_long : length waiting' ≡ length waiting
  pub waiting_each : (n : ℕ) → slice_index waiting' n + occurrences n heads ≡ slice_index waiting n
  pub ready_long : length ready' ≡ length ready
  pub ready_each : (n : ℕ) → slice_index ready' n ≡ max (slice_index ready n) (if nat_lt 0 (occurrences n heads) then end else 0)
  pub candidates_each : (n : ℕ) → Contains candidates' n ↔ (Contains candidates n ⊎ (Contains heads n × (slice_index waiting' n ≡ 0)))
