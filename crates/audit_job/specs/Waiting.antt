-- For how many edges a node waits.
use Rattle.std.specs.Prelude.{◌≡◌, ℕ, ◌+◌, ◌<◌, ◌==◌, not, ◌&&◌, Bool, true, false, List, [], ◌∷◌, length, slice_index, if◌then◌else◌}
use Rattle.sdf_level.specs.declared.single_rate.Edge.{Edge}

-- how many edges lead into a node from nodes of which this doesn't hold
abbrev pub waiting : List Edge → (ℕ → Bool) → ℕ → ℕ
waiting [] done n = 0
waiting (e ∷ edges) done n = (if (e.head == n) && not (done e.tail) then 1 else 0) + waiting edges done n

-- how many edges lead from one node into another
abbrev pub between : List Edge → ℕ → ℕ → ℕ
between [] tail n = 0
between (e ∷ edges) tail n = (if (e.head == n) && (e.tail == tail) then 1 else 0) + between edges tail n

-- how many edges lead from one node into another, where these are given now
abbrev pub less_by : Bool → List Edge → ℕ → ℕ → ℕ
less_by true edges tail n = between edges tail n
less_by false edges tail n = 0

-- nodes wait for so many edges less
pub record WaitsFor (less : ℕ → ℕ) (old new : List ℕ) : Type 0 where
  pub many : length new ≡ length old
  pub each : (n : ℕ) → n < length old → slice_index new n + less n ≡ slice_index old n
