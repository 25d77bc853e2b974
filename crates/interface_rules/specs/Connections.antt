-- The components that links make, each with a number that its actors share.
use Rattle.std.specs.Prelude.{◌≡◌, ℕ, ◌<◌, ◌↔◌, List, [], ◌∷◌, ◌++◌, length, slice_index}
use Rattle.sdf_level.specs.Components.{AreConnected}
use Rattle.sdf_level.specs.declared.link.Link.{Link}

-- n actors have one number exactly where these links connect them
pub record AreGrouped (n : ℕ) (links : List Link) (group : List ℕ) : Type 0 where
  pub one_each : length group ≡ n
  pub below : (a : ℕ) → a < n → slice_index group a < n
  pub same : (a b : ℕ) → a < n → b < n → (slice_index group a ≡ slice_index group b) ↔ AreConnected links a b

-- with one link more, these are the groups
abbrev pub Connects : ℕ → Link → List ℕ → List ℕ → Type 0
Connects n link group group' = (links : List Link) → AreGrouped n links group → AreGrouped n (links ++ link ∷ []) group'
