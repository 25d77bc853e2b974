-- Sources and sinks at components.
use Rattle.std.specs.Prelude.{◌≡◌, ℕ, ◌<◌, List, slice_index}
use Rattle.sdf_level.specs.Links.{Outer}

-- the rate is positive, and the actor has this number of a component
pub record IsOfComponent (component : List ℕ) (number : ℕ) (link : Outer) : Type 0 where
  pub rate : 0 < link.rate
  pub here : slice_index component link.actor ≡ number
