-- The components of a level: actors that links of positive rates connect, in either direction.
use Rattle.std.specs.Prelude.{◌≡◌, ℕ, ◌<◌, ◌⊎◌, List, [], ◌∷◌}
use Rattle.sdf_level.specs.Links.{Inner, SomeInner}
use Rattle.sdf_level.specs.declared.link.Link.{Link}

-- a link of positive rates from the one actor to the other, or back
pub record Joins (a b : ℕ) (link : Inner) : Type 0 where
  pub puts : 0 < link.produced
  pub takes : 0 < link.consumed
  pub ends : ((link.tail ≡ a) × (link.head ≡ b)) ⊎ ((link.tail ≡ b) × (link.head ≡ a))

-- a path from one actor over these to another, each joined to the one before it by a link
abbrev pub IsPath : List Link → ℕ → List ℕ → ℕ → Type 0
IsPath links a [] b = a ≡ b
IsPath links a (c ∷ over) b = SomeInner (Joins a c) links × IsPath links c over b

-- the two actors are of one component
pub record AreConnected (links : List Link) (a b : ℕ) : Type 0 where
  pub over : List ℕ
  pub path : IsPath links a over b
