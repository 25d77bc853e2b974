-- What is known after the first links: groups of actors, and a vector that is the least in each group.
use Rattle.std.specs.Prelude.{◌≡◌, ℕ, ◌*◌, ◌≤◌, ◌<◌, ◌⊎◌, List, [], ◌∷◌, ◌++◌, slice_index}
use Rattle.sdf_level.specs.Links.{Inner, EachInner}
use Rattle.sdf_level.specs.Balance.{IsBalanced}
use Rattle.sdf_level.specs.Balance.{base_entry_limit}
use Rattle.sdf_level.specs.declared.link.Link.{Link}

-- the link carries no tokens, or joins actors of one group and is balanced
pub record IsJoined (n : ℕ) (group q : List ℕ) (link : Inner) : Type 0 where
  pub tail_there : link.tail < n
  pub head_there : link.head < n
  pub either : ((link.produced ≡ 0) × (link.consumed ≡ 0)) ⊎ ((slice_index group link.tail ≡ slice_index group link.head) × IsBalanced q link)

-- solves these links
pub record SolvesLinks (n : ℕ) (links : List Link) (q : List ℕ) : Type 0 where
  pub at_least_one : (a : ℕ) → a < n → 1 ≤ slice_index q a
  pub within : (a : ℕ) → a < n → slice_index q a ≤ base_entry_limit
  pub balanced : EachInner (IsBalanced q) links

-- on the group the one vector is a multiple of the other
abbrev pub IsMultipleOn : ℕ → List ℕ → List ℕ → List ℕ → ℕ → Type 0
IsMultipleOn n group q other g = (m : ℕ) × ((a : ℕ) → a < n → slice_index group a ≡ g → slice_index other a ≡ m * slice_index q a)

pub record AreJoined (n : ℕ) (links : List Link) (group q : List ℕ) : Type 0 where
  pub at_least_one : (a : ℕ) → a < n → 1 ≤ slice_index q a
  pub within : (a : ℕ) → a < n → slice_index q a ≤ base_entry_limit
  pub joined : EachInner (IsJoined n group q) links
  pub multiple : (other : List ℕ) → SolvesLinks n links other → (g : ℕ) → IsMultipleOn n group q other g

-- with one link more, these are the groups and the vector
abbrev pub Adds : ℕ → Link → List ℕ → List ℕ → List ℕ → List ℕ → Type 0
Adds n link group q group' q' = (links : List Link) → AreJoined n links group q → AreJoined n (links ++ link ∷ []) group' q'

-- with one link more, no vector solves
abbrev pub Refutes : ℕ → Link → List ℕ → List ℕ → Type 0
Refutes n link group q = (links : List Link) → AreJoined n links group q → (other : List ℕ) → SolvesLinks n (links ++ link ∷ []) other → ⊥
