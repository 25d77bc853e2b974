-- The balance equations (Lee and Messerschmitt 1987).
use Rattle.std.specs.Prelude.{◌≡◌, ℕ, ◌*◌, ◌≤◌, ◌<◌, List, length, slice_index}
use Rattle.sdf_level.specs.View.{LevelView}
use Rattle.sdf_level.specs.Links.{Inner, EachInner}

-- what the tail puts in its firings is what the head takes in its
abbrev pub IsBalanced : List ℕ → Inner → Type 0
IsBalanced q link = slice_index q link.tail * link.produced ≡ slice_index q link.head * link.consumed

-- the greatest entry of a base vector, in firings
abbrev pub base_entry_limit : ℕ
base_entry_limit = 1024

-- a vector with an entry for each actor, from 1 to the limit, that balances each link between two actors
pub record Solves (level : LevelView) (q : List ℕ) : Type 0 where
  pub one_each : length q ≡ level.actors
  pub at_least_one : (a : ℕ) → a < level.actors → 1 ≤ slice_index q a
  pub within : (a : ℕ) → a < level.actors → slice_index q a ≤ base_entry_limit
  pub balanced : EachInner (IsBalanced q) level.links

-- the base vector: it solves, and is at most every other one that does in each entry
pub record IsBase (level : LevelView) (q : List ℕ) : Type 0 where
  pub solves : Solves level q
  pub least : (other : List ℕ) → Solves level other → (a : ℕ) → slice_index q a ≤ slice_index other a

-- no vector solves
abbrev pub HasNoVector : LevelView → Type 0
HasNoVector level = (q : List ℕ) → Solves level q → ⊥
