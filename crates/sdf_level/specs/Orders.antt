-- Admissible lists of firings, deadlock, and the order of one thread.
use Rattle.std.specs.Prelude.{◌≡◌, ℕ, ◌-◌, ◌≤◌, ◌<◌, List, [], length, slice_index}
use Rattle.sdf_level.specs.View.{LevelView}
use Rattle.sdf_level.specs.Firings.{firings, CanFire, EachFiring, EachCanFire, actors_of, turns_of}
use Rattle.sdf_level.specs.declared.turn.Turn.{Turn}

-- fires each actor its count, and each firing finds its tokens
pub record IsAdmissible (level : LevelView) (q list : List ℕ) : Type 0 where
  pub counts : (a : ℕ) → firings a list ≡ slice_index q a
  pub each : EachCanFire level list

-- no list is admissible
abbrev pub IsDeadlocked : LevelView → List ℕ → Type 0
IsDeadlocked level q = (list : List ℕ) → IsAdmissible level q list → ⊥

-- the actor has count left, and the tokens for one firing more
pub record CanStand (level : LevelView) (q before : List ℕ) (a : ℕ) : Type 0 where
  pub left : firings a before < slice_index q a
  pub can_fire : CanFire level before a

-- no lesser actor can stand in this place
abbrev pub IsLeast : LevelView → List ℕ → List ℕ → ℕ → Type 0
IsLeast level q before b = (a : ℕ) → a < b → CanStand level q before a → ⊥

-- the admissible list in which every place holds the least actor that can stand there
pub record IsOrder (level : LevelView) (q list : List ℕ) : Type 0 where
  pub admissible : IsAdmissible level q list
  pub least : EachFiring (IsLeast level q) [] list

-- the same, each firing with its number
pub record IsTurnOrder (level : LevelView) (q : List ℕ) (turns : List Turn) : Type 0 where
  pub order : IsOrder level q (actors_of turns)
  pub numbered : turns ≡ turns_of (actors_of turns)

-- fires no actor more than its count, each firing finds its tokens, and no actor can fire after it
pub record IsStuck (level : LevelView) (q list : List ℕ) : Type 0 where
  pub within : (a : ℕ) → firings a list ≤ slice_index q a
  pub each : EachCanFire level list
  pub no_more : (a : ℕ) → CanStand level q list a → ⊥

-- the counts left when no further actor can fire
pub record IsLeft (level : LevelView) (q left : List ℕ) : Type 0 where
  pub list : List ℕ
  pub stuck : IsStuck level q list
  pub one_each : length left ≡ length q
  pub each : (a : ℕ) → slice_index left a ≡ slice_index q a - firings a list
