-- What a search for the places that paths lead to keeps.
use Rattle.std.specs.Prelude.{◌≡◌, ℕ, ◌+◌, ◌*◌, ◌≤◌, ◌⊎◌, Bool, true, false, List, length, sum_by, Contains}
use Rattle.pisdf_model.specs.Arrows.{IsMarked}

-- what a place that isn't marked may still cost
abbrev pub cost : Bool → ℕ
cost true = 0
cost false = 1

-- what is left to do: each place that isn't marked counts twice, and each that is noted once
abbrev pub work_left : List Bool → List ℕ → ℕ
work_left marks noted = 2 * sum_by cost marks + length noted

-- these places are marked now, and those of them that weren't before are noted
pub record Notes (places : List ℕ) (marks : List Bool) (noted : List ℕ) (new_marks : List Bool) (new_noted : List ℕ) : Type 0 where
  pub long : length new_marks ≡ length marks
  pub kept : (w : ℕ) → IsMarked marks w → IsMarked new_marks w
  pub all : (w : ℕ) → Contains places w → IsMarked new_marks w
  pub only : (w : ℕ) → IsMarked new_marks w → IsMarked marks w ⊎ (Contains places w × Contains new_noted w)
  pub noted_kept : (w : ℕ) → Contains noted w → Contains new_noted w
  pub noted_only : (w : ℕ) → Contains new_noted w → Contains noted w ⊎ IsMarked new_marks w
  pub less : work_left new_marks new_noted ≤ work_left marks noted
