-- Iterations one after another, each with its part of the tokens.
use Rattle.std.specs.Prelude.{◌≡◌, ℕ, ◌*◌, ◌/◌, List, [], ◌∷◌, length, map, take, drop, Ok}
use Rattle.std.specs.List.{range_with_len}
use Rattle.sdf_level.specs.View.{LevelView}
use Rattle.sdf_level.specs.Run.{Fire}
use Rattle.sdf_level.specs.LevelRun.{Ended, IsLevelRun}
use Rattle.level_laws.specs.Unfolded.{multiplied, unfolded}
use Rattle.level_laws.specs.Pieces.{later}

-- of the equal parts of a list, of which there are so many, the one with this number, counted from 0
abbrev pub part : {T : Type 0} → ℕ → ℕ → List T → List T
part times i tokens = take (length tokens / times) (drop (i * (length tokens / times)) tokens)

-- of each list that part
abbrev pub parts_at : {T : Type 0} → ℕ → ℕ → List (List T) → List (List T)
parts_at times i lists = map (part times i) lists

-- all parts, those with one number together
abbrev pub parts : {T : Type 0} → ℕ → List (List T) → List (List (List T))
parts times lists = map (λ i. parts_at times i lists) (range_with_len 0 times)

-- iterations from these tokens of the sources each, begun with what the one before left, keep these tokens at the sinks each,
-- and leave this
abbrev pub GoByParts : {T F : Type 0} → LevelView → Fire T F → List ℕ → List (List (List T)) → List (List T) → List (List (List T)) → List (List T) → Type 0
GoByParts level fire q [] starts outs left = (outs ≡ []) × (left ≡ starts)
GoByParts {T} {F} level fire q (ins ∷ rest) starts outs left =
    (one : Ended T) × (more : List (List (List T))) × IsLevelRun level q ins starts fire (Ok one) × GoByParts level (later q fire) q rest one.left more left × (outs ≡ one.outs ∷ more)

-- the unfolded run that keeps these tokens in one, and leaves the same
pub record GoesAtOnce {T F : Type 0} (times : ℕ) (level : LevelView) (fire : Fire T F) (q : List ℕ) (sources starts : List (List T)) (outs : List (List (List T))) (left : List (List T)) : Type 0 where
  pub end : Ended T
  pub runs : IsLevelRun (unfolded times level) (multiplied times q) sources starts fire (Ok end)
  pub outs_are : outs ≡ parts times end.outs
  pub left_is : left ≡ end.left
