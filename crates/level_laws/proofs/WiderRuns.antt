-- A run stays one where each firing has its like.
use Rattle.std.proofs.Common.{ℕ, List, [], ◌∷◌, ◌++◌, Result, Ok, Err}
use Rattle.sdf_level.specs.View.{LevelView}
use Rattle.sdf_level.specs.Firings.{firings}
use Rattle.sdf_level.specs.Run.{Fire, GoesOn, RunsFrom, Runs, inputs, put}
use Rattle.sdf_level.specs.LevelRun.{Ended, IsLevelRun}

module _ {T F : Type 0} (level : LevelView) (fire other : Fire T F) (like : (b k : ℕ) (ins : List (List T)) (answer : Result (List (List T)) F) → fire b k ins answer → other b k ins answer) (sources : List (List T)) where
  runs_like : (before : List ℕ) (lines : List (List T)) (rest : List ℕ) (end : Result (List (List T)) F) → RunsFrom level fire sources before lines rest end → RunsFrom level other sources before lines rest end
  runs_like before lines [] end run = run
  runs_like before lines (b ∷ rest) end run =
      (run.0, like b (firings b before) (inputs sources b (firings b before) level.links lines) run.0 run.1, go run.0 run.2 (λ outputs r. runs_like (before ++ b ∷ []) (put b outputs level.links lines) rest end r))
    where
      go : (answer : Result (List (List T)) F) → GoesOn (λ outputs. RunsFrom level fire sources (before ++ b ∷ []) (put b outputs level.links lines) rest end) end answer →
          ((outputs : List (List T)) → RunsFrom level fire sources (before ++ b ∷ []) (put b outputs level.links lines) rest end → RunsFrom level other sources (before ++ b ∷ []) (put b outputs level.links lines) rest end) →
          GoesOn (λ outputs. RunsFrom level other sources (before ++ b ∷ []) (put b outputs level.links lines) rest end) end answer
      go (Ok outputs) goes again = again outputs goes
      go (Err fault) goes again = goes

  pub run_like : (starts : List (List T)) (list : List ℕ) (end : Result (List (List T)) F) → Runs level fire sources starts list end → Runs level other sources starts list end
  run_like starts list end run = runs_like [] starts list end run

  pub level_run_like : (q : List ℕ) (starts : List (List T)) (end : Result (Ended T) F) → IsLevelRun level q sources starts fire end → IsLevelRun level q sources starts other end
  level_run_like q starts end run = record { list = run.list; order = run.order; ends = record { lines = run.ends.lines; runs = run_like starts run.list run.ends.lines run.ends.runs; is_end = run.ends.is_end } }
