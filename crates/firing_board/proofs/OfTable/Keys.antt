-- The keys of the rows of a table.
use Rattle.std.proofs.Common.{◌≡◌, ◌≢◌, ℕ, suc, ◌+◌, ◌<◌, List, [], ◌∷◌, length, get_or, Option, Some, None, cond, is_some, refl, ap, ◌∙◌, arith}
use Rattle.std.proofs.lemmas.List.Recursion.{is_count_by}
use Rattle.std.specs.List.{AllByRecursion, count_by}
use Rattle.std.specs.Option.{option_map}
use Rattle.board_rules.specs.AskingLaws.{AreKeys}
use Rattle.board_rules.specs.Board.{OpenJobs}
use Rattle.firing_board.specs.Table.View.{TableView, job_row, keys_from, keys_of, table_of}
use Rattle.firing_board.specs.declared.table.row.Row.{Row}

later_keys : (k n : ℕ) (rows : List (Option Row)) → k < n → AllByRecursion (λ l. k ≢ l) (keys_from n rows)
later_keys k n [] lt = tt
later_keys k n (None ∷ rows) lt = later_keys k (n + 1) rows (omega arith)
later_keys k n (Some row ∷ rows) lt = ((λ e. absurd (omega arith)), later_keys k (n + 1) rows (omega arith))

module _ (table : OpenJobs) where
  keys_at : (k : ℕ) (rows : List (Option Row)) → ((j : ℕ) → table (k + j) ≡ option_map job_row (get_or rows j None)) → AreKeys table (keys_from k rows)
  keys_at k [] is = tt
  keys_at k (None ∷ rows) is = keys_at (k + 1) rows (λ j. let e : k + 1 + j ≡ k + suc j = omega arith in ap table e ∙ is (suc j))
  keys_at k (Some row ∷ rows) is =
      let e : k ≡ k + 0 = omega arith in
      ((job_row row, ap table e ∙ is 0), later_keys k (k + 1) rows (omega arith), keys_at (k + 1) rows (λ j. let f : k + 1 + j ≡ k + suc j = omega arith in ap table f ∙ is (suc j)))

pub keys_are : (v : TableView) → AreKeys (table_of v) (keys_of v)
keys_are v = keys_at (table_of v) 0 v.rows (λ j. let e : 0 + j ≡ j = omega arith in ap (table_of v) e)

shifted : (k : ℕ) (rows : List (Option Row)) → length (keys_from (k + 1) rows) ≡ length (keys_from k rows)
shifted k [] = refl
shifted k (None ∷ rows) = shifted (k + 1) rows
shifted k (Some row ∷ rows) = let t = shifted (k + 1) rows in omega arith

pub keys_many : (rows : List (Option Row)) → length (keys_from 0 rows) ≡ count_by is_some rows
keys_many rows = is_count_by (λ (l : List (Option Row)). length (keys_from 0 l)) is_some refl step rows
  where
    step : (x : Option Row) (xs : List (Option Row)) → length (keys_from 0 (x ∷ xs)) ≡ cond (is_some x) (1 + length (keys_from 0 xs)) (length (keys_from 0 xs))
    step None xs = shifted 0 xs
    step (Some row) xs = let t = shifted 0 xs in omega arith
