-- What is kept, as keys with values.
use Rattle.std.specs.Prelude.{◌≡◌, ℕ, ◌≤◌, List, map, length}
use Rattle.std.specs.Arc.{arc_value}
use Rattle.std.specs.declared.sync.Arc.{Arc}
use Rattle.lru.specs.LruCache.{LruCache}
use Rattle.job_compiler.specs.declared.key.Key.{Key}

abbrev pub values_kept : {T Z : Type 0} → List (Key × Arc T Z) → List (Key × T)
values_kept entries = map (λ e. (e.0, arc_value e.1)) entries

-- the most values that are kept
abbrev pub kept_limit : ℕ
kept_limit = 64

-- at most so many, and room for so many
pub record IsKept {T Z : Type 0} (cache : LruCache Key (Arc T Z)) : Type 0 where
  pub room : cache.cap ≡ kept_limit
  pub within : length cache.entries ≤ kept_limit
