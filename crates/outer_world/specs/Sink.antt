-- What a put to a sink does, and what a failure shows.
use Rattle.std.specs.Prelude.{◌≡◌, ℕ, ◌≤◌, List, ◌++◌, length, take, Option, Some, Result, OnOk, OnErr}
use Rattle.outer_world.specs.declared.sink.SinkFailed.{SinkFailed}
use Rattle.outer_world.specs.Faults.{Rose}

-- where it is told what was written, it stays told, and has grown by these bytes
abbrev pub Grows : Option (List ℕ) → Option (List ℕ) → List ℕ → Type 0
Grows had has bytes = (told : List ℕ) → had ≡ Some told → has ≡ Some (told ++ bytes)

-- a put of `bytes`: `had` and `has` are what was written, and `before` and `now` the counts of faults
pub record Puts (had has : Option (List ℕ)) (before now : ℕ) (bytes : List ℕ) (result : Result Unit SinkFailed) : Type 0 where
  pub never_falls : before ≤ now
  pub all : OnOk result (Grows had has bytes)
  pub beginning : OnErr result ((kept : ℕ) × (kept ≤ length bytes) × Grows had has (take kept bytes))
  pub failed : OnErr result (Rose before now)
