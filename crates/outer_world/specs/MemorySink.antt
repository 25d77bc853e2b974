-- A sink in memory.
use Rattle.std.specs.Prelude.{◌≡◌, ℕ, ◌+◌, ◌-◌, ◌≤◌, ◌==◌, min, List, length, find, Option, option_map, unwrap_or, None}

-- a sink: its room, the numbers of the puts that fail with the count of bytes that each keeps, the number of the next put, how often a put failed, and what was written
pub record SinkInMemory : Type 0 where
  pub room : ℕ
  pub failing : List (ℕ × ℕ)
  pub next : ℕ
  pub faults : ℕ
  pub written : List ℕ

-- how many bytes the next put keeps, where it is listed
abbrev pub cut_of : SinkInMemory → Option ℕ
cut_of sink = option_map (λ listed. listed.1) (find (λ listed. listed.0 == sink.next) sink.failing)

-- the next put takes these bytes whole: it isn't listed, and there is room
abbrev pub TakesWhole : SinkInMemory → List ℕ → Type 0
TakesWhole sink bytes = (cut_of sink ≡ None) × (length sink.written + length bytes ≤ sink.room)

-- how many of the bytes the next put keeps
abbrev pub kept_of : SinkInMemory → List ℕ → ℕ
kept_of sink bytes = min (min (unwrap_or (cut_of sink) (length bytes)) (length bytes)) (sink.room - length sink.written)
