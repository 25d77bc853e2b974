-- A sink over a writer.
use Rattle.std.specs.Prelude.{ℕ}

-- the writer, and how often a put failed
pub record SinkOverStream (W : Type 0) : Type 0 where
  pub out : W
  pub faults : ℕ
