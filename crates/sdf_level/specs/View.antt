-- A level as plain data.
use Rattle.std.specs.Prelude.{ℕ, List}
use Rattle.sdf_level.specs.declared.link.Link.{Link}

-- how many actors, the rate of each source and of each sink, and the links
pub record LevelView : Type 0 where
  pub actors : ℕ
  pub sources : List ℕ
  pub sinks : List ℕ
  pub links : List Link
