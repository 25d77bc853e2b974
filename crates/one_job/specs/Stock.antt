-- What lies ready for the frame of a node beside its ports.
use Rattle.std.specs.Prelude.{◌≡◌, ℕ, ℤ, true, List, length}
use Rattle.sdf_level.specs.declared.node.Node.{Node}
use Rattle.one_job.specs.Ports.{reads_stored, writes_stored}

-- the tokens that the node reads, where they are stored, or so many cells where those that it writes are stored
pub record IsStock (which : Node) (read : List ℤ) (size : ℕ) (tokens : List ℤ) : Type 0 where
  pub read_are : reads_stored which ≡ true → tokens ≡ read
  pub long : writes_stored which ≡ true → length tokens ≡ size
