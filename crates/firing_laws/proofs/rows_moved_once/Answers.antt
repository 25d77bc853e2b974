use Rattle.firing_laws.proofs.Moved.{moved_is}
use Rattle.firing_laws.proofs.rows_moved_once.Goals as goal

pub returns : goal.returns
returns c = λ path other rows moved are. moved_is path other rows moved are
