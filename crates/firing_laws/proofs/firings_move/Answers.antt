use Rattle.firing_laws.proofs.GraphsMoved.{within_moved}
use Rattle.firing_laws.proofs.firings_move.Goals as goal

pub returns : goal.returns
returns c = λ n top one other differ firing path given below means. within_moved top one other differ n firing path given below means
