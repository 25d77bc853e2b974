use Rattle.std.proofs.Common.{◌≡◌, ◌-◌, [], length}
use Rattle.kernel_gate.specs.Signed.{unnamed}
use Rattle.board_rules.specs.Keys.{Key}
use Rattle.journal_audit.specs.Replays.{Replays, ReplaysText}
use Rattle.journal_audit.proofs.board.read_lines.Given as goal

abbrev pub invariant-loop-alloc : goal.invariant-loop-alloc
invariant-loop-alloc g l = (key : Key) → Replays l.graphs key [] l.fn.replay → key.signatures ≡ unnamed (g.K.Gate.kernels l.gate) → ReplaysText l.graphs key l.number l.text l.bytes l.lines l.replay

abbrev pub decreases-loop-alloc : goal.decreases-loop-alloc
decreases-loop-alloc g l = length l.text - l.bytes
