use Rattle.ready_heap.proofs.Searching.{IsSought}
use Rattle.ready_heap.proofs.bits.next_bit.Given as goal

abbrev pub invariant-loop-w : goal.invariant-loop-w
invariant-loop-w l = IsSought l.words l.from l.w l.bit
