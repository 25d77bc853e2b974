use Rattle.std.proofs.Common.{◌≡◌, ℕ, map, take, replicate}
use Rattle.std.specs.Prelude.{pos}
use Rattle.kernel_gate.proofs.leases.zeros.Given as goal

abbrev pub invariant-loop-n : goal.invariant-loop-n
invariant-loop-n l = l.lists.items ≡ map (λ (n : ℕ). replicate n (pos 0)) (take l.n-index l.lens)
