use Rattle.std.proofs.Common.{◌≡◌, ◌-◌, length}
use Rattle.std.specs.Prelude.{ℕ, pos, ◌+ℤ◌, ◌*ℤ◌}
use Rattle.kernel_gate.specs.Tokens.{bounded, places}
use Rattle.kernel_set.proofs.Steps.{WrittenTo}
use Rattle.kernel_set.proofs.rearranged.write_steps.Given as goal

abbrev pub invariant-loop-n : goal.invariant-loop-n
invariant-loop-n l = record {
  written : WrittenTo (λ (n : ℕ). bounded (l.start +ℤ (pos n *ℤ l.step))) (places (length l.o)) l.n l.o;
  here : l.token ≡ l.start +ℤ (pos (l.n - 1) *ℤ l.step);
}
