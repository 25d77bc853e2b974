use Rattle.std.proofs.Common.{◌≡◌, ℕ, List, length, get_or, map, ap, sym, ◌∙◌, true, rules, arith, FitsSigned, w64}
use Rattle.std.specs.Prelude.{ℤ, pos, int_le, nat_le, count_by, Ok}
use Rattle.std.proofs.lemmas.Int.{to_z-of_z, ints}
use Rattle.std.proofs.lemmas.Bool.Decides.{nat_tests}
use Rattle.kernel_gate.specs.Value.{lengths}
use Rattle.kernel_gate.specs.Tokens.{places}
use Rattle.kernel_gate.specs.Kernels.{size}
use Rattle.kernel_gate.specs.Counted.{histogram_answer, in_bin}
use Rattle.kernel_set.proofs.Firings.{tells_one, size_at, fitting, taken}
use Rattle.kernel_set.proofs.counted.histogram.Goals as goal

pub returns-clause-value : goal.returns-clause-value
unfolding histogram_answer
returns-clause-value c =
    let f = c.args.frame.now in
    let a = c.ports-o.result.0.now in
    let x = c.ports-o.result.1.now in
    let low : FitsSigned w64 (get_or a 0 (pos 0)) = search rules in
    let width : FitsSigned w64 (get_or a 1 (pos 0)) = search rules in
    let room : length c.ports-o.result.2.now ≡ size (lengths f.outputs) 0 = ap (λ (l : List ℤ). length l) c.ports-o.ensures.output ∙ sym (size_at f.outputs 0) in
    let some : nat_le 1 (length c.ports-o.result.2.now) ≡ true = grind (arith, nat_tests) in
    let wide : int_le (pos 1) (get_or a 1 (pos 0)) ≡ true = grind (arith, ints) in
    let wrote : c.write_counts.new.o ≡ map (λ (b : ℕ). pos (count_by (in_bin (get_or a 0 (pos 0)) (get_or a 1 (pos 0)) b) x)) (places (length c.ports-o.result.2.now)) =
    simp (to_z-of_z w64 _ low, to_z-of_z w64 _ width) at c.write_counts.ensures
    in
    tells_one f c.write_counts.new.o (Ok tt) _ _ c.requires.outs c.requires.sets.1 (omega (arith, ap (λ (l : List ℤ). length l) c.ports-o.ensures.output))
    (fitting _ _ (rw room at some) ∙ taken _ _ (rw c.ports-o.ensures.args at wide))
    (ap Ok (sym (simp (c.ports-o.ensures.args, c.ports-o.ensures.input, room) at wrote)))
