use Rattle.std.proofs.Common.{◌≡◌, ℕ, ◌+◌, List, length, take, get_or, refl, ap, sym, ◌∙◌, true, rules, arith, FitsSigned, w64}
use Rattle.std.specs.Prelude.{ℤ, pos, int_le, unsigned_abs}
use Rattle.std.proofs.lemmas.Int.{to_z-of_z, ints}
use Rattle.kernel_gate.specs.Limits.{most_moving_width}
use Rattle.kernel_gate.specs.Value.{lengths}
use Rattle.kernel_gate.specs.Tokens.{each, places, mean_of, last}
use Rattle.kernel_gate.specs.Kernels.{size}
use Rattle.kernel_gate.specs.Sums.{moving_answer}
use Rattle.kernel_set.specs.Written.{Writes}
use Rattle.kernel_set.proofs.Firings.{tells_one, size_at, shaped_same, taken, both}
use Rattle.kernel_set.proofs.sums.moving.Goals as goal

pub returns-clause-value : goal.returns-clause-value
unfolding moving_answer
returns-clause-value c =
    let f = c.args.frame.now in
    let fits : FitsSigned w64 (get_or c.ports-o.result.0.now 0 (pos 0)) = search rules in
    let width : c.unsigned_abs.result ≡ unsigned_abs (get_or c.ports-o.result.0.now 0 (pos 0)) = rw (to_z-of_z w64 _ fits) at c.unsigned_abs.ensures.value in
    let room : length c.ports-o.result.2.now ≡ size (lengths f.outputs) 0 = ap (λ (l : List ℤ). length l) c.ports-o.ensures.output ∙ sym (size_at f.outputs 0) in
    let wrote : Writes (each (λ (n : ℕ). mean_of (last c.unsigned_abs.result (take (n + 1) c.ports-o.result.1.now))) (places (length c.ports-o.result.2.now))) c.write_means.result c.write_means.new.o =
    c.write_means.ensures
    in
    let least : int_le (pos 1) (get_or c.ports-o.result.0.now 0 (pos 0)) ≡ true = grind (arith, ints) in
    let most : int_le (get_or c.ports-o.result.0.now 0 (pos 0)) (pos most_moving_width) ≡ true = grind (arith, ints) in
    let in_bounds = rw c.ports-o.ensures.args at (both _ _ least most) in
    let same_length = sym (ap (λ (l : List ℤ). length l) c.ports-o.ensures.input) ∙ (c.if-x-o.false ∙ room) in
    tells_one f c.write_means.new.o c.write_means.result _ _ c.requires.outs c.requires.sets.1 (omega (arith, ap (λ (l : List ℤ). length l) c.ports-o.ensures.output))
    (shaped_same _ (size (lengths f.outputs) 0) _ _ refl same_length ∙ taken _ _ in_bounds)
    (simp (width, c.ports-o.ensures.args, c.ports-o.ensures.input, room) at wrote)
