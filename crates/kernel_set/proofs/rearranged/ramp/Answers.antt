use Rattle.std.proofs.Common.{◌≡◌, ℕ, List, length, get_or, refl, ap, sym, ◌∙◌, rules, arith, FitsSigned, w64}
use Rattle.std.specs.Prelude.{ℤ, pos, ◌+ℤ◌, ◌*ℤ◌}
use Rattle.std.proofs.lemmas.Int.{to_z-of_z}
use Rattle.kernel_gate.specs.Value.{lengths}
use Rattle.kernel_gate.specs.Tokens.{bounded, each, places}
use Rattle.kernel_gate.specs.Kernels.{size}
use Rattle.kernel_gate.specs.Rearranged.{ramp_answer}
use Rattle.kernel_set.specs.Written.{Writes}
use Rattle.kernel_set.proofs.Firings.{tells_one, size_at}
use Rattle.kernel_set.proofs.rearranged.ramp.Goals as goal

pub returns-clause-value : goal.returns-clause-value
unfolding ramp_answer
returns-clause-value c =
    let f = c.args.frame.now in
    let start : FitsSigned w64 (get_or c.args-2.result.now 0 (pos 0)) = search rules in
    let step : FitsSigned w64 (get_or c.args-3.result.now 1 (pos 0)) = search rules in
    let room : length c.output-o.result.now ≡ size (lengths f.outputs) 0 = ap (λ (l : List ℤ). length l) c.output-o.ensures.value ∙ sym (size_at f.outputs 0) in
    let wrote : Writes (each (λ (n : ℕ). bounded (get_or c.args-2.result.now 0 (pos 0) +ℤ (pos n *ℤ get_or c.args-3.result.now 1 (pos 0)))) (places (length c.output-o.result.now))) c.write_steps.result c.write_steps.new.o =
    simp (to_z-of_z w64 _ start, to_z-of_z w64 _ step) at c.write_steps.ensures
    in
    tells_one f c.write_steps.new.o c.write_steps.result _ _ c.requires.outs c.requires.sets.1 (omega (arith, ap (λ (l : List ℤ). length l) c.output-o.ensures.value)) refl (simp (c.args-2.ensures, c.args-3.ensures, room) at wrote)
