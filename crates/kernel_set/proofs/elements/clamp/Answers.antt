use Rattle.std.proofs.Common.{◌≡◌, List, length, get_or, ap, sym, ◌∙◌, rules, arith, FitsSigned, w64, true}
use Rattle.std.specs.Prelude.{ℤ, pos, int_le, Result}
use Rattle.std.proofs.lemmas.Int.{to_z-of_z, ints}
use Rattle.kernel_gate.specs.Value.{Answer, lengths, port}
use Rattle.kernel_gate.specs.Tokens.{token}
use Rattle.kernel_gate.specs.Kernels.{one_output, shaped, size}
use Rattle.kernel_gate.specs.Elements.{clamp_answer, clamped}
use Rattle.kernel_gate.specs.declared.fault.KernelFault.{KernelFault}
use Rattle.kernel_set.proofs.Firings.{each_total, taken}
use Rattle.kernel_set.proofs.elements.clamp.Goals as goal

pub returns-clause-value : goal.returns-clause-value
unfolding clamp_answer
returns-clause-value c =
    let f = c.args.frame.now in
    let fits_low : FitsSigned w64 (get_or c.args-2.result.now 0 (pos 0)) = search rules in
    let fits_high : FitsSigned w64 (get_or c.args-3.result.now 1 (pos 0)) = search rules in
    let value = rw c.args-3.ensures at (rw c.args-2.ensures at (rw (to_z-of_z w64 _ fits_high) at (rw (to_z-of_z w64 _ fits_low) at c.elementwise.ensures.value))) in
    let in_order : int_le (get_or c.args-2.result.now 0 (pos 0)) (get_or c.args-3.result.now 1 (pos 0)) ≡ true = grind (arith, ints) in
    let ordered = rw c.args-3.ensures at (rw c.args-2.ensures at in_order) in
    value
    ∙ (ap (λ (v : Result (List ℤ) KernelFault). shaped (length (port f.inputs 0)) (size (lengths f.outputs) 0) (one_output v))
    (each_total (clamped (token f.args 0) (token f.args 1)) (port f.inputs 0))
    ∙ ap (λ (a : Answer). shaped (length (port f.inputs 0)) (size (lengths f.outputs) 0) a) (sym (taken _ _ ordered)))
