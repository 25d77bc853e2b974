use Rattle.std.proofs.Common.{List, length, get_or, ap, ◌∙◌, rules, FitsSigned, w64}
use Rattle.std.specs.Prelude.{ℤ, pos, int_le, if◌then◌else◌, Result}
use Rattle.std.proofs.lemmas.Int.{to_z-of_z}
use Rattle.kernel_gate.specs.Value.{lengths, port}
use Rattle.kernel_gate.specs.Tokens.{token}
use Rattle.kernel_gate.specs.Kernels.{one_output, shaped, size}
use Rattle.kernel_gate.specs.Elements.{threshold_answer}
use Rattle.kernel_gate.specs.declared.fault.KernelFault.{KernelFault}
use Rattle.kernel_set.proofs.Firings.{each_total}
use Rattle.kernel_set.proofs.elements.threshold.Goals as goal

pub returns-clause-value : goal.returns-clause-value
unfolding threshold_answer
returns-clause-value c =
    let f = c.args.frame.now in
    let fits : FitsSigned w64 (get_or c.args-2.result.now 0 (pos 0)) = search rules in
    let value = rw c.args-2.ensures at (rw (to_z-of_z w64 _ fits) at c.elementwise.ensures.value) in
    value
    ∙ ap (λ (v : Result (List ℤ) KernelFault). shaped (length (port f.inputs 0)) (size (lengths f.outputs) 0) (one_output v))
    (each_total (λ u. if int_le (token f.args 0) u then pos 1 else pos 0) (port f.inputs 0))
