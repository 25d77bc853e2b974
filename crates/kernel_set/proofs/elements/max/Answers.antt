use Rattle.std.proofs.Common.{List, ap, ◌∙◌}
use Rattle.std.specs.Prelude.{ℤ, Result}
use Rattle.std.specs.Int.{int_max}
use Rattle.kernel_gate.specs.Value.{lengths}
use Rattle.kernel_gate.specs.Kernels.{one_output, pairs, pairs_shaped}
use Rattle.kernel_gate.specs.Elements.{max_answer}
use Rattle.kernel_gate.specs.declared.fault.KernelFault.{KernelFault}
use Rattle.kernel_set.proofs.Firings.{each_total}
use Rattle.kernel_set.proofs.elements.max.Goals as goal

pub returns-clause-value : goal.returns-clause-value
unfolding max_answer
returns-clause-value c =
    c.pairwise.ensures.value
    ∙ ap (λ (v : Result (List ℤ) KernelFault). pairs_shaped c.args.frame.now.inputs (lengths c.args.frame.now.outputs) (one_output v)) (each_total (λ p. int_max p.0 p.1) (pairs c.args.frame.now.inputs))
