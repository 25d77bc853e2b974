use Rattle.std.proofs.Common.{ap, ◌∙◌}
use Rattle.kernel_gate.specs.Value.{lengths}
use Rattle.pisdf_meaning.proofs.KernelFrames.{gives_lengths, lengths_of_zeros, value_at_start}
use Rattle.pisdf_meaning.proofs.kernels.fire_kernel.Goals as goal

pub returns-in-Ok-clause-value : goal.returns-in-Ok-clause-value
returns-in-Ok-clause-value g c =
    c.gave.ensures ∙ c.in-Ok.ensures.value ∙ value_at_start c.in_ok-frame.frame c.args.kernel c.args.args.now c.args.inputs c.args.outputs.now c.args.sets (c.in_ok-frame.ensures.made_of.0, c.in_ok-frame.ensures.made_of.1 ∙ c.in_ok-args.ensures, c.in_ok-frame.ensures.made_of.2) c.in_ok-frame.ensures.zeros

pub returns-in-Ok-clause-lengths : goal.returns-in-Ok-clause-lengths
returns-in-Ok-clause-lengths g c =
    gives_lengths c.gave.result c.fire.new.frame.outputs c.fire.new.frame.sets c.args.outputs.now c.gave.ensures
    (c.in-Ok.ensures.same.outputs ∙ ap lengths c.in_ok-frame.ensures.zeros.0 ∙ lengths_of_zeros c.args.outputs.now)

pub returns-in-Err-clause-value : goal.returns-in-Err-clause-value
returns-in-Err-clause-value g c =
    c.in-Err.ensures.value ∙ value_at_start c.in_ok-frame.frame c.args.kernel c.args.args.now c.args.inputs c.args.outputs.now c.args.sets (c.in_ok-frame.ensures.made_of.0, c.in_ok-frame.ensures.made_of.1 ∙ c.in_ok-args.ensures, c.in_ok-frame.ensures.made_of.2) c.in_ok-frame.ensures.zeros
