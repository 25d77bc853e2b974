use Rattle.std.proofs.Common.{List, ℤ, ap, ◌∙◌, subst}
use Rattle.kernel_gate.specs.Value.{lengths}
use Rattle.special_actors.specs.Copying.{PassesOn, joined}
use Rattle.job_rules.specs.Words as words
use Rattle.job_rules.specs.Words.{given_outs}
use Rattle.audit_job.proofs.Frames.{frame_fits, zeros_long}
use Rattle.audit_job.proofs.firing.copied.Goals as goal

pub run_special-requires : goal.run_special-requires
run_special-requires c = frame_fits c.args.node c.args.read c.args.written.now c.in_ok-frame.frame c.in_ok-frame.ensures.made_of.2 c.in_ok-frame.ensures.zeros.0 c.requires.fit c.requires.few_inputs c.requires.few_outputs

pub returns : goal.returns
returns c =
    let same = c.run_special.ensures.same in
    let copied = c.run_special.ensures.copied in
    let state = c.new-3.ensures ∙ c.new-2.ensures.items in
    let trace = c.new-5.ensures ∙ c.new-4.ensures.items in
    let exports = c.new-7.ensures ∙ c.new-6.ensures.items in
    let outs = c.outputs_of-outs.ensures in
    record {
      outs = c.run_special.new.frame.outputs;
      answer_is = λ i. words.Gives record { outs = outs i; state = state i; trace = trace i; exports = exports i };
      fitting = same.outputs ∙ ap lengths c.in_ok-frame.ensures.zeros.0 ∙ zeros_long c.args.written.now;
      passed = subst (λ (l : List (List ℤ)). PassesOn c.args.node (joined l) (joined c.run_special.new.frame.outputs)) c.in_ok-frame.ensures.made_of.2 copied;
    }
