use Rattle.std.proofs.Common.{ℤ, Bool, List, [], length, get_or, sym, ap, ◌∙◌}
use Rattle.kernel_gate.specs.Value.{FrameView, lengths}
use Rattle.graph_firing.specs.Nodes.Sizes.{child_outs}
use Rattle.graph_firing.proofs.OfNodes.WrittenOuts.{line_long, out_long, write_state}
use Rattle.graph_firing.proofs.nodes.writing.write_child.Goals as goal

pub write_outs-requires-clause-long : goal.write_outs-requires-clause-long
write_outs-requires-clause-long c p below = out_long c.args.keeps c.args.outs.now c.args.state.now c.args.frame.now.outputs c.requires.long p below

pub write_line-requires : goal.write_line-requires
write_line-requires c =
    let e = c.requires.long ∙ ap (λ (b : Bool). lengths (child_outs b c.args.outs.now c.args.state.now)) c.if-keeps.true in
    sym (line_long c.args.outs.now c.args.state.now c.args.frame.now.outputs e) ∙ ap (λ (f : FrameView). length (get_or f.outputs (length c.args.outs.now) [])) (sym c.write_outs.ensures) ∙ ap (λ (l : List ℤ). length l) (sym c.output.ensures.value)

pub returns-then-keeps : goal.returns-then-keeps
returns-then-keeps c =
    let e = c.requires.long ∙ ap (λ (b : Bool). lengths (child_outs b c.args.outs.now c.args.state.now)) c.if-keeps.true in
    write_state c.write_outs.new.frame c.args.frame.now c.args.outs.now c.args.state.now c.write_line.new.to c.write_outs.ensures e c.write_line.ensures
    ∙ (λ k. record c.args.frame.now { outputs = ap (λ (b : Bool). child_outs b c.args.outs.now c.args.state.now) (sym c.if-keeps.true) k })
