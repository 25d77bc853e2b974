use Rattle.std.proofs.Common.{◌≡◌, List, [], ◌∷◌, length, set, true, ap, sym, ◌∙◌, rules, arith, FitsSigned, w64}
use Rattle.std.specs.Prelude.{ℤ, nat_le, ◌==◌}
use Rattle.std.proofs.lemmas.Int.{to_z-of_z}
use Rattle.std.proofs.lemmas.Bool.Decides.{nat_tests}
use Rattle.kernel_gate.specs.Value.{FrameView, Gives, port, lengths}
use Rattle.kernel_gate.specs.Kernels.{size}
use Rattle.kernel_gate.specs.Configured.{spread_answer, output_and_set}
use Rattle.kernel_set.proofs.Firings.{one_written, size_at, fitting, both}
use Rattle.kernel_set.proofs.Steps.{only_written}
use Rattle.kernel_set.proofs.configured.spread.Goals as goal

pub returns-in-Ok-clause-value : goal.returns-in-Ok-clause-value
unfolding spread_answer
returns-in-Ok-clause-value c =
    let f = c.args.frame.now in
    let range : FitsSigned w64 c.in-Ok.range = search rules in
    let input = c.ports-o.ensures.input in
    let room : length c.ports-o.result.2.now ≡ size (lengths f.outputs) 0 = ap (λ (l : List ℤ). length l) c.ports-o.ensures.output ∙ sym (size_at f.outputs 0) in
    let len : length c.ports-o.result.1.now ≡ length (port f.inputs 0) = ap (λ (l : List ℤ). length l) input in
    let some : nat_le 1 (length (port f.inputs 0)) ≡ true = grind (arith, nat_tests) in
    let same : (size (lengths f.outputs) 0 == length (port f.inputs 0)) ≡ true = grind (arith, nat_tests) in
    let found = rw input at (sym c.range_of.ensures ∙ c.in-Ok.is) in
    let new = rw (to_z-of_z w64 _ range) at c.set.ensures in
    let copied : c.copy_from_slice.new.self ≡ port f.inputs 0 = c.copy_from_slice.ensures.after ∙ input in
    ap (λ (g : FrameView). Gives g.outputs g.sets) new
    ∙ (ap (λ (o : List (List ℤ)). Gives o (set f.sets 0 c.in-Ok.range)) (one_written f.outputs c.copy_from_slice.new.self c.requires.outs (omega (arith, ap (λ (l : List ℤ). length l) c.ports-o.ensures.output)) ∙ ap (λ (o : List ℤ). o ∷ []) copied)
    ∙ (ap (λ (s : List ℤ). Gives (port f.inputs 0 ∷ []) s) (only_written f.sets c.in-Ok.range (omega arith))
    ∙ sym (fitting _ _ (both _ _ some same) ∙ ap (output_and_set (port f.inputs 0)) found)))
