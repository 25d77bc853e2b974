use Rattle.std.proofs.Common.{◌≡◌, List, [], length, get_or, set, refl, ap, sym, ◌∙◌, rules, arith, FitsSigned, w64}
use Rattle.std.specs.Prelude.{ℤ, pos}
use Rattle.std.proofs.lemmas.Int.{to_z-of_z}
use Rattle.std.proofs.lemmas.List.{nil_from_length}
use Rattle.kernel_gate.specs.Value.{FrameView, Gives, port}
use Rattle.kernel_gate.specs.Configured.{pick_answer, found_set}
use Rattle.kernel_set.proofs.Firings.{shaped_same}
use Rattle.kernel_set.proofs.Steps.{only_written}
use Rattle.kernel_set.proofs.configured.pick.Goals as goal

pub returns-in-Some-clause-value : goal.returns-in-Some-clause-value
unfolding pick_answer
returns-in-Some-clause-value c =
    let f = c.args.frame.now in
    let value : FitsSigned w64 c.in-Some.value = search rules in
    let place : FitsSigned w64 (get_or c.input-x.result.now 0 (pos 0)) = search rules in
    let found = rw c.input-x.ensures at (rw c.args-2.ensures at (rw (to_z-of_z w64 _ place) at (sym c.argument_at.ensures ∙ c.in-Some.is))) in
    let one : length (port f.inputs 0) ≡ 1 = sym (ap (λ (l : List ℤ). length l) c.input-x.ensures) ∙ c.if-x-ne1.false in
    let new = rw (to_z-of_z w64 _ value) at c.set.ensures in
    ap (λ (g : FrameView). Gives g.outputs g.sets) new
    ∙ (ap (λ (o : List (List ℤ)). Gives o (set f.sets 0 c.in-Some.value)) (nil_from_length f.outputs c.requires.outs)
    ∙ (ap (λ (s : List ℤ). Gives [] s) (only_written f.sets c.in-Some.value (omega arith))
    ∙ sym (shaped_same _ 1 _ _ refl one ∙ ap found_set found)))
