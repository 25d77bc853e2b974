use Rattle.std.proofs.Common.{ap, sym, ◌∙◌}
use Rattle.kernel_gate.specs.Framed.{frame_of}
use Rattle.kernel_gate.specs.Value.{FrameView, Places}
use Rattle.frame_calls.proofs.Placed.{only_place}
use Rattle.frame_calls.proofs.leases.lend_both.Goals as goal

pub only-requires-2 : goal.only-requires-2
only-requires-2 c =
    only_place c.into_inner-inputs.result.outputs.items c.split-left.result.1
    (sym (ap (λ (f : FrameView). f.places.outputs) (c.take_back-lent.ensures ∙ ap frame_of (sym c.into_inner-inputs.ensures)))
    ∙ (ap (λ (p : Places). p.outputs) c.fire_if-fired.ensures.places ∙ c.frame_over-frame.ensures.outputs))
