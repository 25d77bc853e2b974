use Rattle.std.proofs.Common.{refl, ap, ◌∙◌}
use Rattle.kernel_gate.specs.Framed.{frame_of}
use Rattle.kernel_gate.proofs.Lists.{list_at, write_at, stays_at}
use Rattle.kernel_gate.proofs.frame.Frame.output.Goals as goal

pub returns : goal.returns
returns c =
    let is = ap frame_of c.deref_mut-lent.ensures.value ∙ c.self.view_is in
    let outputs = ap (λ f. f.outputs) is in
    let at = c.index_mut.ensures.value in (
      (
        refl,
        λ w i. record (is i) {
          outputs = write_at _ _ _ w _ outputs c.requires at i;
          places = record (is i).places { outputs = (stays_at _ _ _ w _ outputs c.requires at ∙ ap (λ f. f.places.outputs) is) i };
        },
      ),
      record { writes_back = tt; value = c.as_mut_slice.ensures.value ∙ list_at _ _ _ _ outputs c.requires at },
    )
