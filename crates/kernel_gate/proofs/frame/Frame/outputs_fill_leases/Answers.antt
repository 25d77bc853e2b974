use Rattle.std.proofs.Common.{◌≡◌, subst, map}
use Rattle.split_block.specs.View.{LeasePlace}
use Rattle.kernel_gate.specs.Value.{FrameView, lengths}
use Rattle.kernel_gate.proofs.Lists.{leases_long}
use Rattle.kernel_gate.proofs.frame.Frame.outputs_fill_leases.Goals as goal

pub returns : goal.returns
returns c = subst (λ (f : FrameView). lengths f.outputs ≡ map (λ (p : LeasePlace). p.len) f.places.outputs) c.self.view_is (leases_long c.self.inside.lent.value.outputs.items)
