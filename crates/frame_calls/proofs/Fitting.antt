-- Frames that fit the kernels' signatures.
use Rattle.std.proofs.Common.{◌≡◌, ℕ, length, ap, ◌∙◌}
use Rattle.std.specs.Prelude.{slice_get}
use Rattle.kernel_gate.specs.Signed.{IsFrameOf, unnamed}
use Rattle.kernel_gate.specs.Table.{the_signatures}
use Rattle.kernel_gate.specs.Value.{FrameView}
use Rattle.frame_calls.specs.Signatures.{HasKernel}

-- a frame of a kernel, with so many arguments, ports and sets
pub is_frame : (kind args ins outs sets : ℕ) (f : FrameView) → HasKernel kind args ins outs sets → f.kind ≡ kind →
    length f.args ≡ args → length f.inputs ≡ ins → length f.outputs ≡ outs → length f.sets ≡ sets → IsFrameOf (unnamed the_signatures) f
is_frame kind args ins outs sets f has k a i o s =
    let allowed = has.2 in (
      has.0,
      ap (λ (n : ℕ). slice_get (unnamed the_signatures) n) k ∙ has.1,
      record {
        args = (rw a allowed.args.0, rw a allowed.args.1);
        ins = i ∙ allowed.ins;
        outs = o ∙ allowed.outs;
        sets = (rw s allowed.sets.0, rw s allowed.sets.1);
      },
    )
