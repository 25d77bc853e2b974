use Rattle.std.proofs.Common.{[], false, refl, arith}
use Rattle.kernel_gate.specs.Table.{the_signatures}
use Rattle.kernel_gate.specs.declared.signature.Signature.{Signature}
use Rattle.kernel_library.proofs.Seen.{signature_at}
use Rattle.frame_calls.proofs.kernels.has_kernel.Goals as goal

-- what an index past the end would read
none : Signature
none = record { name = record { ref_ptr = (0, 0); now = [] }; config = false; args_min = 0; args_max = 0; ins = 0; outs = 0; sets_min = 0; sets_max = 0 }

pub returns : goal.returns
unfolding none
returns c =
    let fits = c.if-not-fits.ensures in
    let all = c.signatures-signatures.result.now in (
      _,
      signature_at all the_signatures c.args.kind _ none c.signatures-signatures.ensures.kernels (omega arith) refl,
      record { args = fits.args; ins = fits.ins; outs = fits.outs; sets = fits.sets },
    )
