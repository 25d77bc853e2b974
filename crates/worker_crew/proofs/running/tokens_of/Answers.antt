use Rattle.std.proofs.Common.{◌≡◌, ℕ, ◌<◌, Some, sym, subst}
use Rattle.std.specs.Prelude.{slice_get}
use Rattle.kernel_gate.specs.Signed.{unnamed}
use Rattle.worker_crew.proofs.Kernels.{reads, writes}
use Rattle.worker_crew.proofs.running.tokens_of.Goals as goal

pub input-requires : goal.input-requires
input-requires g c =
    let table = g.K.Gate.kernels c.args.gate.now in
    let at : slice_get (unnamed table) c.kind.result ≡ Some c.requires.0 = subst (λ (n : ℕ). slice_get (unnamed table) n ≡ Some c.requires.0) (sym c.kind.ensures) c.requires.1 in
    subst (λ (n : ℕ). 0 < n) (sym c.requires.2.ins) (reads c.signatures.result.now table c.kind.result c.requires.0 c.signatures.ensures.kernels at _ c.if-signature-gt0.true)

pub output_len-written-requires : goal.output_len-written-requires
output_len-written-requires g c =
    let table = g.K.Gate.kernels c.args.gate.now in
    let at : slice_get (unnamed table) c.kind.result ≡ Some c.requires.0 = subst (λ (n : ℕ). slice_get (unnamed table) n ≡ Some c.requires.0) (sym c.kind.ensures) c.requires.1 in
    subst (λ (n : ℕ). 0 < n) (sym c.requires.2.outs) (writes c.signatures.result.now table c.kind.result c.requires.0 c.signatures.ensures.kernels at _ c.if-signature-gt0-2.true)
