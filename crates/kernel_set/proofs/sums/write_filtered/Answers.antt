use Rattle.std.proofs.Common.{◌+◌, ◌≤◌, length, List, reverse, ap, ◌∙◌, sym, rules, arith, FitsSigned, w64}
use Rattle.std.specs.Prelude.{ℤ}
use Rattle.std.proofs.lemmas.Int.{to_z-of_z}
use Rattle.std.specs.List.{between}
use Rattle.kernel_gate.specs.Tokens.{dot_product, window}
use Rattle.kernel_set.specs.Near.{AreNear}
use Rattle.kernel_set.proofs.Steps.{placed_more, placed_fault, placed_all, window_is}
use Rattle.kernel_set.proofs.Windows.{near_between, on_true}
use Rattle.kernel_set.proofs.sums.write_filtered.Goals as goal

pub loop-n-preserved : goal.loop-n-preserved
loop-n-preserved c =
    let y : FitsSigned w64 c.in-Ok.y = search rules in
    let part = ap (λ (l : List ℤ). dot_product c.args.taps.now (reverse l)) (window_is c.loop-n.n (length c.args.taps.now) c.args.x.now) in
    rw (to_z-of_z w64 c.in-Ok.y y)
    (placed_more (λ n. dot_product c.args.taps.now (reverse (window c.args.x.now n (length c.args.taps.now)))) c.loop-n.n c.loop-n.o c.in-Ok.y (omega arith) c.loop-n.invariant (sym (c.in-Ok.ensures ∙ part)))

pub returns-in-Err : goal.returns-in-Err
returns-in-Err c =
    let part = ap (λ (l : List ℤ). dot_product c.args.taps.now (reverse l)) (window_is c.loop-n.n (length c.args.taps.now) c.args.x.now) in
    placed_fault (λ n. dot_product c.args.taps.now (reverse (window c.args.x.now n (length c.args.taps.now)))) _ c.loop-n.n c.loop-n.o c.in-Err.fault (omega arith) (omega arith) c.loop-n.invariant (sym (c.in-Err.ensures ∙ part))

pub returns : goal.returns
returns c = placed_all (λ n. dot_product c.args.taps.now (reverse (window c.args.x.now n (length c.args.taps.now)))) _ c.loop-n.n c.loop-n.o (omega arith) (omega arith) (omega arith) c.loop-n.invariant

pub window_filtered-requires-clause-fits : goal.window_filtered-requires-clause-fits
window_filtered-requires-clause-fits c =
    let taps = c.args.taps.now in
    let x = c.args.x.now in
    on_true c.can_only_fit-fits.result (AreNear taps × AreNear x × (length taps ≤ 64)) (AreNear taps × AreNear (between c.loop-n.n (c.loop-n.n + length taps) x) × (length taps ≤ 64))
    (λ fits. (fits.0, near_between x c.loop-n.n (c.loop-n.n + length taps) (omega arith) fits.1, fits.2)) c.can_only_fit-fits.ensures
