use Rattle.std.proofs.Common.{◌≡◌, ◌^◌, get_or, rules, arith, FitsSigned, w64, to_z, of_z}
use Rattle.std.specs.Prelude.{ℤ, pos, ◌+ℤ◌}
use Rattle.std.proofs.lemmas.Int.{to_z-of_z}
use Rattle.kernel_set.specs.Near.{plus}
use Rattle.kernel_set.proofs.Steps.{bounded_fits, running_more}
use Rattle.kernel_set.proofs.Near.{near_abs, sum_fits, wider}
use Rattle.kernel_set.proofs.partial_sums.near_sum.Goals as goal

pub loop-i-preserved : goal.loop-i-preserved
loop-i-preserved c =
    let x : ℤ = get_or c.args.x.now c.loop-i.i (pos 0) in
    let all : ℤ = to_z w64 c.loop-i.all-bits in
    let x_fits : FitsSigned w64 x = search rules in
    let start : to_z w64 (of_z w64 c.args.start) ≡ c.args.start = to_z-of_z w64 c.args.start c.ranges.start in
    let so_far = rw start at c.loop-i.invariant in
    let small = near_abs x (c.requires.near c.loop-i.i c.loop-i-test.true) in
    let fits : FitsSigned w64 (all +ℤ x) = sum_fits c.args.start all x c.loop-i.i (2 ^ 27) c.requires.start (omega arith) (omega arith) small so_far.1 so_far.2 in
    let next = wider c.args.start all x c.loop-i.i (2 ^ 27) small so_far.1 so_far.2 in
    rw (to_z-of_z w64 x x_fits, to_z-of_z w64 (all +ℤ x) fits, start)
    (running_more plus all (all +ℤ x) c.args.x.now c.loop-i.i (pos 0) _ c.loop-i-test.true so_far.0 (bounded_fits (all +ℤ x) fits), next.0, next.1)
