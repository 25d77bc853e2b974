use Rattle.std.proofs.Common.{◌≡◌, ◌<◌, length, length-set, sym, ◌∙◌, rules, arith, FitsSigned, w64}
use Rattle.std.specs.Prelude.{ℤ, Err}
use Rattle.std.proofs.lemmas.Int.{to_z-of_z}
use Rattle.std.proofs.lemmas.Bool.Decides.{nat_tests}
use Rattle.kernel_gate.specs.Tokens.{places}
use Rattle.kernel_set.proofs.Steps.{WrittenTo, placed_more, placed_fault, placed_all, written_start, ramp_at, ramp_first, ramp_next, ramp_here, no_step}
use Rattle.kernel_set.proofs.rearranged.write_steps.Goals as goal

pub loop-n-init : goal.loop-n-init
loop-n-init c =
    let start = c.args.start in
    let step = c.args.step in
    let some : 0 < length c.args.o.now = grind (arith, nat_tests) in
    rw (to_z-of_z w64 start c.ranges.start)
    (rw (to_z-of_z w64 step c.ranges.step)
    (record {
      written = placed_more (ramp_at start step) 0 c.args.o.now start some (written_start (ramp_at start step) (places (length c.args.o.now)) c.args.o.now) (ramp_first start step c.ranges.start);
      here = no_step start step;
    }))

pub loop-n-preserved : goal.loop-n-preserved
loop-n-preserved c =
    let next : FitsSigned w64 c.in-Ok.next = search rules in
    let at = sym (c.in-Ok.ensures ∙ ramp_next _ _ _ c.loop-n.n (omega arith) c.loop-n.invariant.here) in
    rw (to_z-of_z w64 c.in-Ok.next next)
    (record {
      written = placed_more _ c.loop-n.n c.loop-n.o c.in-Ok.next (omega arith) c.loop-n.invariant.written at;
      here = ramp_here _ _ c.in-Ok.next c.loop-n.n at;
    })

pub returns-in-Err : goal.returns-in-Err
returns-in-Err c =
    let written : WrittenTo (ramp_at c.args.start c.args.step) (places (length c.loop-n.o)) c.loop-n.n c.loop-n.o =
    simp (to_z-of_z w64 c.args.start c.ranges.start, to_z-of_z w64 c.args.step c.ranges.step) at c.loop-n.invariant.written
    in
    let same : length c.args.o.now ≡ length c.loop-n.o = omega (arith, length-set {A = ℤ}) in
    let at = sym (c.in-Err.ensures ∙ ramp_next _ _ _ c.loop-n.n (omega arith) c.loop-n.invariant.here) in
    let here : ramp_at c.args.start c.args.step c.loop-n.n ≡ Err c.in-Err.fault =
    simp (to_z-of_z w64 c.args.start c.ranges.start, to_z-of_z w64 c.args.step c.ranges.step) at at
    in
    placed_fault (ramp_at c.args.start c.args.step) _ c.loop-n.n c.loop-n.o c.in-Err.fault same (omega arith) written here

pub returns : goal.returns
returns c =
    let some : 0 < length c.args.o.now = grind (arith, nat_tests) in
    let written : WrittenTo (ramp_at c.args.start c.args.step) (places (length c.loop-n.o)) c.loop-n.n c.loop-n.o =
    simp (to_z-of_z w64 c.args.start c.ranges.start, to_z-of_z w64 c.args.step c.ranges.step) at c.loop-n.invariant.written
    in
    let same : length c.args.o.now ≡ length c.loop-n.o = omega (arith, length-set {A = ℤ}) in
    placed_all (ramp_at c.args.start c.args.step) _ c.loop-n.n c.loop-n.o same (omega (arith, length-set {A = ℤ})) (omega (arith, length-set {A = ℤ})) written
