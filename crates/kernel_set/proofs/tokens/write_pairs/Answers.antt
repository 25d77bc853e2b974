use Rattle.std.proofs.Common.{◌≡◌, slice_index_or, rules, arith, FitsSigned, w64}
use Rattle.std.specs.Prelude.{pos, Ok, Err}
use Rattle.std.proofs.lemmas.Int.{to_z-of_z}
use Rattle.kernel_set.proofs.Steps.{pair_more, pair_fault, pair_all}
use Rattle.kernel_set.proofs.tokens.write_pairs.Goals as goal

pub loop-i-preserved : goal.loop-i-preserved
loop-i-preserved g c =
    let x : FitsSigned w64 (slice_index_or c.args.x.now c.loop-i.i (pos 0)) = search rules in
    let z : FitsSigned w64 (slice_index_or c.args.z.now c.loop-i.i (pos 0)) = search rules in
    let y : FitsSigned w64 c.in-Ok.y = search rules in
    let at : g.M.PairMap.image c.args.m.now (slice_index_or c.args.x.now c.loop-i.i (pos 0)) (slice_index_or c.args.z.now c.loop-i.i (pos 0)) ≡ Ok c.in-Ok.y = grind (arith, to_z-of_z) in
    let more = pair_more (λ p. g.M.PairMap.image c.args.m.now p.0 p.1) c.args.x.now c.args.z.now c.loop-i.i c.loop-i.o (pos 0) (pos 0) c.in-Ok.y c.loop-i-test.true (omega arith) (omega arith) c.loop-i.invariant at in
    rw (to_z-of_z w64 c.in-Ok.y y) more

pub returns-in-Err : goal.returns-in-Err
returns-in-Err g c =
    let x : FitsSigned w64 (slice_index_or c.args.x.now c.loop-i.i (pos 0)) = search rules in
    let z : FitsSigned w64 (slice_index_or c.args.z.now c.loop-i.i (pos 0)) = search rules in
    let at : g.M.PairMap.image c.args.m.now (slice_index_or c.args.x.now c.loop-i.i (pos 0)) (slice_index_or c.args.z.now c.loop-i.i (pos 0)) ≡ Err c.in-Err.fault = grind (arith, to_z-of_z) in
    pair_fault (λ p. g.M.PairMap.image c.args.m.now p.0 p.1) c.args.x.now c.args.z.now c.loop-i.i c.loop-i.o (pos 0) (pos 0) c.in-Err.fault c.loop-i-test.true (omega arith) c.loop-i.invariant at

pub returns : goal.returns
returns g c =
    pair_all (λ p. g.M.PairMap.image c.args.m.now p.0 p.1) c.args.x.now c.args.z.now c.loop-i.i c.loop-i.o c.loop-i-test.false c.loop-i.auto.i-end (omega arith) (omega arith) c.loop-i.invariant
