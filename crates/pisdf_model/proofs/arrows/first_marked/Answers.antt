use Rattle.std.proofs.Common.{length, false, sym, ap, arith, get_or}
use Rattle.pisdf_model.specs.Details.{first}
use Rattle.pisdf_model.proofs.Firsts.{first_place, nowhere}
use Rattle.pisdf_model.proofs.arrows.first_marked.Goals as goal

pub returns-then-marks-place-clause-first : goal.returns-then-marks-place-clause-first
returns-then-marks-place-clause-first c =
    sym (first_place (λ v. get_or c.args.marks.now v false) (length c.args.marks.now) c.loop-place.place c.loop-place.invariant c.loop-place-test.true c.if-marks-place.true)

pub returns-clause-first : goal.returns-clause-first
returns-clause-first c =
    sym (ap first (nowhere (λ v. get_or c.args.marks.now v false) (length c.args.marks.now) (λ j below. c.loop-place.invariant j (let whole = c.loop-place-test.false in omega arith))))
