use Rattle.std.proofs.Common.{◌≤◌, refl, arith, below_more}
use Rattle.placement_checker.specs.Clashes.{Clashes}
use Rattle.placement_checker.proofs.Pairs.{valid_from_none, clash_is_invalid, first_clash, in_order, answered}
use Rattle.placement_checker.proofs.checker.check.Goals as goal

pub loop-e-preserved : goal.loop-e-preserved
loop-e-preserved g c = λ e h below inside.
    below_more (λ e. Clashes c.args.sizes.now (g.X.Exclusion.excludes c.args.exclusion.now) c.args.offsets.now c.args.height e h → ⊥) _
    (λ e below. c.loop-e.invariant e h below inside)
    (c.in_default.ensures.none h inside)
    e below

pub returns-in-Some-clause-clash : goal.returns-in-Some-clause-clash
returns-in-Some-clause-clash g c =
    answered _ _ _ _ _ _
    (first_clash _ _ _ _ c.loop-e.e c.in-Some.f c.in-Some.ensures.found.1 c.in-Some.ensures.found.2 c.in-Some.ensures.least c.loop-e.invariant)

pub returns-in-Some-clause-valid : goal.returns-in-Some-clause-valid
returns-in-Some-clause-valid g c = (
  (λ same. absurd (cc)),
  (λ valid. absurd (clash_is_invalid _ _ _ _ _ _ c.in-Some.ensures.found.1 c.in-Some.ensures.found.2 valid)),
)

pub returns-clause-clash : goal.returns-clause-clash
returns-clause-clash g c = λ e f. (
  (λ same. absurd (cc)),
  (λ first. let below : e ≤ f = in_order c.args.sizes.now (g.X.Exclusion.excludes c.args.exclusion.now) c.args.offsets.now c.args.height e f first.clash in let inside = first.inside in absurd (c.loop-e.invariant e f (omega arith) first.inside first.clash)),
)

pub returns-clause-valid : goal.returns-clause-valid
returns-clause-valid g c = (
  (λ same. valid_from_none _ _ _ _ (λ e f inside there clash. c.loop-e.invariant e f (omega arith) there clash)),
  (λ valid. refl),
)
