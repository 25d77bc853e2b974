use Rattle.std.proofs.Common.{length, sym, ap, ◌∙◌, arith, below_more}
use Rattle.pisdf_model.specs.Details.{first}
use Rattle.pisdf_model.specs.Arrows.{leads}
use Rattle.pisdf_model.proofs.Firsts.{first_place, nowhere}
use Rattle.pisdf_model.proofs.arrows.first_on_cycle.Goals as goal

pub loop-place-preserved : goal.loop-place-preserved
loop-place-preserved c = below_more _ _ c.loop-place.invariant (sym c.in_ok-is_on_cycle.ensures ∙ c.if-branch.false)

pub returns : goal.returns
returns c = record {
  first = sym (ap first (nowhere (λ v. leads c.args.arrows.now v v) (length c.args.arrows.now) (λ j below. c.loop-place.invariant j (let whole = c.loop-place-test.false in omega arith))));
  inside = tt;
}

pub returns-then-branch-clause-first : goal.returns-then-branch-clause-first
returns-then-branch-clause-first c =
    sym (first_place (λ v. leads c.args.arrows.now v v) (length c.args.arrows.now) c.loop-place.place c.loop-place.invariant c.loop-place-test.true (sym c.in_ok-is_on_cycle.ensures ∙ c.if-branch.true))
