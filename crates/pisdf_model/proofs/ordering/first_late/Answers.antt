use Rattle.std.proofs.Common.{◌≡◌, ◌+◌, ◌<◌, length, false, sym, ap, ◌∙◌, arith, rules}
use Rattle.pisdf_model.specs.Details.{first}
use Rattle.pisdf_model.specs.ParamOrder.{is_late}
use Rattle.pisdf_model.proofs.Lists.{none_kept, first_kept, told_by_next}
use Rattle.pisdf_model.proofs.ordering.first_late.Goals as goal

pub returns-then-not-branch-clause-first : goal.returns-then-not-branch-clause-first
returns-then-not-branch-clause-first c =
    let none : c.in_ok-any_late.field-0 ≡ false = search rules in
    sym (ap first (none_kept (is_late c.args.graph.now) c.args.places.now (sym c.in_ok-any_late.ensures ∙ none)))

pub returns-clause-first : goal.returns-clause-first
returns-clause-first c =
    let order = c.loop-before.invariant.order in
    let close = c.loop-before-test.false in
    let most = c.loop-before.invariant.inside in
    let next : c.loop-before.behind ≡ c.loop-before.before + 1 = omega arith in
    let inside : c.loop-before.before < length c.args.places.now = omega arith in
    let late = rw next at c.loop-before.invariant.late in
    sym (first_kept (is_late c.args.graph.now) c.args.places.now c.loop-before.before 0 inside c.loop-before.invariant.early
    (told_by_next (is_late c.args.graph.now) c.args.places.now c.loop-before.before 0 inside c.loop-before.invariant.early late))
