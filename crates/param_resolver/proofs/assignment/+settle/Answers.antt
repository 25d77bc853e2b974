use Rattle.std.proofs.Common.{◌≡◌, ◌≤◌, All, IsSome, None, length, arith, sym, ap, ◌∙◌, refl, subst, rules, get_or}
use Rattle.std.proofs.lemmas.List.{get_or_read}
use Rattle.pisdf_model.proofs.Lists.{all_whole}
use Rattle.param_resolver.specs.Assignment.{outcome}
use Rattle.param_resolver.specs.Settled.{found_at, values_found}
use Rattle.pisdf_model.specs.ParamOrder.{refers}
use Rattle.pisdf_model.specs.declared.param.Param.{Param}
use Rattle.param_resolver.proofs.Settling.{name_below, name_lower, names_inside, settles_more, told_with}
use Rattle.param_resolver.proofs.assignment.+settle.Goals as goal

pub settle-requires : goal.settle-requires
settle-requires t c =
    let are = c.deref-other-items.ensures.value ∙ c.in_ok-named.ensures ∙ ap (λ (x : Param). refers x.kind) (sym c.index-params-place.is) in
    let there = c.loop-other-test.true in
    let place = c.requires.inside in
    let is = c.index-params-place.is in
    let below = name_below c.args.params.now c.requires.ordered c.args.place place c.index-params-place.result is c.deref-other-items.result.now are c.loop-other.other-index there in
    let lower = name_lower c.args.params.now c.requires.ordered c.args.place place c.index-params-place.result is c.deref-other-items.result.now are c.loop-other.other-index there in
    let so_far = c.loop-other.invariant in
    (omega arith, (c.requires.ordered, (below, (c.requires.supplied, (so_far.long ∙ c.requires.found, (so_far.many, so_far.numbered))))))

pub loop-other-preserved : goal.loop-other-preserved
loop-other-preserved t c =
    settles_more c.args.params.now c.args.supplied.now c.args.found.now c.loop-other.found c.settle.new.found c.loop-other.numbers c.settle.new.numbers c.deref-other-items.result.now c.loop-other.other-index
    c.loop-other-test.true c.loop-other.invariant (search rules) (search rules) c.in_ok-settle.ensures.settled c.in_ok-settle.ensures.kept c.in_ok-settle.ensures.told c.in_ok-settle.ensures.numbers

pub outcome-settled-requires-clause-inside : goal.outcome-settled-requires-clause-inside
outcome-settled-requires-clause-inside t c =
    names_inside c.args.params.now c.requires.ordered c.args.place c.requires.inside c.index-params-place-2.result c.index-params-place-2.is (length c.loop-other.found) (c.loop-other.invariant.long ∙ c.requires.found)

pub returns-clause-told : goal.returns-clause-told
returns-clause-told t c =
    let params = c.args.params.now in
    let found = c.loop-other.found in
    let so_far = c.loop-other.invariant in
    let inside = c.requires.inside in
    let p = c.index-params-place.result in
    let are = c.deref-other-items.ensures.value ∙ c.in_ok-named.ensures ∙ ap (λ (x : Param). refers x.kind) (sym c.index-params-place.is) in
    let same : c.index-params-place-2.result ≡ p = get_or_read params c.args.place c.index-params-place-2.result inside c.index-params-place-2.is p ∙ sym c.index-params-place.is in
    let whole : length c.deref-other-items.result.now ≤ c.loop-other.other-index = omega arith in
    let settled = subst (λ places. All (λ q. IsSome (found_at found q)) places) are (all_whole (λ q. IsSome (found_at found q)) c.deref-other-items.result.now c.loop-other.other-index whole so_far.settled) in
    let supplied = get_or c.args.supplied.now c.args.place None in
    let told = told_with params c.requires.ordered c.args.place inside p c.index-params-place.is c.args.supplied.now c.requires.supplied c.args.found.now found settled so_far.told (so_far.long ∙ c.requires.found)
    c.outcome-settled.result supplied refl (c.outcome-settled.ensures ∙ ap (λ (x : Param). outcome (values_found found) x.low x.high x.kind supplied) same) in
    rw c.put.ensures.found told
