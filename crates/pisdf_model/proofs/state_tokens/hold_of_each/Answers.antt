use Rattle.std.proofs.Common.{◌≡◌, ◌∙◌, ap, arith}
use Rattle.pisdf_model.proofs.Holds.{first_level, level, next_level}
use Rattle.pisdf_model.proofs.state_tokens.hold_of_each.Goals as goal

pub loop-level-init : goal.loop-level-init
loop-level-init c = c.in_ok-holds.ensures.items_if_clones_equal (λ y h. h) ∙ first_level c.args.own.now c.args.children.now c.requires

pub loop-level-preserved : goal.loop-level-preserved
loop-level-preserved c = c.in_ok-holds-2.ensures ∙ next_level c.args.own.now c.args.children.now c.requires c.loop-level._level c.deref.result.now (c.deref.ensures.value ∙ c.loop-level.invariant)

pub returns : goal.returns
returns c =
    let below = c.loop-level.auto._level-end in
    let past = c.loop-level-test.false in
    let last : c.loop-level._level ≡ 8 = omega arith in
    c.loop-level.invariant ∙ ap (level c.args.own.now c.args.children.now c.requires) last
