use Rattle.std.proofs.Common.{◌≡◌, ◌<◌, ◌≤◌, length, ap, sym, ◌∙◌, refl, arith}
use Rattle.level_laws.specs.Unfolded.{IsMetExactly}
use Rattle.sdf_level.specs.View.{LevelView}
use Rattle.unfold_rates.proofs.ServedLinks.{each_at, each_more, each_whole}
use Rattle.unfold_rates.proofs.serving.are_met.Goals as goal

pub loop-link-preserved : goal.loop-link-preserved
loop-link-preserved c =
    let links : c.items-link-items.result.now ≡ c.args.level.now.links = c.items-link-items.ensures ∙ ap (λ (v : LevelView). v.links) c.level.view_is in
    let inside : c.loop-link.link-index < length c.args.level.now.links = rw (← links) c.loop-link-test.true in
    each_more (IsMetExactly c.args.counts.now) c.args.level.now c.args.level.now.links c.loop-link.link-index inside c.loop-link.invariant (rw links at (c.is_met.ensures.0 c.if-not-is_met.false))

pub returns-then-not-is_met : goal.returns-then-not-is_met
returns-then-not-is_met c =
    let links : c.items-link-items.result.now ≡ c.args.level.now.links = c.items-link-items.ensures ∙ ap (λ (v : LevelView). v.links) c.level.view_is in
    let inside : c.loop-link.link-index < length c.args.level.now.links = rw (← links) c.loop-link-test.true in
    let iff = rw links at c.is_met.ensures in
    (λ f. absurd cc, λ each. sym c.if-not-is_met.true ∙ iff.1 (each_at (IsMetExactly c.args.counts.now) c.args.level.now c.args.level.now.links c.loop-link.link-index inside each))

pub returns : goal.returns
returns c =
    let links : c.items-link-items.result.now ≡ c.args.level.now.links = c.items-link-items.ensures ∙ ap (λ (v : LevelView). v.links) c.level.view_is in
    let over : length c.args.level.now.links ≤ c.loop-link.link-index = rw (← links) (let f = c.loop-link-test.false in omega arith) in
    (λ t. each_whole (IsMetExactly c.args.counts.now) c.args.level.now c.args.level.now.links c.loop-link.link-index over c.loop-link.invariant, λ each. refl)
