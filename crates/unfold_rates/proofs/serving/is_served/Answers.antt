use Rattle.std.proofs.Common.{◌≡◌, ◌<◌, ◌≤◌, length, ap, ◌∙◌, refl, arith}
use Rattle.sdf_level.specs.View.{LevelView}
use Rattle.unfold_rates.specs.Components.{IsOfComponent}
use Rattle.unfold_rates.proofs.ServedLinks.{none_more, none_whole, some_at}
use Rattle.unfold_rates.proofs.serving.is_served.Goals as goal

pub loop-link-preserved : goal.loop-link-preserved
loop-link-preserved c =
    let links : c.items-link-items.result.now ≡ c.args.level.now.links = c.items-link-items.ensures ∙ ap (λ (v : LevelView). v.links) c.level.view_is in
    let inside : c.loop-link.link-index < length c.args.level.now.links = rw (← links) c.loop-link-test.true in
    let iff = rw links at c.serves.ensures in
    none_more (IsOfComponent c.args.component.now c.args.number) c.args.level.now c.args.level.now.links c.loop-link.link-index inside c.loop-link.invariant (λ is. let t = iff.1 is in let f = c.if-serves.false in absurd cc)

pub returns-then-serves : goal.returns-then-serves
returns-then-serves c =
    let links : c.items-link-items.result.now ≡ c.args.level.now.links = c.items-link-items.ensures ∙ ap (λ (v : LevelView). v.links) c.level.view_is in
    let inside : c.loop-link.link-index < length c.args.level.now.links = rw (← links) c.loop-link-test.true in
    let iff = rw links at c.serves.ensures in
    (λ t. some_at (IsOfComponent c.args.component.now c.args.number) c.args.level.now c.args.level.now.links c.loop-link.link-index inside (iff.0 c.if-serves.true), λ some. refl)

pub returns : goal.returns
returns c =
    let links : c.items-link-items.result.now ≡ c.args.level.now.links = c.items-link-items.ensures ∙ ap (λ (v : LevelView). v.links) c.level.view_is in
    let over : length c.args.level.now.links ≤ c.loop-link.link-index = rw (← links) (let f = c.loop-link-test.false in omega arith) in
    (λ f. absurd cc, λ some. absurd (none_whole (IsOfComponent c.args.component.now c.args.number) c.args.level.now c.args.level.now.links c.loop-link.link-index over c.loop-link.invariant some))
