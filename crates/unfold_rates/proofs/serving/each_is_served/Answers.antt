use Rattle.std.proofs.Common.{◌≡◌, ◌<◌, ◌≤◌, ap, sym, ◌∙◌, refl, subst, arith, below_more}
use Rattle.level_laws.specs.Unfolded.{IsServed}
use Rattle.sdf_level.specs.Invariants.{IsLevel}
use Rattle.sdf_level.specs.View.{LevelView}
use Rattle.unfold_rates.proofs.ServedLinks.{component_of, served_by}
use Rattle.unfold_rates.proofs.serving.each_is_served.Goals as goal

pub loop-actor-preserved : goal.loop-actor-preserved
loop-actor-preserved c =
    let actors : c.level.inside.actors ≡ c.args.level.now.actors = ap (λ (v : LevelView). v.actors) c.level.view_is in
    let known : IsLevel c.args.level.now = let P : LevelView → Type 0 = λ v. IsLevel v in subst P c.level.view_is c.level.invariant in
    let inside : c.loop-actor.actor < c.args.level.now.actors = let t = c.loop-actor-test.true in omega arith in
    below_more (λ a. IsServed c.args.level.now a) c.loop-actor.actor c.loop-actor.invariant
    (served_by c.args.level.now known c.args.component.now c.requires c.loop-actor.actor inside (c.is_served.ensures.0 c.if-not-is_served.false))

pub returns-then-not-is_served : goal.returns-then-not-is_served
returns-then-not-is_served c =
    let actors : c.level.inside.actors ≡ c.args.level.now.actors = ap (λ (v : LevelView). v.actors) c.level.view_is in
    let known : IsLevel c.args.level.now = let P : LevelView → Type 0 = λ v. IsLevel v in subst P c.level.view_is c.level.invariant in
    let inside : c.loop-actor.actor < c.args.level.now.actors = let t = c.loop-actor-test.true in omega arith in
    (λ f. absurd cc, λ each. sym c.if-not-is_served.true ∙ c.is_served.ensures.1 (component_of c.args.level.now known c.args.component.now c.requires c.loop-actor.actor inside (each c.loop-actor.actor inside)))

pub returns : goal.returns
returns c =
    let actors : c.level.inside.actors ≡ c.args.level.now.actors = ap (λ (v : LevelView). v.actors) c.level.view_is in
    let over : c.args.level.now.actors ≤ c.loop-actor.actor = let f = c.loop-actor-test.false in omega arith in
    (λ t. λ a inside. c.loop-actor.invariant a (omega arith), λ each. refl)
