use Rattle.std.proofs.Common.{◌≡◌, ◌<◌, length, ap, ◌∙◌}
use Rattle.sdf_level.specs.View.{LevelView}
use Rattle.interface_rules.proofs.Serving.{first_mismatch}
use Rattle.interface_rules.proofs.interface.factors.Goals as goal

pub returns-then-not-serve-clause-mismatch : goal.returns-then-not-serve-clause-mismatch
returns-then-not-serve-clause-mismatch c link e =
    let links : c.items-link-items.result.now ≡ c.args.level.now.links = c.items-link-items.ensures ∙ ap (λ (v : LevelView). v.links) c.level.view_is in
    let inside : c.loop-i.i < length c.args.level.now.links = rw (← links) c.loop-i-test.true in
    let same : c.loop-i.i ≡ link = cc e in
    rw (← same) (first_mismatch c.args.level.now c.loop-i.i _ inside c.loop-i.invariant.agree (rw links at c.if-not-serve.ensures.refused))
