use Rattle.std.proofs.Common.{◌≡◌, ◌<◌, ◌≤◌, [], ◌∷◌, length, take, ap, ◌∙◌, subst, arith}
use Rattle.std.proofs.lemmas.List.{take_all}
use Rattle.sdf_level.specs.View.{LevelView}
use Rattle.sdf_level.specs.Invariants.{IsLevel}
use Rattle.sdf_level.proofs.InnerList.{inner_links-more, inner_links-none, between_level, few_inner}
use Rattle.sdf_level.proofs.level.Level.inner_links.Goals.{in-Some+in_ok-push, in_default}
use Rattle.sdf_level.proofs.level.Level.inner_links.Goals as goal

pub loop-link-preserved : goal.loop-link-preserved
loop-link-preserved c =
    let links : c.items-link-items.result.now ≡ c.args.self.now.links = c.items-link-items.ensures ∙ ap (λ (v : LevelView). v.links) c.self.view_is in
    let inside : c.loop-link.link-index < length c.args.self.now.links = rw (← links) c.loop-link-test.true in
    elim c.match-inner.branch [
      | in-Some+in_ok-push w ↦ rw (w.between-is, w.in_ok-push.ensures.items) (inner_links-more c.args.self.now.links c.loop-link.link-index _ c.loop-link.between.items (w.in-Some.found ∷ []) inside c.loop-link.invariant (rw links at w.in-Some.ensures))
      | in_default w ↦ rw w.between-is (inner_links-none c.args.self.now.links c.loop-link.link-index _ c.loop-link.between.items inside c.loop-link.invariant (rw links at w.in_default.ensures))
    ]

all_links : goal.returns-clause-links
all_links c =
    let links : c.items-link-items.result.now ≡ c.args.self.now.links = c.items-link-items.ensures ∙ ap (λ (v : LevelView). v.links) c.self.view_is in
    let over : length c.args.self.now.links ≤ c.loop-link.link-index = rw (← links) (let f = c.loop-link-test.false in omega arith) in
    let whole : take c.loop-link.link-index c.args.self.now.links ≡ c.args.self.now.links = take_all c.loop-link.link-index c.args.self.now.links over in
    rw whole at c.loop-link.invariant

pub returns-clause-links : goal.returns-clause-links
returns-clause-links c = all_links c

pub returns-clause-there : goal.returns-clause-there
returns-clause-there c =
    let known : IsLevel c.args.self.now = let P : LevelView → Type 0 = λ v. IsLevel v in subst P c.self.view_is c.self.invariant in
    between_level c.args.self.now c.loop-link.between.items known (all_links c)

pub returns-clause-few : goal.returns-clause-few
returns-clause-few c =
    let known : IsLevel c.args.self.now = let P : LevelView → Type 0 = λ v. IsLevel v in subst P c.self.view_is c.self.invariant in
    let few = known.few_links in
    let most = few_inner c.args.self.now c.loop-link.between.items (all_links c) in
    omega arith
