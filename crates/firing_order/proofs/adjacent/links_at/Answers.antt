use Rattle.std.proofs.Common.{◌≡◌, ℕ, List, ◌++◌, length, get_or, take, drop, arith, sym, ◌∙◌, subst, Vec, Global}
use Rattle.std.proofs.lemmas.Grind.{common_steps}
use Rattle.std.proofs.lemmas.List.{length-map, take_more}
use Rattle.sdf_level.specs.declared.inner_link.InnerLink.{InnerLink}
use Rattle.sdf_level.specs.Lists.{lists_of}
use Rattle.firing_order.specs.Adjacent.{Adds}
use Rattle.firing_order.proofs.adjacent.links_at.Goals as goal

abbrev none : InnerLink
none = record { tail = 0; produced = 0; head = 0; consumed = 0; delay = 0 }

pub loop-link-preserved : goal.loop-link-preserved
loop-link-preserved c =
    let lists : List (Vec InnerLink Global) = c.loop-link.lists.items in
    let whole : take c.loop-link.lists.len (c.add.new.lists ++ drop (length c.add.new.lists) lists) ≡ c.add.new.lists = grind (arith, common_steps) in
    let long : length lists ≡ c.args.actors = sym (length-map lists (λ v. v.items)) ∙ c.loop-link.invariant.one_each in
    let link : InnerLink = get_or c.args.links.now c.loop-link.link-index none in
    let P : ℕ → Type 0 = λ n. Adds n link (lists_of lists) (lists_of c.add.new.lists) in
    let added : P (length lists) = rw c.deref_mut.ensures.value at c.in_ok-add.ensures in
    rw (whole, take_more c.args.links.now c.loop-link.link-index none c.loop-link-test.true) (subst P long added (take c.loop-link.link-index c.args.links.now) c.loop-link.invariant)
