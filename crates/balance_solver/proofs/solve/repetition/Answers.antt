use Rattle.std.proofs.Common.{◌≡◌, ◌<◌, ◌≤◌, ◌++◌, List, length, map, get_or, ap, arith, rules, ◌∙◌, replicate, take, drop}
use Rattle.std.proofs.lemmas.Grind.{common_steps}
use Rattle.std.proofs.lemmas.Bool.{OnTrue_at, OnFalse_at}
use Rattle.std.proofs.lemmas.List.{get_or-map, length-map, take_all, take_more}
use Rattle.sdf_level.specs.View.{LevelView}
use Rattle.sdf_level.specs.Numbered.{as_link, inner_links}
use Rattle.sdf_level.specs.declared.inner_link.InnerLink.{InnerLink}
use Rattle.sdf_level.specs.declared.link.Link.{Link}
use Rattle.sdf_level.proofs.InnerList.{inner_links-as_links}
use Rattle.sdf_level.proofs.OnlyOne.{base_only}
use Rattle.balance_solver.proofs.Solved.{joined_at_start, no_vector, is_base, over, base_from, no_vector_from}
use Rattle.balance_solver.proofs.solve.repetition.Goals as goal

abbrev none : InnerLink
none = record { tail = 0; produced = 0; head = 0; consumed = 0; delay = 0 }

pub loop-link-init : goal.loop-link-init
loop-link-init c =
    let actors : c.level.inside.actors ≡ c.args.level.now.actors = ap (λ (v : LevelView). v.actors) c.level.view_is in
    let ones : c.in_ok-q.q.items ≡ replicate c.args.level.now.actors 1 = grind (arith, common_steps) in
    record {
      grouped = rw actors at c.in_ok-groups.ensures.grouped;
      q = search rules;
      joined = joined_at_start c.args.level.now.actors c.in_ok-groups.groups.number.items c.in_ok-q.q.items (rw actors at c.in_ok-groups.ensures.own) ones;
    }

pub loop-link-preserved : goal.loop-link-preserved
loop-link-preserved c =
    let links : List Link = map as_link c.deref-link-items.result.now in
    let inside : c.loop-link.link-index < length links = let m = length-map c.deref-link-items.result.now as_link in let t = c.loop-link-test.true in omega arith in
    let this : get_or links c.loop-link.link-index (as_link none) ≡ as_link (get_or c.deref-link-items.result.now c.loop-link.link-index none) = get_or-map as_link c.deref-link-items.result.now c.loop-link.link-index none (as_link none) c.loop-link-test.true in
    let whole : take c.loop-link.q.len (c.join.new.q ++ drop (length c.join.new.q) c.loop-link.q.items) ≡ c.join.new.q = grind (arith, common_steps) in
    let grouped = OnTrue_at c.if-not-branch.false c.in_ok-join.ensures.grouped in
    let joined = OnTrue_at c.if-not-branch.false c.in_ok-join.ensures.joined in
    let long : length c.join.new.q ≡ c.args.level.now.actors = (rw c.deref_mut.ensures.value at c.join.auto.q) ∙ c.loop-link.invariant.q in
    rw (whole, take_more links c.loop-link.link-index (as_link none) inside, this) record {
      grouped = rw (c.deref_mut.ensures.value, c.loop-link.invariant.q) at grouped;
      q = long;
      joined = (rw (c.deref_mut.ensures.value, c.loop-link.invariant.q) at joined) (take c.loop-link.link-index links) c.loop-link.invariant.joined;
    }

pub returns-then-not-branch-clause-no_vector : goal.returns-then-not-branch-clause-no_vector
returns-then-not-branch-clause-no_vector c e =
    let links : List Link = map as_link c.deref-link-items.result.now in
    let same : inner_links links ≡ inner_links c.args.level.now.links = inner_links-as_links c.deref-link-items.result.now ∙ rw c.deref-link-items.ensures.value c.in_ok-links.ensures.links in
    let inside : c.loop-link.link-index < length links = let m = length-map c.deref-link-items.result.now as_link in let t = c.loop-link-test.true in omega arith in
    let this : get_or links c.loop-link.link-index (as_link none) ≡ as_link (get_or c.deref-link-items.result.now c.loop-link.link-index none) = get_or-map as_link c.deref-link-items.result.now c.loop-link.link-index none (as_link none) c.loop-link-test.true in
    let refused = OnFalse_at c.if-not-branch.true c.in_ok-join.ensures.refused in
    no_vector_from c.args.level.now links same
    (no_vector (over c.args.level.now links same) c.loop-link.link-index (as_link none) c.loop-link.groups.number.items c.loop-link.q.items inside c.loop-link.invariant.joined
    (rw this (rw (c.deref_mut.ensures.value, c.loop-link.invariant.q) at refused)))

solved : goal.returns-clause-base
solved c =
    let links : List Link = map as_link c.deref-link-items.result.now in
    let same : inner_links links ≡ inner_links c.args.level.now.links = inner_links-as_links c.deref-link-items.result.now ∙ rw c.deref-link-items.ensures.value c.in_ok-links.ensures.links in
    let past : length links ≤ c.loop-link.link-index = let m = length-map c.deref-link-items.result.now as_link in let f = c.loop-link-test.false in omega arith in
    let whole : take c.loop-link.link-index links ≡ links = take_all c.loop-link.link-index links past in
    rw c.new.ensures (base_from c.args.level.now links same c.loop-link.q.items
    (is_base (over c.args.level.now links same) c.loop-link.groups.number.items c.loop-link.q.items c.loop-link.invariant.q (rw whole at c.loop-link.invariant.joined)))

pub returns-clause-base : goal.returns-clause-base
returns-clause-base c = solved c

pub returns-clause-refused : goal.returns-clause-refused
returns-clause-refused c none = absurd (none _ (solved c).solves)

pub returns-clause-only : goal.returns-clause-only
returns-clause-only c other is = base_only c.args.level.now other _ is (solved c)
