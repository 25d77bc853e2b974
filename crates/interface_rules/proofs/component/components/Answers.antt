use Rattle.std.proofs.Common.{◌≡◌, ◌<◌, ◌≤◌, List, length, map, get_or, take, ap, ◌∙◌, arith}
use Rattle.std.proofs.lemmas.List.{get_or-map, length-map, take_all}
use Rattle.sdf_level.specs.View.{LevelView}
use Rattle.sdf_level.specs.Numbered.{as_link, inner_links}
use Rattle.sdf_level.specs.declared.inner_link.InnerLink.{InnerLink}
use Rattle.sdf_level.specs.declared.link.Link.{Link}
use Rattle.sdf_level.proofs.InnerList.{inner_links-as_links}
use Rattle.interface_rules.proofs.Grouping.{grouped_at_start, grouped_next, grouped_same}
use Rattle.interface_rules.proofs.component.components.Goals as goal

abbrev none : InnerLink
none = record { tail = 0; produced = 0; head = 0; consumed = 0; delay = 0 }

pub loop-link-init : goal.loop-link-init
loop-link-init c =
    let actors : c.level.inside.actors ≡ c.args.level.now.actors = ap (λ (v : LevelView). v.actors) c.level.view_is in
    let grouping = rw actors at c.in_ok-groups.ensures.grouped in
    record {
      grouping = grouping;
      grouped = grouped_at_start c.args.level.now.actors c.in_ok-groups.groups.number.items grouping.one_number (rw actors at c.in_ok-groups.ensures.own);
    }

pub loop-link-preserved : goal.loop-link-preserved
loop-link-preserved c =
    let links : List Link = map as_link c.deref-link-items.result.now in
    let inside : c.loop-link.link-index < length links = let m = length-map c.deref-link-items.result.now as_link in let t = c.loop-link-test.true in omega arith in
    let this : get_or links c.loop-link.link-index (as_link none) ≡ as_link (get_or c.deref-link-items.result.now c.loop-link.link-index none) = get_or-map as_link c.deref-link-items.result.now c.loop-link.link-index none (as_link none) c.loop-link-test.true in
    let long = c.loop-link.invariant.grouping.one_number in
    record {
      grouping = rw long at c.in_ok-join.ensures.grouped;
      grouped = grouped_next c.args.level.now.actors links c.loop-link.link-index (as_link none) c.loop-link.groups.number.items c.join.new.groups.number.items inside c.loop-link.invariant.grouped (rw this (rw long at c.in_ok-join.ensures.joined));
    }

pub returns : goal.returns
returns c =
    let links : List Link = map as_link c.deref-link-items.result.now in
    let over : length links ≤ c.loop-link.link-index = let m = length-map c.deref-link-items.result.now as_link in let f = c.loop-link-test.false in omega arith in
    let whole : take c.loop-link.link-index links ≡ links = take_all c.loop-link.link-index links over in
    let same : inner_links links ≡ inner_links c.args.level.now.links = inner_links-as_links c.deref-link-items.result.now ∙ rw c.deref-link-items.ensures.value c.in_ok-links.ensures.links in
    grouped_same c.args.level.now.actors links c.args.level.now.links c.loop-link.groups.number.items same (rw whole at c.loop-link.invariant.grouped)
