use Rattle.std.proofs.Common.{◌≡◌, ℤ, ◌<◌, List, [], length, get_or, ap, sym, ◌∙◌, arith, Vec, Global}
use Rattle.std.proofs.lemmas.List.{get_or-map, length-map}
use Rattle.sdf_level.specs.Lists.{lists_of}
use Rattle.sdf_level.specs.View.{LevelView}
use Rattle.level_lines.proofs.Leaves.{left_step}
use Rattle.level_lines.proofs.ends.left.Goals as goal

pub loop-i-preserved : goal.loop-i-preserved
loop-i-preserved c =
    let lines : List (Vec ℤ Global) = c.args.lines.now in
    let items = λ (v : Vec ℤ Global). v.items in
    let links : c.items-links.result.now ≡ c.args.level.now.links = c.items-links.ensures ∙ ap (λ (v : LevelView). v.links) c.level.view_is in
    let inside : c.loop-i.i < length c.args.level.now.links = rw (← links) c.loop-i-test.true in
    let long : length (lists_of lines) ≡ length c.args.level.now.links = length-map lines items ∙ c.requires.lines in
    let line : c.as_slice.result.now ≡ get_or (lists_of lines) c.loop-i.i [] = c.as_slice.ensures.value ∙ ap items c.index-lines-i.is ∙ sym (get_or-map items lines c.loop-i.i c.index-lines-i.result [] (let r = c.requires.lines in omega arith)) in
    left_step c.args.counts.now c.args.level.now.links c.items-links.result.now (lists_of lines) c.loop-i.i c.loop-i.lists.items c.push.new.self.items
    c.as_slice.result.now c.in_ok-left_on_link.field-0 links inside long c.loop-i.invariant line c.in_ok-left_on_link.ensures c.in_ok-push.ensures.items
