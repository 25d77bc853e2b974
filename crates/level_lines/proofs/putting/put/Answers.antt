use Rattle.std.proofs.Common.{◌≡◌, ap, ◌∙◌, arith}
use Rattle.std.proofs.lemmas.List.{length-map}
use Rattle.sdf_level.specs.Lists.{lists_of}
use Rattle.sdf_level.specs.View.{LevelView}
use Rattle.level_lines.proofs.Placed.{places_inside}
use Rattle.level_lines.proofs.Puts.{put_step, put_done}
use Rattle.level_lines.proofs.putting.put.Goals as goal

pub bounds-links-place : goal.bounds-links-place
bounds-links-place c =
    let links : c.items-links.result.now ≡ c.args.level.now.links = c.items-links.ensures ∙ ap (λ (v : LevelView). v.links) c.level.view_is in
    let inside = places_inside _ c.args.level.now.links c.links_from-place-items.result.now c.loop-place.place-index (c.links_from-place-items.ensures ∙ c.requires.ports.from c.args.actor c.requires.actor) c.loop-place-test.true in
    rw links inside

pub extend-requires : goal.extend-requires
extend-requires c =
    let inside = places_inside _ c.args.level.now.links c.links_from-place-items.result.now c.loop-place.place-index (c.links_from-place-items.ensures ∙ c.requires.ports.from c.args.actor c.requires.actor) c.loop-place-test.true in
    let same = c.loop-place.auto.lines in
    omega arith

pub loop-place-preserved : goal.loop-place-preserved
loop-place-preserved c =
    let links : c.items-links.result.now ≡ c.args.level.now.links = c.items-links.ensures ∙ ap (λ (v : LevelView). v.links) c.level.view_is in
    put_step c.args.actor c.args.outputs.now c.args.level.now.links c.items-links.result.now c.links_from-place-items.result.now c.loop-place.place-index
    (lists_of c.args.lines.now) (lists_of c.loop-place.lines) (lists_of c.extend.new.lines) c.added_by-tokens.result.now
    links c.loop-place-test.true c.loop-place.invariant c.added_by-tokens.ensures c.in_ok-extend.ensures

pub returns : goal.returns
returns c =
    put_done c.args.actor c.args.outputs.now c.args.level.now.links c.links_from-place-items.result.now c.loop-place.place-index (lists_of c.args.lines.now) (lists_of c.loop-place.lines)
    c.loop-place.invariant (let f = c.loop-place-test.false in omega arith) (c.links_from-place-items.ensures ∙ c.requires.ports.from c.args.actor c.requires.actor)
    (length-map c.args.lines.now _ ∙ c.requires.lines)
