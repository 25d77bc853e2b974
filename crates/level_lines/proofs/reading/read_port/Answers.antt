use Rattle.std.proofs.Common.{◌≡◌, ℤ, ◌<◌, ◌≤◌, List, [], length, get_or, ap, sym, ◌∙◌, subst, arith, IfOk, Vec, Global}
use Rattle.std.proofs.lemmas.List.{get_or-map, length-map}
use Rattle.sdf_level.specs.Lists.{lists_of}
use Rattle.sdf_level.specs.Invariants.{how_many, is_into_port}
use Rattle.sdf_level.specs.View.{LevelView}
use Rattle.sdf_level.specs.declared.link.Link.{Link}
use Rattle.level_lines.proofs.AtPorts.{port_read, input_missing}
use Rattle.level_lines.proofs.reading.read_port.Goals as goal

pub link_into-requires : goal.link_into-requires
link_into-requires c =
    let links : c.items-links.result.now ≡ c.args.level.now.links = c.items-links.ensures ∙ ap (λ (v : LevelView). v.links) c.level.view_is in
    rw links c.requires.into

pub returns-in-Some : goal.returns-in-Some
returns-in-Some c =
    let lines : List (Vec ℤ Global) = c.args.lines.now in
    let items = λ (v : Vec ℤ Global). v.items in
    let links : c.items-links.result.now ≡ c.args.level.now.links = c.items-links.ensures ∙ ap (λ (v : LevelView). v.links) c.level.view_is in
    let there : c.in-Some.place < length c.args.level.now.links = rw links at c.in-Some.ensures.there in
    let long : length (lists_of lines) ≡ length c.args.level.now.links = length-map lines items ∙ c.requires.lines in
    let line : c.as_slice.result.now ≡ get_or (lists_of lines) c.in-Some.place [] = c.as_slice.ensures.value ∙ ap items c.index-lines-place.is ∙ sym (get_or-map items lines c.in-Some.place c.index-lines-place.result [] (let r = c.requires.lines in omega arith)) in
    let Once : List Link → Type 0 = λ l. how_many (is_into_port c.args.actor c.args.port) l ≤ 1 in
    let once : Once c.args.level.now.links = subst Once (ap (λ (v : LevelView). v.links) c.level.view_is) (c.level.invariant.inputs_once c.args.actor c.args.port) in
    subst (λ (list : List ℤ). IfOk c.read_link.result (λ tokens. tokens ≡ list))
    (port_read c.args.sources.now c.args.actor c.args.turn c.args.port c.args.level.now.links c.items-links.result.now (lists_of lines) c.in-Some.place c.as_slice.result.now
    links once there long c.in-Some.ensures.found line)
    c.read_link.ensures

pub returns-in-None : goal.returns-in-None
returns-in-None c =
    let links : c.items-links.result.now ≡ c.args.level.now.links = c.items-links.ensures ∙ ap (λ (v : LevelView). v.links) c.level.view_is in
    c.new-in-None.ensures ∙ c.new.ensures.items ∙ sym (input_missing c.args.sources.now c.args.actor c.args.turn c.args.port c.args.level.now.links (lists_of c.args.lines.now) (rw links at c.in-None.ensures.none))
