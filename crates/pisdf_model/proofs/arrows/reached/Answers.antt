use Rattle.std.proofs.Common.{◌≡◌, length, [], arith, rules, refl}
use Rattle.pisdf_model.proofs.Searching.{written, here, searches_start, inside_arrows, stays_inside, searches_on, searched}
use Rattle.pisdf_model.proofs.arrows.reached.Goals as goal

pub loop-place-init : goal.loop-place-init
loop-place-init c =
    let whole : length c.note.new.marks ≡ c.in_ok-marks.marks.len = omega arith in
    let notes = rw (c.deref_mut.ensures.value, c.in_ok-marks.ensures.items_if_clones_equal (λ y h. h), c.new-noted.ensures.items) at c.in_ok-note.ensures in
    rw (written c.in_ok-marks.marks.len c.in_ok-marks.marks.items c.note.new.marks whole) (searches_start c.args.arrows.now c.args.starts.now (length c.args.arrows.now) c.note.new.marks c.note.new.noted.items refl notes)

pub bounds-arrows-place : goal.bounds-arrows-place
bounds-arrows-place c = inside_arrows c.args.arrows.now c.args.starts.now c.loop-place.marks.items c.loop-place.noted.items c.pop.new.self.items c.in-Some.place c.loop-place.invariant c.in-Some.ensures.items

pub note-requires-in-Some : goal.note-requires-in-Some
note-requires-in-Some c =
    let fits = stays_inside c.args.arrows.now c.args.starts.now c.loop-place.marks.items c.loop-place.noted.items c.pop.new.self.items c.in-Some.place c.loop-place.invariant c.in-Some.ensures.items c.requires.inside in
    rw (here c.args.arrows.now c.in-Some.place c.index-arrows-place.result c.items.result.now (inside_arrows c.args.arrows.now c.args.starts.now c.loop-place.marks.items c.loop-place.noted.items c.pop.new.self.items c.in-Some.place c.loop-place.invariant c.in-Some.ensures.items) c.index-arrows-place.is c.items.ensures, c.deref_mut-in-Some.ensures.value) fits

pub loop-place-preserved : goal.loop-place-preserved
loop-place-preserved c =
    let whole : length c.note-in-Some.new.marks ≡ c.loop-place.marks.len = omega arith in
    let notes = rw (c.deref_mut-in-Some.ensures.value) at c.in_ok-note-2.ensures in
    let inside = inside_arrows c.args.arrows.now c.args.starts.now c.loop-place.marks.items c.loop-place.noted.items c.pop.new.self.items c.in-Some.place c.loop-place.invariant c.in-Some.ensures.items in
    rw (written c.loop-place.marks.len c.loop-place.marks.items c.note-in-Some.new.marks whole)
    (searches_on c.args.arrows.now c.args.starts.now c.loop-place.marks.items c.loop-place.noted.items c.pop.new.self.items c.in-Some.place c.loop-place.invariant c.in-Some.ensures.items c.note-in-Some.new.marks c.note-in-Some.new.noted.items
    (rw (here c.args.arrows.now c.in-Some.place c.index-arrows-place.result c.items.result.now inside c.index-arrows-place.is c.items.ensures) at notes))

pub returns-clause-exact : goal.returns-clause-exact
returns-clause-exact c =
    let none : c.loop-place.noted.items ≡ [] = search rules in
    searched c.args.arrows.now c.args.starts.now c.loop-place.marks.items (rw none at c.loop-place.invariant)
