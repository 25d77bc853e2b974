use Rattle.std.proofs.Common.{◌≡◌, ◌<◌, ℕ, List, [], length, get_or, map, set, sym, ap, ◌∙◌, arith}
use Rattle.std.specs.Prelude.{Vec}
use Rattle.std.specs.Global.{Global}
use Rattle.std.proofs.lemmas.List.{get_or-map, map-set}
use Rattle.sdf_level.specs.Lists.{lists_of}
use Rattle.sdf_level.specs.declared.node.Node.{Node}
use Rattle.audit_job.specs.Outlets.{noted_firing}
use Rattle.audit_job.proofs.outlets.note_firing.Goals as goal

pub returns-then-actor-len : goal.returns-then-actor-len
returns-then-actor-len c =
    let lists : List (Vec ℕ Global) = c.args.lists.now.items in
    let items = λ (v : Vec ℕ Global). v.items in
    let a = c.in-Firing.actor in
    let inside : a < length lists = omega (arith, c.args.lists.now.ok.0) in
    let was : c.index_mut.result.now.items ≡ get_or (map items lists) a [] = ap items c.index_mut.ensures.value ∙ sym (get_or-map items lists a c.index_mut.result.now [] inside) in
    let now : c.note.new.places.items ≡ set (get_or (map items lists) a []) c.in-Firing.turn c.args.place = c.note.ensures ∙ ap (λ (l : List ℕ). set l c.in-Firing.turn c.args.place) was in
    map-set items lists a c.note.new.places ∙ ap (λ (r : List ℕ). set (map items lists) a r) now ∙ ap (λ (x : Node). noted_firing (lists_of lists) x c.args.place) (sym c.in-Firing.is)
