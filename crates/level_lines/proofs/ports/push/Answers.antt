use Rattle.std.proofs.Common.{◌≡◌, List, [], ◌∷◌, ◌++◌, map, set, get_or, sym, ◌∙◌, ap, ℕ, Vec, Global, ◌<◌, length}
use Rattle.std.proofs.lemmas.List.{map-set, get_or-map, length-map}
use Rattle.level_lines.proofs.Placed.{listed_at}
use Rattle.level_lines.proofs.ports.push.Goals as goal

pub returns-in_ok-push : goal.returns-in_ok-push
returns-in_ok-push c =
    let lists : List (Vec ℕ Global) = c.args.lists.now in
    let items = λ (v : Vec ℕ Global). v.items in
    let inside : c.in-Some.actor < length (map items lists) = rw (length-map lists items) c.if-actor-lists.true in
    let was : get_or (map items lists) c.in-Some.actor [] ≡ (get_or lists c.in-Some.actor c.index-lists-actor.result).items = get_or-map items lists c.in-Some.actor c.index-lists-actor.result [] c.if-actor-lists.true in
    let now : map items (set lists c.in-Some.actor c.push.new.self) ≡ set (map items lists) c.in-Some.actor (get_or (map items lists) c.in-Some.actor [] ++ c.args.number ∷ []) =
    map-set items lists c.in-Some.actor c.push.new.self ∙ ap (λ (list : List ℕ). set (map items lists) c.in-Some.actor list) (c.in_ok-push.ensures.items ∙ ap (λ (list : List ℕ). list ++ c.args.number ∷ []) (sym was)) in
    listed_at (map items lists) _ c.args.actor c.in-Some.actor c.args.number c.in-Some.is inside now
