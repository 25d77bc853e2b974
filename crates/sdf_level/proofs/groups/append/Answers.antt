use Rattle.std.proofs.Common.{◌≡◌, ℕ, List, [], ◌++◌, map, set, get_or, sym, ◌∙◌, ap, Vec, Global}
use Rattle.std.proofs.lemmas.List.{map-set, get_or-map}
use Rattle.sdf_level.proofs.groups.append.Goals as goal

pub returns : goal.returns
returns c =
    let lists : List (Vec ℕ Global) = c.args.lists.now in
    let items = λ (v : Vec ℕ Global). v.items in
    let was : get_or (map items lists) c.args.at [] ≡ (get_or lists c.args.at c.index-lists-at.result).items = get_or-map items lists c.args.at c.index-lists-at.result [] c.requires in
    map-set items lists c.args.at c.extend_from_slice.new.self ∙ ap (λ (list : List ℕ). set (map items lists) c.args.at list) (c.in_ok-extend_from_slice.ensures.items ∙ ap (λ (list : List ℕ). list ++ c.args.actors.now) (sym was))
