use Rattle.std.proofs.Common.{◌≡◌, List, [], ◌∷◌, ◌++◌, map, set, get_or, sym, ◌∙◌, ap, Vec, Global}
use Rattle.std.proofs.lemmas.List.{map-set, get_or-map}
use Rattle.sdf_level.specs.declared.inner_link.InnerLink.{InnerLink}
use Rattle.firing_order.proofs.adjacent.push.Goals as goal

pub returns : goal.returns
returns c =
    let lists : List (Vec InnerLink Global) = c.args.lists.now in
    let items = λ (v : Vec InnerLink Global). v.items in
    let was : get_or (map items lists) c.args.actor [] ≡ (get_or lists c.args.actor c.index-lists-actor.result).items = get_or-map items lists c.args.actor c.index-lists-actor.result [] c.requires in
    map-set items lists c.args.actor c.push.new.self ∙ ap (λ (list : List InnerLink). set (map items lists) c.args.actor list) (c.in_ok-push.ensures.items ∙ ap (λ (list : List InnerLink). list ++ c.args.link ∷ []) (sym was))
