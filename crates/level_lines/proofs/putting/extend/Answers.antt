use Rattle.std.proofs.Common.{◌≡◌, ℤ, List, [], ◌++◌, map, set, get_or, sym, ◌∙◌, ap, Vec, Global}
use Rattle.std.proofs.lemmas.List.{map-set, get_or-map}
use Rattle.level_lines.proofs.putting.extend.Goals as goal

pub returns : goal.returns
returns c =
    let lines : List (Vec ℤ Global) = c.args.lines.now in
    let items = λ (v : Vec ℤ Global). v.items in
    let was : get_or (map items lines) c.args.place [] ≡ (get_or lines c.args.place c.index-lines-place.result).items = get_or-map items lines c.args.place c.index-lines-place.result [] c.requires in
    map-set items lines c.args.place c.extend_from_slice.new.self ∙ ap (λ (list : List ℤ). set (map items lines) c.args.place list) (c.in_ok-extend_from_slice.ensures.items ∙ ap (λ (list : List ℤ). list ++ c.args.tokens.now) (sym was))
