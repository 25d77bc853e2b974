use Rattle.std.proofs.Common.{◌≡◌, ℕ, List, [], map, set, ◌∙◌, ap, Vec, Global}
use Rattle.std.proofs.lemmas.List.{map-set}
use Rattle.sdf_level.proofs.groups.take_out.Goals as goal

pub returns-clause-left : goal.returns-clause-left
returns-clause-left c =
    let lists : List (Vec ℕ Global) = c.args.lists.now in
    let items = λ (v : Vec ℕ Global). v.items in
    let empty : c.replace.new.dest.items ≡ [] = ap items c.replace.ensures.after ∙ c.new.ensures.items in
    map-set items lists c.args.at c.replace.new.dest ∙ ap (λ (list : List ℕ). set (map items lists) c.args.at list) empty
