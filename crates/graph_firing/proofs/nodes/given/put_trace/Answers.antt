use Rattle.std.proofs.Common.{◌≡◌, List, [], map, set, get_or, sym, ap, ◌∙◌, Vec, Global}
use Rattle.std.proofs.lemmas.List.{map-set, get_or-map}
use Rattle.pisdf_meaning.specs.declared.outcome.TraceRow.{TraceRow}
use Rattle.graph_firing.proofs.nodes.given.put_trace.Goals as goal

pub returns : goal.returns
returns c =
    let rows : List (Vec (List TraceRow) Global) = c.args.rows.now in
    let items = λ (v : Vec (List TraceRow) Global). v.items in
    let was : get_or (map items rows) c.args.actor [] ≡ (get_or rows c.args.actor c.index-rows-actor.result).items = get_or-map items rows c.args.actor c.index-rows-actor.result [] c.requires.actor in
    map-set items rows c.args.actor _ ∙ ap (λ (list : List (List TraceRow)). set (map items rows) c.args.actor (set list c.args.turn c.args.trace)) (sym was)
