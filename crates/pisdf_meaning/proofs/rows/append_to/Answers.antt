use Rattle.std.proofs.Common.{◌≡◌, List, [], ◌++◌, map, set, get_or, sym, ◌∙◌, ap, Vec, Global}
use Rattle.std.proofs.lemmas.List.{map-set, get_or-map}
use Rattle.sdf_level.proofs.Branches.{OnOk-map}
use Rattle.pisdf_meaning.specs.declared.outcome.TraceRow.{TraceRow}
use Rattle.pisdf_meaning.proofs.rows.append_to.Goals as goal

pub returns : goal.returns
returns c =
    let rows : List (Vec TraceRow Global) = c.args.rows.now in
    let items = λ (v : Vec TraceRow Global). v.items in
    let was : get_or (map items rows) c.args.actor [] ≡ (get_or rows c.args.actor c.index-rows-actor.result).items = get_or-map items rows c.args.actor c.index-rows-actor.result [] c.requires in
    OnOk-map c.append_rows.result
    (λ e. map-set items rows c.args.actor c.append_rows.new.rows ∙ ap (λ (list : List TraceRow). set (map items rows) c.args.actor list) (e ∙ ap (λ (list : List TraceRow). list ++ c.args.more.now) (sym was)))
    c.append_rows.ensures
