use Rattle.std.proofs.Common.{◌≡◌, ◌++◌, List, ap, ◌∙◌, subst}
use Rattle.std.specs.Prelude.{OnOk}
use Rattle.pisdf_model.specs.Details.{of_each}
use Rattle.pisdf_model.specs.Names.{scoped}
use Rattle.pisdf_model.specs.declared.names.Scope.TheVariants.{Graphs, Parts}
use Rattle.pisdf_model.specs.declared.names.ScopedName.{ScopedName}
use Rattle.graph_format.specs.FileNames.{actor_walk}
use Rattle.graph_format.specs.KnownNames.{names_of_params, file_port_names}
use Rattle.graph_reader.proofs.Pushed.{one_then_four}
use Rattle.graph_reader.proofs.scoped_names.push_graph.Goals as goal

pub returns : goal.returns
returns c =
    let g = c.args.graph.now in
    let n = c.args.number in
    let own : ScopedName = record { scope = Graphs; name = g.name } in
    let params = scoped (Parts n) (names_of_params g.params) in
    let inputs = scoped (Parts n) (file_port_names g.inputs) in
    let outputs = scoped (Parts n) (file_port_names g.outputs) in
    let walk = of_each (λ a actor. actor_walk n a actor) g.actors in
    let pushed = subst (λ actors. OnOk c.push_actors.result (c.push_actors.new.names.items ≡ c.push_names-3.new.names.items ++ of_each (λ a actor. actor_walk n a actor) actors)) c.items-4.ensures c.push_actors.ensures in
    subst (λ (names : List ScopedName). OnOk c.push_actors.result (c.push_actors.new.names.items ≡ names))
    (one_then_four c.args.names.now.items own params inputs outputs walk c.push_name.new.names.items c.push_names.new.names.items c.push_names-2.new.names.items c.push_names-3.new.names.items
    c.in_ok-push_name.ensures
    (c.in_ok-push_names.ensures ∙ ap (λ ps. c.push_name.new.names.items ++ scoped (Parts n) (names_of_params ps)) c.items.ensures)
    (c.in_ok-push_names-2.ensures ∙ ap (λ ps. c.push_names.new.names.items ++ scoped (Parts n) (file_port_names ps)) c.items-2.ensures)
    (c.in_ok-push_names-3.ensures ∙ ap (λ ps. c.push_names-2.new.names.items ++ scoped (Parts n) (file_port_names ps)) c.items-3.ensures))
    pushed
