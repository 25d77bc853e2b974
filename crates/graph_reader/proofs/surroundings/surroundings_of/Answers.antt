use Rattle.std.proofs.Common.{map, ap, ◌∙◌}
use Rattle.graph_format.specs.declared.actor.FileActor.{FileActor}
use Rattle.graph_format.specs.KnownNames.{names_of_actors, names_of_params, ports_of}
use Rattle.graph_reader.proofs.Placing.{same_setting}
use Rattle.graph_reader.proofs.surroundings.surroundings_of.Goals as goal

pub returns : goal.returns
returns c = λ graphs of.
    same_setting _ _ _ _ _ _ graphs c.args.graph.now c.args.version c.args.is_top c.args.delays of.graphs (c.in_ok-params.ensures ∙ ap names_of_params c.items.ensures) c.requires (c.in_ok-actors.ensures ∙ ap names_of_actors c.items-2.ensures)
    (c.in_ok-ports.ensures graphs of ∙ ap (map (λ (a : FileActor). ports_of graphs a.body)) c.items-3.ensures)
