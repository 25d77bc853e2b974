use Rattle.std.proofs.Common.{◌≡◌, List, slice_index, sym, ap, ◌∙◌}
use Rattle.job_preparing.specs.View as preparing
use Rattle.pisdf_meaning.specs.declared.firing.Firing.{Firing}
use Rattle.pisdf_model.specs.declared.actor.Actor.{Actor}
use Rattle.pisdf_model.specs.declared.graph.Graph.{Graph}
use Rattle.pisdf_model.specs.declared.graph.Graphs.{Graphs}
use Rattle.graph_firing.specs.Places.{config_places, places_from}
use Rattle.graph_firing.specs.View.{OpenView, compilation_of, graph_in}
use Rattle.graph_firing.proofs.Placed.{config_places_are, graph_found, has_place}
use Rattle.graph_firing.proofs.job.OpenJob.config_place.Goals as goal

pub nth_configuration-requires : goal.nth_configuration-requires
nth_configuration-requires c =
    let i = c.self.inside in
    let all : c.items.result.now ≡ i.configuring.graphs.graphs = c.items.ensures ∙ ap (λ (x : Graphs). x.graphs) (c.deref.ensures ∙ c.graphs-graphs.ensures) in
    let graph = graph_found i.configuring.graphs.graphs i.configuring.firing c.self.invariant.fit c.items.result.now c.firing.result.now.graph c.index-items-graph.result all (ap (λ (x : Firing). x.graph) c.firing.ensures) c.index-items-graph.is in
    has_place (preparing.graph_in i.configuring) c.args.item (compilation_of c.args.self.now) c.items-2.result.now (c.items-2.ensures ∙ ap (λ (x : Graph). x.actors) (sym c.index-items-graph.is ∙ graph)) (ap compilation_of (sym c.self.view_is)) c.requires

pub returns : goal.returns
returns c =
    let i = c.self.inside in
    let all : c.items.result.now ≡ i.configuring.graphs.graphs = c.items.ensures ∙ ap (λ (x : Graphs). x.graphs) (c.deref.ensures ∙ c.graphs-graphs.ensures) in
    let graph = graph_found i.configuring.graphs.graphs i.configuring.firing c.self.invariant.fit c.items.result.now c.firing.result.now.graph c.index-items-graph.result all (ap (λ (x : Firing). x.graph) c.firing.ensures) c.index-items-graph.is in
    c.nth_configuration.ensures
    ∙ ap (λ (l : List Actor). slice_index (places_from 0 l) c.args.item) (c.items-2.ensures ∙ ap (λ (x : Graph). x.actors) (sym c.index-items-graph.is ∙ graph))
    ∙ ap (λ l. slice_index l c.args.item) (config_places_are (preparing.graph_in i.configuring))
    ∙ ap (λ (x : OpenView). slice_index (config_places (graph_in x)) c.args.item) c.self.view_is
