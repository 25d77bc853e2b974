use Rattle.std.proofs.Common.{List, sym, subst, ◌∙◌}
use Rattle.pisdf_model.specs.WellFormed.{WellFormed}
use Rattle.pisdf_model.specs.declared.graph.Graph.{Graph}
use Rattle.pisdf_model.specs.declared.graph.Graphs.{Graphs}
use Rattle.graph_writer.proofs.later_version.upgrade.Goals as goal

pub returns-clause-well_formed : goal.returns-clause-well_formed
returns-clause-well_formed c =
    let with_graphs : List Graph → Graphs = λ graphs. record { version = 2; top = c.args.graphs.now.top; graphs = graphs } in
    subst (λ (graphs : List Graph). WellFormed (with_graphs graphs)) (sym (c.in_ok-copies.ensures ∙ c.items.ensures)) c.requires.well_formed
