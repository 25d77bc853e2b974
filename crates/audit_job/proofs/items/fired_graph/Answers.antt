use Rattle.std.proofs.Common.{◌<◌, List, length, Some, refl, sym, ap, ◌∙◌, subst}
use Rattle.pisdf_model.specs.declared.graph.Graph.{Graph}
use Rattle.audit_job.proofs.ConfigItems.{graph_found, graph_here, graph_inside}
use Rattle.audit_job.proofs.items.fired_graph.Goals as goal

pub bounds-items-job : goal.bounds-items-job
bounds-items-job c = subst (λ (l : List Graph). c.args.job.now.firing.graph < length l) (sym c.items.ensures) (graph_inside c.args.graphs.now.graphs c.args.job.now.firing c.requires.1.fit)

pub returns-clause-same : goal.returns-clause-same
returns-clause-same c = graph_found c.args.graphs.now.graphs c.args.job.now.firing c.requires.1.fit c.items.result.now c.args.job.now.firing.graph c.index-items-job.result c.items.ensures refl c.index-items-job.is

pub returns-clause-here : goal.returns-clause-here
returns-clause-here c =
    graph_here c.args.graphs.now.graphs c.args.job.now.firing c.requires.1.fit
    ∙ ap Some (sym (graph_found c.args.graphs.now.graphs c.args.job.now.firing c.requires.1.fit c.items.result.now c.args.job.now.firing.graph c.index-items-job.result c.items.ensures refl c.index-items-job.is))
