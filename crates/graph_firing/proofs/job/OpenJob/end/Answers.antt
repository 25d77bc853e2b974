use Rattle.graph_firing.proofs.Methods.{unlent_nodes}
use Rattle.graph_firing.proofs.job.OpenJob.end.Goals as goal

pub end_stage-requires : goal.end_stage-requires
end_stage-requires c =
    let i = c.self.inside in
    unlent_nodes i.configuring i.workers i.stage c.self.invariant c.args.self c.self.view_is c.requires
