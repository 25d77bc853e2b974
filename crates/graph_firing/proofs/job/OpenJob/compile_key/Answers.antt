use Rattle.graph_firing.proofs.CompileSteps.{key_of_ready, ready_so}
use Rattle.graph_firing.proofs.job.OpenJob.compile_key.Goals as goal

pub key-requires : goal.key-requires
key-requires c =
    let i = c.self.inside in
    ready_so i.configuring i.workers i.stage c.self.invariant c.args.self.now c.self.view_is c.requires.ready

pub returns : goal.returns
returns c =
    let i = c.self.inside in
    key_of_ready i.configuring i.workers i.stage c.self.invariant c.args.self.now c.self.view_is c.key.result c.key.ensures
