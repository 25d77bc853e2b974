use Rattle.std.proofs.Common.{◌∙◌}
use Rattle.job_preparing.specs.Handing.{end_of}
use Rattle.graph_firing.proofs.Methods.{compiling_unquiet, left_nodes, nodes_outcome, nodes_suits, quiet_nodes, ready_nodes, refused_outcome, waiting_outcome, waiting_refused}
use Rattle.graph_firing.proofs.job.OpenJob.outcome.Goals as goal

pub refused_early-requires : goal.refused_early-requires
refused_early-requires c =
    let i = c.self.inside in
    waiting_refused i.configuring i.workers i.stage c.self.invariant c.args.self c.self.view_is c.in-Waiting.is c.requires

pub returns-in-Waiting-clause-outcome : goal.returns-in-Waiting-clause-outcome
returns-in-Waiting-clause-outcome c =
    let i = c.self.inside in
    waiting_outcome i.configuring i.workers i.stage c.self.invariant c.args.self c.self.view_is c.refused_early.result c.in-Waiting.is c.refused_early.ensures

pub returns-in-Waiting-clause-suits : goal.returns-in-Waiting-clause-suits
returns-in-Waiting-clause-suits c =
    let i = c.self.inside in
    tt

pub refused_early-requires-in-Compiling : goal.refused_early-requires-in-Compiling
refused_early-requires-in-Compiling c =
    let i = c.self.inside in
    absurd (compiling_unquiet i.configuring i.workers i.stage c.self.invariant c.args.self c.self.view_is c.in-Compiling.is c.requires)

pub returns-in-Compiling-clause-outcome : goal.returns-in-Compiling-clause-outcome
returns-in-Compiling-clause-outcome c =
    let i = c.self.inside in
    absurd (compiling_unquiet i.configuring i.workers i.stage c.self.invariant c.args.self c.self.view_is c.in-Compiling.is c.requires)

pub returns-in-Compiling-clause-suits : goal.returns-in-Compiling-clause-suits
returns-in-Compiling-clause-suits c =
    let i = c.self.inside in
    tt

pub returns-in-Refused-clause-outcome : goal.returns-in-Refused-clause-outcome
returns-in-Refused-clause-outcome c =
    let i = c.self.inside in
    refused_outcome i.configuring i.workers i.stage c.self.invariant c.args.self c.self.view_is c.in-Refused.refusal c.in-Refused.is

pub returns-in-Refused-clause-suits : goal.returns-in-Refused-clause-suits
returns-in-Refused-clause-suits c =
    let i = c.self.inside in
    tt

pub into_configured-requires : goal.into_configured-requires
into_configured-requires c =
    let i = c.self.inside in
    ready_nodes i.configuring i.workers i.stage c.self.invariant c.args.self c.self.view_is c.in-Nodes.running c.in-Nodes.is

pub outcome-requires-clause-quiet : goal.outcome-requires-clause-quiet
outcome-requires-clause-quiet c =
    let i = c.self.inside in
    quiet_nodes i.configuring i.workers i.stage c.self.invariant c.args.self c.self.view_is c.in-Nodes.running c.in-Nodes.is c.requires

pub outcome-requires-clause-left : goal.outcome-requires-clause-left
outcome-requires-clause-left c =
    let i = c.self.inside in
    record { traced = c.into_configured.ensures.one_trace; all = c.into_configured.ensures.left ∙ left_nodes i.configuring i.workers i.stage c.self.invariant c.args.self c.self.view_is c.in-Nodes.running c.in-Nodes.is }

pub returns-in-Nodes-clause-outcome : goal.returns-in-Nodes-clause-outcome
returns-in-Nodes-clause-outcome c =
    let i = c.self.inside in
    nodes_outcome i.configuring i.workers i.stage c.self.invariant c.args.self c.self.view_is c.in-Nodes.running (end_of c.outcome.result) c.in-Nodes.is c.outcome.ensures.end

pub returns-in-Nodes-clause-suits : goal.returns-in-Nodes-clause-suits
returns-in-Nodes-clause-suits c =
    let i = c.self.inside in
    nodes_suits i.configuring i.workers i.stage c.self.invariant c.args.self c.self.view_is c.in-Nodes.running c.outcome.result c.in-Nodes.is c.outcome.ensures.suits
