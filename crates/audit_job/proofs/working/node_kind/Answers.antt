use Rattle.std.proofs.Common.{◌≡◌, ◌≤◌, Option, Some, None, length, slice_get, sym, ap, ◌∙◌, subst, arith}
use Rattle.std.proofs.lemmas.Option.{slice_get_past}
use Rattle.nested_jobs.specs.Rules.{Task}
use Rattle.param_resolver.specs.Numbering.{acting}
use Rattle.pisdf_meaning.specs.declared.firing.Firing.{Firing}
use Rattle.job_rules.specs.Words as words
use Rattle.sdf_level.specs.declared.node.Node.TheVariants as node
use Rattle.audit_job.specs.Kinds.{IsKind}
use Rattle.audit_job.proofs.KindTasks.{copy_work, firing_is}
use Rattle.audit_job.proofs.working.node_kind.Goals as goal

pub returns-then-actor-places : goal.returns-then-actor-places
returns-then-actor-places c = λ graphs firing values read written.
    subst (λ (t : Option (Task Firing words.Work)). IsKind t c.actor_kind.result)
    (sym (firing_is graphs c.args.graph.now firing values read written c.args.node c.in-Firing.actor c.in-Firing.turn (Some c.acting_at.result.now) c.in-Firing.is c.acting_at.ensures))
    (c.actor_kind.ensures graphs c.args.graph.now firing values c.in-Firing.actor c.in-Firing.turn read c.acting_at.result.now)

pub returns-else-actor-places : goal.returns-else-actor-places
returns-else-actor-places c = λ graphs firing values read written.
    let many = ap length c.requires ∙ (c.level_by_actor.ensures.many graphs c.args.graph.now values).places in
    let past : length (acting c.args.graph.now) ≤ c.in-Firing.actor = omega arith in
    let none : slice_get (acting c.args.graph.now) c.in-Firing.actor ≡ None = slice_get_past (acting c.args.graph.now) c.in-Firing.actor past in
    firing_is graphs c.args.graph.now firing values read written c.args.node c.in-Firing.actor c.in-Firing.turn None c.in-Firing.is none

pub returns-in-Source : goal.returns-in-Source
returns-in-Source c = λ graphs firing values read written. copy_work graphs c.args.graph.now firing values read written c.args.node (node.Source c.in-Source.field-0) c.in-Source.is tt

pub returns-in-Init : goal.returns-in-Init
returns-in-Init c = λ graphs firing values read written. copy_work graphs c.args.graph.now firing values read written c.args.node (node.Init c.in-Init.field-0) c.in-Init.is tt

pub returns-in-End : goal.returns-in-End
returns-in-End c = λ graphs firing values read written. copy_work graphs c.args.graph.now firing values read written c.args.node (node.End c.in-End.field-0) c.in-End.is tt

pub returns-in-Sink : goal.returns-in-Sink
returns-in-Sink c = λ graphs firing values read written. copy_work graphs c.args.graph.now firing values read written c.args.node (node.Sink c.in-Sink.field-0) c.in-Sink.is tt

pub returns-in-Broadcast : goal.returns-in-Broadcast
returns-in-Broadcast c = λ graphs firing values read written. copy_work graphs c.args.graph.now firing values read written c.args.node (node.Broadcast c.in-Broadcast.field-0) c.in-Broadcast.is tt

pub returns-in-Fork : goal.returns-in-Fork
returns-in-Fork c = λ graphs firing values read written. copy_work graphs c.args.graph.now firing values read written c.args.node (node.Fork c.in-Fork.link c.in-Fork.turn) c.in-Fork.is tt

pub returns-in-Join : goal.returns-in-Join
returns-in-Join c = λ graphs firing values read written. copy_work graphs c.args.graph.now firing values read written c.args.node (node.Join c.in-Join.link c.in-Join.turn) c.in-Join.is tt

pub returns-in-Round : goal.returns-in-Round
returns-in-Round c = λ graphs firing values read written. copy_work graphs c.args.graph.now firing values read written c.args.node (node.Round c.in-Round.field-0) c.in-Round.is tt
