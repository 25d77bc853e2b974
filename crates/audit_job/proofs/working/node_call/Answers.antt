use Rattle.std.proofs.Common.{◌≡◌, false, List, length, get_or, sym, ap, ◌∙◌, arith}
use Rattle.std.proofs.lemmas.List.{length-map}
use Rattle.std.proofs.lemmas.Option.{slice_get_within}
use Rattle.job_flow.specs.Frames.{inputs, lens}
use Rattle.job_flow.specs.Graphs.{node_at}
use Rattle.param_resolver.specs.Numbering.{acting}
use Rattle.pisdf_meaning.specs.Running.{child_firing}
use Rattle.pisdf_meaning.specs.States.{tokens_at}
use Rattle.pisdf_model.specs.Parts.{input_count}
use Rattle.pisdf_model.specs.declared.actor.Actor.{Actor}
use Rattle.sdf_level.specs.declared.node.Node.{Node}
use Rattle.sdf_level.specs.declared.node.Node.TheVariants as node
use Rattle.audit_job.specs.Flowing.{flow_of, results_of}
use Rattle.audit_job.specs.Marks.{answers}
use Rattle.audit_job.proofs.NodeAnswers.{call_is}
use Rattle.audit_job.proofs.NodeWork.{child_known, is_child}
use Rattle.audit_job.proofs.Results.{ok_more}
use Rattle.audit_job.proofs.working.node_call.Goals as goal

pub called_by-requires-clause-known : goal.called_by-requires-clause-known
called_by-requires-clause-known c =
    let job = c.args.job.now in
    let graphs = c.args.graphs.now in
    let graph = c.args.graph.now in
    let firing = c.args.firing.now in
    let which = node_at (flow_of job).nodes c.args.node in
    let read = inputs (flow_of job) (results_of (flow_of job).nodes job.keeps.items (answers c.args.marks.now)) c.args.node in
    let written = lens (flow_of job) c.args.node in
    let nodes : c.items.result.now ≡ (flow_of job).nodes = cc in
    let is : which ≡ node.Firing c.in-Some.actor c.in-Some.turn = ap (λ (l : List Node). get_or l c.args.node (node.Source 0)) (sym nodes) ∙ c.in-Some.ensures in
    let actor : Actor = c.acting_at-actor_of.result.now in
    let there = c.acting_at-actor_of.ensures in
    let child = is_child graphs graph firing job.values which read written c.in-Some.actor c.in-Some.turn is actor there c.requires.call.0 c.requires.call.1 in
    (_, child_known c.level_by_actor.ensures.each graphs graph firing job.values job.set c.requires.set c.in-Some.actor actor there child.0 child.1 child.2)

pub called_by-requires-clause-keeps : goal.called_by-requires-clause-keeps
called_by-requires-clause-keeps c =
    let job = c.args.job.now in
    let inside = slice_get_within (acting c.args.graph.now) c.in-Some.actor c.acting_at-actor_of.result.now c.acting_at-actor_of.ensures in
    let many : length job.keeps.items ≡ length (acting c.args.graph.now) = ap length c.requires.keeps ∙ length-map (acting c.args.graph.now) _ in
    omega arith

pub returns : goal.returns
returns c =
    let job = c.args.job.now in
    let graphs = c.args.graphs.now in
    let graph = c.args.graph.now in
    let firing = c.args.firing.now in
    let which = node_at (flow_of job).nodes c.args.node in
    let read = inputs (flow_of job) (results_of (flow_of job).nodes job.keeps.items (answers c.args.marks.now)) c.args.node in
    let written = lens (flow_of job) c.args.node in
    let nodes : c.items.result.now ≡ (flow_of job).nodes = cc in
    let is : which ≡ node.Firing c.in-Some.actor c.in-Some.turn = ap (λ (l : List Node). get_or l c.args.node (node.Source 0)) (sym nodes) ∙ c.in-Some.ensures in
    let actor : Actor = c.acting_at-actor_of.result.now in
    let there = c.acting_at-actor_of.ensures in
    let a = c.in-Some.actor in
    let child = is_child graphs graph firing job.values which read written a c.in-Some.turn is actor there c.requires.call.0 c.requires.call.1 in
    ok_more _ _ c.called_by.result
    (λ d e. call_is c.level_by_actor.ensures.each graphs graph firing job.values job.set c.requires.set job.keeps.items c.requires.keeps which read written a c.in-Some.turn is actor there child.0 child.1 child.2 d
    (e ∙ (λ i. child_firing graphs firing actor.name c.in-Some.turn (tokens_at job.set.args a) (get_or job.keeps.items a false) child.0 (input_count graphs actor.body) (c.in_ok-read.ensures i))))
    (c.called_by.ensures child.0 child.1 child.2)
