use Rattle.std.proofs.Common.{◌≡◌, ◌+◌, ◌-◌, ℤ, List, length, take, drop, refl, ◌∙◌, arith}
use Rattle.std.specs.Arc.{arc_value}
use Rattle.job_flow.specs.Outcomes.{ended}
use Rattle.pisdf_meaning.specs.Running.{given_by}
use Rattle.sdf_level.specs.LevelRun.{Ended}
use Rattle.audit_job.specs.Ending.{traces_at}
use Rattle.audit_job.specs.Flowing.{flow_of, results_of}
use Rattle.audit_job.specs.Marks.{answers}
use Rattle.audit_job.specs.declared.answer.Mark.{Mark}
use Rattle.audit_job.proofs.ConfigItems.{graph_found}
use Rattle.audit_job.proofs.Ended.{gives_so, has_nodes}
use Rattle.audit_job.proofs.NodeItems.{tail_is}
use Rattle.audit_job.proofs.ending.job_given.Goals as goal

pub unreachable-requires : goal.unreachable-requires
unreachable-requires c = has_nodes c.args.graphs.now c.requires.settled.0 c.args.job.now c.requires.settled.1 c.requires.sound c.in-None.is

pub returns : goal.returns
returns c =
    let job = c.args.job.now in
    let graphs = c.args.graphs.now in
    let nodes = c.in-Some.nodes in
    let firing = job.firing in
    let graph = graph_found graphs firing c.requires.settled.1.is_job.fit graphs firing.graph c.index-graphs-job.result refl refl c.index-graphs-job.is in
    let counted : c.len.result ≡ length job.places.items = omega (arith, job.places.ok.0) in
    let all = c.deref.ensures.value in
    let read : List Mark = take (length c.deref.result.now - (c.len.result + 1)) (drop (c.len.result + 1) c.deref.result.now) in
    let own : read ≡ drop (length job.places.items + 1) job.marks.items = (λ i. take (length (all i) - (counted i + 1)) (drop (counted i + 1) (all i))) ∙ tail_is job.marks.items (length job.places.items + 1) in
    let end : Ended ℤ = record { outs = c.in_ok-end-in-Some.end.outs; left = c.in_ok-end-in-Some.end.left } in
    let end_is = c.in_ok-end-in-Some.ensures.ended ∙ (λ i. ended (flow_of nodes) (results_of (flow_of nodes).nodes nodes.keeps.items (answers (own i)))) in
    let left = c.deref-in-Some.ensures.value in
    let values = c.items.ensures in
    let counts = (arc_value nodes.compiled).counts in
    let given_is = c.in_ok-given_by-in-Some.ensures counts (traces_at (flow_of nodes).nodes (answers read)) c.in_ok-end-in-Some.ensures.rows
    ∙ (λ i. given_by graphs (graph i) firing (left i) (values i) counts (traces_at (flow_of nodes).nodes (answers (own i))) end) in
    gives_so graphs c.requires.settled.0 job c.requires.settled.1 c.requires.sound nodes c.in-Some.is c.in_ok-given_by-in-Some.field-0 end end_is given_is
