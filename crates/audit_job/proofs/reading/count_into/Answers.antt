use Rattle.std.proofs.Common.{◌≡◌, ◌==◌, List, length, ap, ◌∙◌}
use Rattle.std.specs.Prelude.{filter}
use Rattle.job_flow.specs.Frames.{edges_into}
use Rattle.sdf_level.specs.declared.single_rate.Edge.{Edge}
use Rattle.audit_job.specs.Flowing.{flow_of}
use Rattle.audit_job.specs.Rows.{end_of}
use Rattle.audit_job.specs.declared.rows.Side.TheVariants.{Head}
use Rattle.audit_job.proofs.EdgeRows.{row_is}
use Rattle.audit_job.proofs.EdgesByNode.{same_into}
use Rattle.audit_job.proofs.reading.count_into.Goals as goal

pub returns : goal.returns
returns c =
    let job = c.args.job.now in
    let edges : List Edge = (flow_of job).edges in
    let row : c.deref.result.now ≡ filter (λ (e : Edge). end_of Head e == c.args.node) edges = c.deref.ensures.value ∙ row_is Head (length (flow_of job).nodes) edges job.into.items c.requires.rows.into c.args.node c.requires.there c.index.result.now c.index.ensures in
    c.edges_into.ensures ∙ ap (λ (l : List Edge). edges_into l c.args.node) row ∙ same_into c.args.node edges
