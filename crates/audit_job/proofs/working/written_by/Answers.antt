use Rattle.std.proofs.Common.{◌≡◌, ◌==◌, List, length, ap, ◌∙◌}
use Rattle.std.specs.Prelude.{filter}
use Rattle.job_flow.specs.Frames.{sizes_out}
use Rattle.sdf_level.specs.declared.single_rate.Edge.{Edge}
use Rattle.audit_job.specs.Flowing.{flow_of}
use Rattle.audit_job.specs.Rows.{end_of}
use Rattle.audit_job.specs.declared.rows.Side.TheVariants.{Tail}
use Rattle.audit_job.proofs.EdgeRows.{row_is}
use Rattle.audit_job.proofs.EdgesByNode.{same_sizes}
use Rattle.audit_job.proofs.Results.{ok_more}
use Rattle.audit_job.proofs.working.written_by.Goals as goal

pub returns : goal.returns
returns c =
    let job = c.args.job.now in
    let edges : List Edge = (flow_of job).edges in
    let row : c.deref.result.now ≡ filter (λ (e : Edge). end_of Tail e == c.args.node) edges = c.deref.ensures.value ∙ row_is Tail (length (flow_of job).nodes) edges job.out_of.items c.requires.rows.out_of c.args.node c.requires.there c.index.result.now c.index.ensures in
    ok_more _ _ c.sizes_out.result (λ sizes e. e ∙ ap (λ (l : List Edge). sizes_out l c.args.node) row ∙ same_sizes c.args.node edges) c.sizes_out.ensures
