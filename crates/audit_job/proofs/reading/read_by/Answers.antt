use Rattle.std.proofs.Common.{◌≡◌, ◌<◌, ◌==◌, Bool, ℤ, List, length, get_or, sym, ap, ◌∙◌, subst}
use Rattle.std.specs.Prelude.{All, filter}
use Rattle.job_flow.specs.Frames as flow
use Rattle.pisdf_meaning.specs.declared.refusal.Refusal.{Refusal}
use Rattle.sdf_level.specs.declared.node.Node.{Node}
use Rattle.sdf_level.specs.declared.node.Node.TheVariants as node
use Rattle.sdf_level.specs.declared.single_rate.Edge.{Edge}
use Rattle.audit_job.specs.Flowing.{flow_of, results_of}
use Rattle.audit_job.specs.Marks.{answers}
use Rattle.audit_job.specs.Rows.{end_of}
use Rattle.audit_job.specs.declared.rows.Side.TheVariants.{Head}
use Rattle.audit_job.proofs.EdgeRows.{row_has, row_is}
use Rattle.audit_job.proofs.EdgesByNode.{same_arriving_below}
use Rattle.audit_job.proofs.PortReads.{reads_arriving}
use Rattle.audit_job.proofs.Results.{ok_more}
use Rattle.audit_job.proofs.reading.read_by.Goals as goal

pub arriving-requires-clause-nodes : goal.arriving-requires-clause-nodes
arriving-requires-clause-nodes c =
    let job = c.args.job.now in
    let edges : List Edge = (flow_of job).edges in
    let nodes : c.items-nodes.result.now ≡ (flow_of job).nodes = cc in
    let row : c.deref-2.result.now ≡ filter (λ (e : Edge). end_of Head e == c.args.node) edges = c.deref-2.ensures.value ∙ row_is Head (length (flow_of job).nodes) edges job.into.items c.requires.rows.into c.args.node c.requires.there c.index.result.now c.index.ensures in
    subst (λ (l : List Node). All (λ (e : Edge). e.tail < length l) c.deref-2.result.now) (sym nodes)
    (row_has Head (length (flow_of job).nodes) edges job.into.items c.requires.rows.into c.args.node c.requires.there (λ (e : Edge). e.tail < length (flow_of job).nodes) c.deref-2.result.now row c.requires.ends)

pub returns : goal.returns
returns c =
    let job = c.args.job.now in
    let edges : List Edge = (flow_of job).edges in
    let nodes : c.items-nodes.result.now ≡ (flow_of job).nodes = cc in
    let row : c.deref-2.result.now ≡ filter (λ (e : Edge). end_of Head e == c.args.node) edges = c.deref-2.ensures.value ∙ row_is Head (length (flow_of job).nodes) edges job.into.items c.requires.rows.into c.args.node c.requires.there c.index.result.now c.index.ensures in
    let keeps : c.deref-3.result.now ≡ job.keeps.items = c.deref-3.ensures.value in
    let which : Node = get_or c.items-nodes.result.now c.args.node (node.Source 0) in
    let V : List Node → List Bool → flow.Values ℤ Refusal = λ ns ks. results_of ns ks (answers c.args.marks.now) in
    let v : flow.Values ℤ Refusal = V (flow_of job).nodes job.keeps.items in
    let own : List Edge = filter (λ (e : Edge). end_of Head e == c.args.node) edges in
    let same : flow.arriving_below c.deref-2.result.now (flow.on (V c.items-nodes.result.now c.deref-3.result.now) c.deref-2.result.now) c.args.node c.ports_of-ports.result ≡ flow.arriving_below own (flow.on v own) c.args.node (flow.ports_in (flow_of job) which c.args.node) =
    (λ i. flow.arriving_below (row i) (flow.on (V (nodes i) (keeps i)) (row i)) c.args.node (c.ports_of-ports.ensures i)) in
    let all : flow.arriving_below own (flow.on v own) c.args.node (flow.ports_in (flow_of job) which c.args.node) ≡ flow.arriving_below edges (flow.on v edges) c.args.node (flow.ports_in (flow_of job) which c.args.node) =
    same_arriving_below c.args.node (flow.on_edge v) edges (flow.ports_in (flow_of job) which c.args.node) in
    let at : get_or (flow_of job).nodes c.args.node (node.Source 0) ≡ which = ap (λ (l : List Node). get_or l c.args.node (node.Source 0)) (sym nodes) in
    ok_more _ _ c.arriving.result (λ read e. e ∙ same ∙ all ∙ sym (reads_arriving (flow_of job) v c.args.node which at c.in_default.ensures)) c.arriving.ensures
