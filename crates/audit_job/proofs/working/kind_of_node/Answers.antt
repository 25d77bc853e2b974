use Rattle.std.proofs.Common.{◌≡◌, ◌≢◌, ◌<◌, ℕ, List, length, get_or, Option, sym, ap, ◌∙◌, subst, arith}
use Rattle.std.specs.Prelude.{slice_index}
use Rattle.std.specs.Arc.{arc_value}
use Rattle.job_flow.specs.Frames.{inputs, lens}
use Rattle.job_flow.specs.Graphs.{node_at}
use Rattle.job_rules.specs.Items.{graph_of, job_graph, node_task, node_values, nodes_in, ready_task, values_in}
use Rattle.job_rules.specs.Words as words
use Rattle.nested_jobs.specs.Rules.{Task}
use Rattle.pisdf_meaning.specs.declared.firing.Firing.{Firing}
use Rattle.sdf_level.specs.declared.node.Node.{Node}
use Rattle.sdf_level.specs.declared.node.Node.TheVariants as node
use Rattle.audit_job.specs.Jobs.{prepared_of}
use Rattle.audit_job.specs.Kinds.{IsKind}
use Rattle.audit_job.proofs.NodeFlow.{nodes_are}
use Rattle.audit_job.proofs.WaitingNodes.{free, waits}
use Rattle.audit_job.proofs.working.kind_of_node.Goals as goal

pub returns-then-not-waits_for_none : goal.returns-then-not-waits_for_none
returns-then-not-waits_for_none c = λ graphs workers firing v graph are.
    let job = c.args.job.now in
    let inside : c.args.node < length job.waits.items = omega (arith, job.waits.ok.0) in
    let some : slice_index job.waits.items c.args.node ≢ 0 = λ none.
    let so = c.waits_for_none.ensures.1 (ap (λ (l : List ℕ). slice_index l c.args.node) c.deref.ensures.value ∙ none) in
    cc in
    (λ i. ready_task graphs (graph i) firing (prepared_of job) (node_values graphs (graph i) firing (prepared_of job) v) c.args.node)
    ∙ waits graphs workers firing v job are c.args.node inside some

pub returns : goal.returns
returns c = λ graphs workers firing v graph are.
    let job = c.args.job.now in
    let n = c.args.node in
    let p = prepared_of job in
    let inside : n < length job.waits.items = omega (arith, job.waits.ok.0) in
    let none : slice_index job.waits.items n ≡ 0 =
    ap (λ (l : List ℕ). slice_index l n) (sym c.deref.ensures.value) ∙ c.waits_for_none.ensures.0 (cc) in
    let nodes : c.items-nodes.result.now ≡ (arc_value job.compiled).graph.nodes = cc in
    let which : node_at (nodes_in graphs (graph_of graphs firing) firing p) n ≡ get_or c.items-nodes.result.now n (node.Source 0) = ap (λ (l : List Node). get_or l n (node.Source 0)) (sym (nodes ∙ nodes_are graphs workers firing job are.made)) in
    let g = graph_of graphs firing in
    let values = node_values graphs g firing p v in
    let read = inputs (job_graph graphs g firing p) values n in
    let written = lens (job_graph graphs g firing p) n in
    let same : ready_task graphs c.args.graph.now firing p (node_values graphs c.args.graph.now firing p v) n ≡ node_task graphs c.args.graph.now firing (values_in g firing p) (get_or c.items-nodes.result.now n (node.Source 0)) read written =
    (λ i. ready_task graphs (graph i) firing p (node_values graphs (graph i) firing p v) n)
    ∙ free graphs workers firing v job are n inside none
    ∙ (λ i. node_task graphs (sym graph i) firing (values_in g firing p) (which i) read written) in
    subst (λ (t : Option (Task Firing words.Work)). IsKind t c.node_kind.result) (sym same) (c.node_kind.ensures graphs firing (values_in g firing p) read written)
