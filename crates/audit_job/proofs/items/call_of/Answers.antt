use Rattle.std.proofs.Common.{◌≡◌, ◌<◌, ◌≤◌, ◌+◌, ◌-◌, ℕ, List, length, drop, take, Some, sym, ◌∙◌, subst, arith}
use Rattle.std.proofs.lemmas.List.{get_or_read}
use Rattle.job_flow.specs.Frames.{inputs, lens}
use Rattle.job_flow.specs.Graphs.{node_at}
use Rattle.job_preparing.specs.View.{HasInherited, task_of}
use Rattle.nested_jobs.specs.Rules.{Call}
use Rattle.pisdf_meaning.specs.Nested.{configuration_at}
use Rattle.pisdf_meaning.specs.Sound.{IsConfiguration}
use Rattle.audit_job.specs.Flowing.{flow_of, results_of}
use Rattle.audit_job.specs.Marks.{answers}
use Rattle.audit_job.specs.Working.{task_at}
use Rattle.audit_job.specs.declared.answer.Mark.{Mark}
use Rattle.audit_job.proofs.CalledNodes.{call_inherits}
use Rattle.audit_job.proofs.ConfigItems.{own_configuration, own_rule}
use Rattle.audit_job.proofs.KindsOfItems.{no_nodes}
use Rattle.audit_job.proofs.NamedItems.{above, call_inside, no_compilation, node_few}
use Rattle.audit_job.proofs.NodeItems.{inside, own_is, own_task, tail_is, task_is}
use Rattle.audit_job.proofs.Results.{ok_more}
use Rattle.audit_job.proofs.items.call_of.Goals as goal

pub config_call-requires-clause-is : goal.config_call-requires-clause-is
config_call-requires-clause-is c =
    let job = c.args.job.now in
    let below : c.args.item < length job.places.items = omega (arith, job.places.ok.0) in
    let at = get_or_read job.places.items c.args.item c.index-place.result.now below c.index-place.ensures 0 in
    subst (λ (k : ℕ). IsConfiguration c.fired_graph-graph.result.now c.args.item k) (sym at)
    (own_configuration c.args.graphs.now.graphs c.requires.is.0 job c.requires.is.1 c.args.item below c.fired_graph-graph.result.now c.fired_graph-graph.ensures.same)

pub config_call-requires-clause-call : goal.config_call-requires-clause-call
config_call-requires-clause-call c =
    let job = c.args.job.now in
    let graphs = c.args.graphs.now.graphs in
    let own = c.fired_graph-graph.result.now in
    let below : c.args.item < length job.places.items = omega (arith, job.places.ok.0) in
    let at = get_or_read job.places.items c.args.item c.index-place.result.now below c.index-place.ensures 0 in
    record {
      job = c.requires.call.0;
      task_is = (λ i. task_of graphs own job.firing (Some (configuration_at own c.args.item (at i))))
          ∙ sym (own_rule graphs c.requires.is.0 job c.requires.is.1 c.args.item below own c.fired_graph-graph.ensures.same (answers job.marks.items)) ∙ c.requires.call.1;
    }

pub returns-then-item-base-clause-task : goal.returns-then-item-base-clause-task
returns-then-item-base-clause-task c =
    let job = c.args.job.now in
    let graphs = c.args.graphs.now.graphs in
    let own = c.fired_graph-graph.result.now in
    let below : c.args.item < length job.places.items = omega (arith, job.places.ok.0) in
    let at = get_or_read job.places.items c.args.item c.index-place.result.now below c.index-place.ensures 0 in
    let same = own_rule graphs c.requires.is.0 job c.requires.is.1 c.args.item below own c.fired_graph-graph.ensures.same (answers job.marks.items)
    ∙ (λ i. task_of graphs own job.firing (Some (configuration_at own c.args.item (sym at i)))) in
    ok_more _ _ c.config_call.result (λ d e. same ∙ e) c.config_call.ensures.task

pub overflow_sub-node-in-Some : goal.overflow_sub-node-in-Some
overflow_sub-node-in-Some c =
    let job = c.args.job.now in
    let counted : c.len-base.result ≡ length job.places.items = omega (arith, job.places.ok.0) in
    let past : length job.places.items ≤ c.args.item = omega arith in
    let up = above c.args.graphs.now.graphs c.requires.is.0 job c.requires.is.1 c.args.item c.requires.call.0 c.requires.call.1 past c.in-Some.nodes c.in-Some.is in
    omega arith

pub overflow_cast-node : goal.overflow_cast-node
overflow_cast-node c =
    let job = c.args.job.now in
    let counted : c.len-base.result ≡ length job.places.items = omega (arith, job.places.ok.0) in
    let there = call_inside c.args.graphs.now.graphs c.requires.is.0 job c.requires.is.1 c.args.item c.requires.call.0 c.requires.call.1 in
    let few = node_few job (record { graphs = c.args.graphs.now; workers = c.requires.is.0; valid = c.requires.valid; is_job = c.requires.is.1 }) c.args.item there in
    omega arith

pub node_call-requires-clause-there : goal.node_call-requires-clause-there
node_call-requires-clause-there c =
    let job = c.args.job.now in
    let counted : c.len-base.result ≡ length job.places.items = omega (arith, job.places.ok.0) in
    let past : length job.places.items ≤ c.args.item = omega arith in
    let up = above c.args.graphs.now.graphs c.requires.is.0 job c.requires.is.1 c.args.item c.requires.call.0 c.requires.call.1 past c.in-Some.nodes c.in-Some.is in
    let there = inside c.args.graphs.now.graphs c.requires.is.0 job c.requires.is.1 c.in-Some.nodes c.in-Some.is c.args.item up (Call c.requires.call.0) c.requires.call.1 in
    omega arith

pub node_call-requires-clause-call : goal.node_call-requires-clause-call
node_call-requires-clause-call c =
    let job = c.args.job.now in
    let graphs = c.args.graphs.now.graphs in
    let graph = c.fired_graph-graph.result.now in
    let nodes = c.in-Some.nodes in
    let counted : c.len-base.result ≡ length job.places.items = omega (arith, job.places.ok.0) in
    let read : List Mark = take (length c.deref.result.now - (c.len-base.result + 1)) (drop (c.len-base.result + 1) c.deref.result.now) in
    let own : read ≡ drop (length job.places.items + 1) job.marks.items = (λ i. take (length (c.deref.ensures.value i) - (counted i + 1)) (drop (counted i + 1) (c.deref.ensures.value i))) ∙ tail_is job.marks.items (length job.places.items + 1) in
    let past : length job.places.items ≤ c.args.item = omega arith in
    let up = above graphs c.requires.is.0 job c.requires.is.1 c.args.item c.requires.call.0 c.requires.call.1 past nodes c.in-Some.is in
    let at : task_at c.items.result.now graph job.firing nodes (answers read) (c.args.item - c.len-base.result - 1) ≡ task_at c.items.result.now graph job.firing nodes (answers read) (c.args.item - length job.places.items - 1) = (λ i. task_at c.items.result.now graph job.firing nodes (answers read) (c.args.item - counted i - 1)) in
    (c.requires.call.0, at ∙ own_is graphs c.requires.is.0 job c.requires.is.1 nodes c.in-Some.is c.args.item up (Call c.requires.call.0) c.requires.call.1 c.items.result.now c.items.ensures graph c.fired_graph-graph.ensures.same read own)

pub unreachable-requires : goal.unreachable-requires
unreachable-requires c =
    let job = c.args.job.now in
    let counted : c.len-base.result ≡ length job.places.items = omega (arith, job.places.ok.0) in
    let other = no_compilation c.args.graphs.now.graphs c.requires.is.0 job c.requires.is.1 c.args.item c.requires.call.0 c.requires.call.1 in
    let after : length job.places.items < c.args.item = omega (arith, other) in
    let never = no_nodes c.args.graphs.now.graphs c.requires.is.0 job c.requires.is.1 c.args.item after c.in-None.is in
    let e = sym never ∙ c.requires.call.1 in
    cc

pub returns-clause-task : goal.returns-clause-task
returns-clause-task c =
    let job = c.args.job.now in
    let graphs = c.args.graphs.now.graphs in
    let graph = c.fired_graph-graph.result.now in
    let nodes = c.in-Some.nodes in
    let counted : c.len-base.result ≡ length job.places.items = omega (arith, job.places.ok.0) in
    let read : List Mark = take (length c.deref.result.now - (c.len-base.result + 1)) (drop (c.len-base.result + 1) c.deref.result.now) in
    let own : read ≡ drop (length job.places.items + 1) job.marks.items = (λ i. take (length (c.deref.ensures.value i) - (counted i + 1)) (drop (counted i + 1) (c.deref.ensures.value i))) ∙ tail_is job.marks.items (length job.places.items + 1) in
    let past : length job.places.items ≤ c.args.item = omega arith in
    let up = above graphs c.requires.is.0 job c.requires.is.1 c.args.item c.requires.call.0 c.requires.call.1 past nodes c.in-Some.is in
    let at : task_at c.items.result.now graph job.firing nodes (answers read) (c.args.item - c.len-base.result - 1) ≡ task_at c.items.result.now graph job.firing nodes (answers read) (c.args.item - length job.places.items - 1) = (λ i. task_at c.items.result.now graph job.firing nodes (answers read) (c.args.item - counted i - 1)) in
    let same = own_task graphs c.requires.is.0 job c.requires.is.1 nodes c.in-Some.is c.args.item up (Call c.requires.call.0) c.requires.call.1 c.items.result.now c.items.ensures graph c.fired_graph-graph.ensures.same read own in
    ok_more _ _ c.node_call.result (λ d e. sym same ∙ sym at ∙ e) c.node_call.ensures

pub returns-clause-inherited : goal.returns-clause-inherited
returns-clause-inherited c =
    let job = c.args.job.now in
    let graphs = c.args.graphs.now.graphs in
    let graph = c.fired_graph-graph.result.now in
    let nodes = c.in-Some.nodes in
    let counted : c.len-base.result ≡ length job.places.items = omega (arith, job.places.ok.0) in
    let read : List Mark = take (length c.deref.result.now - (c.len-base.result + 1)) (drop (c.len-base.result + 1) c.deref.result.now) in
    let own : read ≡ drop (length job.places.items + 1) job.marks.items = (λ i. take (length (c.deref.ensures.value i) - (counted i + 1)) (drop (counted i + 1) (c.deref.ensures.value i))) ∙ tail_is job.marks.items (length job.places.items + 1) in
    let past : length job.places.items ≤ c.args.item = omega arith in
    let up = above graphs c.requires.is.0 job c.requires.is.1 c.args.item c.requires.call.0 c.requires.call.1 past nodes c.in-Some.is in
    let at : task_at c.items.result.now graph job.firing nodes (answers read) (c.args.item - c.len-base.result - 1) ≡ task_at c.items.result.now graph job.firing nodes (answers read) (c.args.item - length job.places.items - 1) = (λ i. task_at c.items.result.now graph job.firing nodes (answers read) (c.args.item - counted i - 1)) in
    let same = own_task graphs c.requires.is.0 job c.requires.is.1 nodes c.in-Some.is c.args.item up (Call c.requires.call.0) c.requires.call.1 c.items.result.now c.items.ensures graph c.fired_graph-graph.ensures.same read own in
    let n = c.args.item - length job.places.items - 1 in
    let values = results_of (flow_of nodes).nodes nodes.keeps.items (answers (drop (length job.places.items + 1) job.marks.items)) in
    ok_more _ (HasInherited graphs) c.node_call.result
    (λ d e. call_inherits c.level_by_actor.ensures.each c.args.graphs.now c.requires.valid.in_range c.requires.valid.well_formed job.firing c.requires.is.1.fit nodes.values (node_at (flow_of nodes).nodes n) (inputs (flow_of nodes) values n) (lens (flow_of nodes) n) d
    (task_is graphs c.requires.is.0 job c.requires.is.1 nodes c.in-Some.is c.args.item up (Call d) (sym same ∙ sym at ∙ e)))
    c.node_call.ensures
