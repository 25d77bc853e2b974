use Rattle.std.proofs.Common.{◌≡◌, ◌<◌, ◌≤◌, ◌+◌, ◌-◌, ℕ, List, length, drop, take, Option, Some, sym, ◌∙◌, subst, arith}
use Rattle.std.proofs.lemmas.List.{get_or_read}
use Rattle.job_preparing.specs.View.{task_of}
use Rattle.job_rules.specs.Items.{rule}
use Rattle.job_rules.specs.Words as words
use Rattle.nested_jobs.specs.Rules.{Task, Work}
use Rattle.pisdf_meaning.specs.Nested.{configuration_at}
use Rattle.pisdf_meaning.specs.Sound.{IsConfiguration}
use Rattle.pisdf_meaning.specs.declared.firing.Firing.{Firing}
use Rattle.pisdf_model.specs.declared.graph.Graph.{Graph}
use Rattle.audit_job.specs.Answering.{IsAnswer}
use Rattle.audit_job.specs.Marks.{answer_of, answers}
use Rattle.audit_job.specs.Working.{task_at}
use Rattle.audit_job.specs.declared.answer.Mark.{Mark}
use Rattle.audit_job.proofs.ConfigItems.{own_configuration, own_rule}
use Rattle.audit_job.proofs.ItemRules.{item_there}
use Rattle.audit_job.proofs.KindsOfItems.{no_nodes}
use Rattle.audit_job.proofs.NamedItems.{node_few}
use Rattle.audit_job.proofs.NodeItems.{inside, own_is, own_task, tail_is}
use Rattle.audit_job.proofs.Results.{ok_more}
use Rattle.audit_job.proofs.items.answer_of.Goals as goal

pub config_answer-requires-clause-is : goal.config_answer-requires-clause-is
config_answer-requires-clause-is g c =
    let job = c.args.job.now in
    let below : c.args.item < length job.places.items = omega (arith, job.places.ok.0) in
    let at = get_or_read job.places.items c.args.item c.index-place.result.now below c.index-place.ensures 0 in
    subst (λ (k : ℕ). IsConfiguration c.fired_graph-graph.result.now c.args.item k) (sym at)
    (own_configuration c.args.graphs.now.graphs c.requires.is.0 job c.requires.is.1 c.args.item below c.fired_graph-graph.result.now c.fired_graph-graph.ensures.same)

pub config_answer-requires-clause-work : goal.config_answer-requires-clause-work
config_answer-requires-clause-work g c =
    let job = c.args.job.now in
    let graphs = c.args.graphs.now.graphs in
    let own = c.fired_graph-graph.result.now in
    let below : c.args.item < length job.places.items = omega (arith, job.places.ok.0) in
    let at = get_or_read job.places.items c.args.item c.index-place.result.now below c.index-place.ensures 0 in
    let same : rule graphs job.firing (answers job.marks.items) c.args.item ≡ task_of graphs own job.firing (Some (configuration_at own c.args.item c.index-place.result.now)) =
    own_rule graphs c.requires.is.0 job c.requires.is.1 c.args.item below own c.fired_graph-graph.ensures.same (answers job.marks.items)
    ∙ (λ i. task_of graphs own job.firing (Some (configuration_at own c.args.item (sym at i)))) in
    (c.requires.work.0, sym same ∙ c.requires.work.1)

pub config_answer-requires-clause-fits : goal.config_answer-requires-clause-fits
config_answer-requires-clause-fits g c = λ spot asked task.
    let job = c.args.job.now in
    let graphs = c.args.graphs.now.graphs in
    let own = c.fired_graph-graph.result.now in
    let below : c.args.item < length job.places.items = omega (arith, job.places.ok.0) in
    let at = get_or_read job.places.items c.args.item c.index-place.result.now below c.index-place.ensures 0 in
    let same : rule graphs job.firing (answers job.marks.items) c.args.item ≡ task_of graphs own job.firing (Some (configuration_at own c.args.item c.index-place.result.now)) =
    own_rule graphs c.requires.is.0 job c.requires.is.1 c.args.item below own c.fired_graph-graph.ensures.same (answers job.marks.items)
    ∙ (λ i. task_of graphs own job.firing (Some (configuration_at own c.args.item (sym at i)))) in
    c.requires.fits (words.Fires spot asked) (same ∙ task)

pub returns-then-item-base : goal.returns-then-item-base
returns-then-item-base g c =
    let job = c.args.job.now in
    let graphs = c.args.graphs.now.graphs in
    let own = c.fired_graph-graph.result.now in
    let below : c.args.item < length job.places.items = omega (arith, job.places.ok.0) in
    let at = get_or_read job.places.items c.args.item c.index-place.result.now below c.index-place.ensures 0 in
    let same : rule graphs job.firing (answers job.marks.items) c.args.item ≡ task_of graphs own job.firing (Some (configuration_at own c.args.item c.index-place.result.now)) =
    own_rule graphs c.requires.is.0 job c.requires.is.1 c.args.item below own c.fired_graph-graph.ensures.same (answers job.marks.items)
    ∙ (λ i. task_of graphs own job.firing (Some (configuration_at own c.args.item (sym at i)))) in
    let P : Option (Task Firing words.Work) → words.Answer → Type 0 = λ t x. IsAnswer graphs t x in
    ok_more _ _ c.config_answer.result (λ a is. subst (λ (t : Option (Task Firing words.Work)). P t (answer_of a)) (sym same) is) c.config_answer.ensures

pub overflow_cast-node : goal.overflow_cast-node
overflow_cast-node g c =
    let job = c.args.job.now in
    let graphs = c.args.graphs.now.graphs in
    let counted : c.len-base.result ≡ length job.places.items = omega (arith, job.places.ok.0) in
    let task = item_there graphs job.firing (answers job.marks.items) c.args.item (Work c.requires.work.0) c.requires.work.1 in
    let long = c.requires.is.1.one_each in
    let there : c.args.item < length job.marks.items = omega arith in
    let few = node_few job (record { graphs = c.args.graphs.now; workers = c.requires.is.0; valid = c.requires.valid; is_job = c.requires.is.1 }) c.args.item there in
    omega arith

pub node_answer-requires-clause-there : goal.node_answer-requires-clause-there
node_answer-requires-clause-there g c =
    let job = c.args.job.now in
    let graphs = c.args.graphs.now.graphs in
    let counted : c.len-base.result ≡ length job.places.items = omega (arith, job.places.ok.0) in
    let past : length job.places.items ≤ c.args.item = omega arith in
    let many = c.requires.is.1.places_are.one_each in
    let apart = c.requires.other in
    let up : length job.places.items < c.args.item = omega (arith, apart) in
    let there = inside graphs c.requires.is.0 job c.requires.is.1 c.in-Some.nodes c.in-Some.is c.args.item up (Work c.requires.work.0) c.requires.work.1 in
    omega arith

pub node_answer-requires-clause-work : goal.node_answer-requires-clause-work
node_answer-requires-clause-work g c =
    let job = c.args.job.now in
    let graphs = c.args.graphs.now.graphs in
    let graph = c.fired_graph-graph.result.now in
    let nodes = c.in-Some.nodes in
    let counted : c.len-base.result ≡ length job.places.items = omega (arith, job.places.ok.0) in
    let read : List Mark = take (length c.deref.result.now - (c.len-base.result + 1)) (drop (c.len-base.result + 1) c.deref.result.now) in
    let own : read ≡ drop (length job.places.items + 1) job.marks.items = (λ i. take (length (c.deref.ensures.value i) - (counted i + 1)) (drop (counted i + 1) (c.deref.ensures.value i))) ∙ tail_is job.marks.items (length job.places.items + 1) in
    let past : length job.places.items ≤ c.args.item = omega arith in
    let many = c.requires.is.1.places_are.one_each in
    let apart = c.requires.other in
    let up : length job.places.items < c.args.item = omega (arith, apart) in
    let at : task_at c.items.result.now graph job.firing nodes (answers read) (c.args.item - c.len-base.result - 1) ≡ task_at c.items.result.now graph job.firing nodes (answers read) (c.args.item - length job.places.items - 1) = (λ i. task_at c.items.result.now graph job.firing nodes (answers read) (c.args.item - counted i - 1)) in
    (c.requires.work.0, at ∙ own_is graphs c.requires.is.0 job c.requires.is.1 nodes c.in-Some.is c.args.item up (Work c.requires.work.0) c.requires.work.1 c.items.result.now c.items.ensures graph c.fired_graph-graph.ensures.same read own)

pub node_answer-requires-clause-fits : goal.node_answer-requires-clause-fits
node_answer-requires-clause-fits g c = λ work task.
    let job = c.args.job.now in
    let graphs = c.args.graphs.now.graphs in
    let graph = c.fired_graph-graph.result.now in
    let nodes = c.in-Some.nodes in
    let counted : c.len-base.result ≡ length job.places.items = omega (arith, job.places.ok.0) in
    let read : List Mark = take (length c.deref.result.now - (c.len-base.result + 1)) (drop (c.len-base.result + 1) c.deref.result.now) in
    let own : read ≡ drop (length job.places.items + 1) job.marks.items = (λ i. take (length (c.deref.ensures.value i) - (counted i + 1)) (drop (counted i + 1) (c.deref.ensures.value i))) ∙ tail_is job.marks.items (length job.places.items + 1) in
    let past : length job.places.items ≤ c.args.item = omega arith in
    let many = c.requires.is.1.places_are.one_each in
    let apart = c.requires.other in
    let up : length job.places.items < c.args.item = omega (arith, apart) in
    let at : task_at c.items.result.now graph job.firing nodes (answers read) (c.args.item - c.len-base.result - 1) ≡ task_at c.items.result.now graph job.firing nodes (answers read) (c.args.item - length job.places.items - 1) = (λ i. task_at c.items.result.now graph job.firing nodes (answers read) (c.args.item - counted i - 1)) in
    let same = own_task graphs c.requires.is.0 job c.requires.is.1 nodes c.in-Some.is c.args.item up (Work c.requires.work.0) c.requires.work.1 c.items.result.now c.items.ensures graph c.fired_graph-graph.ensures.same read own in
    c.requires.fits work (sym same ∙ sym at ∙ task)

pub unreachable-requires : goal.unreachable-requires
unreachable-requires g c =
    let job = c.args.job.now in
    let graphs = c.args.graphs.now.graphs in
    let counted : c.len-base.result ≡ length job.places.items = omega (arith, job.places.ok.0) in
    let past : length job.places.items ≤ c.args.item = omega arith in
    let many = c.requires.is.1.places_are.one_each in
    let apart = c.requires.other in
    let up : length job.places.items < c.args.item = omega (arith, apart) in
    let never = no_nodes graphs c.requires.is.0 job c.requires.is.1 c.args.item up c.in-None.is in
    let e = sym never ∙ c.requires.work.1 in
    cc

pub returns : goal.returns
returns g c =
    let job = c.args.job.now in
    let graphs = c.args.graphs.now.graphs in
    let graph = c.fired_graph-graph.result.now in
    let nodes = c.in-Some.nodes in
    let counted : c.len-base.result ≡ length job.places.items = omega (arith, job.places.ok.0) in
    let read : List Mark = take (length c.deref.result.now - (c.len-base.result + 1)) (drop (c.len-base.result + 1) c.deref.result.now) in
    let own : read ≡ drop (length job.places.items + 1) job.marks.items = (λ i. take (length (c.deref.ensures.value i) - (counted i + 1)) (drop (counted i + 1) (c.deref.ensures.value i))) ∙ tail_is job.marks.items (length job.places.items + 1) in
    let past : length job.places.items ≤ c.args.item = omega arith in
    let many = c.requires.is.1.places_are.one_each in
    let apart = c.requires.other in
    let up : length job.places.items < c.args.item = omega (arith, apart) in
    let at : task_at c.items.result.now graph job.firing nodes (answers read) (c.args.item - c.len-base.result - 1) ≡ task_at c.items.result.now graph job.firing nodes (answers read) (c.args.item - length job.places.items - 1) = (λ i. task_at c.items.result.now graph job.firing nodes (answers read) (c.args.item - counted i - 1)) in
    let same = own_task graphs c.requires.is.0 job c.requires.is.1 nodes c.in-Some.is c.args.item up (Work c.requires.work.0) c.requires.work.1 c.items.result.now c.items.ensures graph c.fired_graph-graph.ensures.same read own in
    let to = at ∙ same in
    ok_more _ _ c.node_answer.result (λ a is. subst (λ (l : List Graph). IsAnswer l (rule graphs job.firing (answers job.marks.items) c.args.item) (answer_of a)) c.items.ensures (subst (λ (t : Option (Task Firing words.Work)). IsAnswer c.items.result.now t (answer_of a)) to is)) c.node_answer.ensures
