use Rattle.std.proofs.Common.{◌≡◌, ◌≢◌, ◌<◌, ◌-◌, ℕ, List, length, get_or, Option, sym, ap, ◌∙◌, subst, arith}
use Rattle.std.specs.Prelude.{MatchOption}
use Rattle.std.proofs.lemmas.List.{get_or_read}
use Rattle.job_rules.specs.Items.{node_values, ready_task}
use Rattle.job_rules.specs.Words as words
use Rattle.nested_jobs.specs.Rules.{Task}
use Rattle.pisdf_meaning.specs.declared.firing.Firing.{Firing}
use Rattle.pisdf_model.specs.declared.actor.Actor.{Actor}
use Rattle.audit_job.specs.Giving.{HaveGiven}
use Rattle.audit_job.specs.Jobs.{prepared_of}
use Rattle.audit_job.specs.Kinds.{IsKind}
use Rattle.audit_job.specs.Marks.{answers}
use Rattle.audit_job.specs.declared.answer.Kind.TheVariants as kind
use Rattle.audit_job.specs.declared.answer.Mark.{Mark}
use Rattle.audit_job.proofs.ConfigItems.{actor_read, place_inside}
use Rattle.audit_job.proofs.KindsOfItems.{compile_item, config_item, no_nodes, node_rule_is, so}
use Rattle.audit_job.proofs.items.kind_of.Goals as goal

pub bounds-items-index : goal.bounds-items-index
bounds-items-index c =
    let job = c.args.job.now in
    let below : c.args.item < length job.places.items = omega (arith, job.places.ok.0) in
    let at = get_or_read job.places.items c.args.item c.index.result.now below c.index.ensures 0 in
    subst (λ (k : ℕ). k < length c.items.result.now) (sym at)
    (place_inside c.args.graphs.now.graphs c.requires.0 job c.requires.1 c.args.item below c.fired_graph-graph.result.now c.fired_graph-graph.ensures.same c.items.result.now c.items.ensures)

pub offset_bounds-items-index : goal.offset_bounds-items-index
offset_bounds-items-index c =
    let job = c.args.job.now in
    let below : c.args.item < length job.places.items = omega (arith, job.places.ok.0) in
    let at = get_or_read job.places.items c.args.item c.index.result.now below c.index.ensures 0 in
    let inside : c.index.result.now < length c.items.result.now = subst (λ (k : ℕ). k < length c.items.result.now) (sym at)
    (place_inside c.args.graphs.now.graphs c.requires.0 job c.requires.1 c.args.item below c.fired_graph-graph.result.now c.fired_graph-graph.ensures.same c.items.result.now c.items.ensures) in
    omega arith

pub returns-then-item-base : goal.returns-then-item-base
returns-then-item-base c =
    let job = c.args.job.now in
    let graphs = c.args.graphs.now.graphs in
    let below : c.args.item < length job.places.items = omega (arith, job.places.ok.0) in
    let at = get_or_read job.places.items c.args.item c.index.result.now below c.index.ensures 0 in
    let x : Actor = c.index-items-index.result in
    let actor = actor_read graphs c.requires.0 job c.requires.1 c.args.item below c.fired_graph-graph.result.now c.fired_graph-graph.ensures.same c.items.result.now c.items.ensures x
    (c.index-items-index.is ∙ ap (λ (k : ℕ). get_or c.items.result.now k x) at) in
    config_item graphs c.requires.0 job c.requires.1 c.args.item below (get_or c.items.result.now c.index.result.now x).body c.config_kind.result (ap (λ (y : Actor). y.body) (actor ∙ c.index-items-index.is)) c.config_kind.ensures

pub returns-then-item-base-2 : goal.returns-then-item-base-2
returns-then-item-base-2 c =
    let job = c.args.job.now in
    let counted : c.len-base.result ≡ length job.places.items = omega (arith, job.places.ok.0) in
    let at : c.args.item ≡ length job.places.items = omega arith in
    let L : List Mark → Type 0 = λ l. MatchOption c.compile_kind.result (¬ (HaveGiven l c.len-base.result)) (λ k. (k ≡ kind.Work) × HaveGiven l c.len-base.result) in
    let N : ℕ → Type 0 = λ n. MatchOption c.compile_kind.result (¬ (HaveGiven job.marks.items n)) (λ k. (k ≡ kind.Work) × HaveGiven job.marks.items n) in
    compile_item c.args.graphs.now.graphs c.requires.0 job c.requires.1 c.args.item at c.compile_kind.result (subst N counted (subst L c.deref.ensures.value c.compile_kind.ensures))

pub returns-in-Some : goal.returns-in-Some
returns-in-Some c =
    let job = c.args.job.now in
    let graphs = c.args.graphs.now.graphs in
    let v = answers job.marks.items in
    let nodes = c.in-Some.nodes in
    let firing = job.firing in
    let p = prepared_of nodes in
    let counted : c.len-base.result ≡ length job.places.items = omega (arith, job.places.ok.0) in
    let other : c.args.item ≢ c.len-base.result = c.if-item-base-2.false in
    let after : length job.places.items < c.args.item = omega (arith, other) in
    let graph = c.fired_graph-graph.ensures.same in
    let are = (so graphs c.requires.0 job c.requires.1 c.args.item after nodes c.in-Some.is).1 in
    let same = (λ i. ready_task graphs (graph i) firing p (node_values graphs (graph i) firing p v) (c.args.item - counted i - 1)) ∙ sym (node_rule_is graphs c.requires.0 job c.requires.1 c.args.item after nodes c.in-Some.is) in
    subst (λ (t : Option (Task Firing words.Work)). IsKind t c.kind_of_node.result) same (c.kind_of_node.ensures graphs c.requires.0 firing v graph are)

pub returns-in-None : goal.returns-in-None
returns-in-None c =
    let job = c.args.job.now in
    let counted : c.len-base.result ≡ length job.places.items = omega (arith, job.places.ok.0) in
    let other : c.args.item ≢ c.len-base.result = c.if-item-base-2.false in
    let after : length job.places.items < c.args.item = omega (arith, other) in
    no_nodes c.args.graphs.now.graphs c.requires.0 job c.requires.1 c.args.item after c.in-None.is
