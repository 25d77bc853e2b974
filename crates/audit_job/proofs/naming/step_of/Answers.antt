use Rattle.std.proofs.Common.{◌≡◌, ℕ, ◌-◌, ◌<◌, ◌≤◌, List, length, get_or, sym, ap, ◌∙◌, arith}
use Rattle.std.specs.Arc.{arc_value}
use Rattle.std.proofs.lemmas.List.{get_or_read}
use Rattle.job_flow.specs.Graphs.{node_at}
use Rattle.sdf_level.specs.declared.node.Node.{Node}
use Rattle.sdf_level.specs.declared.node.Node.TheVariants as node
use Rattle.audit_job.proofs.KindsOfItems.{no_nodes}
use Rattle.audit_job.proofs.NamedItems.{above, actor_called, call_inside, no_compilation, node_called, node_few, place_few, steps_actor, steps_by, steps_firing}
use Rattle.audit_job.proofs.naming.step_of.Goals as goal

-- the node of an item, as it is read
which_is : (own all : List Node) (item base counted : ℕ) (x : Node) → own ≡ all → counted ≡ base → get_or own (item - counted - 1) (node.Source 0) ≡ x → node_at all (item - base - 1) ≡ x
which_is own all item base counted x same as_many is = (λ i. get_or (sym same i) (item - sym as_many i - 1) (node.Source 0)) ∙ is

pub overflow_cast-result : goal.overflow_cast-result
overflow_cast-result c =
    let job = c.args.job.now in
    let inside : c.args.item < length job.places.items = omega (arith, job.places.ok.0) in
    let at = get_or_read job.places.items c.args.item c.index.result.now inside c.index.ensures 0 in
    let few = place_few job c.requires.valid c.args.item inside in
    omega arith

pub returns-then-item-base : goal.returns-then-item-base
returns-then-item-base c = λ key workers is.
    let job = c.args.job.now in
    let inside : c.args.item < length job.places.items = omega (arith, job.places.ok.0) in
    let at = get_or_read job.places.items c.args.item c.index.result.now inside c.index.ensures 0 in
    ap (λ (k : ℕ). (k, 0)) at ∙ steps_actor key workers job is c.args.item inside

pub overflow_sub-item-in-Some : goal.overflow_sub-item-in-Some
overflow_sub-item-in-Some c =
    let job = c.args.job.now in
    let call = c.requires.call in
    let counted : c.len-base.result ≡ length job.places.items = omega (arith, job.places.ok.0) in
    let past : length job.places.items ≤ c.args.item = omega arith in
    let up = above call.0 call.1 job call.3 c.args.item call.2 call.4 past c.in-Some.nodes c.in-Some.is in
    omega arith

pub offset_bounds-items-item : goal.offset_bounds-items-item
offset_bounds-items-item c =
    let job = c.args.job.now in
    let call = c.requires.call in
    let counted : c.len-base.result ≡ length job.places.items = omega (arith, job.places.ok.0) in
    let few = node_few job c.requires.valid c.args.item (call_inside call.0 call.1 job call.3 c.args.item call.2 call.4) in
    omega arith

pub bounds : goal.bounds
bounds c =
    let job = c.args.job.now in
    let call = c.requires.call in
    let counted : c.len-base.result ≡ length job.places.items = omega (arith, job.places.ok.0) in
    let past : length job.places.items ≤ c.args.item = omega arith in
    let nodes : c.items.result.now ≡ (arc_value c.in-Some.nodes.compiled).graph.nodes = cc in
    let many = ap (λ (l : List Node). length l) nodes in
    let inside = node_called call.0 call.1 job call.3 c.args.item call.2 call.4 past c.in-Some.nodes c.in-Some.is in
    omega arith

pub bounds-items-actor : goal.bounds-items-actor
bounds-items-actor c =
    let job = c.args.job.now in
    let call = c.requires.call in
    let counted : c.len-base.result ≡ length job.places.items = omega (arith, job.places.ok.0) in
    let past : length job.places.items ≤ c.args.item = omega arith in
    let nodes : c.items.result.now ≡ (arc_value c.in-Some.nodes.compiled).graph.nodes = cc in
    let which = which_is c.items.result.now (arc_value c.in-Some.nodes.compiled).graph.nodes c.args.item (length job.places.items) c.len-base.result (node.Firing c.in-Firing.actor c.in-Firing.turn) nodes counted c.in-Firing.is in
    let inside = actor_called call.0 call.1 job call.3 c.args.item call.2 call.4 past c.in-Some.nodes c.in-Some.is c.level_by_actor.ensures.many c.in-Firing.actor c.in-Firing.turn which in
    let many = ap (λ (l : List ℕ). length l) c.items-in-Firing.ensures in
    omega arith

pub unreachable-requires : goal.unreachable-requires
unreachable-requires c =
    let job = c.args.job.now in
    let call = c.requires.call in
    let counted : c.len-base.result ≡ length job.places.items = omega (arith, job.places.ok.0) in
    let other = no_compilation call.0 call.1 job call.3 c.args.item call.2 call.4 in
    let after : length job.places.items < c.args.item = omega (arith, other) in
    let never = no_nodes call.0 call.1 job call.3 c.args.item after c.in-None.is in
    let e = sym never ∙ call.4 in
    cc

pub returns-in-Firing : goal.returns-in-Firing
returns-in-Firing c = λ key workers is.
    let job = c.args.job.now in
    let call = c.requires.call in
    let counted : c.len-base.result ≡ length job.places.items = omega (arith, job.places.ok.0) in
    let past : length job.places.items ≤ c.args.item = omega arith in
    let up = above call.0 call.1 job call.3 c.args.item call.2 call.4 past c.in-Some.nodes c.in-Some.is in
    let nodes : c.items.result.now ≡ (arc_value c.in-Some.nodes.compiled).graph.nodes = cc in
    let which = which_is c.items.result.now (arc_value c.in-Some.nodes.compiled).graph.nodes c.args.item (length job.places.items) c.len-base.result (node.Firing c.in-Firing.actor c.in-Firing.turn) nodes counted c.in-Firing.is in
    ap (λ (l : List ℕ). (get_or l c.in-Firing.actor 0, c.in-Firing.turn)) c.items-in-Firing.ensures ∙ steps_firing key workers job is c.args.item c.in-Some.nodes c.in-Some.is up c.in-Firing.actor c.in-Firing.turn which

pub returns-in-Source : goal.returns-in-Source
returns-in-Source c = λ key workers is.
    let job = c.args.job.now in
    let call = c.requires.call in
    let counted : c.len-base.result ≡ length job.places.items = omega (arith, job.places.ok.0) in
    let past : length job.places.items ≤ c.args.item = omega arith in
    let up = above call.0 call.1 job call.3 c.args.item call.2 call.4 past c.in-Some.nodes c.in-Some.is in
    let nodes : c.items.result.now ≡ (arc_value c.in-Some.nodes.compiled).graph.nodes = cc in
    let which = which_is c.items.result.now (arc_value c.in-Some.nodes.compiled).graph.nodes c.args.item (length job.places.items) c.len-base.result (node.Source c.in-Source.field-0) nodes counted c.in-Source.is in
    steps_by key workers job is c.args.item c.in-Some.nodes c.in-Some.is up (node.Source c.in-Source.field-0) which

pub returns-in-Init : goal.returns-in-Init
returns-in-Init c = λ key workers is.
    let job = c.args.job.now in
    let call = c.requires.call in
    let counted : c.len-base.result ≡ length job.places.items = omega (arith, job.places.ok.0) in
    let past : length job.places.items ≤ c.args.item = omega arith in
    let up = above call.0 call.1 job call.3 c.args.item call.2 call.4 past c.in-Some.nodes c.in-Some.is in
    let nodes : c.items.result.now ≡ (arc_value c.in-Some.nodes.compiled).graph.nodes = cc in
    let which = which_is c.items.result.now (arc_value c.in-Some.nodes.compiled).graph.nodes c.args.item (length job.places.items) c.len-base.result (node.Init c.in-Init.field-0) nodes counted c.in-Init.is in
    steps_by key workers job is c.args.item c.in-Some.nodes c.in-Some.is up (node.Init c.in-Init.field-0) which

pub returns-in-End : goal.returns-in-End
returns-in-End c = λ key workers is.
    let job = c.args.job.now in
    let call = c.requires.call in
    let counted : c.len-base.result ≡ length job.places.items = omega (arith, job.places.ok.0) in
    let past : length job.places.items ≤ c.args.item = omega arith in
    let up = above call.0 call.1 job call.3 c.args.item call.2 call.4 past c.in-Some.nodes c.in-Some.is in
    let nodes : c.items.result.now ≡ (arc_value c.in-Some.nodes.compiled).graph.nodes = cc in
    let which = which_is c.items.result.now (arc_value c.in-Some.nodes.compiled).graph.nodes c.args.item (length job.places.items) c.len-base.result (node.End c.in-End.field-0) nodes counted c.in-End.is in
    steps_by key workers job is c.args.item c.in-Some.nodes c.in-Some.is up (node.End c.in-End.field-0) which

pub returns-in-Sink : goal.returns-in-Sink
returns-in-Sink c = λ key workers is.
    let job = c.args.job.now in
    let call = c.requires.call in
    let counted : c.len-base.result ≡ length job.places.items = omega (arith, job.places.ok.0) in
    let past : length job.places.items ≤ c.args.item = omega arith in
    let up = above call.0 call.1 job call.3 c.args.item call.2 call.4 past c.in-Some.nodes c.in-Some.is in
    let nodes : c.items.result.now ≡ (arc_value c.in-Some.nodes.compiled).graph.nodes = cc in
    let which = which_is c.items.result.now (arc_value c.in-Some.nodes.compiled).graph.nodes c.args.item (length job.places.items) c.len-base.result (node.Sink c.in-Sink.field-0) nodes counted c.in-Sink.is in
    steps_by key workers job is c.args.item c.in-Some.nodes c.in-Some.is up (node.Sink c.in-Sink.field-0) which

pub returns-in-Broadcast : goal.returns-in-Broadcast
returns-in-Broadcast c = λ key workers is.
    let job = c.args.job.now in
    let call = c.requires.call in
    let counted : c.len-base.result ≡ length job.places.items = omega (arith, job.places.ok.0) in
    let past : length job.places.items ≤ c.args.item = omega arith in
    let up = above call.0 call.1 job call.3 c.args.item call.2 call.4 past c.in-Some.nodes c.in-Some.is in
    let nodes : c.items.result.now ≡ (arc_value c.in-Some.nodes.compiled).graph.nodes = cc in
    let which = which_is c.items.result.now (arc_value c.in-Some.nodes.compiled).graph.nodes c.args.item (length job.places.items) c.len-base.result (node.Broadcast c.in-Broadcast.field-0) nodes counted c.in-Broadcast.is in
    steps_by key workers job is c.args.item c.in-Some.nodes c.in-Some.is up (node.Broadcast c.in-Broadcast.field-0) which

pub returns-in-Fork : goal.returns-in-Fork
returns-in-Fork c = λ key workers is.
    let job = c.args.job.now in
    let call = c.requires.call in
    let counted : c.len-base.result ≡ length job.places.items = omega (arith, job.places.ok.0) in
    let past : length job.places.items ≤ c.args.item = omega arith in
    let up = above call.0 call.1 job call.3 c.args.item call.2 call.4 past c.in-Some.nodes c.in-Some.is in
    let nodes : c.items.result.now ≡ (arc_value c.in-Some.nodes.compiled).graph.nodes = cc in
    let which = which_is c.items.result.now (arc_value c.in-Some.nodes.compiled).graph.nodes c.args.item (length job.places.items) c.len-base.result (node.Fork c.in-Fork.link c.in-Fork.turn) nodes counted c.in-Fork.is in
    steps_by key workers job is c.args.item c.in-Some.nodes c.in-Some.is up (node.Fork c.in-Fork.link c.in-Fork.turn) which

pub returns-in-Join : goal.returns-in-Join
returns-in-Join c = λ key workers is.
    let job = c.args.job.now in
    let call = c.requires.call in
    let counted : c.len-base.result ≡ length job.places.items = omega (arith, job.places.ok.0) in
    let past : length job.places.items ≤ c.args.item = omega arith in
    let up = above call.0 call.1 job call.3 c.args.item call.2 call.4 past c.in-Some.nodes c.in-Some.is in
    let nodes : c.items.result.now ≡ (arc_value c.in-Some.nodes.compiled).graph.nodes = cc in
    let which = which_is c.items.result.now (arc_value c.in-Some.nodes.compiled).graph.nodes c.args.item (length job.places.items) c.len-base.result (node.Join c.in-Join.link c.in-Join.turn) nodes counted c.in-Join.is in
    steps_by key workers job is c.args.item c.in-Some.nodes c.in-Some.is up (node.Join c.in-Join.link c.in-Join.turn) which

pub returns-in-Round : goal.returns-in-Round
returns-in-Round c = λ key workers is.
    let job = c.args.job.now in
    let call = c.requires.call in
    let counted : c.len-base.result ≡ length job.places.items = omega (arith, job.places.ok.0) in
    let past : length job.places.items ≤ c.args.item = omega arith in
    let up = above call.0 call.1 job call.3 c.args.item call.2 call.4 past c.in-Some.nodes c.in-Some.is in
    let nodes : c.items.result.now ≡ (arc_value c.in-Some.nodes.compiled).graph.nodes = cc in
    let which = which_is c.items.result.now (arc_value c.in-Some.nodes.compiled).graph.nodes c.args.item (length job.places.items) c.len-base.result (node.Round c.in-Round.field-0) nodes counted c.in-Round.is in
    steps_by key workers job is c.args.item c.in-Some.nodes c.in-Some.is up (node.Round c.in-Round.field-0) which
