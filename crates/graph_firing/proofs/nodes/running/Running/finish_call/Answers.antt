use Rattle.std.proofs.Common.{◌≡◌, ◌<◌, ◌^◌, ℤ, inl, List, length, set, take, drop, ◌++◌, Result, sym, ap, ◌∙◌, subst, arith}
use Rattle.std.specs.Prelude.{Vec, vec_len}
use Rattle.std.specs.Global.{Global}
use Rattle.std.proofs.lemmas.List.{length-map, with_items_is}
use Rattle.kernel_gate.specs.Value.{FrameView, lengths}
use Rattle.nested_jobs.specs.Marks.{Done}
use Rattle.pisdf_meaning.specs.declared.outcome.TraceRow.{TraceRow}
use Rattle.pisdf_meaning.specs.declared.refusal.Refusal.{Refusal}
use Rattle.sdf_level.specs.Lists.{lists_of}
use Rattle.sdf_level.specs.declared.node.Node.{Node}
use Rattle.sdf_level.specs.declared.node.Node.TheVariants as node
use Rattle.job_flow.specs.Graphs.{node_at}
use Rattle.job_rules.specs.Words.{answer_of}
use Rattle.one_job.specs.Marks as one
use Rattle.one_job.specs.View as leased
use Rattle.one_job.specs.View.{IsFiring}
use Rattle.job_preparing.specs.Handing.{EndSuits, end_of}
use Rattle.job_preparing.specs.declared.handing.JobGiven.{JobGiven}
use Rattle.graph_firing.specs.Nodes.Calls.{IsEndOfCall}
use Rattle.graph_firing.specs.Nodes.Invariants.{fixed_of, view_of, view_with}
use Rattle.graph_firing.specs.Nodes.Parts.{KeepsAll, held_at, row_at}
use Rattle.graph_firing.specs.Nodes.Sizes.{child_outs}
use Rattle.graph_firing.specs.Nodes.View.{RunningView}
use Rattle.graph_firing.specs.declared.nodes.stage.Stage.TheVariants as stage
use Rattle.graph_firing.proofs.OfNodes.AnsweredNodes.{actor_in, claimed, few_outs, firing, fits_frame, inside_held, keeps_gave, keeps_in, keeps_refused, kept_is, opened, there, turn_in, view_gave, view_refused, waits}
use Rattle.graph_firing.proofs.OfNodes.NodeTasks.{nodes_are}
use Rattle.graph_firing.specs.declared.nodes.frames.Held.{Held}
use Rattle.graph_firing.specs.declared.nodes.frames.Held.TheVariants.{Nothing, Waits, Refuses}
use Rattle.graph_firing.specs.declared.nodes.stage.Stage.{Stage}
use Rattle.graph_firing.proofs.nodes.running.Running.finish_call.Goals as goal

pub node-which-requires : goal.node-which-requires
node-which-requires c =
    let i = c.self.inside in
    let r = subst (λ (v : RunningView). IsEndOfCall v c.args.node c.args.end) (sym c.self.view_is) c.requires in
    subst (λ (l : List Node). c.args.node < length l) (sym (nodes_are (fixed_of i) i.stages i.held.items i.ending.traces.items i.job c.self.invariant)) (there (fixed_of i) i.stages i.held.items i.ending.traces.items i.job c.self.invariant c.args.node r.job r.open_is)

pub take_frame-frame-requires : goal.take_frame-frame-requires
take_frame-frame-requires c =
    let i = c.self.inside in
    let r = subst (λ (v : RunningView). IsEndOfCall v c.args.node c.args.end) (sym c.self.view_is) c.requires in
    record {
      inside = subst (λ (l : List Held). c.args.node < length l) (sym c.deref_mut.ensures.value) (inside_held (fixed_of i) i.stages i.held.items i.ending.traces.items i.job c.self.invariant c.args.node r.job r.open_is);
      waits = ((opened (fixed_of i) i.stages i.held.items i.ending.traces.items i.job c.self.invariant c.args.node r.job r.open_is).told.frame, ap (λ (l : List Held). held_at l c.args.node) c.deref_mut.ensures.value ∙ waits (fixed_of i) i.stages i.held.items i.ending.traces.items i.job c.self.invariant c.args.node r.job r.open_is);
    }

pub take_frame-frame-requires-in-Err : goal.take_frame-frame-requires-in-Err
take_frame-frame-requires-in-Err c =
    let i = c.self.inside in
    let r = subst (λ (v : RunningView). IsEndOfCall v c.args.node c.args.end) (sym c.self.view_is) c.requires in
    record {
      inside = subst (λ (l : List Held). c.args.node < length l) (sym c.deref_mut-in-Err.ensures.value) (inside_held (fixed_of i) i.stages i.held.items i.ending.traces.items i.job c.self.invariant c.args.node r.job r.open_is);
      waits = ((opened (fixed_of i) i.stages i.held.items i.ending.traces.items i.job c.self.invariant c.args.node r.job r.open_is).told.frame, ap (λ (l : List Held). held_at l c.args.node) c.deref_mut-in-Err.ensures.value ∙ waits (fixed_of i) i.stages i.held.items i.ending.traces.items i.job c.self.invariant c.args.node r.job r.open_is);
    }

pub firing_of-actor-requires : goal.firing_of-actor-requires
firing_of-actor-requires c =
    let i = c.self.inside in
    let r = subst (λ (v : RunningView). IsEndOfCall v c.args.node c.args.end) (sym c.self.view_is) c.requires in
    subst IsFiring (sym c.node-which.ensures) (firing (fixed_of i) i.stages i.held.items i.ending.traces.items i.job c.self.invariant c.args.node r.job r.open_is)

pub index-keeps-requires : goal.index-keeps-requires
index-keeps-requires c =
    let i = c.self.inside in
    let r = subst (λ (v : RunningView). IsEndOfCall v c.args.node c.args.end) (sym c.self.view_is) c.requires in
    let at : node_at i.job.compilation.graph.nodes c.args.node ≡ node.Firing c.firing_of-actor.result.0 c.firing_of-actor.result.1 = sym c.node-which.ensures ∙ c.firing_of-actor.ensures in
    let l : vec_len i.ending.keeps ≡ length i.ending.keeps.items = i.ending.keeps.ok.0 in
    let k = keeps_in (fixed_of i) i.stages i.held.items i.ending.traces.items i.job c.self.invariant c.args.node r.job r.open_is c.graphs_numbered.ensures.all c.graphs_numbered.ensures.in_order c.graphs_numbered.ensures.once c.ready_stays.ensures.ready c.firing_of-actor.result.0 c.firing_of-actor.result.1 at in
    omega arith

pub write_child-requires-clause-few : goal.write_child-requires-clause-few
write_child-requires-clause-few c =
    let i = c.self.inside in
    let r = subst (λ (v : RunningView). IsEndOfCall v c.args.node c.args.end) (sym c.self.view_is) c.requires in
    let suits = subst (λ (e : Result JobGiven Refusal). EndSuits (fixed_of i).graphs.graphs r.job (end_of e)) c.in-Ok.is r.suits in
    subst (λ (l : List (List ℤ)). length l < 2 ^ 32) (sym c.items.ensures) (few_outs (fixed_of i) i.stages i.held.items i.ending.traces.items i.job c.self.invariant c.args.node r.job r.open_is c.in-Ok.given suits)

pub write_child-requires-clause-long : goal.write_child-requires-clause-long
write_child-requires-clause-long c =
    let i = c.self.inside in
    let r = subst (λ (v : RunningView). IsEndOfCall v c.args.node c.args.end) (sym c.self.view_is) c.requires in
    let at : node_at i.job.compilation.graph.nodes c.args.node ≡ node.Firing c.firing_of-actor.result.0 c.firing_of-actor.result.1 = sym c.node-which.ensures ∙ c.firing_of-actor.ensures in
    let suits = subst (λ (e : Result JobGiven Refusal). EndSuits (fixed_of i).graphs.graphs r.job (end_of e)) c.in-Ok.is r.suits in
    let same : c.take_frame-frame.result ≡ (opened (fixed_of i) i.stages i.held.items i.ending.traces.items i.job c.self.invariant c.args.node r.job r.open_is).told.frame =
    (let e : Waits c.take_frame-frame.result ≡ Waits (opened (fixed_of i) i.stages i.held.items i.ending.traces.items i.job c.self.invariant c.args.node r.job r.open_is).told.frame = sym c.take_frame-frame.ensures.frame ∙ ap (λ (l : List Held). held_at l c.args.node) c.deref_mut.ensures.value ∙ waits (fixed_of i) i.stages i.held.items i.ending.traces.items i.job c.self.invariant c.args.node r.job r.open_is in cc) in
    let kept = c.index-keeps.ensures ∙ kept_is (fixed_of i) i.stages i.held.items i.ending.traces.items i.job c.self.invariant c.args.node r.job r.open_is c.graphs_numbered.ensures.all c.graphs_numbered.ensures.in_order c.graphs_numbered.ensures.once c.ready_stays.ensures.ready c.firing_of-actor.result.0 c.firing_of-actor.result.1 c.index-keeps.result.now at in
    let outs_are = c.items.ensures in
    let states_are = c.items-in-Ok.ensures in
    fits_frame (fixed_of i) i.stages i.held.items i.ending.traces.items i.job c.self.invariant c.args.node r.job r.open_is c.in-Ok.given suits c.take_frame-frame.result same ∙ sym (λ k. lengths (child_outs (kept k) (outs_are k) (states_are k)))

pub put_trace-requires-clause-actor : goal.put_trace-requires-clause-actor
put_trace-requires-clause-actor c =
    let i = c.self.inside in
    let r = subst (λ (v : RunningView). IsEndOfCall v c.args.node c.args.end) (sym c.self.view_is) c.requires in
    let at : node_at i.job.compilation.graph.nodes c.args.node ≡ node.Firing c.firing_of-actor.result.0 c.firing_of-actor.result.1 = sym c.node-which.ensures ∙ c.firing_of-actor.ensures in
    let l : length (lists_of i.ending.traces.items) ≡ length i.ending.traces.items = length-map i.ending.traces.items (λ (v : Vec (List TraceRow) Global). v.items) in
    let k = actor_in (fixed_of i) i.stages i.held.items i.ending.traces.items i.job c.self.invariant c.args.node r.job r.open_is c.graphs_numbered.ensures.all c.graphs_numbered.ensures.in_order c.graphs_numbered.ensures.once c.ready_stays.ensures.ready c.firing_of-actor.result.0 c.firing_of-actor.result.1 at in
    let v = ap length c.deref_mut-in-Ok.ensures.value in
    omega arith

pub put_trace-requires-clause-turn : goal.put_trace-requires-clause-turn
put_trace-requires-clause-turn c =
    let i = c.self.inside in
    let r = subst (λ (v : RunningView). IsEndOfCall v c.args.node c.args.end) (sym c.self.view_is) c.requires in
    let at : node_at i.job.compilation.graph.nodes c.args.node ≡ node.Firing c.firing_of-actor.result.0 c.firing_of-actor.result.1 = sym c.node-which.ensures ∙ c.firing_of-actor.ensures in
    subst (λ (l : List (Vec (List TraceRow) Global)). c.firing_of-actor.result.1 < length (row_at l c.firing_of-actor.result.0)) (sym c.deref_mut-in-Ok.ensures.value) (turn_in (fixed_of i) i.stages i.held.items i.ending.traces.items i.job c.self.invariant c.args.node r.job r.open_is c.graphs_numbered.ensures.all c.graphs_numbered.ensures.in_order c.graphs_numbered.ensures.once c.ready_stays.ensures.ready c.firing_of-actor.result.0 c.firing_of-actor.result.1 at)

pub finish-requires-clause-claimed : goal.finish-requires-clause-claimed
finish-requires-clause-claimed c =
    let i = c.self.inside in
    let r = subst (λ (v : RunningView). IsEndOfCall v c.args.node c.args.end) (sym c.self.view_is) c.requires in
    let same : c.take_frame-frame.result ≡ (opened (fixed_of i) i.stages i.held.items i.ending.traces.items i.job c.self.invariant c.args.node r.job r.open_is).told.frame =
    (let e : Waits c.take_frame-frame.result ≡ Waits (opened (fixed_of i) i.stages i.held.items i.ending.traces.items i.job c.self.invariant c.args.node r.job r.open_is).told.frame = sym c.take_frame-frame.ensures.frame ∙ ap (λ (l : List Held). held_at l c.args.node) c.deref_mut.ensures.value ∙ waits (fixed_of i) i.stages i.held.items i.ending.traces.items i.job c.self.invariant c.args.node r.job r.open_is in cc) in
    claimed (fixed_of i) i.stages i.held.items i.ending.traces.items i.job c.self.invariant c.args.node r.job r.open_is ∙ ap (λ (x : FrameView). one.Claimed x.places) (sym same) ∙ ap (λ (x : FrameView). one.Claimed x.places) (sym c.write_child.ensures)

pub invariant_of-self : goal.invariant_of-self
invariant_of-self c =
    let i = c.self.inside in
    let r = subst (λ (v : RunningView). IsEndOfCall v c.args.node c.args.end) (sym c.self.view_is) c.requires in
    let at : node_at i.job.compilation.graph.nodes c.args.node ≡ node.Firing c.firing_of-actor.result.0 c.firing_of-actor.result.1 = sym c.node-which.ensures ∙ c.firing_of-actor.ensures in
    let suits = subst (λ (e : Result JobGiven Refusal). EndSuits (fixed_of i).graphs.graphs r.job (end_of e)) c.in-Ok.is r.suits in
    let same : c.take_frame-frame.result ≡ (opened (fixed_of i) i.stages i.held.items i.ending.traces.items i.job c.self.invariant c.args.node r.job r.open_is).told.frame =
    (let e : Waits c.take_frame-frame.result ≡ Waits (opened (fixed_of i) i.stages i.held.items i.ending.traces.items i.job c.self.invariant c.args.node r.job r.open_is).told.frame = sym c.take_frame-frame.ensures.frame ∙ ap (λ (l : List Held). held_at l c.args.node) c.deref_mut.ensures.value ∙ waits (fixed_of i) i.stages i.held.items i.ending.traces.items i.job c.self.invariant c.args.node r.job r.open_is in cc) in
    let kept = c.index-keeps.ensures ∙ kept_is (fixed_of i) i.stages i.held.items i.ending.traces.items i.job c.self.invariant c.args.node r.job r.open_is c.graphs_numbered.ensures.all c.graphs_numbered.ensures.in_order c.graphs_numbered.ensures.once c.ready_stays.ensures.ready c.firing_of-actor.result.0 c.firing_of-actor.result.1 c.index-keeps.result.now at in
    let held_are = with_items_is i.held c.take_frame-frame.new.all (c.take_frame-frame.auto.all ∙ (ap length c.deref_mut.ensures.value ∙ sym i.held.ok.0)) ∙ c.take_frame-frame.ensures.rest ∙ ap (λ (l : List Held). set l c.args.node Nothing) c.deref_mut.ensures.value in
    let outs_are = c.items.ensures in
    let states_are = c.items-in-Ok.ensures in
    let written = ap (λ (x : FrameView). x.outputs) c.write_child.ensures ∙ (λ k. child_outs (kept k) (outs_are k) (states_are k)) in
    let rows_are = with_items_is i.ending.traces c.put_trace.new.rows (c.put_trace.auto.rows ∙ (ap length c.deref_mut-in-Ok.ensures.value ∙ sym i.ending.traces.ok.0)) in
    let put = c.put_trace.ensures ∙ ap (λ (l : List (Vec (List TraceRow) Global)). set (lists_of l) c.firing_of-actor.result.0 (set (row_at l c.firing_of-actor.result.0) c.firing_of-actor.result.1 c.in-Ok.given.trace)) c.deref_mut-in-Ok.ensures.value in
    subst (λ (s : List Stage). KeepsAll (record (fixed_of i) { block = c.finish.new.self.block; room = c.finish.new.self.room }) s (take i.held.len (c.take_frame-frame.new.all ++ drop (length c.take_frame-frame.new.all) i.held.items)) (take i.ending.traces.len (c.put_trace.new.rows ++ drop (length c.put_trace.new.rows) i.ending.traces.items)) c.finish.new.self) (sym c.put.ensures)
    (subst (λ (l : List Held). KeepsAll (record (fixed_of i) { block = c.finish.new.self.block; room = c.finish.new.self.room }) (set i.stages c.args.node (stage.Gave c.of.result)) l (take i.ending.traces.len (c.put_trace.new.rows ++ drop (length c.put_trace.new.rows) i.ending.traces.items)) c.finish.new.self) (sym held_are)
    (subst (λ (l : List (Vec (List TraceRow) Global)). KeepsAll (record (fixed_of i) { block = c.finish.new.self.block; room = c.finish.new.self.room }) (set i.stages c.args.node (stage.Gave c.of.result)) (set i.held.items c.args.node Nothing) l c.finish.new.self) (sym rows_are)
    (subst (λ (j : leased.JobView). KeepsAll (record (fixed_of i) { block = j.block; room = j.room }) (set i.stages c.args.node (stage.Gave c.of.result)) (set i.held.items c.args.node Nothing) c.put_trace.new.rows j) (sym c.finish.ensures.finished)
    (keeps_gave (fixed_of i) i.stages i.held.items i.ending.traces.items i.job c.self.invariant c.args.node r.job r.open_is c.graphs_numbered.ensures.all c.graphs_numbered.ensures.in_order c.graphs_numbered.ensures.once c.ready_stays.ensures.ready c.firing_of-actor.result.0 c.firing_of-actor.result.1 c.of.result c.in-Ok.given c.write_child.new.frame c.put_trace.new.rows at c.of.ensures suits written put))))

pub finish-requires-in-Err-clause-claimed : goal.finish-requires-in-Err-clause-claimed
finish-requires-in-Err-clause-claimed c =
    let i = c.self.inside in
    let r = subst (λ (v : RunningView). IsEndOfCall v c.args.node c.args.end) (sym c.self.view_is) c.requires in
    let same : c.take_frame-frame-in-Err.result ≡ (opened (fixed_of i) i.stages i.held.items i.ending.traces.items i.job c.self.invariant c.args.node r.job r.open_is).told.frame =
    (let e : Waits c.take_frame-frame-in-Err.result ≡ Waits (opened (fixed_of i) i.stages i.held.items i.ending.traces.items i.job c.self.invariant c.args.node r.job r.open_is).told.frame = sym c.take_frame-frame-in-Err.ensures.frame ∙ ap (λ (l : List Held). held_at l c.args.node) c.deref_mut-in-Err.ensures.value ∙ waits (fixed_of i) i.stages i.held.items i.ending.traces.items i.job c.self.invariant c.args.node r.job r.open_is in cc) in
    claimed (fixed_of i) i.stages i.held.items i.ending.traces.items i.job c.self.invariant c.args.node r.job r.open_is ∙ ap (λ (x : FrameView). one.Claimed x.places) (sym same)

pub finish-requires-in-Err-clause-sound : goal.finish-requires-in-Err-clause-sound
finish-requires-in-Err-clause-sound c =
    let i = c.self.inside in
    let r = subst (λ (v : RunningView). IsEndOfCall v c.args.node c.args.end) (sym c.self.view_is) c.requires in
    inl (firing (fixed_of i) i.stages i.held.items i.ending.traces.items i.job c.self.invariant c.args.node r.job r.open_is)

pub invariant_of-self-in-Err : goal.invariant_of-self-in-Err
invariant_of-self-in-Err c =
    let i = c.self.inside in
    let r = subst (λ (v : RunningView). IsEndOfCall v c.args.node c.args.end) (sym c.self.view_is) c.requires in
    let held_are = with_items_is i.held c.take_frame-frame-in-Err.new.all (c.take_frame-frame-in-Err.auto.all ∙ (ap length c.deref_mut-in-Err.ensures.value ∙ sym i.held.ok.0)) ∙ c.take_frame-frame-in-Err.ensures.rest ∙ ap (λ (l : List Held). set l c.args.node (Refuses c.in-Err.refusal)) c.deref_mut-in-Err.ensures.value in
    subst (λ (s : List Stage). KeepsAll (record (fixed_of i) { block = c.finish-in-Err.new.self.block; room = c.finish-in-Err.new.self.room }) s (take i.held.len (c.take_frame-frame-in-Err.new.all ++ drop (length c.take_frame-frame-in-Err.new.all) i.held.items)) i.ending.traces.items c.finish-in-Err.new.self) (sym c.put-in-Err.ensures)
    (subst (λ (l : List Held). KeepsAll (record (fixed_of i) { block = c.finish-in-Err.new.self.block; room = c.finish-in-Err.new.self.room }) (set i.stages c.args.node (stage.Refused c.of-in-Err.result)) l i.ending.traces.items c.finish-in-Err.new.self) (sym held_are)
    (subst (λ (j : leased.JobView). KeepsAll (record (fixed_of i) { block = j.block; room = j.room }) (set i.stages c.args.node (stage.Refused c.of-in-Err.result)) (set i.held.items c.args.node (Refuses c.in-Err.refusal)) i.ending.traces.items j) (sym c.finish-in-Err.ensures.finished)
    (keeps_refused (fixed_of i) i.stages i.held.items i.ending.traces.items i.job c.self.invariant c.args.node r.job r.open_is c.graphs_numbered.ensures.all c.graphs_numbered.ensures.in_order c.graphs_numbered.ensures.once c.ready_stays.ensures.ready c.of-in-Err.result c.in-Err.refusal c.of-in-Err.ensures)))

pub returns-in-Ok : goal.returns-in-Ok
returns-in-Ok c =
    let i = c.self.inside in
    let r = subst (λ (v : RunningView). IsEndOfCall v c.args.node c.args.end) (sym c.self.view_is) c.requires in
    ap (λ (j : leased.JobView). view_with (record (fixed_of i) { block = j.block; room = j.room }) c.put.new.self) c.finish.ensures.finished
    ∙ ap (view_with (fixed_of i)) c.put.ensures
    ∙ view_gave (fixed_of i) i.stages i.held.items i.ending.traces.items i.job c.self.invariant c.args.node r.job r.open_is c.graphs_numbered.ensures.all c.graphs_numbered.ensures.in_order c.graphs_numbered.ensures.once c.ready_stays.ensures.ready c.of.result c.in-Ok.given c.of.ensures
    ∙ ap (λ (e : Result JobGiven Refusal). record (view_of i) { marks = set (view_of i).marks c.args.node (Done (answer_of (end_of e))) }) (sym c.in-Ok.is)
    ∙ ap (λ (v : RunningView). record v { marks = set v.marks c.args.node (Done (answer_of (end_of c.args.end))) }) c.self.view_is

pub returns-in-Err : goal.returns-in-Err
returns-in-Err c =
    let i = c.self.inside in
    let r = subst (λ (v : RunningView). IsEndOfCall v c.args.node c.args.end) (sym c.self.view_is) c.requires in
    ap (λ (j : leased.JobView). view_with (record (fixed_of i) { block = j.block; room = j.room }) c.put-in-Err.new.self) c.finish-in-Err.ensures.finished
    ∙ ap (view_with (fixed_of i)) c.put-in-Err.ensures
    ∙ view_refused (fixed_of i) i.stages i.held.items i.ending.traces.items i.job c.self.invariant c.args.node r.job r.open_is c.graphs_numbered.ensures.all c.graphs_numbered.ensures.in_order c.graphs_numbered.ensures.once c.ready_stays.ensures.ready c.of-in-Err.result c.in-Err.refusal c.of-in-Err.ensures
    ∙ ap (λ (e : Result JobGiven Refusal). record (view_of i) { marks = set (view_of i).marks c.args.node (Done (answer_of (end_of e))) }) (sym c.in-Err.is)
    ∙ ap (λ (v : RunningView). record v { marks = set v.marks c.args.node (Done (answer_of (end_of c.args.end))) }) c.self.view_is
