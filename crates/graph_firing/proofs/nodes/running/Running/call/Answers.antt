use Rattle.std.proofs.Common.{◌≡◌, ◌<◌, ◌++◌, List, IfOk, OnErr, drop, length, set, take, sym, ap, ◌∙◌, subst}
use Rattle.std.proofs.lemmas.List.{with_items_is}
use Rattle.nested_jobs.specs.Marks.{Busy, Open}
use Rattle.nested_jobs.specs.Rules.{Call}
use Rattle.pisdf_model.specs.declared.graph.Graphs.{Graphs}
use Rattle.one_job.specs.View as leased
use Rattle.graph_firing.specs.Nodes.Invariants.{fixed_of, view_with}
use Rattle.graph_firing.specs.Nodes.Parts.{KeepsAll, held_at}
use Rattle.graph_firing.specs.Nodes.View.{IsOfferedCall, RunningView}
use Rattle.graph_firing.proofs.OfNodes.CalledNodes.{args_inside, called_ok, caller_so, calls, calls_graph, child_known, few_read, inside_held, inherits_of, inside_of, keeps_inside, keeps_waiting, numbers, places_are, set_inside, task_of, view_err, view_ok}
use Rattle.graph_firing.proofs.OfNodes.ClaimedNodes.{nothing_held}
use Rattle.graph_firing.proofs.OfNodes.NodeTasks.{enabled}
use Rattle.graph_firing.proofs.Rooms.{on_err_right, suffices_same}
use Rattle.graph_firing.specs.declared.nodes.frames.Held.{Held}
use Rattle.graph_firing.specs.declared.nodes.frames.Held.TheVariants.{Waits}
use Rattle.graph_firing.specs.declared.nodes.stage.Stage.{Stage}
use Rattle.job_preparing.specs.declared.compiling.ReadyLevel.{ReadyLevel}
use Rattle.graph_firing.proofs.nodes.running.Running.call.Goals as goal

pub claim-frame-requires-clause-enabled : goal.claim-frame-requires-clause-enabled
claim-frame-requires-clause-enabled c =
    let i = c.self.inside in
    let offered = subst (λ (v : RunningView). IsOfferedCall v c.args.node) (sym c.self.view_is) c.requires in
    enabled (fixed_of i) i.stages i.held.items i.ending.traces.items i.job c.self.invariant c.faults_renamed.ensures.ready c.faults_renamed.ensures.inputs c.args.node (Call offered.job) offered.free offered.task_is

pub caller_of-caller-requires-clause-keeps : goal.caller_of-caller-requires-clause-keeps
caller_of-caller-requires-clause-keeps c =
    let i = c.self.inside in
    let offered = subst (λ (v : RunningView). IsOfferedCall v c.args.node) (sym c.self.view_is) c.requires in
    let same = (numbers (fixed_of i) i.stages i.held.items i.ending.traces.items i.job c.self.invariant c.args.node c.faults_renamed.ensures.ready c.faults_renamed.ensures.inputs c.ready_stays.ensures.ready offered c.node-which.result c.firing_of-actor.result.0 c.firing_of-actor.result.1 c.node-which.ensures c.firing_of-actor.ensures).0 in
    keeps_inside (fixed_of i) i.stages i.held.items i.ending.traces.items i.job c.self.invariant c.args.node c.faults_renamed.ensures.ready c.faults_renamed.ensures.inputs c.ready_stays.ensures.ready offered c.firing_of-actor.result.0 c.deref-3.result.now same c.deref-3.ensures.value

pub caller_of-caller-requires-clause-set : goal.caller_of-caller-requires-clause-set
caller_of-caller-requires-clause-set c =
    let i = c.self.inside in
    let offered = subst (λ (v : RunningView). IsOfferedCall v c.args.node) (sym c.self.view_is) c.requires in
    let same = (numbers (fixed_of i) i.stages i.held.items i.ending.traces.items i.job c.self.invariant c.args.node c.faults_renamed.ensures.ready c.faults_renamed.ensures.inputs c.ready_stays.ensures.ready offered c.node-which.result c.firing_of-actor.result.0 c.firing_of-actor.result.1 c.node-which.ensures c.firing_of-actor.ensures).0 in
    subst (λ (l : ReadyLevel). c.firing_of-actor.result.0 < length l.made.set.places) (sym c.deref-2.ensures) (set_inside (fixed_of i) i.stages i.held.items i.ending.traces.items i.job c.self.invariant c.args.node c.faults_renamed.ensures.ready c.faults_renamed.ensures.inputs c.ready_stays.ensures.ready offered c.level_by_actor.ensures.many c.firing_of-actor.result.0 same)

pub caller_of-caller-requires-clause-places : goal.caller_of-caller-requires-clause-places
caller_of-caller-requires-clause-places c =
    let i = c.self.inside in
    let offered = subst (λ (v : RunningView). IsOfferedCall v c.args.node) (sym c.self.view_is) c.requires in
    let items_are = c.items.ensures ∙ ap (λ (x : Graphs). x.graphs) c.deref.ensures in
    λ h at. ap (λ (l : ReadyLevel). l.made.set.places) c.deref-2.ensures ∙ places_are (fixed_of i) i.stages i.held.items i.ending.traces.items i.job c.self.invariant c.args.node c.faults_renamed.ensures.ready c.faults_renamed.ensures.inputs c.ready_stays.ensures.ready offered c.items.result.now h items_are at

pub caller_of-caller-requires-clause-there : goal.caller_of-caller-requires-clause-there
caller_of-caller-requires-clause-there c =
    let i = c.self.inside in
    let offered = subst (λ (v : RunningView). IsOfferedCall v c.args.node) (sym c.self.view_is) c.requires in
    let same = (numbers (fixed_of i) i.stages i.held.items i.ending.traces.items i.job c.self.invariant c.args.node c.faults_renamed.ensures.ready c.faults_renamed.ensures.inputs c.ready_stays.ensures.ready offered c.node-which.result c.firing_of-actor.result.0 c.firing_of-actor.result.1 c.node-which.ensures c.firing_of-actor.ensures).0 in
    let items_are = c.items.ensures ∙ ap (λ (x : Graphs). x.graphs) c.deref.ensures in
    λ h at. inside_of (fixed_of i) i.stages i.held.items i.ending.traces.items i.job c.self.invariant c.args.node c.faults_renamed.ensures.ready c.faults_renamed.ensures.inputs c.ready_stays.ensures.ready offered c.firing_of-actor.result.0 c.items.result.now h same items_are at

pub called-result-requires-clause-args : goal.called-result-requires-clause-args
called-result-requires-clause-args c =
    let i = c.self.inside in
    let offered = subst (λ (v : RunningView). IsOfferedCall v c.args.node) (sym c.self.view_is) c.requires in
    let items_are = c.items.ensures ∙ ap (λ (x : Graphs). x.graphs) c.deref.ensures in
    let caller = caller_so (fixed_of i) i.stages i.held.items i.ending.traces.items i.job c.self.invariant c.args.node c.faults_renamed.ensures.ready c.faults_renamed.ensures.inputs c.ready_stays.ensures.ready offered c.caller_of-caller.result.graphs.now c.items.result.now c.caller_of-caller.result.set.now c.caller_of-caller.result.actor.now c.caller_of-caller.result.number c.caller_of-caller.result.turn c.firing_of-actor.result.0 c.firing_of-actor.result.1 c.caller_of-caller.result.keeps c.deref-3.result.now c.node-which.result c.node-which.ensures c.firing_of-actor.ensures items_are c.deref-3.ensures.value c.caller_of-caller.ensures.actor (c.caller_of-caller.ensures.graphs.0, c.caller_of-caller.ensures.graphs.1 ∙ ap (λ (l : ReadyLevel). l.made.set) c.deref-2.ensures) c.caller_of-caller.ensures.number c.caller_of-caller.ensures.keeps in
    args_inside (fixed_of i) i.stages i.held.items i.ending.traces.items i.job c.self.invariant c.args.node c.faults_renamed.ensures.ready c.faults_renamed.ensures.inputs c.ready_stays.ensures.ready offered c.level_by_actor.ensures.many c.caller_of-caller.result.set.now c.caller_of-caller.result.number caller.number_is caller.set_is

pub called-result-requires-clause-known : goal.called-result-requires-clause-known
called-result-requires-clause-known c =
    let i = c.self.inside in
    let offered = subst (λ (v : RunningView). IsOfferedCall v c.args.node) (sym c.self.view_is) c.requires in
    let items_are = c.items.ensures ∙ ap (λ (x : Graphs). x.graphs) c.deref.ensures in
    let caller = caller_so (fixed_of i) i.stages i.held.items i.ending.traces.items i.job c.self.invariant c.args.node c.faults_renamed.ensures.ready c.faults_renamed.ensures.inputs c.ready_stays.ensures.ready offered c.caller_of-caller.result.graphs.now c.items.result.now c.caller_of-caller.result.set.now c.caller_of-caller.result.actor.now c.caller_of-caller.result.number c.caller_of-caller.result.turn c.firing_of-actor.result.0 c.firing_of-actor.result.1 c.caller_of-caller.result.keeps c.deref-3.result.now c.node-which.result c.node-which.ensures c.firing_of-actor.ensures items_are c.deref-3.ensures.value c.caller_of-caller.ensures.actor (c.caller_of-caller.ensures.graphs.0, c.caller_of-caller.ensures.graphs.1 ∙ ap (λ (l : ReadyLevel). l.made.set) c.deref-2.ensures) c.caller_of-caller.ensures.number c.caller_of-caller.ensures.keeps in
    child_known (fixed_of i) i.stages i.held.items i.ending.traces.items i.job c.self.invariant c.args.node c.faults_renamed.ensures.ready c.faults_renamed.ensures.inputs c.ready_stays.ensures.ready offered c.level_by_actor.ensures.each c.caller_of-caller.result.set.now c.caller_of-caller.result.number caller.number_is caller.set_is

pub called-result-requires-clause-child : goal.called-result-requires-clause-child
called-result-requires-clause-child c =
    let i = c.self.inside in
    let offered = subst (λ (v : RunningView). IsOfferedCall v c.args.node) (sym c.self.view_is) c.requires in
    let items_are = c.items.ensures ∙ ap (λ (x : Graphs). x.graphs) c.deref.ensures in
    let caller = caller_so (fixed_of i) i.stages i.held.items i.ending.traces.items i.job c.self.invariant c.args.node c.faults_renamed.ensures.ready c.faults_renamed.ensures.inputs c.ready_stays.ensures.ready offered c.caller_of-caller.result.graphs.now c.items.result.now c.caller_of-caller.result.set.now c.caller_of-caller.result.actor.now c.caller_of-caller.result.number c.caller_of-caller.result.turn c.firing_of-actor.result.0 c.firing_of-actor.result.1 c.caller_of-caller.result.keeps c.deref-3.result.now c.node-which.result c.node-which.ensures c.firing_of-actor.ensures items_are c.deref-3.ensures.value c.caller_of-caller.ensures.actor (c.caller_of-caller.ensures.graphs.0, c.caller_of-caller.ensures.graphs.1 ∙ ap (λ (l : ReadyLevel). l.made.set) c.deref-2.ensures) c.caller_of-caller.ensures.number c.caller_of-caller.ensures.keeps in
    let body = calls_graph (fixed_of i) i.stages i.held.items i.ending.traces.items i.job c.self.invariant c.args.node c.faults_renamed.ensures.ready c.faults_renamed.ensures.inputs c.ready_stays.ensures.ready offered c.caller_of-caller.result.actor.now c.caller_of-caller.result.number caller.number_is caller.found in
    ((calls (fixed_of i) i.stages i.held.items i.ending.traces.items i.job c.self.invariant c.args.node c.faults_renamed.ensures.ready c.faults_renamed.ensures.inputs c.ready_stays.ensures.ready offered).place, (calls (fixed_of i) i.stages i.held.items i.ending.traces.items i.job c.self.invariant c.args.node c.faults_renamed.ensures.ready c.faults_renamed.ensures.inputs c.ready_stays.ensures.ready offered).exprs, body)

pub called-result-requires-clause-few : goal.called-result-requires-clause-few
called-result-requires-clause-few c =
    let i = c.self.inside in
    let offered = subst (λ (v : RunningView). IsOfferedCall v c.args.node) (sym c.self.view_is) c.requires in
    few_read (fixed_of i) i.stages i.held.items i.ending.traces.items i.job c.self.invariant c.args.node c.faults_renamed.ensures.ready c.faults_renamed.ensures.inputs c.ready_stays.ensures.ready offered c.claim-frame.result.inputs c.claim-frame.ensures.inputs

pub put_frame-requires-clause-inside : goal.put_frame-requires-clause-inside
put_frame-requires-clause-inside c =
    let i = c.self.inside in
    let offered = subst (λ (v : RunningView). IsOfferedCall v c.args.node) (sym c.self.view_is) c.requires in
    subst (λ (l : List Held). c.args.node < length l) (sym c.deref_mut.ensures.value) (inside_held (fixed_of i) i.stages i.held.items i.ending.traces.items i.job c.self.invariant c.args.node c.faults_renamed.ensures.ready c.faults_renamed.ensures.inputs c.ready_stays.ensures.ready offered)

pub put_frame-requires-clause-nothing : goal.put_frame-requires-clause-nothing
put_frame-requires-clause-nothing c =
    let i = c.self.inside in
    let offered = subst (λ (v : RunningView). IsOfferedCall v c.args.node) (sym c.self.view_is) c.requires in
    ap (λ (l : List Held). held_at l c.args.node) c.deref_mut.ensures.value ∙ nothing_held (fixed_of i) i.stages i.held.items i.ending.traces.items i.job c.self.invariant c.args.node c.faults_renamed.ensures.ready c.faults_renamed.ensures.inputs c.ready_stays.ensures.ready offered.free (Call offered.job) offered.task_is

pub invariant_of-self : goal.invariant_of-self
invariant_of-self c =
    let i = c.self.inside in
    let offered = subst (λ (v : RunningView). IsOfferedCall v c.args.node) (sym c.self.view_is) c.requires in
    let items_are = c.items.ensures ∙ ap (λ (x : Graphs). x.graphs) c.deref.ensures in
    let caller = caller_so (fixed_of i) i.stages i.held.items i.ending.traces.items i.job c.self.invariant c.args.node c.faults_renamed.ensures.ready c.faults_renamed.ensures.inputs c.ready_stays.ensures.ready offered c.caller_of-caller.result.graphs.now c.items.result.now c.caller_of-caller.result.set.now c.caller_of-caller.result.actor.now c.caller_of-caller.result.number c.caller_of-caller.result.turn c.firing_of-actor.result.0 c.firing_of-actor.result.1 c.caller_of-caller.result.keeps c.deref-3.result.now c.node-which.result c.node-which.ensures c.firing_of-actor.ensures items_are c.deref-3.ensures.value c.caller_of-caller.ensures.actor (c.caller_of-caller.ensures.graphs.0, c.caller_of-caller.ensures.graphs.1 ∙ ap (λ (l : ReadyLevel). l.made.set) c.deref-2.ensures) c.caller_of-caller.ensures.number c.caller_of-caller.ensures.keeps in
    let body = calls_graph (fixed_of i) i.stages i.held.items i.ending.traces.items i.job c.self.invariant c.args.node c.faults_renamed.ensures.ready c.faults_renamed.ensures.inputs c.ready_stays.ensures.ready offered c.caller_of-caller.result.actor.now c.caller_of-caller.result.number caller.number_is caller.found in
    let made = called_ok (fixed_of i) i.stages i.held.items i.ending.traces.items i.job c.self.invariant c.args.node c.faults_renamed.ensures.ready c.faults_renamed.ensures.inputs c.ready_stays.ensures.ready offered c.called-result.result c.caller_of-caller.result.graphs.now c.caller_of-caller.result.set.now c.caller_of-caller.result.actor.now c.caller_of-caller.result.number c.caller_of-caller.result.turn c.caller_of-caller.result.keeps c.claim-frame.result.inputs caller c.claim-frame.ensures.inputs
    (c.called-result.ensures i.firing.value (calls (fixed_of i) i.stages i.held.items i.ending.traces.items i.job c.self.invariant c.args.node c.faults_renamed.ensures.ready c.faults_renamed.ensures.inputs c.ready_stays.ensures.ready offered).place (calls (fixed_of i) i.stages i.held.items i.ending.traces.items i.job c.self.invariant c.args.node c.faults_renamed.ensures.ready c.faults_renamed.ensures.inputs c.ready_stays.ensures.ready offered).exprs (sym c.self.invariant.parts.path_is) body) in
    let held_are = with_items_is i.held c.put_frame.new.all (c.put_frame.auto.all ∙ (ap length c.deref_mut.ensures.value ∙ sym i.held.ok.0)) ∙ c.put_frame.ensures ∙ ap (λ (l : List Held). set l c.args.node (Waits c.claim-frame.result)) c.deref_mut.ensures.value in
    subst (λ (s : List Stage). KeepsAll (record (fixed_of i) { block = c.claim-frame.new.self.block; room = c.claim-frame.new.self.room }) s (take i.held.len (c.put_frame.new.all ++ drop (length c.put_frame.new.all) i.held.items)) i.ending.traces.items c.claim-frame.new.self) (sym c.put.ensures)
    (subst (λ (l : List Held). KeepsAll (record (fixed_of i) { block = c.claim-frame.new.self.block; room = c.claim-frame.new.self.room }) (set i.stages c.args.node c.waiting.result) l i.ending.traces.items c.claim-frame.new.self) (sym held_are)
    (subst (λ (j : leased.JobView). KeepsAll (record (fixed_of i) { block = j.block; room = j.room }) (set i.stages c.args.node c.waiting.result) (set i.held.items c.args.node (Waits c.claim-frame.result)) i.ending.traces.items j) (sym c.claim-frame.ensures.claimed)
    (keeps_waiting (fixed_of i) i.stages i.held.items i.ending.traces.items i.job c.self.invariant c.args.node c.faults_renamed.ensures.ready c.faults_renamed.ensures.inputs c.ready_stays.ensures.ready offered c.called-result.result c.claim-frame.result c.waiting.result c.waiting.ensures made c.claim-frame.ensures.outputs)))

pub returns-clause-called : goal.returns-clause-called
returns-clause-called c =
    let i = c.self.inside in
    let offered = subst (λ (v : RunningView). IsOfferedCall v c.args.node) (sym c.self.view_is) c.requires in
    let items_are = c.items.ensures ∙ ap (λ (x : Graphs). x.graphs) c.deref.ensures in
    let caller = caller_so (fixed_of i) i.stages i.held.items i.ending.traces.items i.job c.self.invariant c.args.node c.faults_renamed.ensures.ready c.faults_renamed.ensures.inputs c.ready_stays.ensures.ready offered c.caller_of-caller.result.graphs.now c.items.result.now c.caller_of-caller.result.set.now c.caller_of-caller.result.actor.now c.caller_of-caller.result.number c.caller_of-caller.result.turn c.firing_of-actor.result.0 c.firing_of-actor.result.1 c.caller_of-caller.result.keeps c.deref-3.result.now c.node-which.result c.node-which.ensures c.firing_of-actor.ensures items_are c.deref-3.ensures.value c.caller_of-caller.ensures.actor (c.caller_of-caller.ensures.graphs.0, c.caller_of-caller.ensures.graphs.1 ∙ ap (λ (l : ReadyLevel). l.made.set) c.deref-2.ensures) c.caller_of-caller.ensures.number c.caller_of-caller.ensures.keeps in
    let body = calls_graph (fixed_of i) i.stages i.held.items i.ending.traces.items i.job c.self.invariant c.args.node c.faults_renamed.ensures.ready c.faults_renamed.ensures.inputs c.ready_stays.ensures.ready offered c.caller_of-caller.result.actor.now c.caller_of-caller.result.number caller.number_is caller.found in
    let made = called_ok (fixed_of i) i.stages i.held.items i.ending.traces.items i.job c.self.invariant c.args.node c.faults_renamed.ensures.ready c.faults_renamed.ensures.inputs c.ready_stays.ensures.ready offered c.called-result.result c.caller_of-caller.result.graphs.now c.caller_of-caller.result.set.now c.caller_of-caller.result.actor.now c.caller_of-caller.result.number c.caller_of-caller.result.turn c.caller_of-caller.result.keeps c.claim-frame.result.inputs caller c.claim-frame.ensures.inputs
    (c.called-result.ensures i.firing.value (calls (fixed_of i) i.stages i.held.items i.ending.traces.items i.job c.self.invariant c.args.node c.faults_renamed.ensures.ready c.faults_renamed.ensures.inputs c.ready_stays.ensures.ready offered).place (calls (fixed_of i) i.stages i.held.items i.ending.traces.items i.job c.self.invariant c.args.node c.faults_renamed.ensures.ready c.faults_renamed.ensures.inputs c.ready_stays.ensures.ready offered).exprs (sym c.self.invariant.parts.path_is) body) in
    task_of (fixed_of i) i.stages i.held.items i.ending.traces.items i.job c.self.invariant c.args.node c.faults_renamed.ensures.ready c.faults_renamed.ensures.inputs c.ready_stays.ensures.ready offered c.called-result.result c.args.self.now c.self.view_is made

pub returns-clause-inherited : goal.returns-clause-inherited
returns-clause-inherited c =
    let i = c.self.inside in
    let offered = subst (λ (v : RunningView). IsOfferedCall v c.args.node) (sym c.self.view_is) c.requires in
    let items_are = c.items.ensures ∙ ap (λ (x : Graphs). x.graphs) c.deref.ensures in
    let caller = caller_so (fixed_of i) i.stages i.held.items i.ending.traces.items i.job c.self.invariant c.args.node c.faults_renamed.ensures.ready c.faults_renamed.ensures.inputs c.ready_stays.ensures.ready offered c.caller_of-caller.result.graphs.now c.items.result.now c.caller_of-caller.result.set.now c.caller_of-caller.result.actor.now c.caller_of-caller.result.number c.caller_of-caller.result.turn c.firing_of-actor.result.0 c.firing_of-actor.result.1 c.caller_of-caller.result.keeps c.deref-3.result.now c.node-which.result c.node-which.ensures c.firing_of-actor.ensures items_are c.deref-3.ensures.value c.caller_of-caller.ensures.actor (c.caller_of-caller.ensures.graphs.0, c.caller_of-caller.ensures.graphs.1 ∙ ap (λ (l : ReadyLevel). l.made.set) c.deref-2.ensures) c.caller_of-caller.ensures.number c.caller_of-caller.ensures.keeps in
    let body = calls_graph (fixed_of i) i.stages i.held.items i.ending.traces.items i.job c.self.invariant c.args.node c.faults_renamed.ensures.ready c.faults_renamed.ensures.inputs c.ready_stays.ensures.ready offered c.caller_of-caller.result.actor.now c.caller_of-caller.result.number caller.number_is caller.found in
    let made = called_ok (fixed_of i) i.stages i.held.items i.ending.traces.items i.job c.self.invariant c.args.node c.faults_renamed.ensures.ready c.faults_renamed.ensures.inputs c.ready_stays.ensures.ready offered c.called-result.result c.caller_of-caller.result.graphs.now c.caller_of-caller.result.set.now c.caller_of-caller.result.actor.now c.caller_of-caller.result.number c.caller_of-caller.result.turn c.caller_of-caller.result.keeps c.claim-frame.result.inputs caller c.claim-frame.ensures.inputs
    (c.called-result.ensures i.firing.value (calls (fixed_of i) i.stages i.held.items i.ending.traces.items i.job c.self.invariant c.args.node c.faults_renamed.ensures.ready c.faults_renamed.ensures.inputs c.ready_stays.ensures.ready offered).place (calls (fixed_of i) i.stages i.held.items i.ending.traces.items i.job c.self.invariant c.args.node c.faults_renamed.ensures.ready c.faults_renamed.ensures.inputs c.ready_stays.ensures.ready offered).exprs (sym c.self.invariant.parts.path_is) body) in
    inherits_of (fixed_of i) i.stages i.held.items i.ending.traces.items i.job c.self.invariant c.args.node c.faults_renamed.ensures.ready c.faults_renamed.ensures.inputs c.ready_stays.ensures.ready offered c.called-result.result c.args.self.now c.self.view_is made

pub returns-clause-ok : goal.returns-clause-ok
returns-clause-ok c =
    let i = c.self.inside in
    let offered = subst (λ (v : RunningView). IsOfferedCall v c.args.node) (sym c.self.view_is) c.requires in
    subst (λ (j : leased.JobView). IfOk c.called-result.result (λ d. view_with (record (fixed_of i) { block = j.block; room = j.room }) c.put.new.self ≡ record c.args.self.now { marks = set c.args.self.now.marks c.args.node (Open d) })) (sym c.claim-frame.ensures.claimed)
    (subst (λ (s : List Stage). IfOk c.called-result.result (λ d. view_with (fixed_of i) s ≡ record c.args.self.now { marks = set c.args.self.now.marks c.args.node (Open d) })) (sym c.put.ensures)
    (view_ok (fixed_of i) i.stages i.held.items i.ending.traces.items i.job c.self.invariant c.args.node c.faults_renamed.ensures.ready c.faults_renamed.ensures.inputs c.ready_stays.ensures.ready offered c.called-result.result c.args.self.now c.self.view_is c.claim-frame.result c.waiting.result c.waiting.ensures))

pub returns-clause-err : goal.returns-clause-err
returns-clause-err c =
    let i = c.self.inside in
    let offered = subst (λ (v : RunningView). IsOfferedCall v c.args.node) (sym c.self.view_is) c.requires in
    let new = view_with (record (fixed_of i) { block = c.claim-frame.new.self.block; room = c.claim-frame.new.self.room }) c.put.new.self in
    on_err_right c.called-result.result (new ≡ c.args.self.now) (new ≡ record c.args.self.now { marks = set c.args.self.now.marks c.args.node Busy })
    (subst (λ (j : leased.JobView). OnErr c.called-result.result (view_with (record (fixed_of i) { block = j.block; room = j.room }) c.put.new.self ≡ record c.args.self.now { marks = set c.args.self.now.marks c.args.node Busy })) (sym c.claim-frame.ensures.claimed)
    (subst (λ (s : List Stage). OnErr c.called-result.result (view_with (fixed_of i) s ≡ record c.args.self.now { marks = set c.args.self.now.marks c.args.node Busy })) (sym c.put.ensures)
    (view_err (fixed_of i) i.stages i.held.items i.ending.traces.items i.job c.self.invariant c.args.node c.faults_renamed.ensures.ready c.faults_renamed.ensures.inputs c.ready_stays.ensures.ready offered c.called-result.result c.args.self.now c.self.view_is c.claim-frame.result c.waiting.result c.waiting.ensures)))

pub claim-frame-requires-clause-room : goal.claim-frame-requires-clause-room
claim-frame-requires-clause-room c =
    let i = c.self.inside in
    suffices_same i.job.room c.in_ok-room.room (c.in_ok-room.ensures ∙ c.room_size.ensures)
