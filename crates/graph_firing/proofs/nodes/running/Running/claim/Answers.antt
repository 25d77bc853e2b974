use Rattle.std.proofs.Common.{◌≡◌, set, List, Some, sym, ap, ◌∙◌, subst}
use Rattle.kernel_gate.specs.Rooms.{Suffices}
use Rattle.kernel_gate.specs.Value.{FrameView}
use Rattle.kernel_gate.specs.declared.room.RoomSize.{RoomSize}
use Rattle.nested_jobs.specs.Marks.{Busy}
use Rattle.nested_jobs.specs.Rules.{Work}
use Rattle.sdf_level.specs.declared.node.Node.{Node}
use Rattle.job_flow.specs.Graphs.{node_at}
use Rattle.one_job.specs.View as leased
use Rattle.graph_firing.specs.Nodes.Calls.{IsHanded, frame_of, handed_out}
use Rattle.graph_firing.specs.Nodes.Invariants.{fixed_of, view_of, view_with}
use Rattle.graph_firing.specs.Nodes.Parts.{KeepsAll}
use Rattle.graph_firing.specs.Nodes.View.{IsOfferedWork, RunningView, task}
use Rattle.graph_firing.specs.declared.nodes.stage.Stage.TheVariants as stage
use Rattle.graph_firing.specs.declared.nodes.handed.Handed.{Handed}
use Rattle.graph_firing.proofs.OfNodes.ClaimedNodes.{frame_out, handed, keeps_claimed, view_claimed}
use Rattle.graph_firing.proofs.OfNodes.NodeTasks.{enabled}
use Rattle.graph_firing.specs.declared.nodes.stage.Stage.{Stage}
use Rattle.graph_firing.proofs.nodes.running.Running.claim.Goals as goal

pub claim-frame-requires-clause-enabled : goal.claim-frame-requires-clause-enabled
claim-frame-requires-clause-enabled c =
    let i = c.self.inside in
    let offered = subst (λ (v : RunningView). IsOfferedWork v c.args.node) (sym c.self.view_is) c.requires.offered in
    enabled (fixed_of i) i.stages i.held.items i.ending.traces.items i.job c.self.invariant c.faults_renamed.ensures.ready c.faults_renamed.ensures.inputs c.args.node (Work offered.work) offered.free offered.task_is

pub invariant_of-self : goal.invariant_of-self
invariant_of-self c =
    let i = c.self.inside in
    let offered = subst (λ (v : RunningView). IsOfferedWork v c.args.node) (sym c.self.view_is) c.requires.offered in
    subst (λ (s : List Stage). KeepsAll (record (fixed_of i) { block = c.claim-frame.new.self.block; room = c.claim-frame.new.self.room }) s i.held.items i.ending.traces.items c.claim-frame.new.self) (sym c.put.ensures)
    (subst (λ (j : leased.JobView). KeepsAll (record (fixed_of i) { block = j.block; room = j.room }) (set i.stages c.args.node (stage.Busy c.told_of.result)) i.held.items i.ending.traces.items j) (sym c.claim-frame.ensures.claimed)
    (keeps_claimed (fixed_of i) i.stages i.held.items i.ending.traces.items i.job c.self.invariant c.args.node c.faults_renamed.ensures.ready c.faults_renamed.ensures.inputs c.ready_stays.ensures.ready offered c.claim-frame.result c.claim-frame.ensures.kind c.claim-frame.ensures.inputs c.claim-frame.ensures.outputs c.told_of.result c.told_of.ensures c.outputs_fill_leases.ensures))

pub returns-clause-handed : goal.returns-clause-handed
returns-clause-handed c =
    let i = c.self.inside in
    let offered = subst (λ (v : RunningView). IsOfferedWork v c.args.node) (sym c.self.view_is) c.requires.offered in
    let so = handed (fixed_of i) i.stages i.held.items i.ending.traces.items i.job c.self.invariant c.args.node c.faults_renamed.ensures.ready c.faults_renamed.ensures.inputs c.ready_stays.ensures.ready offered c.claim-frame.result c.claim-frame.ensures.kind c.claim-frame.ensures.inputs c.claim-frame.ensures.outputs in
    let is : c.hand_out.result ≡ handed_out (node_at i.job.compilation.graph.nodes c.args.node) c.claim-frame.result =
    c.hand_out.ensures ∙ ap (λ (x : Node). handed_out x c.claim-frame.result) c.node-which.ensures in
    subst (λ (v : RunningView). IsHanded (task v c.args.node) c.hand_out.result) c.self.view_is (subst (λ (h : Handed). IsHanded (task (view_of i) c.args.node) h) (sym is) so)

pub returns-clause-claimed : goal.returns-clause-claimed
returns-clause-claimed c =
    let i = c.self.inside in
    let offered = subst (λ (v : RunningView). IsOfferedWork v c.args.node) (sym c.self.view_is) c.requires.offered in
    let frame_is : frame_of c.hand_out.result ≡ c.claim-frame.result =
    ap frame_of c.hand_out.ensures ∙ frame_out c.node-which.result c.claim-frame.result in
    ap (λ (j : leased.JobView). view_with (record (fixed_of i) { block = j.block; room = j.room }) c.put.new.self) c.claim-frame.ensures.claimed
    ∙ ap (view_with (fixed_of i)) c.put.ensures
    ∙ view_claimed (fixed_of i) i.stages i.held.items i.ending.traces.items i.job c.self.invariant c.args.node c.faults_renamed.ensures.ready c.faults_renamed.ensures.inputs c.ready_stays.ensures.ready offered c.claim-frame.result c.claim-frame.ensures.kind c.claim-frame.ensures.inputs c.claim-frame.ensures.outputs c.told_of.result c.told_of.ensures
    ∙ ap (λ (x : FrameView). record (view_of i) { marks = set (view_of i).marks c.args.node Busy; lent = set (view_of i).lent c.args.node (Some x.places) }) (sym frame_is)
    ∙ ap (λ (v : RunningView). record v { marks = set v.marks c.args.node Busy; lent = set v.lent c.args.node (Some (frame_of c.hand_out.result).places) }) c.self.view_is

pub claim-frame-requires-clause-room : goal.claim-frame-requires-clause-room
claim-frame-requires-clause-room c =
    let i = c.self.inside in
    subst (λ (size : RoomSize). Suffices size c.args.room) (sym (ap (λ (v : RunningView). v.room) c.self.view_is)) c.requires.room

pub returns-clause-room : goal.returns-clause-room
returns-clause-room c =
    ap (λ (x : FrameView). x.places.room) (ap frame_of c.hand_out.ensures ∙ frame_out c.node-which.result c.claim-frame.result) ∙ c.claim-frame.ensures.room
