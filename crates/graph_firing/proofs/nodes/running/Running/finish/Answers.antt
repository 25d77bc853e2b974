use Rattle.std.proofs.Common.{◌≡◌, set, List, Some, None, sym, ap, ◌∙◌, subst}
use Rattle.std.specs.Prelude.{◌⊎◌, IsOk}
use Rattle.nested_jobs.specs.Marks.{Done}
use Rattle.job_flow.specs.Graphs.{node_at}
use Rattle.one_job.specs.View as leased
use Rattle.one_job.specs.View.{IsFiring}
use Rattle.job_preparing.specs.Handing.{answer_with, lent_at}
use Rattle.graph_firing.specs.Nodes.Invariants.{fixed_of, view_with}
use Rattle.graph_firing.specs.Nodes.Parts.{KeepsAll}
use Rattle.graph_firing.specs.Nodes.View.{RunningView, nodes_of, task}
use Rattle.graph_firing.proofs.OfNodes.FinishedNodes.{claimed, keeps_finished, view_finished}
use Rattle.graph_firing.specs.declared.nodes.stage.Stage.{Stage}
use Rattle.graph_firing.proofs.nodes.running.Running.finish.Goals as goal

pub finish-requires-clause-claimed : goal.finish-requires-clause-claimed
finish-requires-clause-claimed c =
    let i = c.self.inside in
    let lent = subst (λ (v : RunningView). lent_at v.lent c.args.node ≡ Some c.args.frame.places) (sym c.self.view_is) c.requires.lent in
    claimed (fixed_of i) i.stages i.held.items i.ending.traces.items i.job c.self.invariant c.args.node c.args.frame lent

pub invariant_of-self : goal.invariant_of-self
invariant_of-self c =
    let i = c.self.inside in
    let lent = subst (λ (v : RunningView). lent_at v.lent c.args.node ≡ Some c.args.frame.places) (sym c.self.view_is) c.requires.lent in
    let sound = subst (λ (v : RunningView). IsFiring (node_at (nodes_of v) c.args.node) ⊎ IsOk c.args.answer) (sym c.self.view_is) c.requires.sound in
    subst (λ (s : List Stage). KeepsAll (record (fixed_of i) { block = c.finish.new.self.block; room = c.finish.new.self.room }) s i.held.items i.ending.traces.items c.finish.new.self) (sym c.put.ensures)
    (subst (λ (j : leased.JobView). KeepsAll (record (fixed_of i) { block = j.block; room = j.room }) (set i.stages c.args.node c.ended.result) i.held.items i.ending.traces.items j) (sym c.finish.ensures.finished)
    (keeps_finished (fixed_of i) i.stages i.held.items i.ending.traces.items i.job c.self.invariant c.args.node c.args.frame lent c.faults_renamed.ensures.ready c.faults_renamed.ensures.inputs c.ready_stays.ensures.ready c.args.answer c.ended.result c.ended.ensures sound c.outputs_fill_leases.ensures))

pub returns-clause-finished : goal.returns-clause-finished
returns-clause-finished c =
    let i = c.self.inside in
    let lent = subst (λ (v : RunningView). lent_at v.lent c.args.node ≡ Some c.args.frame.places) (sym c.self.view_is) c.requires.lent in
    let sound = subst (λ (v : RunningView). IsFiring (node_at (nodes_of v) c.args.node) ⊎ IsOk c.args.answer) (sym c.self.view_is) c.requires.sound in
    ap (λ (j : leased.JobView). view_with (record (fixed_of i) { block = j.block; room = j.room }) c.put.new.self) c.finish.ensures.finished
    ∙ ap (view_with (fixed_of i)) c.put.ensures
    ∙ view_finished (fixed_of i) i.stages i.held.items i.ending.traces.items i.job c.self.invariant c.args.node c.args.frame lent c.faults_renamed.ensures.ready c.faults_renamed.ensures.inputs c.ready_stays.ensures.ready c.args.answer c.ended.result c.ended.ensures sound
    ∙ ap (λ (v : RunningView). record v { marks = set v.marks c.args.node (Done (answer_with (task v c.args.node) c.args.frame c.args.answer)); lent = set v.lent c.args.node None }) c.self.view_is
