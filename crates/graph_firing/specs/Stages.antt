-- What becomes of a job in each of its stages.
use Rattle.std.specs.Prelude.{◌≡◌, ◌≢◌, ◌⊎◌, ℕ, ◌+◌, ◌<◌, ◌==◌, Bool, true, false, not, length, replicate, Option, Some, None, IfSome, Result, Ok, Err, slice_index, slice_set}
use Rattle.std.specs.declared.alloc.AllocError.{AllocError}
use Rattle.kernel_gate.specs.Rooms.{Suffices}
use Rattle.kernel_gate.specs.Value.{FrameView, Places}
use Rattle.kernel_gate.specs.declared.fault.KernelFault.{KernelFault}
use Rattle.kernel_gate.specs.declared.room.RoomSize.{RoomSize}
use Rattle.job_preparing.specs.declared.compiling.CompileEnd.{CompileEnd}
use Rattle.job_preparing.specs.Handing.{answer_with, end_of, lent_at, mark_at}
use Rattle.job_preparing.specs.View as preparing
use Rattle.job_preparing.specs.View.{ConfiguringView, HasInherited}
use Rattle.job_preparing.specs.declared.handing.JobGiven.{JobGiven}
use Rattle.job_flow.specs.Graphs.{node_at}
use Rattle.graph_firing.specs.Nodes.Calls.{IsEndOfCall}
use Rattle.graph_firing.specs.Nodes.View as running
use Rattle.job_rules.specs.Items.{step_of_node}
use Rattle.graph_firing.specs.Nodes.View.{RunningView}
use Rattle.graph_firing.specs.declared.nodes.handed.Handed as handed
use Rattle.graph_firing.specs.declared.nodes.handed.Handed.TheVariants.{Fire as Fired, Copy as Copied}
use Rattle.one_job.specs.View.{IsFiring}
use Rattle.job_rules.specs.Items.{compile_number}
use Rattle.job_rules.specs.Words as words
use Rattle.job_rules.specs.Words.{Answer, answer_of}
use Rattle.nested_jobs.specs.Marks.{Mark, Free, Busy, Done, Open}
use Rattle.nested_jobs.specs.Rules.{Call}
use Rattle.param_resolver.specs.EarlyView.{EarlyView}
use Rattle.pisdf_meaning.specs.Configuring.{early_in}
use Rattle.pisdf_meaning.specs.declared.firing.Firing.{Firing}
use Rattle.pisdf_meaning.specs.declared.refusal.Refusal.{Refusal}
use Rattle.graph_firing.specs.Calls.{IsHandedFor, IsPlacedBy, compile_answer, frame_of, nodes_by}
use Rattle.graph_firing.specs.Offers.{goes_first}
use Rattle.graph_firing.specs.Running.{RunsFor}
use Rattle.graph_firing.specs.declared.handed.Handed.{Handed}
use Rattle.graph_firing.specs.declared.handed.Handed.TheVariants.{Fire, Copy}
use Rattle.graph_firing.specs.declared.offer.Offer.{Offer}
use Rattle.graph_firing.specs.declared.stage.Stage.{Stage}
use Rattle.graph_firing.specs.declared.stage.Stage.TheVariants.{Waiting, Compiling, Refused, Nodes}

-- ---- before the compilation is claimed

abbrev pub early_offer : ℕ → Offer
early_offer i = record { item = i; away = false; urgency = None }

-- of none this holds
abbrev pub IsNone : (ℕ → Type 0) → Type 0
IsNone P = (i : ℕ) → P i → ⊥

-- the first configuration actor of which this holds
pub record IsFirstActor (P : ℕ → Type 0) (offer : Offer) : Type 0 where
  pub number : ℕ
  pub offer_is : offer ≡ early_offer number
  pub offered : P number
  pub first : (i : ℕ) → i < number → P i → ⊥

-- the first configuration actor that fires a kernel, else the compilation, where all gave something
abbrev pub IsFirstWaiting : ConfiguringView → Option Offer → Type 0
IsFirstWaiting c None = IsNone (preparing.IsOfferedWork c) × (preparing.IsReady c → ⊥)
IsFirstWaiting c (Some offer) =
    IsFirstActor (preparing.IsOfferedWork c) offer
    ⊎ (IsNone (preparing.IsOfferedWork c) × preparing.IsReady c × (offer ≡ early_offer (compile_number (preparing.graph_in c))))

-- the first configuration actor that fires a graph
abbrev pub IsFirstCallWaiting : ConfiguringView → Option Offer → Type 0
IsFirstCallWaiting c None = IsNone (preparing.IsOfferedCall c)
IsFirstCallWaiting c (Some offer) = IsFirstActor (preparing.IsOfferedCall c) offer

-- ---- nodes

abbrev pub node_offer : RunningView → ℕ → ℕ → ℕ → Offer
node_offer r base worker n = record { item = base + n; away = not (slice_index r.mapping.home n == worker); urgency = Some (slice_index r.mapping.priority n) }

abbrev pub offer_before : Offer → Offer → Bool
offer_before a b = goes_first a.away a.urgency a.item b.away b.urgency b.item

-- a node, the first of those of which this holds
pub record IsNodeFirst (P : ℕ → Type 0) (r : RunningView) (base worker : ℕ) (offer : Offer) : Type 0 where
  pub node : ℕ
  pub offer_is : offer ≡ node_offer r base worker node
  pub offered : P node
  pub first : (m : ℕ) → P m → m ≢ node → offer_before (node_offer r base worker node) (node_offer r base worker m) ≡ true

abbrev pub IsFirstNode : (ℕ → Type 0) → RunningView → ℕ → ℕ → Option Offer → Type 0
IsFirstNode P r base worker None = (n : ℕ) → P n → ⊥
IsFirstNode P r base worker (Some offer) = IsNodeFirst P r base worker offer

-- the job has nodes, of which this holds
abbrev pub HasNodes : (RunningView → Type 0) → Stage → Type 0
HasNodes P Waiting = ⊥
HasNodes P Compiling = ⊥
HasNodes P (Refused refusal) = ⊥
HasNodes P (Nodes r) = P r

-- before and after a call
abbrev pub NodesGoOn : (RunningView → RunningView → Type 0) → Stage → Stage → Type 0
NodesGoOn P Waiting new = ⊥
NodesGoOn P Compiling new = ⊥
NodesGoOn P (Refused refusal) new = ⊥
NodesGoOn P (Nodes old) new = HasNodes (P old) new

-- the nodes, of which one is marked so, with its frame out there or not out
abbrev pub with_node : RunningView → ℕ → Mark Firing Answer → Option Places → RunningView
with_node r n m places = record r { marks = slice_set r.marks n m; lent = slice_set r.lent n places }

abbrev pub with_node_mark : RunningView → ℕ → Mark Firing Answer → RunningView
with_node_mark r n m = record r { marks = slice_set r.marks n m }

-- what is handed out with a node
abbrev pub handed_as : handed.Handed → Handed
handed_as (Fired frame) = Fire frame
handed_as (Copied node frame) = Copy node frame

-- a node is claimed
pub record ClaimsNode (n : ℕ) (handed : Handed) (old new : RunningView) : Type 0 where
  pub handed_so : IsHandedFor false (running.task old n) handed
  pub new_is : new ≡ with_node old n Busy (Some (frame_of handed).places)

-- a node is opened, or memory was wanted
abbrev pub CallsNode : ℕ → Result Firing AllocError → RunningView → RunningView → Type 0
CallsNode n (Ok firing) old new = (running.task old n ≡ Some (Call firing)) × HasInherited old.graphs.graphs firing × (new ≡ with_node_mark old n (Open firing))
CallsNode n (Err error) old new = (new ≡ old) ⊎ (new ≡ with_node_mark old n Busy)

-- what is known, if it is, is so of the graph that a node asks to fire
abbrev pub KnowsCalled : ℕ → Option EarlyView → RunningView → Type 0
KnowsCalled n known r = IfSome known (λ early. (firing : Firing) → running.task r n ≡ Some (Call firing) → early ≡ early_in r.graphs.graphs firing)

-- a node may be claimed
pub record MayClaim (n : ℕ) (r : RunningView) : Type 0 where
  pub inside : n < length (running.nodes_of r)
  pub offered : running.IsOfferedWork r n

-- the frame of each node can be made in this room
abbrev pub HoldsFrames : RoomSize → RunningView → Type 0
HoldsFrames room r = Suffices r.room room

-- a node may be opened
pub record MayCall (n : ℕ) (r : RunningView) : Type 0 where
  pub inside : n < length (running.nodes_of r)
  pub offered : running.IsOfferedCall r n

-- a node may be finished whose frame comes back
pub record MayFinish (n : ℕ) (frame : FrameView) (sound : Type 0) (r : RunningView) : Type 0 where
  pub inside : n < length (running.nodes_of r)
  pub busy : mark_at r.marks n ≡ Busy
  pub lent : lent_at r.lent n ≡ Some frame.places
  pub sound_so : IsFiring (node_at (running.nodes_of r) n) ⊎ sound

-- a node may be finished whose job ends so
pub record MayAnswer (n : ℕ) (end : Result JobGiven Refusal) (r : RunningView) : Type 0 where
  pub inside : n < length (running.nodes_of r)
  pub is_end : IsEndOfCall r n end

-- there is such a node
abbrev pub IsNode : ℕ → RunningView → Type 0
IsNode n r = n < length (running.nodes_of r)

-- the actor and the firing that a node is
abbrev pub IsNodeStep : ℕ → ℕ × ℕ → RunningView → Type 0
IsNodeStep n step r = step ≡ step_of_node (running.graph_in r) (node_at (running.nodes_of r) n)

abbrev pub FinishesNode : ℕ → FrameView → Result (Unit {0}) KernelFault → RunningView → RunningView → Type 0
FinishesNode n frame answer old new = new ≡ with_node old n (Done (answer_with (running.task old n) frame answer)) None

abbrev pub FinishesCall : ℕ → Result JobGiven Refusal → RunningView → RunningView → Type 0
FinishesCall n end old new = new ≡ with_node_mark old n (Done (answer_of (end_of end)))

-- ---- the compilation

-- no nodes are there
abbrev pub HasNoNodes : Stage → Type 0
HasNoNodes Waiting = Unit {0}
HasNoNodes Compiling = Unit {0}
HasNoNodes (Refused refusal) = Unit {0}
HasNoNodes (Nodes r) = ⊥

-- every node is free, and the nodes and the schedule are those of the compilation that ended so
pub record AreFresh (c : ConfiguringView) (workers : ℕ) (end : CompileEnd) (r : RunningView) : Type 0 where
  pub runs : RunsFor c workers r
  pub marks_are : r.marks ≡ replicate (length (running.nodes_of r)) Free
  pub lent_are : r.lent ≡ replicate (length (running.nodes_of r)) None
  pub many : length (running.nodes_of r) ≡ nodes_by end
  pub placed : IsPlacedBy end (Some r.cells)
  pub schedule_is : compile_answer c.firing end ≡ Some (words.Schedules r.prepared.schedule)

-- where a job goes on once its compilation ended so
abbrev pub GoesOnWith : ConfiguringView → ℕ → CompileEnd → Stage → Type 0
GoesOnWith c workers end Waiting = ⊥
GoesOnWith c workers end Compiling = ⊥
GoesOnWith c workers end (Refused refusal) = compile_answer c.firing end ≡ Some (words.Refuses refusal)
GoesOnWith c workers end (Nodes r) = AreFresh c workers end r
