-- How far nodes are, as the code has it.
use Rattle.std.specs.Prelude.{◌≡◌, ℕ, Bool, true, false, List, [], ◌∷◌, map, slice_get, slice_index_or, Option, Some, None, Result, Ok, Err}
use Rattle.std.specs.declared.alloc.AllocError.{AllocError}
use Rattle.kernel_gate.specs.Value.{FrameView, Places, lengths}
use Rattle.kernel_gate.specs.declared.fault.KernelFault.{KernelFault}
use Rattle.nested_jobs.specs.Marks as mark
use Rattle.nested_jobs.specs.Marks.{Mark}
use Rattle.pisdf_model.specs.declared.actor.Actor.{Actor}
use Rattle.pisdf_model.specs.declared.graph.Graph.{Graph}
use Rattle.pisdf_meaning.specs.declared.firing.Firing.{Firing}
use Rattle.pisdf_meaning.specs.declared.outcome.TraceRow.{TraceRow}
use Rattle.pisdf_meaning.specs.declared.refusal.Refusal.{Refusal}
use Rattle.pisdf_meaning.specs.declared.refusal.Cause.TheVariants as cause
use Rattle.sdf_level.specs.declared.node.Node.{Node}
use Rattle.sdf_level.specs.declared.node.Node.TheVariants as node
use Rattle.job_rules.specs.Words as words
use Rattle.job_rules.specs.Words.{Answer, Spot, given_outs}
use Rattle.one_job.specs.Marks as one
use Rattle.job_preparing.specs.Handing.{ItemMarks, Lent, given_of}
use Rattle.graph_firing.specs.Nodes.Sizes.{call_lens, child_outs, place_lens}
use Rattle.graph_firing.specs.declared.nodes.frames.Held.{Held}
use Rattle.graph_firing.specs.declared.nodes.frames.Held.TheVariants.{Nothing, Waits, Refuses}
use Rattle.graph_firing.specs.declared.nodes.stage.Stage.{Stage}
use Rattle.graph_firing.specs.declared.nodes.stage.Stage.TheVariants.{Free, Busy, Lost, Open, Fired, Failed, Gave, Refused}

-- ---- where a node's kernel fires

abbrev pub name_in : Option Actor → List ℕ
name_in None = []
name_in (Some actor) = actor.name

-- the firing of an actor stands at the path of its job; the other nodes fire nothing
abbrev pub spot_of : List ℕ → List Actor → Node → Option Spot
spot_of path acting (node.Source s) = None
spot_of path acting (node.Init l) = None
spot_of path acting (node.Firing a k) = Some record { path = path; name = name_in (slice_get acting a); turn = k }
spot_of path acting (node.End l) = None
spot_of path acting (node.Sink t) = None
spot_of path acting (node.Broadcast l) = None
spot_of path acting (node.Fork l i) = None
spot_of path acting (node.Join l j) = None
spot_of path acting (node.Round l) = None

-- what a frame gives that is finished without a fault
abbrev pub fired_in : Option Spot → FrameView → Answer
fired_in None frame = words.Gives (given_outs frame.outputs)
fired_in (Some spot) frame = words.Gives record { outs = frame.outputs; state = []; trace = []; exports = frame.sets }

abbrev pub refusal_at : Option Spot → ℕ → Refusal
refusal_at None code = record { path = []; cause = cause.Kernel [] 0 code }
refusal_at (Some spot) code = record { path = spot.path; cause = cause.Kernel spot.name spot.turn code }

-- ---- what stages stand for

abbrev pub mark_of : Option Spot → Stage → Mark Firing Answer
mark_of spot Free = mark.Free
mark_of spot (Busy told) = mark.Busy
mark_of spot (Lost told) = mark.Busy
mark_of spot (Open job told) = mark.Open job.value
mark_of spot (Fired told) = mark.Done (fired_in spot told.frame)
mark_of spot (Failed code) = mark.Done (words.Refuses (refusal_at spot code))
mark_of spot (Gave told) = mark.Done (words.Gives (given_of told.value))
mark_of spot (Refused told) = mark.Done (words.Refuses told.value)

abbrev pub lent_of : Stage → Option Places
lent_of Free = None
lent_of (Busy told) = Some told.frame.places
lent_of (Lost told) = None
lent_of (Open job told) = None
lent_of (Fired told) = None
lent_of (Failed code) = None
lent_of (Gave told) = None
lent_of (Refused told) = None

-- what is held for the node
abbrev pub held_by : Stage → Held
held_by Free = Nothing
held_by (Busy told) = Nothing
held_by (Lost told) = Waits told.frame
held_by (Open job told) = Waits told.frame
held_by (Fired told) = Nothing
held_by (Failed code) = Nothing
held_by (Gave told) = Nothing
held_by (Refused told) = Refuses told.value

-- the mark of the node in the job of leases
abbrev pub job_mark : Bool → Stage → one.Mark
job_mark keeps Free = one.Free
job_mark keeps (Busy told) = one.Claimed told.frame.places
job_mark keeps (Lost told) = one.Claimed told.frame.places
job_mark keeps (Open job told) = one.Claimed told.frame.places
job_mark keeps (Fired told) = one.Finished told.frame.outputs
job_mark keeps (Failed code) = one.Failed code
job_mark keeps (Gave told) = one.Finished (child_outs keeps told.value.outs told.value.state)
job_mark keeps (Refused told) = one.Failed 0

-- the trace of what it called
abbrev pub trace_in : Stage → List TraceRow
trace_in Free = []
trace_in (Busy told) = []
trace_in (Lost told) = []
trace_in (Open job told) = []
trace_in (Fired told) = []
trace_in (Failed code) = []
trace_in (Gave told) = told.value.trace
trace_in (Refused told) = []

-- a node whose frame came back so
abbrev pub IsFired : FrameView → Stage → Type 0
IsFired frame Free = ⊥
IsFired frame (Busy told) = ⊥
IsFired frame (Lost told) = ⊥
IsFired frame (Open job told) = ⊥
IsFired frame (Fired told) = told.frame ≡ frame
IsFired frame (Failed code) = ⊥
IsFired frame (Gave told) = ⊥
IsFired frame (Refused told) = ⊥

abbrev pub IsEnded : FrameView → Result (Unit {0}) KernelFault → Stage → Type 0
IsEnded frame (Ok done) stage = IsFired frame stage
IsEnded frame (Err fault) stage = stage ≡ Failed fault.code

-- a node that has called this, or for whose call there was no memory
abbrev pub IsOpened : Firing → FrameView → Stage → Type 0
IsOpened job frame Free = ⊥
IsOpened job frame (Busy told) = ⊥
IsOpened job frame (Lost told) = ⊥
IsOpened job frame (Open own told) = (own.value ≡ job) × (told.frame ≡ frame)
IsOpened job frame (Fired told) = ⊥
IsOpened job frame (Failed code) = ⊥
IsOpened job frame (Gave told) = ⊥
IsOpened job frame (Refused told) = ⊥

abbrev pub IsLost : FrameView → Stage → Type 0
IsLost frame Free = ⊥
IsLost frame (Busy told) = ⊥
IsLost frame (Lost told) = told.frame ≡ frame
IsLost frame (Open job told) = ⊥
IsLost frame (Fired told) = ⊥
IsLost frame (Failed code) = ⊥
IsLost frame (Gave told) = ⊥
IsLost frame (Refused told) = ⊥

abbrev pub IsWaiting : Result Firing AllocError → FrameView → Stage → Type 0
IsWaiting (Ok job) frame stage = IsOpened job frame stage
IsWaiting (Err error) frame stage = IsLost frame stage

-- ---- what is so of stages

-- nodes that fire graphs are called, the others are claimed, and of these firings alone fail
abbrev pub FitsSort : Bool → Type 0 → Stage → Type 0
FitsSort child fires Free = Unit {0}
FitsSort child fires (Busy told) = child ≡ false
FitsSort child fires (Lost told) = child ≡ true
FitsSort child fires (Open job told) = child ≡ true
FitsSort child fires (Fired told) = child ≡ false
FitsSort child fires (Failed code) = (child ≡ false) × fires
FitsSort child fires (Gave told) = child ≡ true
FitsSort child fires (Refused told) = child ≡ true

-- outputs are as long as the node writes
abbrev pub FitsLens : List Graph → List ℕ → Bool → Stage → Type 0
FitsLens graphs lens keeps Free = Unit {0}
FitsLens graphs lens keeps (Busy told) = place_lens told.frame.places ≡ lens
FitsLens graphs lens keeps (Lost told) = lengths told.frame.outputs ≡ lens
FitsLens graphs lens keeps (Open job told) = (lengths told.frame.outputs ≡ lens) × (call_lens graphs keeps job.value ≡ lens)
FitsLens graphs lens keeps (Fired told) = lengths told.frame.outputs ≡ lens
FitsLens graphs lens keeps (Failed code) = Unit {0}
FitsLens graphs lens keeps (Gave told) = lengths (child_outs keeps told.value.outs told.value.state) ≡ lens
FitsLens graphs lens keeps (Refused told) = Unit {0}

-- ---- all nodes

abbrev pub stage_at : List Stage → ℕ → Stage
stage_at stages n = slice_index_or stages n Free

-- the marks of nodes in these stages
abbrev pub marks_of : List ℕ → List Actor → List Node → List Stage → ItemMarks
marks_of path acting [] stages = []
marks_of path acting (which ∷ nodes) [] = []
marks_of path acting (which ∷ nodes) (stage ∷ stages) = mark_of (spot_of path acting which) stage ∷ marks_of path acting nodes stages

abbrev pub lents_of : List Stage → Lent
lents_of stages = map lent_of stages
