-- What the calls of a running firing give and take.
use Rattle.std.specs.Prelude.{◌≡◌, ℕ, length, Option, Some, None, Result}
use Rattle.kernel_gate.specs.Value.{FrameView}
use Rattle.nested_jobs.specs.Marks.{Open}
use Rattle.nested_jobs.specs.Rules.{Task, Work, Call}
use Rattle.pisdf_meaning.specs.declared.firing.Firing.{Firing}
use Rattle.pisdf_meaning.specs.declared.refusal.Refusal.{Refusal}
use Rattle.sdf_level.specs.declared.node.Node.{Node}
use Rattle.sdf_level.specs.declared.node.Node.TheVariants as node
use Rattle.job_rules.specs.Words as words
use Rattle.job_preparing.specs.Handing.{AsksFor, CopiesIn, EndSuits, end_of, mark_at, with_traces}
use Rattle.job_preparing.specs.declared.handing.JobGiven.{JobGiven}
use Rattle.job_preparing.specs.declared.handing.ConfiguredFiring.{ConfiguredFiring}
use Rattle.graph_firing.specs.Nodes.View.{RunningView}
use Rattle.graph_firing.specs.declared.nodes.handed.Handed.{Handed}
use Rattle.graph_firing.specs.declared.nodes.handed.Handed.TheVariants.{Fire, Copy}

abbrev pub frame_of : Handed → FrameView
frame_of (Fire frame) = frame
frame_of (Copy which frame) = frame

-- a kernel is to be fired, every other node copies
abbrev pub handed_out : Node → FrameView → Handed
handed_out (node.Source s) frame = Copy (node.Source s) frame
handed_out (node.Init l) frame = Copy (node.Init l) frame
handed_out (node.Firing a k) frame = Fire frame
handed_out (node.End l) frame = Copy (node.End l) frame
handed_out (node.Sink t) frame = Copy (node.Sink t) frame
handed_out (node.Broadcast l) frame = Copy (node.Broadcast l) frame
handed_out (node.Fork l i) frame = Copy (node.Fork l i) frame
handed_out (node.Join l j) frame = Copy (node.Join l j) frame
handed_out (node.Round l) frame = Copy (node.Round l) frame

-- the frame of a firing has what the kernel of this task is asked
abbrev pub IsFiredIn : FrameView → Option (Task Firing words.Work) → Type 0
IsFiredIn frame None = ⊥
IsFiredIn frame (Some (Call job)) = ⊥
IsFiredIn frame (Some (Work (words.Fires spot asked))) = AsksFor asked frame
IsFiredIn frame (Some (Work (words.Copies which read lens))) = ⊥
IsFiredIn frame (Some (Work (words.Compiles firing left))) = ⊥

-- the node of this task copies in this frame
abbrev pub IsCopiedIn : Node → FrameView → Option (Task Firing words.Work) → Type 0
IsCopiedIn handed frame None = ⊥
IsCopiedIn handed frame (Some (Call job)) = ⊥
IsCopiedIn handed frame (Some (Work (words.Fires spot asked))) = ⊥
IsCopiedIn handed frame (Some (Work (words.Copies which read lens))) = (handed ≡ which) × CopiesIn read lens frame
IsCopiedIn handed frame (Some (Work (words.Compiles firing left))) = ⊥

-- what is handed out is what this task asks for
abbrev pub IsHanded : Option (Task Firing words.Work) → Handed → Type 0
IsHanded t (Fire frame) = IsFiredIn frame t
IsHanded t (Copy which frame) = IsCopiedIn which frame t

-- a job that this node called ends so
pub record IsEndOfCall (v : RunningView) (n : ℕ) (end : Result JobGiven Refusal) : Type 0 where
  pub job : Firing
  pub open_is : mark_at v.marks n ≡ Open job
  pub suits : EndSuits v.graphs.graphs job (end_of end)

-- what is handed in at the end is what the configuration actors left
pub record IsLeft (v : RunningView) (left : ConfiguredFiring) : Type 0 where
  pub traced : length left.traces ≡ length left.configured
  pub all : with_traces left.configured left.traces ≡ v.prepared.left
