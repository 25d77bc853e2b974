-- What the calls of an open job give.
use Rattle.std.specs.Prelude.{◌≡◌, ◌≢◌, ℕ, ℤ, ◌+◌, ◌≤◌, nat_lt, Bool, true, false, List, length, Option, Some, None, slice_set}
use Rattle.kernel_gate.specs.Value.{FrameView, Places}
use Rattle.std.specs.Arc.{arc_value}
use Rattle.job_compiler.specs.Compilation.{Compilation}
use Rattle.job_preparing.specs.CompileTasks.{schedule_of}
use Rattle.job_preparing.specs.Handing.{AsksFor, CopiesIn, lent_at, mark_at}
use Rattle.job_preparing.specs.declared.compiling.CompileEnd.{CompileEnd}
use Rattle.job_preparing.specs.declared.compiling.CompileEnd.TheVariants.{Ready, Refused, Memory}
use Rattle.job_rules.specs.Doing.{Answers}
use Rattle.job_rules.specs.Words as words
use Rattle.job_rules.specs.Words.{Answer}
use Rattle.nested_jobs.specs.Marks.{Mark, Done}
use Rattle.one_job.specs.Leased.{JobCells}
use Rattle.nested_jobs.specs.Rules.{Task, Work, Call}
use Rattle.pisdf_meaning.specs.declared.firing.Firing.{Firing}
use Rattle.sdf_level.specs.declared.node.Node.{Node}
use Rattle.graph_firing.specs.View.{OpenView, compilation_of, free_in, left_by, task}
use Rattle.graph_firing.specs.declared.handed.Handed.{Handed}
use Rattle.graph_firing.specs.declared.handed.Handed.TheVariants.{Configure, Fire, Copy}

-- the frame that is handed out
abbrev pub frame_of : Handed → FrameView
frame_of (Configure frame) = frame
frame_of (Fire frame) = frame
frame_of (Copy node frame) = frame

-- the frame of a configuration actor's kernel, which is asked this
abbrev pub Configures : words.Asked → Handed → Type 0
Configures asked (Configure frame) = AsksFor asked frame
Configures asked (Fire frame) = ⊥
Configures asked (Copy node frame) = ⊥

-- the frame of a node's kernel, which is asked this
abbrev pub FiresNode : words.Asked → Handed → Type 0
FiresNode asked (Configure frame) = ⊥
FiresNode asked (Fire frame) = AsksFor asked frame
FiresNode asked (Copy node frame) = ⊥

-- the node and its frame, which copies this to outputs of these lengths
abbrev pub CopiesNode : Node → List (List ℤ) → List ℕ → Handed → Type 0
CopiesNode node read lens (Configure frame) = ⊥
CopiesNode node read lens (Fire frame) = ⊥
CopiesNode node read lens (Copy other frame) = (other ≡ node) × CopiesIn read lens frame

abbrev pub FiresFor : Bool → words.Asked → Handed → Type 0
FiresFor true asked handed = Configures asked handed
FiresFor false asked handed = FiresNode asked handed

abbrev pub CopiesFor : Bool → Node → List (List ℤ) → List ℕ → Handed → Type 0
CopiesFor true node read lens handed = ⊥
CopiesFor false node read lens handed = CopiesNode node read lens handed

-- with an item that has this task, before the compilation or after it
abbrev pub IsHandedFor : Bool → Option (Task Firing words.Work) → Handed → Type 0
IsHandedFor before None handed = ⊥
IsHandedFor before (Some (Call job)) handed = ⊥
IsHandedFor before (Some (Work (words.Fires spot asked))) handed = FiresFor before asked handed
IsHandedFor before (Some (Work (words.Copies node read lens))) handed = CopiesFor before node read lens handed
IsHandedFor before (Some (Work (words.Compiles firing left))) handed = ⊥

-- what is handed out with an item
abbrev pub IsHanded : OpenView → ℕ → Handed → Type 0
IsHanded v i handed = IsHandedFor (nat_lt i (compilation_of v)) (task v i) handed

-- the job with an item that is marked so, and whose frame is out there or isn't
abbrev pub with_item : OpenView → ℕ → Mark Firing Answer → Option Places → OpenView
with_item v i m places = record v { marks = slice_set v.marks i m; lent = slice_set v.lent i places }

-- the job with an item that is marked so
abbrev pub with_mark : OpenView → ℕ → Mark Firing Answer → OpenView
with_mark v i m = record v { marks = slice_set v.marks i m }

-- none but a kernel can be refused
abbrev pub IsSoundFor : Option (Task Firing words.Work) → Type 0 → Type 0
IsSoundFor None sound = sound
IsSoundFor (Some (Call job)) sound = sound
IsSoundFor (Some (Work (words.Fires spot asked))) sound = Unit {0}
IsSoundFor (Some (Work (words.Copies node read lens))) sound = sound
IsSoundFor (Some (Work (words.Compiles firing left))) sound = sound

-- ---- the compilation

-- what it answers that ended so, but for want of memory
abbrev pub compile_answer : Firing → CompileEnd → Option Answer
compile_answer firing (Ready level) = Some (words.Schedules (schedule_of (arc_value (arc_value level).made.compiled)))
compile_answer firing (Refused cause) = Some (words.Refuses record { path = firing.path; cause = cause })
compile_answer firing Memory = None

-- how many nodes are there then
abbrev pub nodes_by : CompileEnd → ℕ
nodes_by (Ready level) = length (arc_value (arc_value level).made.compiled).graph.nodes
nodes_by (Refused cause) = 0
nodes_by Memory = 0

-- where the cells lie of a job whose compilation ended so
abbrev pub PlacedIn : Compilation → Option JobCells → Type 0
PlacedIn compilation None = ⊥
PlacedIn compilation (Some cells) = cells.compilation ≡ compilation

abbrev pub IsPlacedBy : CompileEnd → Option JobCells → Type 0
IsPlacedBy (Ready level) cells = PlacedIn (arc_value (arc_value level).made.compiled) cells
IsPlacedBy (Refused cause) cells = cells ≡ None
IsPlacedBy Memory cells = cells ≡ None

-- the compilation, which ended so, is done, and all else as before; no more items are free than those before and the nodes
pub record FinishesCompilation (end : CompileEnd) (old new : OpenView) : Type 0 where
  pub graphs_are : new.graphs ≡ old.graphs
  pub workers_are : new.workers ≡ old.workers
  pub firing_is : new.firing ≡ old.firing
  pub unplaced : old.cells ≡ None
  pub placed : IsPlacedBy end new.cells
  pub answer : Answer
  pub answer_is : compile_answer old.firing end ≡ Some answer
  pub answered : Answers old.graphs.graphs (words.Compiles old.firing (left_by old)) answer
  pub done : mark_at new.marks (compilation_of old) ≡ Done answer
  pub others : (i : ℕ) → i ≢ compilation_of old → mark_at new.marks i ≡ mark_at old.marks i
  pub lent : (i : ℕ) → lent_at new.lent i ≡ lent_at old.lent i
  pub free : free_in new.marks ≤ free_in old.marks + nodes_by end
