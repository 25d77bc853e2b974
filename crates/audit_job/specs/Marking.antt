-- How the items of a job are marked.
use Rattle.std.specs.Prelude.{◌≡◌, ℕ, ◌+◌, ◌-◌, ◌<◌, ◌≤◌, Bool, List, All, Vec, length, slice_index, vec_capacity, Option, Some, None, if◌then◌else◌}
use Rattle.std.specs.Global.{Global}
use Rattle.std.specs.Arc.{arc_value}
use Rattle.nested_jobs.specs.Marks.{Mark, Done}
use Rattle.job_rules.specs.Items.{rule}
use Rattle.job_rules.specs.Words as words
use Rattle.pisdf_model.specs.declared.graph.Graph.{Graph}
use Rattle.pisdf_meaning.specs.declared.firing.Firing.{Firing}
use Rattle.audit_job.specs.Answering.{IsAnswer, IsMarked}
use Rattle.audit_job.specs.Candidates.{Adds, is_running, running_in, waiting_in, waits_in}
use Rattle.audit_job.specs.Jobs.{IsJob}
use Rattle.sdf_level.specs.declared.single_rate.Edge.{Edge}
use Rattle.audit_job.specs.Marks.{answer_of, answers, mark_at}
use Rattle.audit_job.specs.Rows.{HasRows}
use Rattle.audit_job.specs.Waiting.{WaitsFor, less_by}
use Rattle.audit_job.specs.declared.compiling.CompileEnd.{CompileEnd}
use Rattle.audit_job.specs.declared.job.Job.{Job}
use Rattle.audit_job.specs.declared.job.Nodes.{Nodes}

-- the item has this mark now, the others have theirs, and it is a job of the same firing still
pub record Marks (item : ℕ) (mark : Mark Firing words.Answer) (old new : Job) : Type 0 where
  pub firing_is : new.firing ≡ old.firing
  pub marked : IsMarked item mark (mark_at old.marks.items) (mark_at new.marks.items)
  pub is_job : (graphs : List Graph) (workers : ℕ) → IsJob graphs workers old → IsJob graphs workers new

-- the item is finished, with an answer that its task can have
pub record Finishes (graphs : List Graph) (workers item : ℕ) (old new : Job) : Type 0 where
  pub answer : words.Answer
  pub answered : IsAnswer graphs (rule graphs old.firing (answers old.marks.items) item) answer
  pub firing_is : new.firing ≡ old.firing
  pub marked : IsMarked item (Done answer) (mark_at old.marks.items) (mark_at new.marks.items)
  pub is_job : IsJob graphs workers new

-- how many nodes came with a compilation
abbrev pub nodes_by : Option Nodes → ℕ
nodes_by None = 0
nodes_by (Some nodes) = length nodes.waits.items

-- the job has the nodes and the answer of its compilation
pub record TakesEnd (end : CompileEnd) (old new : Job) : Type 0 where
  pub firing_is : new.firing ≡ old.firing
  pub early_is : new.early ≡ old.early
  pub places_are : new.places ≡ old.places
  pub nodes_are : new.nodes ≡ end.nodes
  pub long : length new.marks.items ≡ length old.marks.items + nodes_by end.nodes
  pub marked : IsMarked (length old.places.items) (Done (answer_of end.answer)) (mark_at old.marks.items) (mark_at new.marks.items)
  pub added : Adds (length old.places.items + 1) (length (waits_in end.nodes)) (λ n. slice_index (waits_in end.nodes) n ≡ 0) old.candidates new.candidates
  pub room : length new.candidates.items + waiting_in (waits_in end.nodes) ≤ vec_capacity new.candidates
  pub counted : running_in new.marks.items + (if is_running (mark_at old.marks.items (length old.places.items)) then 1 else 0) ≡ running_in old.marks.items
  pub running_is : new.running ≡ old.running - 1

-- a node of these that gives something takes no more edges from what nodes wait for than they wait for
pub record CanRelease (gives : Bool) (node : ℕ) (nodes : Nodes) : Type 0 where
  pub ends : All (λ (e : Edge). e.head < length nodes.waits.items) (arc_value nodes.compiled).graph.edges
  pub rows : HasRows nodes
  pub inside : node < length (arc_value nodes.compiled).graph.nodes
  pub enough : (n : ℕ) → n < length nodes.waits.items → less_by gives (arc_value nodes.compiled).graph.edges node n ≤ slice_index nodes.waits.items n

abbrev pub MayRelease : Bool → ℕ → Option Nodes → Type 0
MayRelease gives node None = Unit {0}
MayRelease gives node (Some nodes) = CanRelease gives node nodes

-- nothing changes but what nodes wait for
abbrev pub Releases : Bool → ℕ → Option Nodes → Option Nodes → Type 0
Releases gives node None new = new ≡ None
Releases gives node (Some nodes) new = (waits : Vec ℕ Global) × WaitsFor (less_by gives (arc_value nodes.compiled).graph.edges node) nodes.waits.items waits.items × (new ≡ Some (record nodes { waits = waits }))
