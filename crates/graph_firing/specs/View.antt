-- One open job as plain data, and what its items are to do, by the numbers of the job's rules: configuration actors in file
-- order, the compilation, and once that is there the nodes of the single-rate graph.
use Rattle.std.specs.Prelude.{◌≡◌, ℕ, ◌+◌, ◌<◌, true, List, [], ◌∷◌, length, Option, Some, IsSome, unwrap_or}
use Rattle.job_compiler.specs.declared.key.Key.{Key}
use Rattle.kernel_gate.specs.declared.room.RoomSize.{RoomSize}
use Rattle.job_preparing.specs.Handing.{ItemMarks, Lent, answers, mark_at}
use Rattle.job_preparing.specs.View.{key_of}
use Rattle.job_rules.specs.Items.{compile_number, count, graph_of, left_in, outcome, rule}
use Rattle.job_rules.specs.Words as words
use Rattle.job_rules.specs.Words.{Answer}
use Rattle.nested_jobs.specs.Marks.{Mark, Free, Busy, Open, Done}
use Rattle.one_job.specs.Leased.{JobCells}
use Rattle.nested_jobs.specs.Rules.{Task, Work, Call, Values}
use Rattle.nested_jobs.specs.Steps.{all_below, is_settled}
use Rattle.pisdf_model.specs.declared.graph.Graph.{Graph}
use Rattle.pisdf_model.specs.declared.graph.Graphs.{Graphs}
use Rattle.pisdf_meaning.specs.declared.firing.Configured.{Configured}
use Rattle.pisdf_meaning.specs.declared.firing.Firing.{Firing}

-- the graphs, how many workers the job is mapped on, the firing, where its cells lie and how much memory the frame of any of its
-- nodes takes once it is compiled, where each item stands that is there, and where the leases of those lie whose frames are out
pub record OpenView : Type 0 where
  pub graphs : Graphs
  pub workers : ℕ
  pub firing : Firing
  pub cells : Option JobCells
  pub room : Option RoomSize
  pub marks : ItemMarks
  pub lent : Lent

-- the graph that is fired
abbrev pub graph_in : OpenView → Graph
graph_in v = graph_of v.graphs.graphs v.firing

-- what the finished items answered
abbrev pub answered : OpenView → Values Answer
answered v = answers v.marks

-- what an item is to do
abbrev pub task : OpenView → ℕ → Option (Task Firing words.Work)
task v i = rule v.graphs.graphs v.firing (answered v) i

-- how many items there are
abbrev pub count_of : OpenView → ℕ
count_of v = count v.graphs.graphs v.firing (answered v)

-- the number of the compilation
abbrev pub compilation_of : OpenView → ℕ
compilation_of v = compile_number (graph_in v)

-- the item has a mark, and a place for what is lent with it
pub record HasItem (v : OpenView) (i : ℕ) : Type 0 where
  pub marked : i < length v.marks
  pub lendable : i < length v.lent

-- ---- how many items are free

-- what a function gives of each element, in all
abbrev pub total : {A : Type 0} → (A → ℕ) → List A → ℕ
total f [] = 0
total f (x ∷ xs) = f x + total f xs

abbrev pub free_one : Mark Firing Answer → ℕ
free_one Free = 1
free_one Busy = 0
free_one (Open job) = 0
free_one (Done answer) = 0

abbrev pub free_in : ItemMarks → ℕ
free_in marks = total free_one marks

-- ---- what may be claimed

-- an item that is free and does work of its own
pub record IsOfferedWork (v : OpenView) (i : ℕ) : Type 0 where
  pub free : mark_at v.marks i ≡ Free
  pub work : words.Work
  pub task_is : task v i ≡ Some (Work work)

-- an item that is free and calls a job
pub record IsOfferedCall (v : OpenView) (i : ℕ) : Type 0 where
  pub free : mark_at v.marks i ≡ Free
  pub job : Firing
  pub task_is : task v i ≡ Some (Call job)

-- ---- the compilation

-- what all configuration actors left, where each gave something
abbrev pub left_if_ready : OpenView → Option (List Configured)
left_if_ready v = left_in (graph_in v) (answered v)

abbrev pub left_by : OpenView → List Configured
left_by v = unwrap_or (left_if_ready v) []

-- what the compilation is kept by
abbrev pub key_in : OpenView → Key
key_in v = key_of (graph_in v) v.workers v.firing (left_by v)

-- the compilation may be claimed
pub record IsOfferedCompilation (v : OpenView) : Type 0 where
  pub free : mark_at v.marks (compilation_of v) ≡ Free
  pub ready : IsSome (left_if_ready v)

-- ---- the end

-- nothing more will come of the job's items
pub record IsQuiet (v : OpenView) : Type 0 where
  pub settled : all_below (count_of v) (λ i. is_settled (mark_at v.marks i) (task v i)) ≡ true

-- how the job ends then
abbrev pub outcome_in : OpenView → Answer
outcome_in v = outcome v.graphs.graphs v.firing (answered v)
