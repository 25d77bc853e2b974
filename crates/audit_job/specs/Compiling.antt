-- How the compilation of a firing ends.
use Rattle.std.specs.Prelude.{◌≡◌, ℕ, ◌<◌, List, length, slice_index, Option, Some, None}
use Rattle.std.specs.Arc.{arc_value}
use Rattle.job_compiler.specs.Compilation.{Compilation}
use Rattle.job_flow.specs.Frames.{edges_into}
use Rattle.job_preparing.specs.CompileTasks.{schedule_of}
use Rattle.job_rules.specs.Doing as doing
use Rattle.job_rules.specs.Words as words
use Rattle.pisdf_meaning.specs.declared.firing.Configured.{Configured}
use Rattle.pisdf_meaning.specs.declared.firing.Firing.{Firing}
use Rattle.pisdf_model.specs.declared.graph.Graph.{Graph}
use Rattle.audit_job.specs.Jobs.{IsMadeOf}
use Rattle.audit_job.specs.Marks.{answer_of}
use Rattle.audit_job.specs.declared.compiling.CompileEnd.{CompileEnd}
use Rattle.audit_job.specs.declared.job.Nodes.{Nodes}

-- the nodes of a firing that is compiled so, each of which waits for all edges into it
pub record IsNew (graphs : List Graph) (workers : ℕ) (firing : Firing) (left : List Configured) (compiled : Compilation) (nodes : Nodes) : Type 0 where
  pub left_is : nodes.left.items ≡ left
  pub compiled_is : arc_value nodes.compiled ≡ compiled
  pub made : IsMadeOf graphs workers firing nodes
  pub waits_are : (n : ℕ) → n < length nodes.waits.items → slice_index nodes.waits.items n ≡ edges_into compiled.graph.edges n

abbrev pub IsCompileRefusal : words.Answer → Type 0
IsCompileRefusal (words.Gives given) = ⊥
IsCompileRefusal (words.Schedules schedule) = ⊥
IsCompileRefusal (words.Refuses refusal) = Unit {0}

-- new nodes come with the schedule, and none with a refusal
abbrev pub ComesWith : List Graph → ℕ → Firing → List Configured → words.Answer → Option Nodes → Type 0
ComesWith graphs workers firing left answer None = IsCompileRefusal answer
ComesWith graphs workers firing left answer (Some nodes) = (answer ≡ words.Schedules (schedule_of (arc_value nodes.compiled))) × IsNew graphs workers firing left (arc_value nodes.compiled) nodes

pub record EndsAs (graphs : List Graph) (workers : ℕ) (firing : Firing) (left : List Configured) (end : CompileEnd) : Type 0 where
  pub answered : doing.IsCompiled graphs firing left (answer_of end.answer)
  pub nodes : ComesWith graphs workers firing left (answer_of end.answer) end.nodes
