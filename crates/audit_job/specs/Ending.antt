-- How jobs end.
use Rattle.std.specs.Prelude.{◌≡◌, ℕ, ◌<◌, true, List, [], length, slice_index, Option, Some, None, IsSome}
use Rattle.job_rules.specs.Items.{first_refusal, job_rules, trace_of}
use Rattle.job_rules.specs.Words as words
use Rattle.nested_jobs.specs.Rules.{Values}
use Rattle.nested_jobs.specs.Tables.{is_quiet_row}
use Rattle.pisdf_meaning.specs.declared.outcome.TraceRow.{TraceRow}
use Rattle.pisdf_meaning.specs.declared.refusal.Refusal.{Refusal}
use Rattle.pisdf_model.specs.declared.graph.Graph.{Graph}
use Rattle.sdf_level.specs.declared.node.Node.{Node}
use Rattle.sdf_level.specs.declared.node.Node.TheVariants as node
use Rattle.single_rate.specs.Expanded.{place_of}
use Rattle.audit_job.specs.Jobs.{IsJob, row_of}
use Rattle.audit_job.specs.Marks.{answers}
use Rattle.audit_job.specs.declared.answer.Mark.{Mark}
use Rattle.audit_job.specs.declared.job.Job.{Job}

-- the trace of each firing of each actor of the level, where the nodes answered this
abbrev pub traces_at : List Node → Values words.Answer → ℕ → ℕ → List TraceRow
traces_at nodes v a k = trace_of (v (place_of nodes (node.Firing a k)))

-- the trace of each firing that stands at one of these places
abbrev pub traces_of : List ℕ → Values words.Answer → ℕ → List TraceRow
traces_of places v k = trace_of (v (slice_index places k))

-- the refusal of an item, if it was refused
abbrev pub refusal_in : Option words.Answer → Option Refusal
refusal_in None = None
refusal_in (Some (words.Gives given)) = None
refusal_in (Some (words.Schedules schedule)) = None
refusal_in (Some (words.Refuses refusal)) = Some refusal

-- the item was refused, and none before it
pub record IsFirstRefused (marks : List Mark) (i : ℕ) : Type 0 where
  pub inside : i < length marks
  pub refused : IsSome (refusal_in (answers marks i))
  pub is_first : first_refusal (answers marks) 0 (length marks) ≡ refusal_in (answers marks i)

-- nothing more will come of the job
pub record IsSettledJob (graphs : List Graph) (workers : ℕ) (job : Job) : Type 0 where
  pub is_job : IsJob graphs workers job
  pub quiet : is_quiet_row (job_rules graphs) (row_of [] job) ≡ true
