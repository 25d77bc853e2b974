-- What holds of every schedule of a job, and of every run in which its workers keep their orders.
use Rattle.std.specs.Prelude.{ℕ, ◌+◌, ◌-◌, ◌*◌, ◌≤◌, List, length}
use Rattle.worker_mapping.specs.Costs.{AreCosts, pairs_of}
use Rattle.schedule_bound.specs.Feasible.{IsFeasible}
use Rattle.schedule_bound.specs.Slots.{length_of}
use Rattle.schedule_bound.specs.declared.slots.Slot.{Slot}
use Rattle.schedule_bound.specs.declared.tables.Report.{Report}
use Rattle.order_memory.specs.Orders.{sizes_of}
use Rattle.order_memory.specs.Runs.{Event, FinishesAll, IsOrderedRun, LiveAreApart}
use Rattle.order_memory.specs.declared.tables.Ordered.{Ordered}
use Rattle.job_compiler.specs.Compilation.{Compilation}
use Rattle.job_report.specs.Memory.{IsOrdering}
use Rattle.job_report.specs.Schedule.{IsReportOn, costed}
use Rattle.job_report.specs.declared.text.JobText.{JobText}
use Rattle.job_report.specs.declared.text.JobText.TheVariants.{Memory, Plan, Schedule}

-- The reported schedule is one of the job. No schedule of it is shorter than the critical path, nor than the work shared out over
-- the workers, and the reported one is no longer than the work shared out, and the critical path on all workers but one.
pub record Bounds (job : Compilation) (report : Report) : Type 0 where
  pub costs : List ℕ
  pub are_costs : AreCosts (length job.graph.nodes) job.graph.edges costs
  pub feasible : IsFeasible (costed job costs) job.workers report.entries
  pub no_shorter : (slots : List Slot) → IsFeasible (costed job costs) job.workers slots → report.critical ≤ length_of slots
  pub no_faster : (slots : List Slot) → IsFeasible (costed job costs) job.workers slots → report.work ≤ job.workers * length_of slots
  pub no_longer : job.workers * report.length ≤ report.work + (job.workers - 1) * report.critical

-- where each worker keeps its order, buffers that are live at once share no cell, and a run can finish every node
pub record KeepsApart (job : Compilation) (ordered : Ordered) : Type 0 where
  pub apart : (run : List Event) → IsOrderedRun (pairs_of job.graph.edges) ordered.orders run → LiveAreApart (pairs_of job.graph.edges) (sizes_of job.graph.edges) ordered.placement.offsets run
  pub possible : (run : List Event) × IsOrderedRun (pairs_of job.graph.edges) ordered.orders run × FinishesAll (length job.graph.nodes) run

-- what holds of that which is told
abbrev pub Holds : JobText → Compilation → Type 0
Holds Plan job = Unit {0}
Holds Schedule job = (report : Report) → IsReportOn job report → Bounds job report
Holds Memory job = (ordered : Ordered) → IsOrdering job ordered → KeepsApart job ordered
