-- What is told of a job.
use Rattle.std.specs.Prelude.{◌≡◌, ℕ, List}
use Rattle.job_compiler.specs.Compilation.{Compilation}
use Rattle.schedule_bound.specs.declared.tables.Report.{Report}
use Rattle.order_memory.specs.declared.tables.Ordered.{Ordered}
use Rattle.job_report.specs.Memory.{IsOrdering, memory_text}
use Rattle.job_report.specs.Plan.{plan_text}
use Rattle.job_report.specs.Schedule.{IsReportOn, schedule_text}
use Rattle.job_report.specs.declared.names.JobNames.{JobNames}
use Rattle.job_report.specs.declared.text.JobText.{JobText}
use Rattle.job_report.specs.declared.text.JobText.TheVariants.{Memory, Plan, Schedule}

-- the text tells this of a job whose parts have these names
abbrev pub Tells : JobText → JobNames → Compilation → List ℕ → Type 0
Tells Plan names job text = text ≡ plan_text names job
Tells Schedule names job text = (report : Report) × IsReportOn job report × (text ≡ schedule_text report)
Tells Memory names job text = (ordered : Ordered) × IsOrdering job ordered × (text ≡ memory_text job ordered)
