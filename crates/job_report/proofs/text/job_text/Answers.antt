use Rattle.std.proofs.Common.{ℕ, List, IfOk, string_bytes, ◌≡◌, sym, subst}
use Rattle.job_report.specs.Names.{names_of}
use Rattle.job_report.specs.Told.{Tells}
use Rattle.job_report.specs.declared.text.JobText.{JobText}
use Rattle.std.specs.Prelude.{OnOk}
use Rattle.job_report.specs.Holding.{Holds}
use Rattle.job_report.proofs.OneOrdering.{memory_holds, memory_only}
use Rattle.job_report.proofs.OneReport.{schedule_holds, schedule_only}
use Rattle.job_report.proofs.text.job_text.Goals as goal

pub returns-in_ok-report_on-in-Schedule-clause-only : goal.returns-in_ok-report_on-in-Schedule-clause-only
returns-in_ok-report_on-in-Schedule-clause-only c =
    subst (λ (what : JobText). IfOk c.schedule_text.result (λ text. (other : List ℕ) → Tells what (names_of c.args.graphs.now c.args.graph.now) c.args.job.now other → other ≡ string_bytes text)) (sym c.in-Schedule.is)
    (schedule_only (names_of c.args.graphs.now c.args.graph.now) c.args.job.now c.in_ok-report_on-in-Schedule.field-0 c.schedule_text.result c.in_ok-report_on-in-Schedule.ensures.only c.schedule_text.ensures)

pub returns-in_ok-ordering_of-in-Memory-clause-only : goal.returns-in_ok-ordering_of-in-Memory-clause-only
returns-in_ok-ordering_of-in-Memory-clause-only c =
    subst (λ (what : JobText). IfOk c.memory_text.result (λ text. (other : List ℕ) → Tells what (names_of c.args.graphs.now c.args.graph.now) c.args.job.now other → other ≡ string_bytes text)) (sym c.in-Memory.is)
    (memory_only (names_of c.args.graphs.now c.args.graph.now) c.args.job.now c.in_ok-ordering_of-in-Memory.field-0 c.memory_text.result c.in_ok-ordering_of-in-Memory.ensures.only c.memory_text.ensures)

pub returns-in_ok-report_on-in-Schedule-clause-holds : goal.returns-in_ok-report_on-in-Schedule-clause-holds
returns-in_ok-report_on-in-Schedule-clause-holds c =
    subst (λ (what : JobText). OnOk c.schedule_text.result (Holds what c.args.job.now)) (sym c.in-Schedule.is)
    (schedule_holds c.args.job.now c.in_ok-report_on-in-Schedule.field-0 c.schedule_text.result c.in_ok-report_on-in-Schedule.ensures.only c.in_ok-report_on-in-Schedule.ensures.bounds)

pub returns-in_ok-ordering_of-in-Memory-clause-holds : goal.returns-in_ok-ordering_of-in-Memory-clause-holds
returns-in_ok-ordering_of-in-Memory-clause-holds c =
    subst (λ (what : JobText). OnOk c.memory_text.result (Holds what c.args.job.now)) (sym c.in-Memory.is)
    (memory_holds c.args.job.now c.in_ok-ordering_of-in-Memory.field-0 c.memory_text.result c.in_ok-ordering_of-in-Memory.ensures.only c.in_ok-ordering_of-in-Memory.ensures.apart)
