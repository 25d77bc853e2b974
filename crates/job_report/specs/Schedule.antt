-- The report on the list schedule of a job: its length, what bounds every schedule from below, and where and when each node runs.
use Rattle.std.specs.Prelude.{◌≡◌, ℕ, List, [], ◌∷◌, ◌++◌, codes, length, sum}
use Rattle.std.specs.Fmt.{decimal}
use Rattle.std.specs.List.{flat_map}
use Rattle.token_text.specs.Rows.{comma, line_feed, row_of}
use Rattle.pisdf_model.specs.Details.{of_each}
use Rattle.worker_mapping.specs.Costs.{AreCosts, pairs_of}
use Rattle.worker_mapping.specs.Graph.{CostedGraph, graph_of}
use Rattle.schedule_bound.specs.Critical.{IsCritical}
use Rattle.schedule_bound.specs.Listed.{IsListed}
use Rattle.schedule_bound.specs.Slots.{length_of}
use Rattle.schedule_bound.specs.declared.slots.Slot.{Slot}
use Rattle.schedule_bound.specs.declared.tables.Report.{Report}
use Rattle.job_compiler.specs.Compilation.{Compilation}

-- the nodes of a job, each of which costs 1 and the sizes of its edges
abbrev pub costed : Compilation → List ℕ → CostedGraph
costed job costs = graph_of (length job.graph.nodes) (pairs_of job.graph.edges) costs

-- the report on the list schedule of a job on its workers
pub record IsReportOn (job : Compilation) (report : Report) : Type 0 where
  pub costs : List ℕ
  pub are_costs : AreCosts (length job.graph.nodes) job.graph.edges costs
  pub listed : IsListed (costed job costs) job.workers report.entries
  pub length_is : report.length ≡ length_of report.entries
  pub critical : IsCritical (costed job costs) report.path report.critical
  pub work_is : report.work ≡ sum costs

-- ---- its text

-- path, and after it each node of the critical path as a field
abbrev pub path_row : List ℕ → List ℕ
path_row path = codes "path" ++ flat_map (λ n. comma ∷ decimal n) path ++ line_feed ∷ []

-- start,NODE,WORKER,START,END
abbrev pub start_row : ℕ → Slot → List ℕ
start_row node slot = row_of (codes "start" ∷ decimal node ∷ decimal slot.worker ∷ decimal slot.start ∷ decimal slot.end ∷ [])

abbrev pub start_rows : List Slot → List ℕ
start_rows entries = of_each (λ n slot. start_row n slot) entries

abbrev pub schedule_text : Report → List ℕ
schedule_text report =
    row_of (codes "critical" ∷ decimal report.critical ∷ [])
    ++ row_of (codes "work" ∷ decimal report.work ∷ [])
    ++ row_of (codes "length" ∷ decimal report.length ∷ [])
    ++ path_row report.path
    ++ start_rows report.entries
