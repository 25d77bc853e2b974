-- The memory of a job whose workers keep fixed orders: what each worker runs in turn, and where the buffers lie then.
use Rattle.std.specs.Prelude.{◌≡◌, ℕ, List, [], ◌∷◌, ◌++◌, codes, length}
use Rattle.std.specs.Fmt.{decimal}
use Rattle.std.specs.List.{flat_map}
use Rattle.token_text.specs.Rows.{row_of}
use Rattle.pisdf_model.specs.Details.{of_each}
use Rattle.memory_exclusion.specs.Paths.{Excludes}
use Rattle.placement_checker.specs.Placed.{Tight, Valid}
use Rattle.worker_mapping.specs.Costs.{pairs_of}
use Rattle.order_memory.specs.Orders.{AreOrders, after_of, sizes_of}
use Rattle.order_memory.specs.declared.tables.Ordered.{Ordered}
use Rattle.job_compiler.specs.Compilation.{Compilation}
use Rattle.job_report.specs.Plan.{height_row}

-- The orders of the nodes at home on each worker, and an offset for each edge: valid and tight where edges exclude each other
-- by the paths over edges and over neighbours in these orders.
pub record IsOrdering (job : Compilation) (ordered : Ordered) : Type 0 where
  pub orders : AreOrders (length job.graph.nodes) (pairs_of job.graph.edges) job.mapping.home job.workers ordered.orders
  pub one_each : length ordered.placement.offsets ≡ length job.graph.edges
  pub valid : Valid (sizes_of job.graph.edges) (Excludes (after_of (pairs_of job.graph.edges) ordered.orders)) ordered.placement.offsets ordered.placement.height
  pub tight : Tight (sizes_of job.graph.edges) (Excludes (after_of (pairs_of job.graph.edges) ordered.orders)) ordered.placement.offsets ordered.placement.height

-- ---- its text

-- ordered,H
abbrev pub ordered_row : ℕ → List ℕ
ordered_row height = row_of (codes "ordered" ∷ decimal height ∷ [])

-- offset,EDGE,OFFSET
abbrev pub offset_row : ℕ → ℕ → List ℕ
offset_row edge offset = row_of (codes "offset" ∷ decimal edge ∷ decimal offset ∷ [])

-- order,WORKER,NODE
abbrev pub worker_row : ℕ → ℕ → List ℕ
worker_row worker node = row_of (codes "order" ∷ decimal worker ∷ decimal node ∷ [])

-- the rows of a worker's nodes, in its order
abbrev pub worker_rows : ℕ → List ℕ → List ℕ
worker_rows worker nodes = flat_map (λ n. worker_row worker n) nodes

abbrev pub offset_rows : List ℕ → List ℕ
offset_rows offsets = of_each (λ e offset. offset_row e offset) offsets

abbrev pub orders_rows : List (List ℕ) → List ℕ
orders_rows orders = of_each (λ w nodes. worker_rows w nodes) orders

-- first the height of the plan's cells, then that of the cells under the orders
abbrev pub memory_text : Compilation → Ordered → List ℕ
memory_text job ordered =
    height_row job.placement.height
    ++ ordered_row ordered.placement.height
    ++ offset_rows ordered.placement.offsets
    ++ orders_rows ordered.orders
