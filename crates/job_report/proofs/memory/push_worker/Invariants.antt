use Rattle.std.proofs.Common.{◌≡◌, ◌++◌, drop, string_bytes}
use Rattle.std.specs.List.{flat_map}
use Rattle.job_report.specs.Memory.{worker_row, worker_rows}
use Rattle.job_report.proofs.memory.push_worker.Given as goal

-- the rows so far, and those of the nodes that are left, are all
abbrev pub invariant-loop-node : goal.invariant-loop-node
invariant-loop-node l =
    string_bytes l.text ++ flat_map (λ n. worker_row l.worker n) (drop l.node-index l.nodes) ≡ string_bytes l.fn.text ++ worker_rows l.worker l.nodes
