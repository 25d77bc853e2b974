use Rattle.std.proofs.Common.{◌≡◌, ◌++◌, drop, string_bytes}
use Rattle.pisdf_model.specs.Details.{from_number}
use Rattle.job_report.specs.Memory.{offset_row, offset_rows}
use Rattle.job_report.proofs.memory.push_offsets.Given as goal

-- the rows so far, and those of the edges that are left, are all
abbrev pub invariant-loop-edge : goal.invariant-loop-edge
invariant-loop-edge l =
    string_bytes l.text ++ from_number l.edge (λ e offset. offset_row e offset) (drop l.edge l.offsets) ≡ string_bytes l.fn.text ++ offset_rows l.offsets
