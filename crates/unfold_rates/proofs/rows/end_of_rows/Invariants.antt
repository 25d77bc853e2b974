use Rattle.std.proofs.Common.{◌-◌, ◌≤◌, length}
use Rattle.std.specs.Prelude.{slice_range}
use Rattle.std.specs.List.{AllPass}
use Rattle.pisdf_meaning.specs.declared.outcome.TraceRow.{TraceRow}
use Rattle.unfold_rates.specs.Cut.{is_within}
use Rattle.unfold_rates.proofs.rows.end_of_rows.Given as goal

abbrev pub invariant-loop-end : goal.invariant-loop-end
invariant-loop-end l = record {
  forward : l.start ≤ l.end;
  inside : l.end ≤ length l.rows;
  within : AllPass (λ (row : TraceRow). is_within l.path row.path) (slice_range l.rows l.start l.end);
}

abbrev pub decreases-loop-end : goal.decreases-loop-end
decreases-loop-end l = length l.rows - l.end
