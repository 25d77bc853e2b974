use Rattle.std.proofs.Common.{◌≡◌, ℕ, List, length, replicate, Option, Some, None, sym, ap, ◌∙◌, subst, arith}
use Rattle.std.proofs.lemmas.List.{length-replicate}
use Rattle.kernel_gate.specs.declared.room.RoomSize.{RoomSize}
use Rattle.std.specs.Arc.{arc_value}
use Rattle.graph_firing.specs.View.{compilation_of}
use Rattle.firing_board.specs.Table.View.{row_at}
use Rattle.firing_board.specs.declared.table.row.Row.{Row}
use Rattle.firing_board.specs.Core.{runners}
use Rattle.firing_board.proofs.Rows.{the_same}
use Rattle.firing_board.specs.declared.run.Run.{Run}
use Rattle.firing_board.proofs.Started.{none_run, started_roomless, started_unlent}
use Rattle.firing_board.proofs.starting.start_core.Goals as goal

pub job-requires : goal.job-requires
job-requires c =
    let s = c.in_ok-table.ensures in
    (s.top, subst (λ (k : ℕ). row_at c.in_ok-table.table k ≡ Some s.top) s.key_is s.here, tt)

pub end-requires : goal.end-requires
end-requires c = started_unlent (arc_value c.args.graphs) c.args.workers c.args.firing c.in_ok-table.table c.in_ok-table.ensures

pub returns-in-Ok-clause-room : goal.returns-in-Ok-clause-room
returns-in-Ok-clause-room c =
    let s = c.in_ok-table.ensures in
    let here : row_at c.in_ok-table.table 0 ≡ Some s.top = subst (λ (k : ℕ). row_at c.in_ok-table.table k ≡ Some s.top) s.key_is s.here in
    let same : compilation_of c.job.result.now ≡ compilation_of s.top.job =
    ap compilation_of (c.job.ensures.2 ∙ ap (λ (r : Row). r.job) (the_same (row_at c.in_ok-table.table 0) c.job.ensures.0 s.top c.job.ensures.1 here)) in
    let none : runners c.in_ok-running.running.items ≡ 0 = ap runners c.in_ok-running.ensures ∙ none_run c.args.workers in
    let many = s.many in
    let taken = c.in-Ok.ensures.taken in
    let runs : c.in_ok-running.running.items ≡ replicate c.args.workers None = c.in_ok-running.ensures in
    let rooms = c.in-Ok.ensures.rooms in
    record {
      in_journal = omega (arith, same, none, many, taken);
      for_frames = record {
        one_each = ap (λ (l : List (Option RoomSize)). length l) rooms.0 ∙ (length-replicate c.args.workers None ∙ sym (ap (λ (l : List (Option Run)). length l) runs ∙ length-replicate c.args.workers None));
        needs = λ k need asks. absurd (let no = started_roomless (arc_value c.args.graphs) c.args.workers c.args.firing c.in_ok-table.table s k in cc);
        each = λ w size lt is. absurd (let no = rooms.1 in cc);
      };
    }
