use Rattle.std.proofs.Common.{◌∙◌, refl, sym, ap, subst, arith}
use Rattle.firing_board.specs.Table.Calls.{FinishesIn, LendsAsBefore}
use Rattle.firing_board.specs.Table.View.{TableView, free_items, row_at}
use Rattle.firing_board.specs.Returning.{GivesUp}
use Rattle.firing_board.specs.declared.state.Core.{Core}
use Rattle.firing_board.proofs.Openings.{on_err_by}
use Rattle.firing_board.proofs.RoomSteps.{leaves_more, left_runners}
use Rattle.firing_board.proofs.finishing.take_compilation.Goals as goal

pub returns-clause-compiled : goal.returns-clause-compiled
returns-clause-compiled c =
    let old = c.args.core.now in
    let mid = c.leave-run.new.core in
    let run = c.leave-run.result in
    let same = c.leave-run.ensures.1 in
    let kept = c.in_ok-room_for_nodes.ensures.kept in
    let new : Core = record mid { table = c.finish_compile.new.self; journal = c.room_for_nodes.new.journal } in
    let h = c.in_ok-finish_compile.ensures.compiled in
    record {
      run = run;
      row_is = refl;
      leaves = leaves_more old mid new c.args.worker run c.leave-run.ensures.0 refl refl refl kept.0 kept.1 kept.2;
      row = h.0;
      here = ap (λ (v : TableView). row_at v run.row) (sym same) ∙ h.1;
      finishes = subst (λ (v : TableView). FinishesIn run.row c.args.end v new.table h.0.job) same h.2;
      lends = subst (λ (v : TableView). LendsAsBefore v new.table) same c.in_ok-finish_compile.ensures.lent;
    }

pub returns-clause-room : goal.returns-clause-room
returns-clause-room c = λ has.
    let less = left_runners c.args.core.now c.leave-run.new.core c.args.worker c.leave-run.result c.leave-run.ensures.0 in
    let room = c.leave-run.ensures.0.journal_is.room in
    let same = ap free_items c.leave-run.ensures.1 in
    let taken = c.in_ok-room_for_nodes.ensures.taken in
    let free = c.in_ok-finish_compile.ensures.compiled.2.free in
    omega (arith, has, less, room, same, taken, free)

pub returns-in_err-room_for_nodes-clause-refused : goal.returns-in_err-room_for_nodes-clause-refused
returns-in_err-room_for_nodes-clause-refused c =
    let old = c.args.core.now in
    let mid = c.leave-run.new.core in
    let kept = c.in_err-room_for_nodes.ensures.kept in
    let new : Core = record mid { journal = c.room_for_nodes.new.journal } in
    on_err_by c.from_residual.result (GivesUp old c.args.worker new) record {
      run = c.leave-run.result;
      leaves = leaves_more old mid new c.args.worker c.leave-run.result c.leave-run.ensures.0 refl refl refl kept.0 kept.1 kept.2;
      table_is = c.leave-run.ensures.1;
    }

pub returns-in_err-finish_compile-clause-refused : goal.returns-in_err-finish_compile-clause-refused
returns-in_err-finish_compile-clause-refused c =
    let old = c.args.core.now in
    let mid = c.leave-run.new.core in
    let kept = c.in_ok-room_for_nodes.ensures.kept in
    let new : Core = record mid { table = c.finish_compile.new.self; journal = c.room_for_nodes.new.journal } in
    on_err_by c.from_residual-in_err-finish_compile.result (GivesUp old c.args.worker new) record {
      run = c.leave-run.result;
      leaves = leaves_more old mid new c.args.worker c.leave-run.result c.leave-run.ensures.0 refl refl refl kept.0 kept.1 kept.2;
      table_is = c.in_err-finish_compile.ensures.refused ∙ c.leave-run.ensures.1;
    }
