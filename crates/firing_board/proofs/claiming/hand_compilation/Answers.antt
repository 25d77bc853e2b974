use Rattle.std.proofs.Common.{◌≡◌, ◌∙◌, refl, sym, ap, subst, arith}
use Rattle.nested_jobs.specs.Marks.{Busy}
use Rattle.job_preparing.specs.CompileTasks.{CompileView}
use Rattle.job_preparing.specs.Levels.{SuitsKey, compilation_in}
use Rattle.graph_firing.specs.View.{IsOfferedCompilation, OpenView, compilation_of, key_in}
use Rattle.firing_board.specs.Table.Calls.{MarksItem}
use Rattle.firing_board.specs.Table.View.{row_at}
use Rattle.firing_board.specs.declared.table.row.Row.{Row}
use Rattle.board_rules.specs.declared.entry.ItemName.TheVariants as items
use Rattle.firing_board.specs.declared.claim.Claim.TheVariants as claim
use Rattle.firing_board.specs.declared.state.Core.{Core}
use Rattle.firing_board.specs.Keeping.{AreKeptLevelsOf}
use Rattle.firing_board.proofs.FrameSteps.{rooms_kept}
use Rattle.firing_board.proofs.RoomSteps.{entered_room}
use Rattle.firing_board.proofs.Rows.{last_go_on, marks_rows, the_same}
use Rattle.firing_board.proofs.claiming.hand_compilation.Goals as goal

pub returns-clause-handed : goal.returns-clause-handed
returns-clause-handed c =
    let old = c.args.core.now in
    let k = c.args.run.row in
    let task = c.in_ok-task.ensures.task in
    let marks = c.in_ok-task.ensures.claimed in
    record {
      row = task.0;
      here = task.1;
      kept = compilation_in c.in_ok-at_hand.at_hand;
      claimed = record old { table = c.claim_compile.new.self };
      marks = subst (λ (r : Row). MarksItem k (compilation_of r.job) Busy old.table c.claim_compile.new.self) (the_same (row_at old.table k) marks.0 task.0 marks.1 task.1) marks.2;
      lends = c.in_ok-task.ensures.lent;
      running_is = refl;
      numbers_are = refl;
      journal_is = refl;
      end_is = refl;
      ticket = c.enter-ticket.result;
      enters = c.enter-ticket.ensures;
      result_is = ap (λ (t : CompileView). claim.Compile c.enter-ticket.result t) task.2;
    }

pub enter-ticket-requires-clause-room : goal.enter-ticket-requires-clause-room
enter-ticket-requires-clause-room c = let has = c.requires.room.in_journal in let fewer = c.in_ok-task.ensures.fewer in omega (arith, has, fewer)

pub returns-clause-room : goal.returns-clause-room
returns-clause-room c =
    let old = c.args.core.now in
    let mid : Core = record old { table = c.claim_compile.new.self } in
    let marks = c.in_ok-task.ensures.claimed in
    record {
      in_journal = entered_room old mid c.enter-ticket.new.core c.args.worker c.args.run items.Compile c.enter-ticket.result c.requires.room.in_journal refl refl c.in_ok-task.ensures.fewer c.enter-ticket.ensures;
      for_frames = rooms_kept old mid c.enter-ticket.new.core c.args.worker c.args.run items.Compile c.enter-ticket.result c.requires.room.for_frames c.requires.enter.is_worker c.requires.enter.idle refl
          (last_go_on old.table mid.table (marks_rows c.args.run.row (compilation_of marks.0.job) Busy old.table mid.table marks.2)) c.in_ok-task.ensures.lent c.in_ok-task.ensures.asked refl c.enter-ticket.ensures;
    }

pub at_hand-requires-clause-offered : goal.at_hand-requires-clause-offered
at_hand-requires-clause-offered c =
    let o = c.requires.offered in
    let is : c.job.result.now ≡ o.0.job = c.job.ensures.2 ∙ ap (λ (r : Row). r.job) (the_same (row_at c.args.core.now.table c.args.run.row) c.job.ensures.0 o.0 c.job.ensures.1 o.1) in
    subst IsOfferedCompilation (sym is) o.2

pub at_hand-requires-clause-graphs : goal.at_hand-requires-clause-graphs
at_hand-requires-clause-graphs c =
    let o = c.requires.graphs in
    let is : c.job.result.now ≡ o.0.job = c.job.ensures.2 ∙ ap (λ (r : Row). r.job) (the_same (row_at c.args.core.now.table c.args.run.row) c.job.ensures.0 o.0 c.job.ensures.1 o.1) in
    subst (λ (j : OpenView). AreKeptLevelsOf j.graphs c.args.keeping.now.levels) (sym is) o.2

pub claim_compile-requires-clause-suits : goal.claim_compile-requires-clause-suits
claim_compile-requires-clause-suits c =
    let o = c.requires.offered in
    let is : c.job.result.now ≡ o.0.job = c.job.ensures.2 ∙ ap (λ (r : Row). r.job) (the_same (row_at c.args.core.now.table c.args.run.row) c.job.ensures.0 o.0 c.job.ensures.1 o.1) in
    (o.0, o.1, subst (λ (j : OpenView). SuitsKey j.graphs.graphs (key_in j) c.in_ok-at_hand.at_hand) is c.in_ok-at_hand.ensures.suits)
