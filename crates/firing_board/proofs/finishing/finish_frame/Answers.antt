use Rattle.std.proofs.Common.{◌∙◌, Bool, false, Some, sym, ap, subst, arith}
use Rattle.std.specs.Prelude.{IsOk}
use Rattle.nested_jobs.specs.Marks.{Done}
use Rattle.nested_jobs.specs.Rules.{Work}
use Rattle.graph_firing.specs.View.{task}
use Rattle.firing_board.specs.View.{BoardView}
use Rattle.firing_board.specs.declared.frame_rooms.FrameRooms.{FrameRooms}
use Rattle.job_preparing.specs.Handing.{answer_with}
use Rattle.board_rules.specs.Legal.{state_after}
use Rattle.firing_board.specs.Table.Closing.{IsClosingFrom}
use Rattle.firing_board.specs.Closing.{ClosesOn}
use Rattle.firing_board.specs.Finishes.{MayComeBack}
use Rattle.firing_board.specs.OnCore.{FinishesOn, MayLeave}
use Rattle.firing_board.proofs.Framed.{FinishLaws, closes_finishes, closing_from, has_room, is_back, may_return, runs_at, starved_finishes}
use Rattle.firing_board.proofs.Leaving.{mine}
use Rattle.firing_board.proofs.FrameSteps.{asks_still, lent_run, rooms_back}
use Rattle.firing_board.proofs.RoomSteps.{closed_room}
use Rattle.firing_board.proofs.Rows.{last_go_on, marks_rows, rows_close}
use Rattle.firing_board.proofs.Runners.{inside_of}
use Rattle.firing_board.proofs.finishing.finish_frame.Goals as goal

pub take_back-row-requires-clause-item : goal.take_back-row-requires-clause-item
take_back-row-requires-clause-item c =
    let key = c.requires.may.0 in
    let may = c.requires.may.1 in
    let old = c.args.core.now in
    let w = c.args.worker in
    let lawful = c.rules_are_lawful.ensures key.graphs may.keeps.is_key.valid.valid in
    let runs = runs_at c.entries_tell_steps.ensures.steps key old c.args.starved may.keeps w (MayComeBack key c.args.frame c.args.answer (IsOk c.args.answer)) may.runs in
    may_return key (state_after key may.keeps.taken) old w may.runs.work (mine c.boards_keep.ensures.held key lawful c.args.starved old may.keeps w may.runs.is_worker may.runs.work runs) c.args.frame (IsOk c.args.answer) may.lent may.runs.so.sound_so

pub take_back-row-requires-clause-room : goal.take_back-row-requires-clause-room
take_back-row-requires-clause-room c =
    let key = c.requires.may.0 in
    let may = c.requires.may.1 in
    let old = c.args.core.now in
    let w = c.args.worker in
    let lawful = c.rules_are_lawful.ensures key.graphs may.keeps.is_key.valid.valid in
    let runs = runs_at c.entries_tell_steps.ensures.steps key old c.args.starved may.keeps w (MayComeBack key c.args.frame c.args.answer (IsOk c.args.answer)) may.runs in
    has_room key (state_after key may.keeps.taken) old c.args.starved may.keeps w may.runs.work (mine c.boards_keep.ensures.held key lawful c.args.starved old may.keeps w may.runs.is_worker may.runs.work runs)

pub close_if_quiet-requires : goal.close_if_quiet-requires
close_if_quiet-requires c =
    let key = c.requires.may.0 in
    let old = c.args.core.now in
    let w = c.args.worker in
    let may = subst (λ (b : Bool). MayLeave key old b w (MayComeBack key c.args.frame c.args.answer (IsOk c.args.answer)) (Some c.args.frame.places)) c.if-starved.false c.requires.may.1 in
    let laws : FinishLaws key = record {
      held = c.boards_keep.ensures.held;
      begin = c.boards_keep.ensures.finish;
      entered = c.journals_grow.ensures.finish;
      one = c.entries_tell_steps.ensures.answers;
      tell = c.entries_tell_steps.ensures.steps;
      suit = c.tables_suit.ensures.finish;
      marks = c.tables_suit.ensures.marks;
      lawful = c.rules_are_lawful.ensures key.graphs may.keeps.is_key.valid.valid;
    } in
    let runs = runs_at laws.tell key old false may.keeps w (MayComeBack key c.args.frame c.args.answer (IsOk c.args.answer)) may.runs in
    let a = mine laws.held key laws.lawful false old may.keeps w may.runs.is_worker may.runs.work runs in
    let b = is_back key (state_after key may.keeps.taken) old w may.runs.work a c.args.frame c.args.answer c.take_back-row.new.core c.take_back-row.result c.take_back-row.ensures.returns in
    subst (λ k. IsClosingFrom c.take_back-row.new.core.table k) (sym b.row_is)
    (closing_from key laws old may.keeps w may.runs.is_worker may.runs.work runs (answer_with (Some (Work may.runs.work)) c.args.frame c.args.answer) may.runs.so.answered c.take_back-row.new.core b.marks b.lends c.take_back-row.ensures.returns.leaves.running_are c.take_back-row.ensures.returns.leaves.journal_is)

pub returns-then-starved-clause-finished : goal.returns-then-starved-clause-finished
returns-then-starved-clause-finished c = λ key may.
    let old = c.args.core.now in
    let w = c.args.worker in
    let laws : FinishLaws key = record {
      held = c.boards_keep.ensures.held;
      begin = c.boards_keep.ensures.finish;
      entered = c.journals_grow.ensures.finish;
      one = c.entries_tell_steps.ensures.answers;
      tell = c.entries_tell_steps.ensures.steps;
      suit = c.tables_suit.ensures.finish;
      marks = c.tables_suit.ensures.marks;
      lawful = c.rules_are_lawful.ensures key.graphs may.keeps.is_key.valid.valid;
    } in
    let runs = runs_at laws.tell key old c.args.starved may.keeps w (MayComeBack key c.args.frame c.args.answer (IsOk c.args.answer)) may.runs in
    let a = mine laws.held key laws.lawful c.args.starved old may.keeps w may.runs.is_worker may.runs.work runs in
    let b = is_back key (state_after key may.keeps.taken) old w may.runs.work a c.args.frame c.args.answer c.take_back-row.new.core c.take_back-row.result c.take_back-row.ensures.returns in
    starved_finishes key laws old c.args.starved may.keeps w may.runs.is_worker may.runs.work runs (answer_with (Some (Work may.runs.work)) c.args.frame c.args.answer) may.runs.so.answered c.take_back-row.new.core b.marks b.lends
    c.take_back-row.ensures.returns.leaves.running_are c.take_back-row.ensures.returns.leaves.journal_is c.if-starved.true

pub returns-clause-finished : goal.returns-clause-finished
returns-clause-finished c = λ key was.
    let old = c.args.core.now in
    let w = c.args.worker in
    let mid = c.take_back-row.new.core in
    let new = c.close_if_quiet.new.core in
    let P = MayComeBack key c.args.frame c.args.answer (IsOk c.args.answer) in
    let may = subst (λ (b : Bool). MayLeave key old b w P (Some c.args.frame.places)) c.if-starved.false was in
    let laws : FinishLaws key = record {
      held = c.boards_keep.ensures.held;
      begin = c.boards_keep.ensures.finish;
      entered = c.journals_grow.ensures.finish;
      one = c.entries_tell_steps.ensures.answers;
      tell = c.entries_tell_steps.ensures.steps;
      suit = c.tables_suit.ensures.finish;
      marks = c.tables_suit.ensures.marks;
      lawful = c.rules_are_lawful.ensures key.graphs may.keeps.is_key.valid.valid;
    } in
    let runs = runs_at laws.tell key old false may.keeps w P may.runs in
    let a = mine laws.held key laws.lawful false old may.keeps w may.runs.is_worker may.runs.work runs in
    let b = is_back key (state_after key may.keeps.taken) old w may.runs.work a c.args.frame c.args.answer mid c.take_back-row.result c.take_back-row.ensures.returns in
    let leaves = c.take_back-row.ensures.returns.leaves in
    let answer = answer_with (Some (Work may.runs.work)) c.args.frame c.args.answer in
    subst (λ (s : Bool). FinishesOn key old s w new s) (sym c.if-starved.false)
    (closes_finishes key laws old may.keeps w may.runs.is_worker may.runs.work runs answer may.runs.so.answered mid b.marks b.lends leaves.running_are leaves.journal_is new c.close_if_quiet.ensures.kept leaves.numbers_are (subst (λ k. ClosesOn mid k new) b.row_is c.close_if_quiet.ensures.closed))

pub take_back-row-requires-clause-slot : goal.take_back-row-requires-clause-slot
take_back-row-requires-clause-slot c =
    let key = c.requires.may.0 in
    let may = c.requires.may.1 in
    let old = c.args.core.now in
    let lt = may.runs.is_worker in
    let one = may.keeps.one_each in
    let each = c.requires.slots in
    omega arith

pub returns-then-starved-clause-room : goal.returns-then-starved-clause-room
returns-then-starved-clause-room c = λ has.
    let key = c.requires.may.0 in
    let may = c.requires.may.1 in
    let old = c.args.core.now in
    let w = c.args.worker in
    let new = c.take_back-row.new.core in
    let r = c.take_back-row.ensures.returns in
    let ended : FinishesOn key old c.args.starved w new c.args.starved = returns-then-starved-clause-finished c key may in
    record {
      in_journal = c.take_back-row.ensures.room has.in_journal;
      for_frames = rooms_back old new w r.run r.row c.args.frame.places has.for_frames r.leaves.ran (inside_of old.running.items w r.run r.leaves.ran) r.here
          (lent_run old w r.run c.args.frame.places r.leaves.ran may.lent)
          r.leaves.running_are
          (last_go_on old.table new.table (marks_rows r.run.row r.run.item (Done (answer_with (task r.row.job r.run.item) c.args.frame c.args.answer)) old.table new.table r.marks))
          (ap (λ (b : BoardView). b.lent) ended.finishes.new_is)
          (λ k need asks. sym (r.asked k) ∙ asks) r.size_is r.slots_are;
    }

pub returns-clause-room : goal.returns-clause-room
returns-clause-room c = λ has.
    let key = c.requires.may.0 in
    let may = c.requires.may.1 in
    let old = c.args.core.now in
    let w = c.args.worker in
    let mid = c.take_back-row.new.core in
    let new = c.close_if_quiet.new.core in
    let r = c.take_back-row.ensures.returns in
    let ended : FinishesOn key old c.args.starved w new c.args.starved = returns-clause-finished c key may in
    record {
      in_journal = closed_room mid new c.close_if_quiet.ensures.kept c.close_if_quiet.ensures.fewer (c.take_back-row.ensures.room has.in_journal);
      for_frames = rooms_back old new w r.run r.row c.args.frame.places has.for_frames r.leaves.ran (inside_of old.running.items w r.run r.leaves.ran) r.here
          (lent_run old w r.run c.args.frame.places r.leaves.ran may.lent)
          (ap (λ rs. rs.items) c.close_if_quiet.ensures.kept.running_is ∙ r.leaves.running_are)
          (rows_close old.table mid.table new.table (marks_rows r.run.row r.run.item (Done (answer_with (task r.row.job r.run.item) c.args.frame c.args.answer)) old.table mid.table r.marks) c.close_if_quiet.ensures.kept.stay)
          (ap (λ (b : BoardView). b.lent) ended.finishes.new_is)
          (λ k need asks. sym (r.asked k) ∙ asks_still mid.table new.table c.close_if_quiet.ensures.kept.stay k need asks)
          (ap (λ (x : FrameRooms). x.size) c.close_if_quiet.ensures.rooms ∙ r.size_is)
          (ap (λ (x : FrameRooms). x.slots.items) c.close_if_quiet.ensures.rooms ∙ r.slots_are);
    }
