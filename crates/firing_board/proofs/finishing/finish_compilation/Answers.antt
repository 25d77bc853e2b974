use Rattle.std.proofs.Common.{◌≡◌, ◌∙◌, Bool, true, false, length, get_or, None, refl, sym, ap, subst}
use Rattle.board_rules.specs.Legal.{state_after}
use Rattle.nested_jobs.specs.Marks.{Done}
use Rattle.graph_firing.specs.Calls.{compile_answer}
use Rattle.graph_firing.specs.View.{compilation_of}
use Rattle.firing_board.specs.FrameRooms.{FitsNeed}
use Rattle.firing_board.specs.Table.View.{lent_in, room_in}
use Rattle.firing_board.specs.View.{BoardView}
use Rattle.firing_board.specs.declared.frame_rooms.FrameRooms.{FrameRooms}
use Rattle.firing_board.specs.declared.run.Run.{Run}
use Rattle.firing_board.specs.Table.Closing.{IsClosingFrom}
use Rattle.firing_board.specs.Closing.{ClosesOn}
use Rattle.firing_board.specs.Finishes.{MayEnd}
use Rattle.firing_board.specs.OnCore.{FinishesOn, MayLeave}
use Rattle.firing_board.proofs.Abandoned.{abandons, comes_back, compilation, may_come, unlent}
use Rattle.firing_board.proofs.Framed.{FinishLaws, by_result, closes_finishes, closing_from, has_room, runs_at, wanted_finishes}
use Rattle.firing_board.proofs.Leaving.{mine}
use Rattle.firing_board.proofs.Openings.{if_ok}
use Rattle.firing_board.proofs.FrameSteps.{asks_or, asks_still, on_ok_by, rooms_fit}
use Rattle.firing_board.proofs.RoomSteps.{closed_room}
use Rattle.firing_board.proofs.Rows.{marks_rows, rows_close, the_same}
use Rattle.firing_board.proofs.Runners.{inside_of}
use Rattle.firing_board.proofs.finishing.finish_compilation.Goals as goal

pub leave-run-requires-clause-runs : goal.leave-run-requires-clause-runs
leave-run-requires-clause-runs c =
    let old = c.args.core.now in
    let w = c.args.worker in
    let key = c.requires.0 in
    let may = c.requires.1 in
    let laws : FinishLaws key = record {
      held = c.boards_keep.ensures.held;
      begin = c.boards_keep.ensures.finish;
      entered = c.journals_grow.ensures.finish;
      one = c.entries_tell_steps.ensures.answers;
      tell = c.entries_tell_steps.ensures.steps;
      suit = c.tables_suit.ensures.finish;
      marks = c.tables_suit.ensures.marks;
      lawful = c.rules_are_lawful.ensures key.graphs may.keeps.is_key.valid.valid;
    } in
    let i = compilation key c.args.end may.runs.work may.runs.so in
    let runs = runs_at laws.tell key old c.args.starved may.keeps w (MayEnd key c.args.end) may.runs in
    let s = state_after key may.keeps.taken in
    let a = mine laws.held key laws.lawful c.args.starved old may.keeps w may.runs.is_worker may.runs.work runs in
    let none = unlent key s old w may.runs.work a may.lent in
    (a.run, a.runs)

pub leave-run-requires-clause-room : goal.leave-run-requires-clause-room
leave-run-requires-clause-room c =
    let old = c.args.core.now in
    let w = c.args.worker in
    let key = c.requires.0 in
    let may = c.requires.1 in
    let laws : FinishLaws key = record {
      held = c.boards_keep.ensures.held;
      begin = c.boards_keep.ensures.finish;
      entered = c.journals_grow.ensures.finish;
      one = c.entries_tell_steps.ensures.answers;
      tell = c.entries_tell_steps.ensures.steps;
      suit = c.tables_suit.ensures.finish;
      marks = c.tables_suit.ensures.marks;
      lawful = c.rules_are_lawful.ensures key.graphs may.keeps.is_key.valid.valid;
    } in
    let i = compilation key c.args.end may.runs.work may.runs.so in
    let runs = runs_at laws.tell key old c.args.starved may.keeps w (MayEnd key c.args.end) may.runs in
    let s = state_after key may.keeps.taken in
    let a = mine laws.held key laws.lawful c.args.starved old may.keeps w may.runs.is_worker may.runs.work runs in
    let none = unlent key s old w may.runs.work a may.lent in
    has_room key s old c.args.starved may.keeps w may.runs.work a

pub returns-then-starved-clause-finished : goal.returns-then-starved-clause-finished
returns-then-starved-clause-finished c = λ key was.
    let old = c.args.core.now in
    let w = c.args.worker in
    let may = was in
    let laws : FinishLaws key = record {
      held = c.boards_keep.ensures.held;
      begin = c.boards_keep.ensures.finish;
      entered = c.journals_grow.ensures.finish;
      one = c.entries_tell_steps.ensures.answers;
      tell = c.entries_tell_steps.ensures.steps;
      suit = c.tables_suit.ensures.finish;
      marks = c.tables_suit.ensures.marks;
      lawful = c.rules_are_lawful.ensures key.graphs may.keeps.is_key.valid.valid;
    } in
    let i = compilation key c.args.end may.runs.work may.runs.so in
    let runs = runs_at laws.tell key old c.args.starved may.keeps w (MayEnd key c.args.end) may.runs in
    let s = state_after key may.keeps.taken in
    let a = mine laws.held key laws.lawful c.args.starved old may.keeps w may.runs.is_worker may.runs.work runs in
    let none = unlent key s old w may.runs.work a may.lent in
    abandons key laws old c.args.starved may.keeps w may.runs.is_worker may.runs.work runs i.answer i.answered c.leave-run.new.core c.leave-run.ensures.1 c.leave-run.ensures.0.running_are c.leave-run.ensures.0.journal_is none

pub take_compilation-requires-clause-item : goal.take_compilation-requires-clause-item
take_compilation-requires-clause-item c =
    let old = c.args.core.now in
    let w = c.args.worker in
    let key = c.requires.0 in
    let may = subst (λ (b : Bool). MayLeave key old b w (MayEnd key c.args.end) None) c.if-starved.false c.requires.1 in
    let laws : FinishLaws key = record {
      held = c.boards_keep.ensures.held;
      begin = c.boards_keep.ensures.finish;
      entered = c.journals_grow.ensures.finish;
      one = c.entries_tell_steps.ensures.answers;
      tell = c.entries_tell_steps.ensures.steps;
      suit = c.tables_suit.ensures.finish;
      marks = c.tables_suit.ensures.marks;
      lawful = c.rules_are_lawful.ensures key.graphs may.keeps.is_key.valid.valid;
    } in
    let i = compilation key c.args.end may.runs.work may.runs.so in
    let runs = runs_at laws.tell key old false may.keeps w (MayEnd key c.args.end) may.runs in
    let s = state_after key may.keeps.taken in
    let a = mine laws.held key laws.lawful false old may.keeps w may.runs.is_worker may.runs.work runs in
    let none = unlent key s old w may.runs.work a may.lent in
    may_come key s old w may.runs.work a c.args.end i

pub take_compilation-requires-clause-room : goal.take_compilation-requires-clause-room
take_compilation-requires-clause-room c =
    let old = c.args.core.now in
    let w = c.args.worker in
    let key = c.requires.0 in
    let may = subst (λ (b : Bool). MayLeave key old b w (MayEnd key c.args.end) None) c.if-starved.false c.requires.1 in
    let laws : FinishLaws key = record {
      held = c.boards_keep.ensures.held;
      begin = c.boards_keep.ensures.finish;
      entered = c.journals_grow.ensures.finish;
      one = c.entries_tell_steps.ensures.answers;
      tell = c.entries_tell_steps.ensures.steps;
      suit = c.tables_suit.ensures.finish;
      marks = c.tables_suit.ensures.marks;
      lawful = c.rules_are_lawful.ensures key.graphs may.keeps.is_key.valid.valid;
    } in
    let i = compilation key c.args.end may.runs.work may.runs.so in
    let runs = runs_at laws.tell key old false may.keeps w (MayEnd key c.args.end) may.runs in
    let s = state_after key may.keeps.taken in
    let a = mine laws.held key laws.lawful false old may.keeps w may.runs.is_worker may.runs.work runs in
    let none = unlent key s old w may.runs.work a may.lent in
    has_room key s old false may.keeps w may.runs.work a

pub settle-requires : goal.settle-requires
settle-requires c =
    let old = c.args.core.now in
    let w = c.args.worker in
    let key = c.requires.0 in
    let may = subst (λ (b : Bool). MayLeave key old b w (MayEnd key c.args.end) None) c.if-starved.false c.requires.1 in
    let laws : FinishLaws key = record {
      held = c.boards_keep.ensures.held;
      begin = c.boards_keep.ensures.finish;
      entered = c.journals_grow.ensures.finish;
      one = c.entries_tell_steps.ensures.answers;
      tell = c.entries_tell_steps.ensures.steps;
      suit = c.tables_suit.ensures.finish;
      marks = c.tables_suit.ensures.marks;
      lawful = c.rules_are_lawful.ensures key.graphs may.keeps.is_key.valid.valid;
    } in
    let i = compilation key c.args.end may.runs.work may.runs.so in
    let runs = runs_at laws.tell key old false may.keeps w (MayEnd key c.args.end) may.runs in
    let s = state_after key may.keeps.taken in
    let a = mine laws.held key laws.lawful false old may.keeps w may.runs.is_worker may.runs.work runs in
    let none = unlent key s old w may.runs.work a may.lent in
    let r = c.in-Ok.ensures.compiled in
    let b = comes_back key s old w may.runs.work a c.args.end i c.take_compilation.new.core c.in-Ok.row none r in
    subst (λ k. IsClosingFrom c.take_compilation.new.core.table k) (sym b.back.row_is)
    (closing_from key laws old may.keeps w may.runs.is_worker may.runs.work runs b.answer b.answered c.take_compilation.new.core b.back.marks b.back.lends r.leaves.running_are r.leaves.journal_is)

pub returns-in-Ok-clause-finished : goal.returns-in-Ok-clause-finished
returns-in-Ok-clause-finished c = λ key was.
    let old = c.args.core.now in
    let w = c.args.worker in
    let may = subst (λ (b : Bool). MayLeave key old b w (MayEnd key c.args.end) None) c.if-starved.false was in
    let laws : FinishLaws key = record {
      held = c.boards_keep.ensures.held;
      begin = c.boards_keep.ensures.finish;
      entered = c.journals_grow.ensures.finish;
      one = c.entries_tell_steps.ensures.answers;
      tell = c.entries_tell_steps.ensures.steps;
      suit = c.tables_suit.ensures.finish;
      marks = c.tables_suit.ensures.marks;
      lawful = c.rules_are_lawful.ensures key.graphs may.keeps.is_key.valid.valid;
    } in
    let i = compilation key c.args.end may.runs.work may.runs.so in
    let runs = runs_at laws.tell key old false may.keeps w (MayEnd key c.args.end) may.runs in
    let s = state_after key may.keeps.taken in
    let a = mine laws.held key laws.lawful false old may.keeps w may.runs.is_worker may.runs.work runs in
    let none = unlent key s old w may.runs.work a may.lent in
    let mid = c.take_compilation.new.core in
    let new = c.settle.new.core in
    let r = c.in-Ok.ensures.compiled in
    let b = comes_back key s old w may.runs.work a c.args.end i mid c.in-Ok.row none r in
    let ok = if_ok c.settle.result (λ done. ClosesOn mid c.in-Ok.row new) (λ done. FinishesOn key old false w new false)
    (λ done closes. closes_finishes key laws old may.keeps w may.runs.is_worker may.runs.work runs b.answer b.answered mid b.back.marks b.back.lends r.leaves.running_are r.leaves.journal_is new c.settle.ensures.kept r.leaves.numbers_are (subst (λ k. ClosesOn mid k new) b.back.row_is closes))
    c.settle.ensures.closed in
    let err = wanted_finishes key laws old false may.keeps w may.runs.is_worker may.runs.work runs b.answer b.answered mid b.back.marks b.back.lends r.leaves.running_are r.leaves.journal_is new c.settle.ensures.kept refl in
    let either = by_result (λ after. FinishesOn key old false w new after) c.settle.result ok err in
    subst (λ (x : Bool). FinishesOn key old x w new c.is_err.result) (sym c.if-starved.false)
    (subst (λ after. FinishesOn key old false w new after) (sym c.is_err.ensures.value) either)

pub returns-in-Err-clause-finished : goal.returns-in-Err-clause-finished
returns-in-Err-clause-finished c = λ key was.
    let old = c.args.core.now in
    let w = c.args.worker in
    let may = subst (λ (b : Bool). MayLeave key old b w (MayEnd key c.args.end) None) c.if-starved.false was in
    let laws : FinishLaws key = record {
      held = c.boards_keep.ensures.held;
      begin = c.boards_keep.ensures.finish;
      entered = c.journals_grow.ensures.finish;
      one = c.entries_tell_steps.ensures.answers;
      tell = c.entries_tell_steps.ensures.steps;
      suit = c.tables_suit.ensures.finish;
      marks = c.tables_suit.ensures.marks;
      lawful = c.rules_are_lawful.ensures key.graphs may.keeps.is_key.valid.valid;
    } in
    let i = compilation key c.args.end may.runs.work may.runs.so in
    let runs = runs_at laws.tell key old false may.keeps w (MayEnd key c.args.end) may.runs in
    let s = state_after key may.keeps.taken in
    let a = mine laws.held key laws.lawful false old may.keeps w may.runs.is_worker may.runs.work runs in
    let none = unlent key s old w may.runs.work a may.lent in
    let r = c.in-Err.ensures.refused in
    subst (λ (x : Bool). FinishesOn key old x w c.take_compilation.new.core true) (sym c.if-starved.false)
    (abandons key laws old false may.keeps w may.runs.is_worker may.runs.work runs i.answer i.answered c.take_compilation.new.core r.table_is r.leaves.running_are r.leaves.journal_is none)

pub returns-then-starved-clause-room : goal.returns-then-starved-clause-room
returns-then-starved-clause-room c = λ live has. absurd (cc)

pub returns-in-Ok-clause-room : goal.returns-in-Ok-clause-room
returns-in-Ok-clause-room c = λ live has.
    let old = c.args.core.now in
    let w = c.args.worker in
    let key = c.requires.0 in
    let may = subst (λ (b : Bool). MayLeave key old b w (MayEnd key c.args.end) None) c.if-starved.false c.requires.1 in
    let runs = runs_at c.entries_tell_steps.ensures.steps key old false may.keeps w (MayEnd key c.args.end) may.runs in
    let s = state_after key may.keeps.taken in
    let a = mine c.boards_keep.ensures.held key (c.rules_are_lawful.ensures key.graphs may.keeps.is_key.valid.valid) false old may.keeps w may.runs.is_worker may.runs.work runs in
    let none = unlent key s old w may.runs.work a may.lent in
    let mid = c.take_compilation.new.core in
    let new = c.settle.new.core in
    let r = c.in-Ok.ensures.compiled in
    let same_run : r.run ≡ a.run = the_same (get_or old.running.items w None) r.run a.run r.leaves.ran a.runs in
    let ended : FinishesOn key old c.args.starved w new c.is_err.result = returns-in-Ok-clause-finished c key c.requires.1 in
    let fits = on_ok_by c.settle.result (FitsNeed (room_in mid.table c.in-Ok.row) mid.rooms new.rooms) (sym c.is_err.ensures.value ∙ live) c.settle.ensures.fits in
    record {
      in_journal = closed_room mid new c.settle.ensures.kept c.settle.ensures.fewer (c.in-Ok.ensures.room has.in_journal);
      for_frames = rooms_fit old new w r.run has.for_frames r.leaves.ran (inside_of old.running.items w r.run r.leaves.ran)
          (ap (λ (x : Run). lent_in old.table x.row x.item) same_run ∙ none)
          (ap (λ rs. rs.items) c.settle.ensures.kept.running_is ∙ r.leaves.running_are)
          (rows_close old.table mid.table new.table (marks_rows r.run.row (compilation_of r.row.job) (Done r.finishes.answer) old.table mid.table r.finishes.marks) c.settle.ensures.kept.stay)
          (ap (λ (b : BoardView). b.lent) ended.finishes.new_is)
          (c.settle.ensures.many ∙ ap (λ (x : FrameRooms). length x.slots.items) c.take_compilation.ensures.rooms)
          (room_in mid.table c.in-Ok.row)
          (subst (λ (x : FrameRooms). FitsNeed (room_in mid.table c.in-Ok.row) x new.rooms) c.take_compilation.ensures.rooms fits)
          (λ k asked is. asks_or r.run.row (compilation_of r.row.job) (Done r.finishes.answer) old.table mid.table r.finishes.marks c.in-Ok.row r.row_is k asked (asks_still mid.table new.table c.settle.ensures.kept.stay k asked is));
    }

pub returns-in-Err-clause-room : goal.returns-in-Err-clause-room
returns-in-Err-clause-room c = λ live has. absurd (cc)

pub returns-in-Ok-clause-memory : goal.returns-in-Ok-clause-memory
returns-in-Ok-clause-memory c = λ is.
    let f = c.in-Ok.ensures.compiled.finishes in
    let none = ap (compile_answer c.in-Ok.ensures.compiled.row.job.firing) is in
    let some = f.answer_is in
    absurd (cc)
