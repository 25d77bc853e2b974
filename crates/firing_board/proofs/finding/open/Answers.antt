use Rattle.std.proofs.Common.{◌≡◌, ◌∙◌, ℕ, List, [], ◌∷◌, ◌++◌, length, refl, sym, ap, subst, arith}
use Rattle.job_preparing.specs.Handing.{mark_at}
use Rattle.job_rules.specs.Meant.{IsFit}
use Rattle.graph_firing.specs.View.{OpenView, compilation_of}
use Rattle.pisdf_meaning.specs.declared.firing.Firing.{Firing}
use Rattle.pisdf_model.specs.Valid.{AreValid}
use Rattle.pisdf_model.specs.declared.graph.Graphs.{Graphs}
use Rattle.board_journal.specs.View.{JournalView}
use Rattle.firing_board.specs.Table.View.{row_at}
use Rattle.firing_board.specs.declared.table.row.Row.{Row}
use Rattle.firing_board.proofs.Rows.{opens_lasts, opens_rows, spoils_lasts, spoils_rows, the_same}
use Rattle.firing_board.proofs.FrameSteps.{rooms_opened}
use Rattle.firing_board.proofs.Openings.{numbered_so}
use Rattle.firing_board.proofs.finding.open.Goals as goal

pub open_child-requires-clause-valid : goal.open_child-requires-clause-valid
open_child-requires-clause-valid c =
    let suits = c.requires.calls.suits in
    subst (λ (g : Graphs). AreValid g) (sym suits.graphs_are) suits.is_key.valid.valid

pub open_child-requires-clause-offered : goal.open_child-requires-clause-offered
open_child-requires-clause-offered c =
    let calls = c.requires.calls in
    (calls.row, calls.here, ((calls.suits.rows c.args.at.row calls.row calls.here).graphs_are ∙ sym calls.suits.graphs_are, calls.offered))

pub open_child-requires-clause-fit : goal.open_child-requires-clause-fit
open_child-requires-clause-fit c =
    let calls = c.requires.calls in
    (calls.row, calls.here, λ firing t. subst (λ (g : Graphs). IsFit g.graphs firing) (sym (calls.suits.rows c.args.at.row calls.row calls.here).graphs_are) (calls.fit firing t))

pub returns-in_err-child-clause-kept : goal.returns-in_err-child-clause-kept
returns-in_err-child-clause-kept c =
    let calls = c.requires.calls in
    let s = c.in_err-child.ensures.refused in
    let same : s.before ≡ calls.row = the_same (row_at c.args.core.now.table c.args.at.row) s.before calls.row s.here calls.here in
    record {
      running_is = refl;
      entries_are = refl;
      end_is = refl;
      more = omega arith;
      lasts = spoils_lasts c.args.at.row c.args.at.item c.args.core.now.table c.open_child.new.self s (ap (λ (r : Row). mark_at r.job.marks c.args.at.item) same ∙ calls.offered.free);
      rows = spoils_rows c.args.at.row c.args.at.item c.args.core.now.table c.open_child.new.self s;
      lent = c.in_err-child.ensures.lent;
      rooms_are = refl;
      asked = c.in_err-child.ensures.asked;
    }

pub returns-in_err-room_for-clause-kept : goal.returns-in_err-room_for-clause-kept
returns-in_err-room_for-clause-kept c = record {
  running_is = refl;
  entries_are = c.in_err-room_for.ensures.kept.1;
  end_is = refl;
  more = c.in_err-room_for.ensures.kept.2;
  lasts = opens_lasts c.args.at.row c.args.at.item c.in_ok-child.child c.args.core.now.table c.open_child.new.self c.in_ok-child.ensures.opened;
  rows = opens_rows c.args.at.row c.args.at.item c.in_ok-child.child c.args.core.now.table c.open_child.new.self c.in_ok-child.ensures.opened;
  lent = c.in_ok-child.ensures.lent;
  rooms_are = refl;
  asked = c.in_ok-child.ensures.asked;
}

pub returns-in_err-path-clause-kept : goal.returns-in_err-path-clause-kept
returns-in_err-path-clause-kept c = record {
  running_is = refl;
  entries_are = c.in_ok-room_for.ensures.kept.1;
  end_is = refl;
  more = c.in_ok-room_for.ensures.kept.2;
  lasts = opens_lasts c.args.at.row c.args.at.item c.in_ok-child.child c.args.core.now.table c.open_child.new.self c.in_ok-child.ensures.opened;
  rows = opens_rows c.args.at.row c.args.at.item c.in_ok-child.child c.args.core.now.table c.open_child.new.self c.in_ok-child.ensures.opened;
  lent = c.in_ok-child.ensures.lent;
  rooms_are = refl;
  asked = c.in_ok-child.ensures.asked;
}

pub returns-in_err-number-clause-kept : goal.returns-in_err-number-clause-kept
returns-in_err-number-clause-kept c = record {
  running_is = refl;
  entries_are = ap (λ (j : JournalView). j.entries) c.in_err-number.ensures.refused ∙ c.in_ok-room_for.ensures.kept.1;
  end_is = refl;
  more = let same = ap (λ (j : JournalView). j.room) c.in_err-number.ensures.refused in let more = c.in_ok-room_for.ensures.kept.2 in omega (arith, same, more);
  lasts = opens_lasts c.args.at.row c.args.at.item c.in_ok-child.child c.args.core.now.table c.open_child.new.self c.in_ok-child.ensures.opened;
  rows = opens_rows c.args.at.row c.args.at.item c.in_ok-child.child c.args.core.now.table c.open_child.new.self c.in_ok-child.ensures.opened;
  lent = c.in_ok-child.ensures.lent;
  rooms_are = refl;
  asked = c.in_ok-child.ensures.asked;
}

pub returns-in_err-number_row-clause-kept : goal.returns-in_err-number_row-clause-kept
returns-in_err-number_row-clause-kept c = record {
  running_is = refl;
  entries_are = ap (λ (j : JournalView). j.entries) c.in_ok-number.ensures.added ∙ c.in_ok-room_for.ensures.kept.1;
  end_is = refl;
  more = let same = ap (λ (j : JournalView). j.room) c.in_ok-number.ensures.added in let more = c.in_ok-room_for.ensures.kept.2 in omega (arith, same, more);
  lasts = opens_lasts c.args.at.row c.args.at.item c.in_ok-child.child c.args.core.now.table c.open_child.new.self c.in_ok-child.ensures.opened;
  rows = opens_rows c.args.at.row c.args.at.item c.in_ok-child.child c.args.core.now.table c.open_child.new.self c.in_ok-child.ensures.opened;
  lent = c.in_ok-child.ensures.lent;
  rooms_are = refl;
  asked = c.in_ok-child.ensures.asked;
}

pub returns-clause-opened : goal.returns-clause-opened
returns-clause-opened c =
    let o = c.in_ok-child.ensures.opened in
    let old = c.args.core.now in
    let paths = c.in_ok-room_for.ensures.kept.0 in
    record {
      opens = o;
      numbered = numbered_so old.table c.open_child.new.self c.args.at.row c.args.at.item c.in_ok-child.child o old.numbers.items c.number_row.new.numbers.items old.journal.paths c.add_path.new.self.paths c.in_ok-number.number c.in_ok-path.path
          (c.in_ok-number.ensures.number ∙ ap (λ (ps : List (List ℕ)). length ps) paths)
          (ap (λ (j : JournalView). j.paths) c.in_ok-number.ensures.added ∙ ap (λ (ps : List (List ℕ)). ps ++ c.in_ok-path.path ∷ []) paths)
          (c.in_ok-path.ensures ∙ (ap (λ (f : Firing). f.path) c.firing.ensures ∙ (ap (λ (j : OpenView). j.firing.path) c.job-2.ensures.2 ∙ ap (λ (r : Row). r.job.firing.path) (the_same (row_at c.open_child.new.self c.in_ok-child.child) c.job-2.ensures.0 o.child c.job-2.ensures.1 o.added))))
          c.in_ok-number_row.ensures.here
          c.in_ok-number_row.ensures.others;
    }

pub returns-clause-kept : goal.returns-clause-kept
returns-clause-kept c = record {
  running_is = refl;
  entries_are = ap (λ (j : JournalView). j.entries) c.in_ok-number.ensures.added ∙ c.in_ok-room_for.ensures.kept.1;
  end_is = refl;
  more = let same = ap (λ (j : JournalView). j.room) c.in_ok-number.ensures.added in let more = c.in_ok-room_for.ensures.kept.2 in omega (arith, same, more);
  lasts = opens_lasts c.args.at.row c.args.at.item c.in_ok-child.child c.args.core.now.table c.open_child.new.self c.in_ok-child.ensures.opened;
  rows = opens_rows c.args.at.row c.args.at.item c.in_ok-child.child c.args.core.now.table c.open_child.new.self c.in_ok-child.ensures.opened;
  lent = c.in_ok-child.ensures.lent;
  rooms_are = refl;
  asked = c.in_ok-child.ensures.asked;
}

pub returns-clause-room : goal.returns-clause-room
returns-clause-room c = λ had.
    let has = had.in_journal in
    let o = c.in_ok-child.ensures.opened in
    let same : compilation_of c.job.result.now ≡ compilation_of o.child.job =
    ap compilation_of (c.job.ensures.2 ∙ ap (λ (r : Row). r.job) (the_same (row_at c.open_child.new.self c.in_ok-child.child) c.job.ensures.0 o.child c.job.ensures.1 o.added)) in
    let many = o.many in
    let taken = c.in_ok-room_for.ensures.taken in
    let room = ap (λ (j : JournalView). j.room) c.in_ok-number.ensures.added in
    record { in_journal = omega (arith, has, same, many, taken, room); for_frames = rooms_opened c.args.core.now _ (returns-clause-kept c) had.for_frames }
