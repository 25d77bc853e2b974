use Rattle.std.proofs.Common.{◌≡◌, ◌∷◌, Some, ap, subst, arith}
use Rattle.std.proofs.lemmas.Result.{on_ok_weaker}
use Rattle.nested_jobs.specs.Marks.{Open, put}
use Rattle.nested_jobs.specs.Rules.{Call, Place, Work}
use Rattle.graph_firing.specs.View.{task}
use Rattle.job_rules.specs.Meant.{rank}
use Rattle.firing_board.specs.Table.View.{row_at}
use Rattle.firing_board.specs.declared.table.row.Row.{Row}
use Rattle.firing_board.specs.Opening.{OpensWay, Reaches}
use Rattle.firing_board.specs.declared.run.Run.{Run}
use Rattle.firing_board.proofs.Rows.{the_same}
use Rattle.firing_board.proofs.Openings.{call_reached, child_calls, if_ok, keeps_on, rank_falls, work_reached}
use Rattle.firing_board.proofs.finding.+open_way.Invariants.{rank_of}
use Rattle.firing_board.proofs.finding.+open_way.Goals as goal

pub open_way-requires : goal.open_way-requires
open_way-requires t c =
    let old = c.args.core.now.table in
    let at = c.args.at in
    let child = c.in_ok-child.child in
    let mid = c.open.new.core.table in
    let o = c.in_ok-child.ensures.opened.opens in
    let key = c.requires.key in
    let m = c.requires.marks in
    let calls = c.requires.calls in
    let b = c.in-Call.ensures in
    let is = subst (λ (r : Row). task r.job 0 ≡ Some (Call b.2.0)) (the_same (row_at mid child) b.0 o.child b.1 o.added) b.2.1 in
    let one = c.boards_keep.ensures.one_more_opened in
    let less = rank_falls one c.tables_suit.ensures.opens c.tables_suit.ensures.opening c.calls_are_fit.ensures.first key m old at calls child mid o (c.rules_are_lawful.ensures key.graphs calls.suits.is_key.valid.valid) in
    let here : rank_of mid (row_at mid child) ≡ rank mid.graphs.graphs o.child.job.firing = ap (rank_of mid) o.added in
    let there : rank_of old (row_at old at.row) ≡ rank old.graphs.graphs o.upper.job.firing = ap (rank_of old) o.here in (
      omega (arith, c.decreases, less, here, there),
      record {
        key = key;
        marks = put m (at.item ∷ o.upper.place) (Open o.firing);
        calls = child_calls one c.tables_suit.ensures.opens c.tables_suit.ensures.opening c.calls_are_fit.ensures.first key m old at calls child mid o b.2.0 is;
      },
    )

pub returns-in-Work-clause-opened : goal.returns-in-Work-clause-opened
returns-in-Work-clause-opened t c =
    let old = c.args.core.now.table in
    let at = c.args.at in
    let child = c.in_ok-child.child in
    let mid = c.open.new.core.table in
    let o = c.in_ok-child.ensures.opened.opens in
    let b = c.in-Work.ensures in
    let is = subst (λ (r : Row). task r.job 0 ≡ Some (Work b.2.0)) (the_same (row_at mid child) b.0 o.child b.1 o.added) b.2.1 in
    record {
      reaches = λ key m calls. work_reached c.boards_keep.ensures.one_more_opened c.tables_suit.ensures.opens c.tables_suit.ensures.opening c.calls_are_fit.ensures.first key m old at calls child mid o b.2.0 is;
      numbered = c.in_ok-child.ensures.opened.numbered;
    }

pub returns-in-Call-clause-opened : goal.returns-in-Call-clause-opened
returns-in-Call-clause-opened t c =
    let old = c.args.core.now.table in
    let at = c.args.at in
    let child = c.in_ok-child.child in
    let mid = c.open.new.core.table in
    let o = c.in_ok-child.ensures.opened.opens in
    let b = c.in-Call.ensures in
    let is = subst (λ (r : Row). task r.job 0 ≡ Some (Call b.2.0)) (the_same (row_at mid child) b.0 o.child b.1 o.added) b.2.1 in
    let one = c.boards_keep.ensures.one_more_opened in
    let opens = c.tables_suit.ensures.opens in
    let suit = c.tables_suit.ensures.opening in
    let fit = c.calls_are_fit.ensures.first in
    if_ok c.open_way.result
    (OpensWay c.open.new.core record { row = child; item = 0 } c.open_way.new.core)
    (OpensWay c.args.core.now at c.open_way.new.core)
    (λ (run : Run) (w : OpensWay c.open.new.core record { row = child; item = 0 } c.open_way.new.core run). record {
      reaches = λ key m calls.
          let marks = put m (at.item ∷ o.upper.place) (Open o.firing) in
          let inner = child_calls one opens suit fit key m old at calls child mid o b.2.0 is in
          let place : inner.row.place ≡ o.child.place = ap (λ (r : Row). r.place) (the_same (row_at mid child) inner.row o.child inner.here o.added) in
          call_reached one opens suit fit key m old at calls child mid o c.open_way.new.core.table run
          (subst (λ (p : Place). Reaches key marks mid record { row = child; item = 0 } p c.open_way.new.core.table run) place (w.reaches key marks inner));
      numbered = λ was. w.numbered (c.in_ok-child.ensures.opened.numbered was);
    })
    c.open_way.ensures.opened

pub returns-in-Call-clause-kept : goal.returns-in-Call-clause-kept
returns-in-Call-clause-kept t c = keeps_on c.args.core.now c.open.new.core c.open_way.new.core c.in_ok-child.ensures.kept c.open_way.ensures.kept

pub returns-in-Call-clause-room : goal.returns-in-Call-clause-room
returns-in-Call-clause-room t c = on_ok_weaker c.open_way.result (λ room has. room (c.in_ok-child.ensures.room has)) c.open_way.ensures.room
