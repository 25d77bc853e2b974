use Rattle.std.proofs.Common.{◌≡◌, ◌∷◌, [], ◌++◌, Bool, not, false, drop, ap, ◌∙◌, subst}
use Rattle.board_rules.specs.Legal.{state_after}
use Rattle.journal_audit.specs.Reading.{first_line}
use Rattle.journal_audit.specs.Replays.{Makes}
use Rattle.journal_audit.specs.Stepping.{StepsTo}
use Rattle.journal_audit.proofs.ReadBoards.{more_read, none_of, nothing_read, open_so, rest_is, stops_ended}
use Rattle.journal_audit.proofs.board.read_lines.Goals as goal

pub returns-then-not-branch : goal.returns-then-not-branch
returns-then-not-branch g c = λ key r signed.
    let graphs = c.args.graphs.now in
    let n = c.args.number in
    let text = c.args.text.now in
    let t = c.loop-alloc.invariant key r signed in
    let m = (state_after key t.taken).marks in
    let line = c.first_line-line.result.now in
    let line_is : line ≡ first_line (drop c.loop-alloc.bytes text) = c.first_line-line.ensures ∙ ap first_line (rest_is c.loop-alloc.bytes text) in
    let none = none_of c.loop-alloc.replay.end (not c.is_none.result) c.is_none.ensures (ap not c.loop-alloc-test.true) in
    let refuses : StepsTo graphs key n t.taken line false c.step.new.replay =
    subst (λ (b : Bool). StepsTo graphs key n t.taken line b c.step.new.replay) c.if-not-branch.true (c.in_ok-step.ensures key t.taken t.replays signed) in
    record {
      taken = t.taken;
      legal = t.replays.keeps.kept.legal;
      part = t.read;
      stops = (open_so m c.loop-alloc.replay.end none t.replays.end_is, λ e entry legal told is. refuses e entry legal told (line_is ∙ is));
    }

pub loop-alloc-init : goal.loop-alloc-init
loop-alloc-init g c = λ key r signed. record { taken = []; read = nothing_read c.args.graphs.now key c.args.number c.args.text.now; replays = r }

pub loop-alloc-preserved : goal.loop-alloc-preserved
loop-alloc-preserved g c = λ key r signed.
    let graphs = c.args.graphs.now in
    let n = c.args.number in
    let text = c.args.text.now in
    let t = c.loop-alloc.invariant key r signed in
    let line = c.first_line-line.result.now in
    let line_is : line ≡ first_line (drop c.loop-alloc.bytes text) = c.first_line-line.ensures ∙ ap first_line (rest_is c.loop-alloc.bytes text) in
    let new = c.step.new.replay in
    let made : Makes graphs key n t.taken line new = subst (λ (b : Bool). StepsTo graphs key n t.taken line b new) c.if-not-branch.false (c.in_ok-step.ensures key t.taken t.replays signed) in
    record { taken = t.taken ++ made.step ∷ []; read = more_read graphs key n text c.loop-alloc.bytes c.loop-alloc.lines t.taken t.read line line_is new made; replays = made.replays }

pub returns : goal.returns
returns g c = λ key r signed.
    let t = c.loop-alloc.invariant key r signed in
    record {
      taken = t.taken;
      legal = t.replays.keeps.kept.legal;
      part = t.read;
      stops = stops_ended key c.args.number t.taken (drop c.loop-alloc.bytes c.args.text.now) c.loop-alloc.replay.end (c.is_none.ensures ∙ ap not c.loop-alloc-test.false) t.replays.end_is;
    }
