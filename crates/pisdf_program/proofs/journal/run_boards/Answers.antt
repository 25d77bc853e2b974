use Rattle.std.proofs.Common.{◌≡◌, ap, subst, ◌∙◌, arith}
use Rattle.std.specs.Arc.{arc_value}
use Rattle.kernel_gate.specs.Value.{lengths}
use Rattle.pisdf_model.specs.Hold.{initial}
use Rattle.pisdf_model.specs.declared.graph.Graphs.{Graphs}
use Rattle.pisdf_program.specs.Journals.{IsDone, ToldTo}
use Rattle.pisdf_program.proofs.Boards.{board_ends, boards_done, boards_go_on, boards_start}
use Rattle.pisdf_program.proofs.journal.run_boards.Goals as goal

pub loop-number-init : goal.loop-number-init
loop-number-init g c =
    let first = c.in-Ok.ensures ∙ ap (λ (x : Graphs). initial x.graphs x.top) c.deref.ensures in
    record {
      reached = boards_start (arc_value c.args.graphs.now) c.args.streams.now.tokens.now c.args.workers c.in-Ok.delays.lists (g.O.Sink.written c.args.out.now) first;
      never_falls = omega arith;
      state = ap lengths first;
    }

pub loop-number-preserved : goal.loop-number-preserved
loop-number-preserved g c =
    let s = c.in-Ok-step_board.ensures.steps in
    record {
      reached = boards_go_on (arc_value c.args.graphs.now) c.args.streams.now.tokens.now c.args.workers c.loop-number.number c.loop-number.delays.lists c.step_board.new.delays.lists
          (g.O.Sink.written c.args.out.now) (g.O.Sink.written c.loop-number.out) (g.O.Sink.written c.step_board.new.out) s.0
          c.loop-number.invariant.reached s.1 s.2;
      never_falls = omega (arith, c.loop-number.invariant.never_falls, c.step_board.ensures.never_falls);
      state = c.step_board.ensures.state;
    }

pub returns-in-Err-clause-ends : goal.returns-in-Err-clause-ends
returns-in-Err-clause-ends g c =
    board_ends (arc_value c.args.graphs.now) c.args.streams.now.tokens.now c.args.workers c.args.iterations c.loop-number.number
    c.loop-number.delays.lists c.step_board.new.delays.lists
    (g.O.Sink.written c.args.out.now) (g.O.Sink.written c.loop-number.out) (g.O.Sink.written c.step_board.new.out)
    (g.O.Sink.faults c.args.out.now) (g.O.Sink.faults c.loop-number.out) (g.O.Sink.faults c.step_board.new.out) c.in-Err.end
    c.requires.sound c.loop-number-test.true c.loop-number.invariant.never_falls c.loop-number.invariant.reached c.in-Err.ensures.steps

pub returns-clause-ends : goal.returns-clause-ends
returns-clause-ends g c =
    let graphs = arc_value c.args.graphs.now in
    let tokens = c.args.streams.now.tokens.now in
    let had = g.O.Sink.written c.args.out.now in
    let has = g.O.Sink.written c.loop-number.out in
    let number : c.loop-number.number ≡ c.args.iterations = omega (arith, c.loop-number-test.false, c.loop-number.auto.number-end) in
    subst (λ n. ToldTo graphs tokens c.args.workers n had has IsDone) number
    (boards_done graphs tokens c.args.workers c.loop-number.number c.loop-number.delays.lists had has c.loop-number.invariant.reached)
