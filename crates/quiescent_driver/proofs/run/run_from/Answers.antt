use Rattle.std.proofs.Common.{◌≡◌, ap, subst, ◌∙◌, length, map, arith}
use Rattle.std.specs.Arc.{arc_value}
use Rattle.quiescent_driver.specs.Reached.{Reached}
use Rattle.quiescent_driver.specs.Streams.{rest_of}
use Rattle.quiescent_driver.proofs.Runs.{goes_on, ends_at, finished, starved_here}
use Rattle.quiescent_driver.proofs.run.run_from.Goals as goal

pub loop-number-init : goal.loop-number-init
loop-number-init g c =
    record {
      reached = λ had r. r;
      never_falls = omega arith;
      state = c.requires.state;
      levels = c.requires.levels;
    }

pub loop-number-preserved : goal.loop-number-preserved
loop-number-preserved g c =
    let s = c.in-Ok.ensures.steps in
    record {
      reached = λ had r. goes_on (arc_value c.args.graphs.now) c.args.streams.now.tokens.now c.loop-number.number c.loop-number.delays.lists c.step.new.delays.lists
          had (g.O.Sink.written c.loop-number.out) (g.O.Sink.written c.step.new.out) s.0
          (c.loop-number.invariant.reached had r) s.1 s.2;
      never_falls = omega (arith, c.loop-number.invariant.never_falls, c.step.ensures.never_falls);
      state = c.in-Ok.ensures.state;
      levels = c.step.ensures.levels;
    }

pub returns-in-Err-clause-ends : goal.returns-in-Err-clause-ends
returns-in-Err-clause-ends g c = λ had first r le.
    ends_at (arc_value c.args.graphs.now) c.args.streams.now.tokens.now c.args.iterations c.loop-number.number c.loop-number.delays.lists
    had (g.O.Sink.written c.loop-number.out) (g.O.Sink.written c.step.new.out)
    first (g.O.Sink.faults c.loop-number.out) (g.O.Sink.faults c.step.new.out) c.in-Err.end
    c.loop-number-test.true (omega (arith, le, c.loop-number.invariant.never_falls)) (c.loop-number.invariant.reached had r) c.in-Err.ensures.steps

pub returns-in-Ok-left-clause-ends : goal.returns-in-Ok-left-clause-ends
returns-in-Ok-left-clause-ends g c = λ had first r le.
    let graphs = arc_value c.args.graphs.now in
    let tokens = c.args.streams.now.tokens.now in
    let number : c.loop-number.number ≡ c.args.iterations = omega (arith, c.loop-number-test.false, c.loop-number.auto.number-end) in
    let left = c.in-Ok-left.ensures ∙ ap (λ n. map (λ t. length t) (rest_of c.args.iterations n tokens)) c.requires.needs in
    finished graphs tokens c.args.iterations c.loop-number.delays.lists had (g.O.Sink.written c.loop-number.out) c.in-Ok-left.left
    (subst (λ k. Reached graphs tokens k c.loop-number.delays.lists had (g.O.Sink.written c.loop-number.out)) number (c.loop-number.invariant.reached had r)) left

pub returns-in-Err-left-clause-ends : goal.returns-in-Err-left-clause-ends
returns-in-Err-left-clause-ends g c = λ had first r le.
    let number : c.loop-number.number ≡ c.args.iterations = omega (arith, c.loop-number-test.false, c.loop-number.auto.number-end) in
    starved_here (arc_value c.args.graphs.now) c.args.streams.now.tokens.now c.args.iterations c.loop-number.number c.loop-number.delays.lists
    had (g.O.Sink.written c.loop-number.out) first (g.O.Sink.faults c.loop-number.out) (omega (arith, number)) (c.loop-number.invariant.reached had r)
