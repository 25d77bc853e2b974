use Rattle.std.proofs.Common.{◌≡◌, ◌*◌, ap, arith, subst, sym, false, true}
use Rattle.std.specs.Arc.{arc_value}
use Rattle.kernel_gate.specs.Value.{lengths}
use Rattle.quiescent_driver.specs.Reached.{Reached}
use Rattle.quiescent_driver.proofs.Groups.{group_done, group_left, one_group_more, room_for}
use Rattle.quiescent_driver.proofs.Runs.{starts}
use Rattle.quiescent_driver.proofs.unfolded.run_groups.Goals as goal

pub loop-group-init : goal.loop-group-init
loop-group-init g c =
    let first = starts (arc_value c.args.graphs.now) c.args.streams.now.tokens.now c.args.delays.now.lists (g.O.Sink.written c.args.out.now) c.requires.begins in
    let none : 0 ≡ 0 * c.args.unfolded.now.times = omega arith in
    record {
      reached = subst (λ k. Reached (arc_value c.args.graphs.now) c.args.streams.now.tokens.now k c.args.delays.now.lists (g.O.Sink.written c.args.out.now) (g.O.Sink.written c.args.out.now)) none first;
      never_falls = omega arith;
      state = ap lengths c.requires.begins;
      levels = c.requires.levels;
    }

pub step_group-requires-clause-numbers : goal.step_group-requires-clause-numbers
step_group-requires-clause-numbers g c =
    let room = room_for c.args.iterations c.args.unfolded.now.times c.loop-group.group (omega (arith, c.loop-group-test.true)) in
    omega (arith, room, c.ranges.iterations)

pub returns-in-Err-clause-ends : goal.returns-in-Err-clause-ends
returns-in-Err-clause-ends g c =
    let room = room_for c.args.iterations c.args.unfolded.now.times c.loop-group.group (omega (arith, c.loop-group-test.true)) in
    c.in-Err.ensures.puts c.args.iterations room (g.O.Sink.written c.args.out.now) (g.O.Sink.faults c.args.out.now) c.loop-group.invariant.reached c.loop-group.invariant.never_falls

pub returns-then-not-put-clause-reached : goal.returns-then-not-put-clause-reached
returns-then-not-put-clause-reached g c =
    let graphs = arc_value c.args.graphs.now in
    let tokens = c.args.streams.now.tokens.now in
    let times = c.args.unfolded.now.times in
    let had = g.O.Sink.written c.args.out.now in
    let has = g.O.Sink.written c.step_group.new.out in
    let room = room_for c.args.iterations times c.loop-group.group (omega (arith, c.loop-group-test.true)) in
    let left : c.in-Ok.put ≡ false = let f = c.if-not-put.true in cc in
    subst (λ k. Reached graphs tokens k c.step_group.new.delays.lists had has) (sym c.iterations_in.ensures.count)
    (group_left graphs tokens c.args.iterations (c.loop-group.group * times) times c.step_group.new.delays.lists had has (g.O.Sink.faults c.args.out.now) (g.O.Sink.faults c.step_group.new.out) c.in-Ok.put left
    (c.in-Ok.ensures.puts c.args.iterations room had (g.O.Sink.faults c.args.out.now) c.loop-group.invariant.reached c.loop-group.invariant.never_falls))

pub loop-group-preserved : goal.loop-group-preserved
loop-group-preserved g c =
    let graphs = arc_value c.args.graphs.now in
    let tokens = c.args.streams.now.tokens.now in
    let times = c.args.unfolded.now.times in
    let had = g.O.Sink.written c.args.out.now in
    let has = g.O.Sink.written c.step_group.new.out in
    let room = room_for c.args.iterations times c.loop-group.group (omega (arith, c.loop-group-test.true)) in
    let put : c.in-Ok.put ≡ true = let f = c.if-not-put.false in cc in
    record {
      reached = subst (λ k. Reached graphs tokens k c.step_group.new.delays.lists had has) (one_group_more times c.loop-group.group)
          (group_done graphs tokens c.args.iterations (c.loop-group.group * times) times c.step_group.new.delays.lists had has (g.O.Sink.faults c.args.out.now) (g.O.Sink.faults c.step_group.new.out) c.in-Ok.put put
          (c.in-Ok.ensures.puts c.args.iterations room had (g.O.Sink.faults c.args.out.now) c.loop-group.invariant.reached c.loop-group.invariant.never_falls));
      never_falls = omega (arith, c.loop-group.invariant.never_falls, c.step_group.ensures.never_falls);
      state = c.in-Ok.ensures.state;
      levels = c.step_group.ensures.levels;
    }
