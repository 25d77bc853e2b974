use Rattle.std.proofs.Common.{◌≡◌, ◌<◌, length, arith}
use Rattle.std.specs.Arc.{arc_value}
use Rattle.quiescent_driver.proofs.Groups.{turns_done, turns_end, turns_on, turns_start}
use Rattle.quiescent_driver.proofs.unfolded.put_in_turn.Goals as goal

pub loop-place-init : goal.loop-place-init
loop-place-init g c =
    record {
      turns = λ streams state left had h r. turns_start (arc_value c.args.graphs.now) streams c.args.number c.args.iterations.now state left had (g.O.Sink.written c.args.out.now) h r;
      never_falls = omega arith;
    }

pub loop-place-preserved : goal.loop-place-preserved
loop-place-preserved g c =
    let loop = c.loop-place in
    let lt : loop.place < length c.args.iterations.now = omega (arith, c.loop-place-test.true) in
    record {
      turns = λ streams state left had h r.
          turns_on (arc_value c.args.graphs.now) streams c.args.number loop.place c.args.iterations.now left had (g.O.Sink.written loop.out) (g.O.Sink.written c.put_iteration.new.out)
          (loop.invariant.turns streams state left had h r) c.index-iterations-place.result lt c.index-iterations-place.is c.in-Ok.ensures.puts;
      never_falls = omega (arith, loop.invariant.never_falls, c.put_iteration.ensures.never_falls);
    }

pub returns-in-Err-clause-puts : goal.returns-in-Err-clause-puts
returns-in-Err-clause-puts g c = λ streams state left had n first h r older le.
    let loop = c.loop-place in
    let lt : loop.place < length c.args.iterations.now = omega (arith, c.loop-place-test.true) in
    turns_end (arc_value c.args.graphs.now) streams c.args.number loop.place c.args.iterations.now left had (g.O.Sink.written loop.out) (g.O.Sink.written c.put_iteration.new.out)
    (loop.invariant.turns streams state left had h r) c.index-iterations-place.result lt c.index-iterations-place.is
    n first (g.O.Sink.faults loop.out) (g.O.Sink.faults c.put_iteration.new.out) c.in-Err.end le (omega (arith, older, loop.invariant.never_falls)) c.in-Err.ensures.puts

pub returns-clause-puts : goal.returns-clause-puts
returns-clause-puts g c = λ streams state left had n first h r older le.
    let loop = c.loop-place in
    let over : loop.place ≡ length c.args.iterations.now = omega (arith, c.loop-place-test.false, loop.auto.place-end) in
    turns_done (arc_value c.args.graphs.now) streams c.args.number loop.place c.args.iterations.now left had (g.O.Sink.written loop.out) (loop.invariant.turns streams state left had h r) over
