use Rattle.std.proofs.Common.{◌*◌, Err, Ok}
use Rattle.std.specs.Arc.{arc_value}
use Rattle.quiescent_driver.proofs.Groups.{group_put}
use Rattle.quiescent_driver.proofs.unfolded.step_group.Goals as goal

pub returns-in-Ok-put_in_turn-clause-puts : goal.returns-in-Ok-put_in_turn-clause-puts
returns-in-Ok-put_in_turn-clause-puts g c = λ n le had first r older.
    let u = c.args.unfolded.now in
    group_put (arc_value c.args.graphs.now) c.args.streams.now.tokens.now n (c.args.group * u.times) u.times c.in-Some.iterations c.items.result.now c.args.delays.now.lists c.next_group.new.delays.lists
    (g.O.Sink.written c.args.out.now) (g.O.Sink.written c.put_in_turn.new.out) (g.O.Sink.faults c.args.out.now) (g.O.Sink.faults c.put_in_turn.new.out) (Ok tt)
    (rw c.in-Some.is at c.in-Ok.ensures.given) (rw c.in-Some.is at c.in-Ok.ensures.all) c.items.ensures le c.in-Ok-put_in_turn.ensures.puts had first r older

pub returns-clause-puts : goal.returns-clause-puts
returns-clause-puts g c = λ n le had first r older.
    let u = c.args.unfolded.now in
    group_put (arc_value c.args.graphs.now) c.args.streams.now.tokens.now n (c.args.group * u.times) u.times c.in-Some.iterations c.items.result.now c.args.delays.now.lists c.next_group.new.delays.lists
    (g.O.Sink.written c.args.out.now) (g.O.Sink.written c.put_in_turn.new.out) (g.O.Sink.faults c.args.out.now) (g.O.Sink.faults c.put_in_turn.new.out) (Err c.in-Err.end)
    (rw c.in-Some.is at c.in-Ok.ensures.given) (rw c.in-Some.is at c.in-Ok.ensures.all) c.items.ensures le c.in-Err.ensures.puts had first r older
