use Rattle.std.proofs.Common.{sym, subst}
use Rattle.std.specs.Arc.{arc_value}
use Rattle.pisdf_meaning.specs.Run as run
use Rattle.quiescent_driver.specs.Given.{IsTopState}
use Rattle.quiescent_driver.specs.Stepped.{EndsAt}
use Rattle.quiescent_driver.specs.Streams.{rest_of}
use Rattle.quiescent_driver.proofs.Runs.{ends_by, on_ok, steps_by}
use Rattle.quiescent_driver.proofs.run.step.Goals as goal

pub returns-clause-steps : goal.returns-clause-steps
returns-clause-steps g c =
    let graphs = arc_value c.args.graphs.now in
    steps_by graphs c.args.number c.args.delays.now.lists c.next_iteration.new.delays.lists (rest_of c.args.number (run.top_needs graphs) c.args.streams.now.tokens.now) c.in-Ok.iteration
    (g.O.Sink.written c.args.out.now) (g.O.Sink.written c.put_iteration.new.out) (g.O.Sink.faults c.args.out.now) (g.O.Sink.faults c.put_iteration.new.out) c.put_iteration.result
    c.in-Ok.ensures.gives c.put_iteration.ensures.puts

pub returns-in-Err-clause-steps : goal.returns-in-Err-clause-steps
returns-in-Err-clause-steps g c =
    let graphs = arc_value c.args.graphs.now in
    let had = g.O.Sink.written c.args.out.now in
    let faults = g.O.Sink.faults c.args.out.now in
    let rest = rest_of c.args.number (run.top_needs graphs) c.args.streams.now.tokens.now in
    subst (λ e. EndsAt graphs c.args.number c.args.delays.now.lists rest had had faults faults e) (sym c.from.ensures)
    (ends_by graphs c.args.number c.args.delays.now.lists rest had faults c.in-Err.stop c.in-Err.ensures.stops)

pub returns-clause-state : goal.returns-clause-state
returns-clause-state g c = on_ok c.put_iteration.result (IsTopState (arc_value c.args.graphs.now) c.next_iteration.new.delays.lists) c.in-Ok.ensures.state
