use Rattle.std.proofs.Common.{sym, subst, ◌∙◌}
use Rattle.std.specs.Arc.{arc_value}
use Rattle.pisdf_meaning.specs.Run as run
use Rattle.quiescent_driver.specs.Stepped.{StopsAt}
use Rattle.quiescent_driver.specs.Streams.{rest_of}
use Rattle.quiescent_driver.proofs.Making.{gives_next, stops_next, taken_lengths}
use Rattle.quiescent_driver.proofs.Runs.{lacks}
use Rattle.quiescent_driver.proofs.run.next_iteration.Goals as goal

pub returns-clause-gives : goal.returns-clause-gives
returns-clause-gives g c =
    gives_next (arc_value c.args.graphs.now) c.args.delays.now.lists c.made.new.delays.lists c.args.streams.now.tokens.now c.as_slice.result.now c.args.streams.now.needs.now c.args.number
    c.requires.needs c.requires.sound c.in-None.ensures (c.as_slice.ensures.value ∙ c.in-Ok.ensures) c.made.result c.made.ensures.made.gives

pub returns-clause-stops : goal.returns-clause-stops
returns-clause-stops g c =
    stops_next (arc_value c.args.graphs.now) c.args.delays.now.lists c.made.new.delays.lists c.args.streams.now.tokens.now c.as_slice.result.now c.args.streams.now.needs.now c.args.number
    c.requires.needs c.requires.sound c.in-None.ensures (c.as_slice.ensures.value ∙ c.in-Ok.ensures) c.made.result c.made.ensures.made.stops

pub returns-in-Some-clause-stops : goal.returns-in-Some-clause-stops
returns-in-Some-clause-stops g c =
    let graphs = arc_value c.args.graphs.now in
    let lack : run.Lack = record { stream = c.in-Some.lack.stream; has = c.in-Some.lack.has; needs = c.in-Some.lack.needs } in
    subst (StopsAt graphs c.args.delays.now.lists (rest_of c.args.number (run.top_needs graphs) c.args.streams.now.tokens.now)) (sym c.from.ensures)
    (lacks graphs c.args.streams.now.tokens.now c.args.streams.now.needs.now c.args.number lack c.requires.there c.requires.needs c.requires.sound c.in-Some.ensures)

pub returns-clause-state : goal.returns-clause-state
returns-clause-state g c = c.made.ensures.made.left

pub made-requires-clause-begins : goal.made-requires-clause-begins
made-requires-clause-begins g c =
    record {
      sound = c.requires.sound;
      inputs = taken_lengths c.args.number c.args.streams.now.needs.now (run.top_needs (arc_value c.args.graphs.now)) c.args.streams.now.tokens.now c.as_slice.result.now
          c.requires.fit c.in-None.ensures (c.as_slice.ensures.value ∙ c.in-Ok.ensures) c.requires.needs;
      fits = c.requires.state;
    }
