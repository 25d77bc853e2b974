use Rattle.graph_format.specs.KnownNames.{ports_of}
use Rattle.graph_format.specs.declared.actor.FileActor.{FileActor}
use Rattle.graph_reader.specs.Setting.{ports_view}
use Rattle.graph_reader.proofs.Each.{tells_on}
use Rattle.graph_reader.proofs.surroundings.all_ports.Goals as goal

pub loop-actor-preserved : goal.loop-actor-preserved
loop-actor-preserved c = λ graphs of_file.
    rw c.in_ok-push.ensures.items
    (tells_on ports_view (λ (actor : FileActor). ports_of graphs actor.body) c.args.actors.now c.loop-actor.actor-index c.actor-item.result c.in_ok-ports.ports c.loop-actor.all.items c.loop-actor-test.true c.actor-item.is (c.in_ok-ports.ensures graphs of_file) (c.loop-actor.invariant graphs of_file))
