use Rattle.std.proofs.Common.{◌≡◌, List, map, take}
use Rattle.graph_format.specs.declared.actor.FileActor.{FileActor}
use Rattle.graph_format.specs.declared.file.FileGraph.{FileGraph}
use Rattle.graph_format.specs.KnownNames.{ports_of}
use Rattle.graph_reader.specs.Setting.{AreOf, ports_view}
use Rattle.graph_reader.proofs.surroundings.all_ports.Given as goal

abbrev pub invariant-loop-actor : goal.invariant-loop-actor
invariant-loop-actor l =
    (graphs : List FileGraph) → AreOf graphs l.names → map ports_view l.all.items ≡ map (λ (actor : FileActor). ports_of graphs actor.body) (take l.actor-index l.actors)
