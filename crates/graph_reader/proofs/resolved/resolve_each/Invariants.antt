use Rattle.graph_reader.specs.Setting.{setting_of}
use Rattle.graph_reader.proofs.Each.{Stands}
use Rattle.graph_reader.proofs.resolved.resolve_each.Given as goal

abbrev pub invariant-loop-source : goal.invariant-loop-source
invariant-loop-source g l = let s = setting_of l.surroundings in Stands (g.T.Resolved.unknown s) (g.T.Resolved.placed s) l.sources l.source-index l.resolved.items
