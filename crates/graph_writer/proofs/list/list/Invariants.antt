use Rattle.std.proofs.Common.{◌≡◌, All, map, take}
use Rattle.serde_json.specs.View.{view}
use Rattle.graph_writer.proofs.list.list.Given as goal

abbrev pub invariant-loop-part : goal.invariant-loop-part
invariant-loop-part g l = record {
  shown : map view l.values.items ≡ map (g.W.Writer.shown l.writer) (map (g.W.Writer.named l.writer) (take l.part-index l.parts));
  kept : All g.W.Writer.IsKept (take l.part-index l.parts);
}
