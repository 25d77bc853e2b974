use Rattle.graph_reader.specs.Place.{pointer_of}
use Rattle.graph_format.specs.Walk.{items_at}
use Rattle.serde_json.specs.View.{items_view}
use Rattle.graph_reader.proofs.Items.{Stands}
use Rattle.graph_reader.proofs.shape.items.Given as goal

abbrev pub invariant-loop-i : goal.invariant-loop-i
invariant-loop-i g l = let read = g.F.Form.reads l.form in Stands read (pointer_of l.place) l.items.items l.i l.values (items_at read (pointer_of l.place) 0 (items_view l.values))
