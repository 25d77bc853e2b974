-- The fields of the configuration actors of a firing.
use Rattle.std.specs.Prelude.{map}
use Rattle.std.specs.Arc.{arc_value}
use Rattle.job_preparing.specs.View.{ConfiguringView}
use Rattle.job_preparing.specs.Stages.{lent_of, mark_of}
use Rattle.job_preparing.specs.Standing.{Keeps}
use Rattle.job_preparing.specs.declared.configuring.Configuring.TheInside.{Inside}

abbrev pub view_of : Inside → ConfiguringView
view_of i = record {
  graphs = arc_value i.graphs;
  firing = i.firing;
  marks = map mark_of i.stages.items;
  lent = map lent_of i.stages.items;
}

abbrev pub IsConfiguring : Inside → Type 0
IsConfiguring i = Keeps (arc_value i.graphs) i.firing i.early i.places.items i.stages.items i.frames.items i.left.items i.traces.items
