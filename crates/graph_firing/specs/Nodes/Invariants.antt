-- The fields of a running firing.
use Rattle.std.specs.Prelude.{List}
use Rattle.std.specs.Arc.{arc_value}
use Rattle.param_resolver.specs.Numbering.{acting}
use Rattle.graph_firing.specs.Nodes.Parts.{Fixed, KeepsAll, fired, job_in, prepared_of}
use Rattle.graph_firing.specs.Nodes.Stages.{lents_of, marks_of}
use Rattle.graph_firing.specs.Nodes.View.{RunningView}
use Rattle.graph_firing.specs.declared.nodes.stage.Stage.{Stage}
use Rattle.graph_firing.specs.declared.nodes.running.Running.TheInside.{Inside}

abbrev pub fixed_of : Inside → Fixed
fixed_of i = record {
  graphs = arc_value i.graphs;
  firing = i.firing.value;
  left = i.left;
  compilation = arc_value (arc_value i.level).made.compiled;
  block = i.job.block;
  room = i.job.room;
  set = (arc_value i.level).made.set;
  place = i.place;
  path = i.path;
  keeps = i.ending.keeps.items;
  names = i.names.items;
  rows = i.ending.rows;
  exports = i.ending.exports;
  state = i.ending.state;
}

-- what is seen of nodes in these stages
abbrev pub view_with : Fixed → List Stage → RunningView
view_with f stages = record {
  graphs = f.graphs;
  workers = f.compilation.workers;
  firing = f.firing;
  prepared = prepared_of f;
  mapping = f.compilation.mapping;
  cells = record { compilation = f.compilation; block = f.block };
  room = f.room;
  marks = marks_of f.firing.path (acting (fired f)) (job_in f).nodes stages;
  lent = lents_of stages;
}

abbrev pub view_of : Inside → RunningView
view_of i = view_with (fixed_of i) i.stages

abbrev pub IsRunning : Inside → Type 0
IsRunning i = KeepsAll (fixed_of i) i.stages i.held.items i.ending.traces.items i.job
