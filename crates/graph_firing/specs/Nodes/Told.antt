-- What the stages of nodes are by what changed.
use Rattle.std.specs.Prelude.{List, replicate, slice_set}
use Rattle.graph_firing.specs.declared.nodes.stage.Stage.{Stage}
use Rattle.graph_firing.specs.declared.nodes.stage.Stage.TheVariants as stage
use Rattle.graph_firing.specs.declared.nodes.stages.Past.{Past}
use Rattle.graph_firing.specs.declared.nodes.stages.Past.TheOpen.{Past-F}
use Rattle.graph_firing.specs.declared.nodes.stages.Past.TheOpen.Past-F.{Free, Then}
use Rattle.graph_firing.specs.declared.nodes.stages.Past.TheFolds.{fold-Past}

abbrev pub stages_next : Past-F (List Stage) → List Stage
stages_next (Free count) = replicate count stage.Free
stages_next (Then past node stage) = slice_set past.value node stage

abbrev pub stages_by : Past → List Stage
stages_by = fold-Past (List Stage) stages_next
