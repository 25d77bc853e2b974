-- A file with its delays and lives as the canonical file states them is stated by some value, where one states the file itself.
use Rattle.std.proofs.Common.{◌≡◌, ℕ, Bool, true, false, List, [], ◌∷◌, map, refl}
use Rattle.std.specs.Prelude.{codes}
use Rattle.std.specs.List.{AllByRecursion}
use Rattle.serde_json.specs.Data.{Data, array, object, member, no_members, Items, no_items, item}
use Rattle.graph_format.specs.Canonical.{fifo_value, with_exports}
use Rattle.graph_format.specs.Objects.{has_exports}
use Rattle.graph_format.specs.States.{StatesExports, StatesFifo, States, StatesGraph}
use Rattle.graph_format.specs.Values.{AreItems}
use Rattle.graph_format.specs.Walk.{has_form}
use Rattle.graph_format.specs.declared.fifo.FileFifo.{FileFifo}
use Rattle.graph_format.specs.declared.file.File.{File}
use Rattle.graph_format.specs.declared.file.FileGraph.{FileGraph}
use Rattle.graph_writer.proofs.NamedFile.{restated, restated_fifo, restated_graph}
use Rattle.graph_writer.proofs.CanonicalValue.{AreShown, IsShown, fifo_again}

-- ---- values

-- some value states it
pub record HasValue {A : Type 0} (R : Data → A → Type 0) (x : A) : Type 0 where
  pub value : Data
  pub states : R value x

record HasValues {A : Type 0} (R : Data → A → Type 0) (xs : List A) : Type 0 where
  pub values : Items
  pub items : AreItems R values xs

-- what each part becomes is stated, where the part is and what it becomes has what that takes
each_valued : {A : Type 0} (R : Data → A → Type 0) (m : A → A) (P : A → Type 0) → ((d : Data) (x : A) → P (m x) → R d x → HasValue R (m x)) → (ds : Items) (xs : List A) → AllByRecursion P (map m xs) → AreItems R ds xs → HasValues R (map m xs)
each_valued R m P valued no_items [] p items = record { values = no_items; items = tt }
each_valued R m P valued no_items (x ∷ xs) p items = absurd items
each_valued R m P valued (item d ds) [] p items = absurd items
each_valued R m P valued (item d ds) (x ∷ xs) p items =
    let first = valued d x p.0 items.0 in
    let rest = each_valued R m P valued ds xs p.1 items.1 in
    record { values = item first.value rest.values; items = (first.states, rest.items) }

-- ---- FIFOs, graphs and files

fifo_valued : (version : ℕ) (d : Data) (f : FileFifo) → IsShown version (restated_fifo version f) → StatesFifo version d f → HasValue (StatesFifo version) (restated_fifo version f)
fifo_valued version d f shown h = record { value = fifo_value version (restated_fifo version f); states = fifo_again version d (restated_fifo version f) shown h.from h.to }

-- whether the version has exports
exporting_valued : (version : ℕ) (d : Data) (g : FileGraph) (exporting : Bool) → has_exports version ≡ exporting → AreShown version (restated_graph version g) → StatesGraph version d g → StatesExports exporting d g.exports → HasValue (StatesGraph version) (restated_graph version g)
unfolding has_form
exporting_valued version d g true has shown h exports =
    let fifos = each_valued (StatesFifo version) (restated_fifo version) (IsShown version) (fifo_valued version) h.fifos.states.values g.fifos shown h.fifos.states.items in
    record {
      value = object (member (codes "actors") h.actors.value (member (codes "exports") exports.value (member (codes "fifos") (array fifos.values) (member (codes "inputs") h.inputs.value (member (codes "name") h.name.value (member (codes "outputs") h.outputs.value (member (codes "params") h.params.value no_members)))))));
      states = record {
        members = rw has refl;
        name = record { value = h.name.value; is_there = refl; states = h.name.states };
        params = record { value = h.params.value; is_there = refl; states = h.params.states };
        inputs = record { value = h.inputs.value; is_there = refl; states = h.inputs.states };
        outputs = record { value = h.outputs.value; is_there = refl; states = h.outputs.states };
        actors = record { value = h.actors.value; is_there = refl; states = h.actors.states };
        fifos = record { value = array fifos.values; is_there = refl; states = record { values = fifos.values; is_array = refl; items = fifos.items } };
        exports = rw has (record { value = exports.value; is_there = refl; states = exports.states });
      };
    }
exporting_valued version d g false has shown h exports =
    let fifos = each_valued (StatesFifo version) (restated_fifo version) (IsShown version) (fifo_valued version) h.fifos.states.values g.fifos shown h.fifos.states.items in
    record {
      value = object (member (codes "actors") h.actors.value (member (codes "fifos") (array fifos.values) (member (codes "inputs") h.inputs.value (member (codes "name") h.name.value (member (codes "outputs") h.outputs.value (member (codes "params") h.params.value no_members))))));
      states = record {
        members = rw has refl;
        name = record { value = h.name.value; is_there = refl; states = h.name.states };
        params = record { value = h.params.value; is_there = refl; states = h.params.states };
        inputs = record { value = h.inputs.value; is_there = refl; states = h.inputs.states };
        outputs = record { value = h.outputs.value; is_there = refl; states = h.outputs.states };
        actors = record { value = h.actors.value; is_there = refl; states = h.actors.states };
        fifos = record { value = array fifos.values; is_there = refl; states = record { values = fifos.values; is_array = refl; items = fifos.items } };
        exports = rw has exports;
      };
    }

graph_valued : (version : ℕ) (d : Data) (g : FileGraph) → AreShown version (restated_graph version g) → StatesGraph version d g → HasValue (StatesGraph version) (restated_graph version g)
graph_valued version d g shown h = exporting_valued version d g (has_exports version) refl shown h h.exports

pub file_valued : (d : Data) (file : File) → AllByRecursion (AreShown file.version) (restated file).graphs → States d file → HasValue States (restated file)
unfolding has_form
file_valued d file shown h =
    let version = file.version in
    let graphs = each_valued (StatesGraph version) (restated_graph version) (AreShown version) (graph_valued version) h.states.graphs.states.values file.graphs shown h.states.graphs.states.items in
    record {
      value = object (member (codes "graphs") (array graphs.values) (member (codes "pisdf") h.states.pisdf.value (member (codes "top") h.states.top.value no_members)));
      states = record {
        first_version = h.first_version;
        last_version = h.last_version;
        states = record {
          members = refl;
          pisdf = record { value = h.states.pisdf.value; is_there = refl; states = h.states.pisdf.states };
          top = record { value = h.states.top.value; is_there = refl; states = h.states.top.states };
          graphs = record { value = array graphs.values; is_there = refl; states = record { values = graphs.values; is_array = refl; items = graphs.items } };
        };
      };
    }
