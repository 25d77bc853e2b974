-- The file that graphs are written as: each place is replaced by the name that stands there.
use Rattle.std.specs.Prelude.{ℕ, ◌==◌, ℤ, pos, List, [], ◌++◌, map, length, slice_index_or, if◌then◌else◌}
use Rattle.std.specs.List.{list_all}
use Rattle.std.specs.Ordering.{int_eq}
use Rattle.param_expr.specs.Print.{with_names}
use Rattle.pisdf_model.specs.declared.param.Param.{Param}
use Rattle.pisdf_model.specs.declared.param.ParamKind.{ParamKind}
use Rattle.pisdf_model.specs.declared.param.ParamKind.TheVariants as model
use Rattle.pisdf_model.specs.declared.actor.Port.{Port}
use Rattle.pisdf_model.specs.declared.actor.Actor.{Actor}
use Rattle.pisdf_model.specs.declared.actor.Body.{Body}
use Rattle.pisdf_model.specs.declared.actor.Body.TheVariants as body
use Rattle.pisdf_model.specs.declared.fifo.Fifo.{Fifo}
use Rattle.pisdf_model.specs.declared.fifo.End.{End}
use Rattle.pisdf_model.specs.declared.fifo.Life.{Life}
use Rattle.pisdf_model.specs.declared.fifo.Life.TheVariants.{Firing}
use Rattle.pisdf_model.specs.declared.fifo.End.TheVariants as end
use Rattle.pisdf_model.specs.declared.graph.Interface.{Interface}
use Rattle.pisdf_model.specs.declared.graph.Graph.{Graph}
use Rattle.pisdf_model.specs.declared.graph.Graphs.{Graphs}
use Rattle.graph_format.specs.declared.param.FileParam.{FileParam}
use Rattle.graph_format.specs.declared.param.FileParamKind.{FileParamKind}
use Rattle.graph_format.specs.declared.param.FileParamKind.TheVariants.{Inherited, Derived, Chosen}
use Rattle.graph_format.specs.declared.port.FilePort.{FilePort}
use Rattle.graph_format.specs.declared.actor.FileActor.{FileActor}
use Rattle.graph_format.specs.declared.actor.FileBody.{FileBody}
use Rattle.graph_format.specs.declared.actor.FileBody.TheVariants.{Kernel, Config, Child, ConfigChild}
use Rattle.graph_format.specs.declared.fifo.FileEnd.{FileEnd}
use Rattle.graph_format.specs.declared.fifo.FileEnd.TheVariants as stated
use Rattle.graph_format.specs.declared.fifo.FileDelay.{FileDelay}
use Rattle.graph_format.specs.declared.fifo.FileDelay.TheVariants.{Zeros, Tokens}
use Rattle.graph_format.specs.declared.fifo.FileFifo.{FileFifo}
use Rattle.graph_format.specs.declared.file.FileGraph.{FileGraph}
use Rattle.graph_format.specs.declared.file.File.{File}

-- ---- the names that stand at places

-- the name at a place, and none past the end
abbrev pub name_at_place : List (List ℕ) → ℕ → List ℕ
name_at_place names place = slice_index_or names place []

abbrev pub names_of_params : Graph → List (List ℕ)
names_of_params graph = map (λ (p : Param). p.name) graph.params

abbrev pub names_of_actors : Graph → List (List ℕ)
names_of_actors graph = map (λ (a : Actor). a.name) graph.actors

-- the inputs, then the outputs
abbrev pub names_of_interfaces : Graph → List (List ℕ)
names_of_interfaces graph = map (λ (i : Interface). i.name) graph.inputs ++ map (λ (i : Interface). i.name) graph.outputs

abbrev pub names_of_graphs : Graphs → List (List ℕ)
names_of_graphs graphs = map (λ (g : Graph). g.name) graphs.graphs

-- An actor's inputs, then its outputs. Those of a hierarchical actor are its child's.
abbrev pub names_of_ports : Graphs → Body → List (List ℕ)
names_of_ports graphs (body.Kernel kernel args ins outs) = map (λ (p : Port). p.name) ins ++ map (λ (p : Port). p.name) outs
names_of_ports graphs (body.Config kernel args ins outs sets) = ins ++ map (λ (p : Port). p.name) outs
names_of_ports graphs (body.Child child args) = slice_index_or (map names_of_interfaces graphs.graphs) child []
names_of_ports graphs (body.ConfigChild child args sets) = slice_index_or (map names_of_interfaces graphs.graphs) child []

-- the ports of the actor at a place
abbrev pub names_of_ports_at : Graphs → Graph → ℕ → List (List ℕ)
names_of_ports_at graphs graph place = slice_index_or (map (λ (a : Actor). names_of_ports graphs a.body) graph.actors) place []

-- ---- the parts of a graph, where its parameters and the kernels have these names

abbrev pub named_kind : List (List ℕ) → ParamKind → FileParamKind
named_kind names model.Inherited = Inherited
named_kind names (model.Derived expr) = Derived (with_names names expr)
named_kind names model.Chosen = Chosen

abbrev pub named_param : List (List ℕ) → Param → FileParam
named_param names param = record { name = param.name; kind = named_kind names param.kind; low = param.low; high = param.high }

abbrev pub named_interface : List (List ℕ) → Interface → FilePort
named_interface names interface = record { name = interface.name; rate = with_names names interface.rate }

abbrev pub named_port : List (List ℕ) → Port → FilePort
named_port names port = record { name = port.name; rate = with_names names port.rate }

abbrev pub named_body : List (List ℕ) → Graphs → List (List ℕ) → Body → FileBody
named_body kernels graphs names (body.Kernel kernel args ins outs) = Kernel (name_at_place kernels kernel) (map (with_names names) args) (map (named_port names) ins) (map (named_port names) outs)
named_body kernels graphs names (body.Config kernel args ins outs sets) = Config (name_at_place kernels kernel) (map (with_names names) args) ins (map (named_port names) outs) (map (name_at_place names) sets)
named_body kernels graphs names (body.Child child args) = Child (name_at_place (names_of_graphs graphs) child) (map (with_names names) args)
named_body kernels graphs names (body.ConfigChild child args sets) = ConfigChild (name_at_place (names_of_graphs graphs) child) (map (with_names names) args) (map (name_at_place names) sets)

abbrev pub named_actor : List (List ℕ) → Graphs → List (List ℕ) → Actor → FileActor
named_actor kernels graphs names actor = record { name = actor.name; body = named_body kernels graphs names actor.body }

abbrev pub named_end : Graphs → Graph → End → FileEnd
named_end graphs graph (end.Interface place) = stated.Interface (name_at_place (names_of_interfaces graph) place)
named_end graphs graph (end.Port actor port) = stated.Port (name_at_place (names_of_actors graph) actor) (name_at_place (names_of_ports_at graphs graph actor) port)

-- the life that a file of this version states: version 1 states none
abbrev pub stated_life : ℕ → Life → Life
stated_life version life = if version == 1 then Firing else life

-- a number where all tokens are 0, else a list
abbrev pub stated_delay : List ℤ → FileDelay
stated_delay tokens = if list_all (λ token. int_eq token (pos 0)) tokens then Zeros (length tokens) else Tokens tokens

abbrev pub named_fifo : Graphs → Graph → Fifo → FileFifo
named_fifo graphs graph fifo = record { from = named_end graphs graph fifo.tail; to = named_end graphs graph fifo.head; delay = stated_delay fifo.delay; life = stated_life graphs.version fifo.life }

-- ---- graphs

unfoldable pub named_graph : List (List ℕ) → Graphs → Graph → FileGraph
named_graph kernels graphs graph =
    let names = names_of_params graph in
    record {
      name = graph.name;
      params = map (named_param names) graph.params;
      inputs = map (named_interface names) graph.inputs;
      outputs = map (named_interface names) graph.outputs;
      actors = map (named_actor kernels graphs names) graph.actors;
      fifos = map (named_fifo graphs graph) graph.fifos;
      exports = map (name_at_place names) graph.exports;
    }

unfoldable pub named_file : List (List ℕ) → Graphs → File
named_file kernels graphs = record { version = graphs.version; top = name_at_place (names_of_graphs graphs) graphs.top; graphs = map (named_graph kernels graphs) graphs.graphs }
