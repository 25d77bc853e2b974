-- The graphs that a file means: each name as the place of the first part of that name.
use Rattle.std.specs.Prelude.{ℕ, ◌==◌, ℤ, pos, Bool, List, [], ◌∷◌, map, replicate, unwrap_or, if◌then◌else◌}
use Rattle.std.specs.List.{enumerate_from}
use Rattle.param_expr.specs.Tree.{Tree}
use Rattle.param_expr.specs.Named.{NamedTree}
use Rattle.param_expr.specs.Bind.{place_of, placed_in}
use Rattle.pisdf_model.specs.Marked.{marked}
use Rattle.pisdf_model.specs.Range.{life_of}
use Rattle.pisdf_model.specs.declared.actor.Actor.{Actor}
use Rattle.pisdf_model.specs.declared.actor.Body.{Body}
use Rattle.pisdf_model.specs.declared.actor.Body.TheVariants as body
use Rattle.pisdf_model.specs.declared.actor.Port.{Port}
use Rattle.pisdf_model.specs.declared.fifo.End.{End}
use Rattle.pisdf_model.specs.declared.fifo.End.TheVariants as end
use Rattle.pisdf_model.specs.declared.fifo.Fifo.{Fifo}
use Rattle.pisdf_model.specs.declared.graph.Graph.{Graph}
use Rattle.pisdf_model.specs.declared.graph.Graphs.{Graphs}
use Rattle.pisdf_model.specs.declared.graph.Interface.{Interface}
use Rattle.pisdf_model.specs.declared.param.Param.{Param}
use Rattle.pisdf_model.specs.declared.param.ParamKind.{ParamKind}
use Rattle.pisdf_model.specs.declared.param.ParamKind.TheVariants as kind
use Rattle.graph_format.specs.declared.actor.FileActor.{FileActor}
use Rattle.graph_format.specs.declared.actor.FileBody.{FileBody}
use Rattle.graph_format.specs.declared.actor.FileBody.TheVariants.{Kernel, Config, Child, ConfigChild}
use Rattle.graph_format.specs.declared.fifo.FileDelay.{FileDelay}
use Rattle.graph_format.specs.declared.fifo.FileDelay.TheVariants.{Zeros, Tokens}
use Rattle.graph_format.specs.declared.fifo.FileEnd.{FileEnd}
use Rattle.graph_format.specs.declared.fifo.FileEnd.TheVariants as file_end
use Rattle.graph_format.specs.declared.fifo.FileFifo.{FileFifo}
use Rattle.graph_format.specs.declared.file.File.{File}
use Rattle.graph_format.specs.declared.file.FileGraph.{FileGraph}
use Rattle.graph_format.specs.declared.param.FileParam.{FileParam}
use Rattle.graph_format.specs.declared.param.FileParamKind.{FileParamKind}
use Rattle.graph_format.specs.declared.param.FileParamKind.TheVariants.{Inherited, Derived, Chosen}
use Rattle.graph_format.specs.declared.port.FilePort.{FilePort}
use Rattle.graph_format.specs.KnownNames.{KnownNames, known_names, names_at, names_of_graphs}

-- the first place of a name, and 0 where it isn't there
abbrev pub first_place : List (List ℕ) → List ℕ → ℕ
first_place names w = unwrap_or (place_of names w) 0

abbrev pub placed_exprs : KnownNames → List NamedTree → List Tree
placed_exprs s exprs = map (placed_in s.params) exprs

abbrev pub placed_port : KnownNames → FilePort → Port
placed_port s p = record { name = p.name; rate = placed_in s.params p.rate }

abbrev pub placed_interface : KnownNames → FilePort → Interface
placed_interface s p = record { name = p.name; rate = placed_in s.params p.rate }

abbrev pub placed_kind : KnownNames → FileParamKind → ParamKind
placed_kind s Inherited = kind.Inherited
placed_kind s (Derived expr) = kind.Derived (placed_in s.params expr)
placed_kind s Chosen = kind.Chosen

abbrev pub placed_param : KnownNames → FileParam → Param
placed_param s p = record { name = p.name; kind = placed_kind s p.kind; low = p.low; high = p.high }

abbrev pub placed_body : KnownNames → FileBody → Body
placed_body s (Kernel kernel args ins outs) = body.Kernel (first_place s.kernels kernel) (placed_exprs s args) (map (placed_port s) ins) (map (placed_port s) outs)
placed_body s (Config kernel args ins outs sets) = body.Config (first_place s.kernels kernel) (placed_exprs s args) ins (map (placed_port s) outs) (map (first_place s.params) sets)
placed_body s (Child graph args) = body.Child (first_place s.graphs graph) (placed_exprs s args)
placed_body s (ConfigChild graph args sets) = body.ConfigChild (first_place s.graphs graph) (placed_exprs s args) (map (first_place s.params) sets)

abbrev pub placed_actor : KnownNames → FileActor → Actor
placed_actor s a = record { name = a.name; body = placed_body s a.body }

-- the ports of the first actor of that name
abbrev pub ports_named : KnownNames → List ℕ → List (List ℕ)
ports_named s actor = names_at s.ports (place_of s.actors actor)

abbrev pub placed_end : KnownNames → FileEnd → End
placed_end s (file_end.Interface w) = end.Interface (first_place s.interfaces w)
placed_end s (file_end.Port actor port) = end.Port (first_place s.actors actor) (first_place (ports_named s actor) port)

-- the tokens of a delay
abbrev pub tokens_of : FileDelay → List ℤ
tokens_of (Zeros n) = replicate n (pos 0)
tokens_of (Tokens tokens) = tokens

-- One token 0 in place of a delay that isn't empty, for what looks only at whether there is a delay.
abbrev pub mark_of : FileDelay → List ℤ
mark_of (Zeros n) = if n == 0 then [] else pos 0 ∷ []
mark_of (Tokens tokens) = marked tokens

-- in a file of this version; each delay stands for what `tokens` gives of it
abbrev pub placed_fifo : ℕ → (FileDelay → List ℤ) → Bool → KnownNames → FileFifo → Fifo
placed_fifo version tokens is_top s f = record { tail = placed_end s f.from; head = placed_end s f.to; delay = tokens f.delay; life = life_of version is_top f.life (tokens f.delay) }

abbrev pub placed_graph : ℕ → (FileDelay → List ℤ) → Bool → KnownNames → FileGraph → Graph
placed_graph version tokens is_top s g = record {
  name = g.name;
  params = map (placed_param s) g.params;
  inputs = map (placed_interface s) g.inputs;
  outputs = map (placed_interface s) g.outputs;
  actors = map (placed_actor s) g.actors;
  fifos = map (placed_fifo version tokens is_top s) g.fifos;
  exports = map (first_place s.params) g.exports;
}

abbrev pub top_of : File → ℕ
top_of file = first_place (names_of_graphs file.graphs) file.top

-- The graphs that a file means where the kernels have these names.
abbrev pub placed : (FileDelay → List ℤ) → List (List ℕ) → File → Graphs
placed tokens kernels file = record {
  version = file.version;
  top = top_of file;
  graphs = map (λ (p : ℕ × FileGraph). placed_graph file.version tokens (p.0 == top_of file) (known_names kernels file.graphs p.1) p.1) (enumerate_from 0 file.graphs);
}
