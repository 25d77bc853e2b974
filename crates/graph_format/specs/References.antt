-- The references of a file that name nothing of the kind that their place asks for.
use Rattle.std.specs.Prelude.{ℕ, List, [], ◌∷◌, ◌++◌, is_none, if◌then◌else◌}
use Rattle.std.specs.List.{flat_map}
use Rattle.param_expr.specs.Named.{NamedTree}
use Rattle.param_expr.specs.Bind.{place_of, names_of}
use Rattle.pisdf_model.specs.Wires.{port_text}
use Rattle.graph_format.specs.declared.actor.FileActor.{FileActor}
use Rattle.graph_format.specs.declared.actor.FileBody.{FileBody}
use Rattle.graph_format.specs.declared.actor.FileBody.TheVariants.{Kernel, Config, Child, ConfigChild}
use Rattle.graph_format.specs.declared.fifo.FileEnd.{FileEnd}
use Rattle.graph_format.specs.declared.fifo.FileEnd.TheVariants as file_end
use Rattle.graph_format.specs.declared.fifo.FileFifo.{FileFifo}
use Rattle.graph_format.specs.declared.file.File.{File}
use Rattle.graph_format.specs.declared.file.FileGraph.{FileGraph}
use Rattle.graph_format.specs.declared.param.FileParam.{FileParam}
use Rattle.graph_format.specs.declared.param.FileParamKind.{FileParamKind}
use Rattle.graph_format.specs.declared.param.FileParamKind.TheVariants.{Inherited, Derived, Chosen}
use Rattle.graph_format.specs.declared.port.FilePort.{FilePort}
use Rattle.graph_format.specs.KnownNames.{KnownNames, known_names, names_of_graphs}
use Rattle.graph_format.specs.Placed.{ports_named}

-- the name, where it isn't among these
abbrev pub missing : List (List ℕ) → List ℕ → List (List ℕ)
missing known w = if is_none (place_of known w) then w ∷ [] else []

-- in an expression from the left
abbrev pub unknown_in_expr : KnownNames → NamedTree → List (List ℕ)
unknown_in_expr s expr = flat_map (missing s.params) (names_of expr)

abbrev pub unknown_in_port : KnownNames → FilePort → List (List ℕ)
unknown_in_port s p = unknown_in_expr s p.rate

abbrev pub unknown_in_kind : KnownNames → FileParamKind → List (List ℕ)
unknown_in_kind s Inherited = []
unknown_in_kind s (Derived expr) = unknown_in_expr s expr
unknown_in_kind s Chosen = []

abbrev pub unknown_in_param : KnownNames → FileParam → List (List ℕ)
unknown_in_param s p = unknown_in_kind s p.kind

abbrev pub unknown_in_body : KnownNames → FileBody → List (List ℕ)
unknown_in_body s (Kernel kernel args ins outs) = flat_map (unknown_in_expr s) args ++ flat_map (unknown_in_port s) ins ++ flat_map (unknown_in_port s) outs
unknown_in_body s (Config kernel args ins outs sets) = flat_map (unknown_in_expr s) args ++ flat_map (unknown_in_port s) outs ++ flat_map (missing s.params) sets
unknown_in_body s (Child graph args) = missing s.graphs graph ++ flat_map (unknown_in_expr s) args
unknown_in_body s (ConfigChild graph args sets) = missing s.graphs graph ++ flat_map (unknown_in_expr s) args ++ flat_map (missing s.params) sets

abbrev pub unknown_in_actor : KnownNames → FileActor → List (List ℕ)
unknown_in_actor s a = unknown_in_body s a.body

-- the whole text of an end that names no interface or port
abbrev pub unknown_in_end : KnownNames → FileEnd → List (List ℕ)
unknown_in_end s (file_end.Interface w) = missing s.interfaces w
unknown_in_end s (file_end.Port actor port) = if is_none (place_of (ports_named s actor) port) then port_text actor port ∷ [] else []

abbrev pub unknown_in_fifo : KnownNames → FileFifo → List (List ℕ)
unknown_in_fifo s f = unknown_in_end s f.from ++ unknown_in_end s f.to

abbrev pub unknown_in_graph : KnownNames → FileGraph → List (List ℕ)
unknown_in_graph s g =
    flat_map (unknown_in_param s) g.params ++ flat_map (unknown_in_port s) g.inputs ++ flat_map (unknown_in_port s) g.outputs ++ flat_map (unknown_in_actor s) g.actors ++ flat_map (unknown_in_fifo s) g.fifos ++ flat_map (missing s.params) g.exports

-- All of them, in the order of the file. Kernels are not looked for here, so any names of kernels serve.
abbrev pub unknown_in_file : File → List (List ℕ)
unknown_in_file file = missing (names_of_graphs file.graphs) file.top ++ flat_map (λ g. unknown_in_graph (known_names [] file.graphs g) g) file.graphs
