-- The canonical JSON value of graphs: all members, in the order of their bytes.
use Rattle.std.specs.Prelude.{ℕ, ◌==◌, ℤ, List, map, codes, Bool, false, not, ◌&&◌, if◌then◌else◌}
use Rattle.serde_json.specs.Data.{Data, number, unsigned, string, array, object, Members, no_members, member}
use Rattle.serde_json.specs.Find.{of_integer}
use Rattle.serde_json.specs.View.{items_of}
use Rattle.param_expr.specs.Named.{NamedTree}
use Rattle.param_expr.specs.Print.{printed}
use Rattle.pisdf_model.specs.declared.graph.Graphs.{Graphs}
use Rattle.pisdf_model.specs.declared.fifo.Life.{Life}
use Rattle.graph_format.specs.Values.{end_text}
use Rattle.graph_format.specs.States.{kind_text, life_text}
use Rattle.graph_format.specs.Objects.{has_exports, has_lives}
use Rattle.graph_format.specs.Named.{named_file}
use Rattle.graph_format.specs.declared.param.FileParam.{FileParam}
use Rattle.graph_format.specs.declared.param.FileParamKind.{FileParamKind}
use Rattle.graph_format.specs.declared.param.FileParamKind.TheVariants.{Inherited, Derived, Chosen}
use Rattle.graph_format.specs.declared.port.FilePort.{FilePort}
use Rattle.graph_format.specs.declared.actor.FileActor.{FileActor}
use Rattle.graph_format.specs.declared.actor.FileBody.{FileBody}
use Rattle.graph_format.specs.declared.actor.FileBody.TheVariants.{Kernel, Config, Child, ConfigChild}
use Rattle.graph_format.specs.declared.fifo.FileEnd.{FileEnd}
use Rattle.graph_format.specs.declared.fifo.FileDelay.{FileDelay}
use Rattle.graph_format.specs.declared.fifo.FileDelay.TheVariants.{Zeros, Tokens}
use Rattle.graph_format.specs.declared.fifo.FileFifo.{FileFifo}
use Rattle.graph_format.specs.declared.file.FileGraph.{FileGraph}
use Rattle.graph_format.specs.declared.file.File.{File}

-- ---- lists, numbers and texts

abbrev pub list_value : {A : Type 0} → (A → Data) → List A → Data
list_value value xs = array (items_of (map value xs))

abbrev pub whole_value : ℤ → Data
whole_value z = number (of_integer z)

-- an expression, printed with the fewest parentheses
abbrev pub expression_value : NamedTree → Data
expression_value expr = string (printed expr)

abbrev pub end_value : FileEnd → Data
end_value end = string (end_text end)

-- ---- parameters

-- a derived parameter has its expression before the other members
abbrev pub with_rule : FileParamKind → Members → Members
with_rule Inherited members = members
with_rule (Derived expr) members = member (codes "expr") (expression_value expr) members
with_rule Chosen members = members

-- the members of each parameter
abbrev pub param_members : List ℕ → List ℕ → ℤ → ℤ → Members
param_members name kind low high =
    member (codes "high") (whole_value high)
    (member (codes "kind") (string kind)
    (member (codes "low") (whole_value low)
    (member (codes "name") (string name)
    no_members)))

unfoldable pub param_value : FileParam → Data
param_value param = object (with_rule param.kind (param_members param.name (kind_text param.kind) param.low param.high))

-- ---- interfaces and ports

unfoldable pub port_value : FilePort → Data
port_value port =
    object (member (codes "name") (string port.name)
    (member (codes "rate") (expression_value port.rate)
    no_members))

-- an input of a configuration actor
unfoldable pub input_value : List ℕ → Data
input_value name = object (member (codes "name") (string name) no_members)

-- ---- actors

-- a kernel actor of this name and kernel, with these arguments and ports
abbrev pub kernel_members : List ℕ → List ℕ → Data → Data → Data → Members
kernel_members name kernel args ins outs =
    member (codes "args") args
    (member (codes "ins") ins
    (member (codes "kernel") (string kernel)
    (member (codes "kind") (string (codes "kernel"))
    (member (codes "name") (string name)
    (member (codes "outs") outs
    no_members)))))

-- a configuration actor, which also sets parameters
abbrev pub config_members : List ℕ → List ℕ → Data → Data → Data → Data → Members
config_members name kernel args ins outs sets =
    member (codes "args") args
    (member (codes "ins") ins
    (member (codes "kernel") (string kernel)
    (member (codes "kind") (string (codes "config"))
    (member (codes "name") (string name)
    (member (codes "outs") outs
    (member (codes "sets") sets
    no_members))))))

-- a hierarchical actor of this name and child
abbrev pub child_members : List ℕ → List ℕ → Data → Members
child_members name graph args =
    member (codes "args") args
    (member (codes "graph") (string graph)
    (member (codes "kind") (string (codes "graph"))
    (member (codes "name") (string name)
    no_members)))

-- a hierarchical configuration actor, which also sets parameters
abbrev pub config_child_members : List ℕ → List ℕ → Data → Data → Members
config_child_members name graph args sets =
    member (codes "args") args
    (member (codes "graph") (string graph)
    (member (codes "kind") (string (codes "setgraph"))
    (member (codes "name") (string name)
    (member (codes "sets") sets
    no_members))))

abbrev pub body_members : List ℕ → FileBody → Members
body_members name (Kernel kernel args ins outs) = kernel_members name kernel (list_value expression_value args) (list_value port_value ins) (list_value port_value outs)
body_members name (Config kernel args ins outs sets) = config_members name kernel (list_value expression_value args) (list_value input_value ins) (list_value port_value outs) (list_value string sets)
body_members name (Child graph args) = child_members name graph (list_value expression_value args)
body_members name (ConfigChild graph args sets) = config_child_members name graph (list_value expression_value args) (list_value string sets)

unfoldable pub actor_value : FileActor → Data
actor_value actor = object (body_members actor.name actor.body)

-- ---- FIFOs

-- a number of tokens 0, or a list
abbrev pub delay_value : FileDelay → Data
delay_value (Zeros count) = number (unsigned count)
delay_value (Tokens tokens) = list_value whole_value tokens

abbrev pub is_no_delay : FileDelay → Bool
is_no_delay (Zeros count) = count == 0
is_no_delay (Tokens tokens) = false

-- the delay before the other members, unless there is none
abbrev pub with_delay : FileDelay → Members → Members
with_delay delay members = if is_no_delay delay then members else member (codes "delay") (delay_value delay) members

-- the life before the other members, where the version states lives and there is a delay
abbrev pub with_life : Bool → Life → Members → Members
with_life stated life members = if stated then member (codes "life") (string (life_text life)) members else members

-- a FIFO without a delay, from an end to another
abbrev pub end_members : Bool → Life → List ℕ → List ℕ → Members
end_members stated life from to =
    member (codes "from") (string from)
    (with_life stated life
    (member (codes "to") (string to)
    no_members))

unfoldable pub fifo_value : ℕ → FileFifo → Data
fifo_value version fifo = object (with_delay fifo.delay (end_members (has_lives version && not (is_no_delay fifo.delay)) fifo.life (end_text fifo.from) (end_text fifo.to)))

-- ---- graphs

-- the exports before the other members, where the version has them
abbrev pub with_exports : Bool → Data → Members → Members
with_exports stated exports members = if stated then member (codes "exports") exports members else members

abbrev pub graph_members : Bool → List ℕ → Data → Data → Data → Data → Data → Data → Members
graph_members exporting name params inputs outputs actors fifos exports =
    member (codes "actors") actors
    (with_exports exporting exports
    (member (codes "fifos") fifos
    (member (codes "inputs") inputs
    (member (codes "name") (string name)
    (member (codes "outputs") outputs
    (member (codes "params") params
    no_members))))))

unfoldable pub graph_value : ℕ → FileGraph → Data
graph_value version graph =
    object (graph_members (has_exports version) graph.name (list_value param_value graph.params) (list_value port_value graph.inputs) (list_value port_value graph.outputs) (list_value actor_value graph.actors) (list_value (fifo_value version) graph.fifos) (list_value string graph.exports))

-- ---- files

abbrev pub root_members : ℕ → List ℕ → Data → Members
root_members version top graphs =
    member (codes "graphs") graphs
    (member (codes "pisdf") (number (unsigned version))
    (member (codes "top") (string top)
    no_members))

unfoldable pub file_value : File → Data
file_value file = object (root_members file.version file.top (list_value (graph_value file.version) file.graphs))

-- the canonical value of graphs whose kernels are places of these names
abbrev pub canonical : List (List ℕ) → Graphs → Data
canonical kernels graphs = file_value (named_file kernels graphs)
