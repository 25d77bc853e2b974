-- The walk over a graph file: each object's own form, then its members in the order of the format.
use Rattle.std.specs.Prelude.{ℕ, ◌&&◌, nat_le, Bool, ℤ, pos, negsuc, int_le, List, [], ◌∷◌, ◌==◌, if◌then◌else◌, Option, Some, None, option_and_then, Result, Ok, Err, codes}
use Rattle.std.specs.Str.{bytes_eq}
use Rattle.serde_json.specs.Data.{Data, Items}
use Rattle.serde_json.specs.Find.{get, as_str, as_array}
use Rattle.param_expr.specs.Named.{NamedTree}
use Rattle.graph_format.specs.Pointer.{pointer_text}
use Rattle.graph_format.specs.Walk.{◌>>=◌, shaped, formed, member_at, member_or, says, items_at, list_at, whole_of, whole_at}
use Rattle.graph_format.specs.Texts.{name_at, kernel_at, expression_at, end_at}
use Rattle.pisdf_model.specs.declared.fifo.Life.{Life}
use Rattle.pisdf_model.specs.declared.fifo.Life.TheVariants.{Firing, Permanent}
use Rattle.graph_format.specs.declared.param.FileParam.{FileParam}
use Rattle.graph_format.specs.declared.param.FileParamKind.{FileParamKind}
use Rattle.graph_format.specs.declared.param.FileParamKind.TheVariants.{Inherited, Derived, Chosen}
use Rattle.graph_format.specs.declared.port.FilePort.{FilePort}
use Rattle.graph_format.specs.declared.actor.FileActor.{FileActor}
use Rattle.graph_format.specs.declared.actor.FileBody.TheVariants.{Kernel, Config, Child, ConfigChild}
use Rattle.graph_format.specs.declared.fifo.FileDelay.{FileDelay}
use Rattle.graph_format.specs.declared.fifo.FileDelay.TheVariants.{Zeros, Tokens}
use Rattle.graph_format.specs.declared.fifo.FileFifo.{FileFifo}
use Rattle.graph_format.specs.declared.file.FileGraph.{FileGraph}
use Rattle.graph_format.specs.declared.file.File.{File}

-- ---- versions

-- versions 2 and 3 state the life of a delay
abbrev pub has_lives : ℕ → Bool
has_lives version = nat_le 2 version

-- version 3 has exports, and actors that set parameters to them
abbrev pub has_exports : ℕ → Bool
has_exports version = nat_le 3 version

-- ---- parameters

-- the greatest end of a parameter's range
abbrev pub greatest_bound : ℤ
greatest_bound = pos 2147483647

-- a number from the least one to that
abbrev pub within : ℤ → ℤ → Option ℤ
within least z = if int_le least z && int_le z greatest_bound then Some z else None

abbrev pub bound_at : ℤ → List ℕ → Data → Result ℤ (List ℕ)
bound_at least at d = shaped at (option_and_then (within least) (whole_of d))

-- the range, after the name and the kind
unfoldable pub ranged_at : List ℕ → FileParamKind → List ℕ → Data → Result FileParam (List ℕ)
ranged_at name kind at d = do
  low ← member_or (pos 0) (bound_at (pos 0)) at (codes "low") d
  high ← member_or greatest_bound (bound_at low) at (codes "high") d
  Ok (record { name = name; kind = kind; low = low; high = high })

unfoldable pub derived_members_at : List ℕ → Data → Result FileParam (List ℕ)
derived_members_at at d = do
  name ← member_at name_at at (codes "name") d
  expr ← member_at expression_at at (codes "expr") d
  ranged_at name (Derived expr) at d

-- the kinds that have no expression
abbrev pub given_kind : List ℕ → Option FileParamKind
given_kind text = if bytes_eq text (codes "in") then Some Inherited else if bytes_eq text (codes "set") then Some Chosen else None

abbrev pub given_kind_at : List ℕ → Data → Result FileParamKind (List ℕ)
given_kind_at at d = shaped at (option_and_then given_kind (as_str d))

unfoldable pub given_members_at : List ℕ → Data → Result FileParam (List ℕ)
given_members_at at d = do
  name ← member_at name_at at (codes "name") d
  kind ← member_at given_kind_at at (codes "kind") d
  ranged_at name kind at d

-- An expression stands exactly where the kind is `is`.
abbrev pub derived_keys : List (List ℕ)
derived_keys = codes "name" ∷ codes "kind" ∷ codes "expr" ∷ []

abbrev pub given_keys : List (List ℕ)
given_keys = codes "name" ∷ codes "kind" ∷ []

abbrev pub optional_param_keys : List (List ℕ)
optional_param_keys = codes "low" ∷ codes "high" ∷ []

unfoldable pub param_at : List ℕ → Data → Result FileParam (List ℕ)
param_at at d =
    if says (codes "kind") (codes "is") d
    then formed derived_keys optional_param_keys derived_members_at at d
    else formed given_keys optional_param_keys given_members_at at d

-- ---- interfaces and ports

unfoldable pub port_members_at : List ℕ → Data → Result FilePort (List ℕ)
port_members_at at d = do
  name ← member_at name_at at (codes "name") d
  rate ← member_at expression_at at (codes "rate") d
  Ok (record { name = name; rate = rate })

abbrev pub port_keys : List (List ℕ)
port_keys = codes "name" ∷ codes "rate" ∷ []

unfoldable pub port_at : List ℕ → Data → Result FilePort (List ℕ)
port_at at d = formed port_keys [] port_members_at at d

-- an input of a configuration actor, which has a name alone
abbrev pub input_members_at : List ℕ → Data → Result (List ℕ) (List ℕ)
input_members_at at d = member_at name_at at (codes "name") d

unfoldable pub input_at : List ℕ → Data → Result (List ℕ) (List ℕ)
input_at at d = formed (codes "name" ∷ []) [] input_members_at at d

-- ---- actors

unfoldable pub kernel_members_at : List ℕ → Data → Result FileActor (List ℕ)
kernel_members_at at d = do
  name ← member_at name_at at (codes "name") d
  kernel ← member_at kernel_at at (codes "kernel") d
  args ← member_at (list_at expression_at) at (codes "args") d
  ins ← member_at (list_at port_at) at (codes "ins") d
  outs ← member_at (list_at port_at) at (codes "outs") d
  Ok (record { name = name; body = Kernel kernel args ins outs })

abbrev pub kernel_keys : List (List ℕ)
kernel_keys = codes "name" ∷ codes "kind" ∷ codes "kernel" ∷ codes "args" ∷ codes "ins" ∷ codes "outs" ∷ []

-- the ports and the parameters that it sets, after the members before
unfoldable pub config_ports_at : List ℕ → List ℕ → List NamedTree → List ℕ → Data → Result FileActor (List ℕ)
config_ports_at name kernel args at d = do
  ins ← member_at (list_at input_at) at (codes "ins") d
  outs ← member_at (list_at port_at) at (codes "outs") d
  sets ← member_at (list_at name_at) at (codes "sets") d
  Ok (record { name = name; body = Config kernel args ins outs sets })

unfoldable pub config_members_at : List ℕ → Data → Result FileActor (List ℕ)
config_members_at at d = do
  name ← member_at name_at at (codes "name") d
  kernel ← member_at kernel_at at (codes "kernel") d
  args ← member_at (list_at expression_at) at (codes "args") d
  config_ports_at name kernel args at d

abbrev pub config_keys : List (List ℕ)
config_keys = codes "name" ∷ codes "kind" ∷ codes "kernel" ∷ codes "args" ∷ codes "ins" ∷ codes "outs" ∷ codes "sets" ∷ []

unfoldable pub child_members_at : List ℕ → Data → Result FileActor (List ℕ)
child_members_at at d = do
  name ← member_at name_at at (codes "name") d
  graph ← member_at name_at at (codes "graph") d
  args ← member_at (list_at expression_at) at (codes "args") d
  Ok (record { name = name; body = Child graph args })

abbrev pub child_keys : List (List ℕ)
child_keys = codes "name" ∷ codes "kind" ∷ codes "graph" ∷ codes "args" ∷ []

unfoldable pub config_child_members_at : List ℕ → Data → Result FileActor (List ℕ)
config_child_members_at at d = do
  name ← member_at name_at at (codes "name") d
  graph ← member_at name_at at (codes "graph") d
  args ← member_at (list_at expression_at) at (codes "args") d
  sets ← member_at (list_at name_at) at (codes "sets") d
  Ok (record { name = name; body = ConfigChild graph args sets })

abbrev pub config_child_keys : List (List ℕ)
config_child_keys = codes "name" ∷ codes "kind" ∷ codes "graph" ∷ codes "args" ∷ codes "sets" ∷ []

-- An actor of another kind has not the form itself, whatever its other members are. Version 3 alone has the kind `setgraph`.
unfoldable pub actor_at : ℕ → List ℕ → Data → Result FileActor (List ℕ)
actor_at version at d =
    if says (codes "kind") (codes "kernel") d then formed kernel_keys [] kernel_members_at at d else
    if says (codes "kind") (codes "config") d then formed config_keys [] config_members_at at d else
    if says (codes "kind") (codes "graph") d then formed child_keys [] child_members_at at d else
    if has_exports version && says (codes "kind") (codes "setgraph") d then formed config_child_keys [] config_child_members_at at d else
    Err (pointer_text at)

-- ---- FIFOs

-- so many tokens 0
abbrev pub zeros_from : ℤ → Option FileDelay
zeros_from (pos n) = Some (Zeros n)
zeros_from (negsuc n) = None

abbrev pub tokens_or_zeros_at : List ℕ → Data → Option Items → Result FileDelay (List ℕ)
tokens_or_zeros_at at d None = shaped at (option_and_then zeros_from (whole_of d))
tokens_or_zeros_at at d (Some values) = items_at whole_at at 0 values >>= λ tokens. Ok (Tokens tokens)

unfoldable pub delay_at : List ℕ → Data → Result FileDelay (List ℕ)
delay_at at d = tokens_or_zeros_at at d (as_array d)

abbrev pub life_from : List ℕ → Option Life
life_from text = if bytes_eq text (codes "firing") then Some Firing else if bytes_eq text (codes "permanent") then Some Permanent else None

abbrev pub life_at : List ℕ → Data → Result Life (List ℕ)
life_at at d = shaped at (option_and_then life_from (as_str d))

unfoldable pub fifo_members_at : List ℕ → Data → Result FileFifo (List ℕ)
fifo_members_at at d = do
  from ← member_at end_at at (codes "from") d
  to ← member_at end_at at (codes "to") d
  delay ← member_or (Zeros 0) delay_at at (codes "delay") d
  life ← member_or Firing life_at at (codes "life") d
  Ok (record { from = from; to = to; delay = delay; life = life })

abbrev pub fifo_keys : List (List ℕ)
fifo_keys = codes "from" ∷ codes "to" ∷ []

-- what a FIFO may leave out in a version of the format
abbrev pub optional_fifo_keys : ℕ → List (List ℕ)
optional_fifo_keys version = if has_lives version then codes "delay" ∷ codes "life" ∷ [] else codes "delay" ∷ []

unfoldable pub fifo_at : ℕ → List ℕ → Data → Result FileFifo (List ℕ)
fifo_at version at d = formed fifo_keys (optional_fifo_keys version) fifo_members_at at d

-- ---- graphs

-- the names of the parameters that a graph exports, where the version has exports
abbrev pub exports_at : ℕ → List ℕ → Data → Result (List (List ℕ)) (List ℕ)
exports_at version at d = if has_exports version then member_at (list_at name_at) at (codes "exports") d else Ok []

-- the interfaces, actors, FIFOs and exports, after the members before
unfoldable pub graph_parts_at : ℕ → List ℕ → List FileParam → List ℕ → Data → Result FileGraph (List ℕ)
graph_parts_at version name params at d = do
  inputs ← member_at (list_at port_at) at (codes "inputs") d
  outputs ← member_at (list_at port_at) at (codes "outputs") d
  actors ← member_at (list_at (actor_at version)) at (codes "actors") d
  fifos ← member_at (list_at (fifo_at version)) at (codes "fifos") d
  exports ← exports_at version at d
  Ok (record { name = name; params = params; inputs = inputs; outputs = outputs; actors = actors; fifos = fifos; exports = exports })

unfoldable pub graph_members_at : ℕ → List ℕ → Data → Result FileGraph (List ℕ)
graph_members_at version at d = do
  name ← member_at name_at at (codes "name") d
  params ← member_at (list_at param_at) at (codes "params") d
  graph_parts_at version name params at d

abbrev pub graph_keys : ℕ → List (List ℕ)
graph_keys version =
    if has_exports version
    then codes "name" ∷ codes "params" ∷ codes "inputs" ∷ codes "outputs" ∷ codes "actors" ∷ codes "fifos" ∷ codes "exports" ∷ []
    else codes "name" ∷ codes "params" ∷ codes "inputs" ∷ codes "outputs" ∷ codes "actors" ∷ codes "fifos" ∷ []

unfoldable pub graph_at : ℕ → List ℕ → Data → Result FileGraph (List ℕ)
graph_at version at d = formed (graph_keys version) [] (graph_members_at version) at d

-- ---- the root

-- the version that a root states
abbrev pub stated_version : Data → Option ℤ
stated_version d = option_and_then whole_of (get (codes "pisdf") d)

-- the number of the version
abbrev pub version_from : ℕ → ℤ → Option ℕ
version_from version (pos n) = if n == version then Some version else None
version_from version (negsuc n) = None

abbrev pub version_at : ℕ → List ℕ → Data → Result ℕ (List ℕ)
version_at version at d = shaped at (option_and_then (version_from version) (whole_of d))

unfoldable pub file_members_at : ℕ → List ℕ → Data → Result File (List ℕ)
file_members_at version at d = do
  stated ← member_at (version_at version) at (codes "pisdf") d
  top ← member_at name_at at (codes "top") d
  graphs ← member_at (list_at (graph_at version)) at (codes "graphs") d
  Ok (record { version = stated; top = top; graphs = graphs })

abbrev pub file_keys : List (List ℕ)
file_keys = codes "pisdf" ∷ codes "top" ∷ codes "graphs" ∷ []

-- the file of a version of the format
unfoldable pub file_at : ℕ → List ℕ → Data → Result File (List ℕ)
file_at version at d = formed file_keys [] (file_members_at version) at d
