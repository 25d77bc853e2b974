-- The values of a graph file in the order of the walk, each with whether it has its form: an object before its members, these in the order of the format's table, and lists from the front.
use Rattle.std.specs.Prelude.{ℕ, zero, suc, ◌+◌, ◌&&◌, not, ℤ, pos, Bool, true, false, if◌then◌else◌, List, [], ◌∷◌, ◌++◌, map, Option, Some, None, option_and_then, is_some, unwrap_or, codes}
use Rattle.std.specs.List.{filter, flat_map}
use Rattle.std.specs.Fmt.{decimal}
use Rattle.serde_json.specs.Data.{Data, Items, no_items, item}
use Rattle.serde_json.specs.Find.{get, as_str, as_array}
use Rattle.graph_format.specs.Objects.{within, derived_keys, given_keys, optional_param_keys, given_kind, port_keys, kernel_keys, config_keys, child_keys, config_child_keys, has_exports, zeros_from, life_from, fifo_keys, optional_fifo_keys, graph_keys, version_from, file_keys}
use Rattle.graph_format.specs.Pointer.{pointer_text, under}
use Rattle.graph_format.specs.Texts.{name_from, kernel_from, expression_from, end_from}
use Rattle.graph_format.specs.Walk.{has_form, says, whole_of}

-- what a value is asked for
pub data Form : Type 0 where
  a_list : Form → Form
  a_file : Form
  a_version : Form
  a_graph : Form
  a_param : Form
  a_kind : Form
  a_bound : ℤ → Form
  a_port : Form
  an_input : Form
  an_actor : Form
  a_fifo : Form
  a_delay : Form
  a_token : Form
  a_life : Form
  a_name : Form
  a_kernel : Form
  an_expression : Form
  an_end : Form

-- a value below another: the step to it, and what it is asked for
pub record Part : Type 0 where
  pub step : List ℕ
  pub value : Data
  pub form : Form

-- ---- members and items

abbrev pub part_there : List ℕ → Form → Option Data → List Part
part_there step form None = []
part_there step form (Some value) = record { step = step; value = value; form = form } ∷ []

-- the member of this name, where it is there
abbrev pub the_member : List ℕ → Form → Data → List Part
the_member step form d = part_there step form (get step d)

-- the values of a list, of which the first is item i
abbrev pub items_from : Form → ℕ → Items → List Part
items_from form i no_items = []
items_from form i (item d ds) = record { step = decimal i; value = d; form = form } ∷ items_from form (i + 1) ds

abbrev pub the_items : Form → Option Items → List Part
the_items form None = []
the_items form (Some values) = items_from form 0 values

-- ---- the table of the format

-- what a parameter's low end is, or stands for where it is left out
abbrev pub low_there : Option Data → ℤ
low_there None = pos 0
low_there (Some d) = unwrap_or (option_and_then (within (pos 0)) (whole_of d)) (pos 0)

abbrev pub is_derived : Data → Bool
is_derived d = says (codes "kind") (codes "is") d

abbrev pub param_parts : Data → List Part
param_parts d =
    the_member (codes "name") a_name d
    ++ ((if is_derived d then the_member (codes "expr") an_expression d else the_member (codes "kind") a_kind d)
    ++ (the_member (codes "low") (a_bound (pos 0)) d
    ++ the_member (codes "high") (a_bound (low_there (get (codes "low") d))) d))

pub data ActorKind : Type 0 where
  kernel_kind : ActorKind
  config_kind : ActorKind
  child_kind : ActorKind
  config_child_kind : ActorKind
  no_kind : ActorKind

abbrev pub kind_of_actor : ℕ → Data → ActorKind
kind_of_actor version d =
    if says (codes "kind") (codes "kernel") d then kernel_kind else
    if says (codes "kind") (codes "config") d then config_kind else
    if says (codes "kind") (codes "graph") d then child_kind else
    if has_exports version && says (codes "kind") (codes "setgraph") d then config_child_kind else
    no_kind

abbrev pub is_actor : ActorKind → Data → Bool
is_actor kernel_kind d = has_form kernel_keys [] d
is_actor config_kind d = has_form config_keys [] d
is_actor child_kind d = has_form child_keys [] d
is_actor config_child_kind d = has_form config_child_keys [] d
is_actor no_kind d = false

abbrev pub actor_parts : ActorKind → Data → List Part
actor_parts kernel_kind d =
    the_member (codes "name") a_name d
    ++ (the_member (codes "kernel") a_kernel d
    ++ (the_member (codes "args") (a_list an_expression) d
    ++ (the_member (codes "ins") (a_list a_port) d
    ++ the_member (codes "outs") (a_list a_port) d)))
actor_parts config_kind d =
    the_member (codes "name") a_name d
    ++ (the_member (codes "kernel") a_kernel d
    ++ (the_member (codes "args") (a_list an_expression) d
    ++ (the_member (codes "ins") (a_list an_input) d
    ++ (the_member (codes "outs") (a_list a_port) d
    ++ the_member (codes "sets") (a_list a_name) d))))
actor_parts child_kind d =
    the_member (codes "name") a_name d
    ++ (the_member (codes "graph") a_name d
    ++ the_member (codes "args") (a_list an_expression) d)
actor_parts config_child_kind d =
    the_member (codes "name") a_name d
    ++ (the_member (codes "graph") a_name d
    ++ (the_member (codes "args") (a_list an_expression) d
    ++ the_member (codes "sets") (a_list a_name) d))
actor_parts no_kind d = []

abbrev pub export_parts : Bool → Data → List Part
export_parts exporting d = if exporting then the_member (codes "exports") (a_list a_name) d else []

-- what stands below a value of a form, in the order of the walk
abbrev pub parts : ℕ → Form → Data → List Part
parts version (a_list form) d = the_items form (as_array d)
parts version a_file d =
    the_member (codes "pisdf") a_version d
    ++ (the_member (codes "top") a_name d
    ++ the_member (codes "graphs") (a_list a_graph) d)
parts version a_version d = []
parts version a_graph d =
    the_member (codes "name") a_name d
    ++ (the_member (codes "params") (a_list a_param) d
    ++ (the_member (codes "inputs") (a_list a_port) d
    ++ (the_member (codes "outputs") (a_list a_port) d
    ++ (the_member (codes "actors") (a_list an_actor) d
    ++ (the_member (codes "fifos") (a_list a_fifo) d
    ++ export_parts (has_exports version) d)))))
parts version a_param d = param_parts d
parts version a_kind d = []
parts version (a_bound least) d = []
parts version a_port d = the_member (codes "name") a_name d ++ the_member (codes "rate") an_expression d
parts version an_input d = the_member (codes "name") a_name d
parts version an_actor d = actor_parts (kind_of_actor version d) d
parts version a_fifo d =
    the_member (codes "from") an_end d
    ++ (the_member (codes "to") an_end d
    ++ (the_member (codes "delay") a_delay d
    ++ the_member (codes "life") a_life d))
parts version a_delay d = the_items a_token (as_array d)
parts version a_token d = []
parts version a_life d = []
parts version a_name d = []
parts version a_kernel d = []
parts version an_expression d = []
parts version an_end d = []

abbrev pub is_delay : Option Items → Data → Bool
is_delay None d = is_some (option_and_then zeros_from (whole_of d))
is_delay (Some values) d = true

-- a value has its form itself, whatever stands below it
abbrev pub has_own_form : ℕ → Form → Data → Bool
has_own_form version (a_list form) d = is_some (as_array d)
has_own_form version a_file d = has_form file_keys [] d
has_own_form version a_version d = is_some (option_and_then (version_from version) (whole_of d))
has_own_form version a_graph d = has_form (graph_keys version) [] d
has_own_form version a_param d = has_form (if is_derived d then derived_keys else given_keys) optional_param_keys d
has_own_form version a_kind d = is_some (option_and_then given_kind (as_str d))
has_own_form version (a_bound least) d = is_some (option_and_then (within least) (whole_of d))
has_own_form version a_port d = has_form port_keys [] d
has_own_form version an_input d = has_form (codes "name" ∷ []) [] d
has_own_form version an_actor d = is_actor (kind_of_actor version d) d
has_own_form version a_fifo d = has_form fifo_keys (optional_fifo_keys version) d
has_own_form version a_delay d = is_delay (as_array d) d
has_own_form version a_token d = is_some (whole_of d)
has_own_form version a_life d = is_some (option_and_then life_from (as_str d))
has_own_form version a_name d = is_some (option_and_then name_from (as_str d))
has_own_form version a_kernel d = is_some (option_and_then kernel_from (as_str d))
has_own_form version an_expression d = is_some (option_and_then expression_from (as_str d))
has_own_form version an_end d = is_some (option_and_then end_from (as_str d))

-- ---- the walk

-- a value in the walk: its pointer, and whether it has its form
pub record WalkedValue : Type 0 where
  pub pointer : List ℕ
  pub formed : Bool

-- a value, then those below it, to n levels; below one that has not its form nothing is looked at
unfoldable pub walked_values_to : ℕ → ℕ → Form → List ℕ → Data → List WalkedValue
walked_values_to version zero form at d = []
walked_values_to version (suc n) form at d =
    record { pointer = pointer_text at; formed = has_own_form version form d }
    ∷ (if has_own_form version form d then flat_map (λ (p : Part). walked_values_to version n p.form (under at p.step) p.value) (parts version form d) else [])

-- the values of a file of a version, which has no more than 8 levels
abbrev pub walked_values : ℕ → Data → List WalkedValue
walked_values version d = walked_values_to version 8 a_file [] d

-- the pointers to those that have not their form
abbrev pub unformed : List WalkedValue → List (List ℕ)
unformed walked_values = map (λ (p : WalkedValue). p.pointer) (filter (λ (p : WalkedValue). not p.formed) walked_values)
