-- The canonical value of a file that some value states, states it too, where each of its delays is stated by its own.
use Rattle.std.proofs.Common.{◌≡◌, ℕ, ◌≤◌, ◌^◌, ◌&&◌, not, ℤ, pos, negsuc, List, [], ◌∷◌, map, true, Option, Some, None, Ok, refl, arith, Bool, false, cond, ap}
use Rattle.std.specs.Prelude.{codes, int_le, nat_lt}
use Rattle.std.specs.List.{AllByRecursion}
use Rattle.std.proofs.lemmas.Bool.Decides.{nat_tests}
use Rattle.serde_json.specs.Data.{Data, string, Items, no_items, item, number, unsigned, object, member}
use Rattle.serde_json.specs.Find.{get}
use Rattle.serde_json.specs.View.{items_of}
use Rattle.param_expr.specs.Named.{NamedTree}
use Rattle.param_expr.specs.Parse.{Answers}
use Rattle.param_expr.specs.Print.{printed}
use Rattle.graph_format.specs.Canonical.{list_value, whole_value, expression_value, end_value, port_value, input_value, param_value, actor_value, delay_value, is_no_delay, end_members, fifo_value, graph_members, graph_value, file_value}
use Rattle.graph_format.specs.Objects.{greatest_bound, has_exports, has_lives}
use Rattle.graph_format.specs.Walk.{has_form}
use Rattle.graph_format.specs.Values.{HasMember, StatesOr, AreItems, IsList, IsWhole, IsWithin, StatesName, StatesKernel, StatesExpression, StatesEnd, end_text}
use Rattle.graph_format.specs.States.{StatesPort, StatesInput, StatesParam, StatesActor, StatesDelay, StatesExports, StatesFifo, StatesGraph, StatesVersion, States}
use Rattle.graph_format.specs.declared.actor.FileBody.{FileBody}
use Rattle.graph_format.specs.declared.actor.FileBody.TheVariants.{Kernel, Config, Child, ConfigChild}
use Rattle.graph_format.specs.declared.fifo.FileDelay.{FileDelay}
use Rattle.graph_format.specs.declared.fifo.FileDelay.TheVariants.{Zeros, Tokens}
use Rattle.pisdf_model.specs.declared.fifo.Life.TheVariants.{Firing}
use Rattle.graph_format.specs.declared.fifo.FileFifo.{FileFifo}
use Rattle.graph_format.specs.declared.file.File.{File}
use Rattle.graph_format.specs.declared.file.FileGraph.{FileGraph}
use Rattle.graph_format.specs.declared.param.FileParam.{FileParam}
use Rattle.graph_format.specs.declared.param.FileParamKind.{FileParamKind}
use Rattle.graph_format.specs.declared.param.FileParamKind.TheVariants.{Inherited, Derived, Chosen}

-- ---- what some value states, and its canonical value

-- what some value states is stated by the value that shows it
abbrev pub Again : {A : Type 0} → (Data → A → Type 0) → (A → Data) → Type 0
Again {A} R show = (d : Data) (x : A) → R d x → R (show x) x

-- ---- members and lists

pub member_again : {A : Type 0} (R : Data → A → Type 0) (show : A → Data) → Again R show → (name : List ℕ) (d shown : Data) (x : A) → get name shown ≡ Some (show x) → HasMember R d name x → HasMember R shown name x
member_again R show again name d shown x is m = record { value = show x; is_there = is; states = again m.value x m.states }

items_again : {A : Type 0} (R : Data → A → Type 0) (show : A → Data) (P : A → Type 0) → ((d : Data) (x : A) → P x → R d x → R (show x) x)
    → (ds : Items) (xs : List A) → AllByRecursion P xs → AreItems R ds xs → AreItems R (items_of (map show xs)) xs
items_again R show P again no_items [] p a = tt
items_again R show P again no_items (x ∷ xs) p a = absurd a
items_again R show P again (item d ds) [] p a = absurd a
items_again R show P again (item d ds) (x ∷ xs) p a = (again d x p.0 a.0, items_again R show P again ds xs p.1 a.1)

-- where each item has what it takes
pub list_again_where : {A : Type 0} (R : Data → A → Type 0) (show : A → Data) (P : A → Type 0) → ((d : Data) (x : A) → P x → R d x → R (show x) x)
    → (d : Data) (xs : List A) → AllByRecursion P xs → IsList R d xs → IsList R (list_value show xs) xs
list_again_where R show P again d xs p l = record { values = items_of (map show xs); is_array = refl; items = items_again R show P again l.values xs p l.items }

nothing_asked : {A : Type 0} (xs : List A) → AllByRecursion (λ x. Unit {0}) xs
nothing_asked [] = tt
nothing_asked (x ∷ xs) = (tt, nothing_asked xs)

pub list_again : {A : Type 0} (R : Data → A → Type 0) (show : A → Data) → Again R show → Again (IsList R) (list_value show)
list_again R show again d xs l = list_again_where R show (λ x. Unit {0}) (λ d x p s. again d x s) d xs (nothing_asked xs) l

-- ---- numbers

bounded_again : (z : ℤ) → int_le z greatest_bound ≡ true → IsWhole (whole_value z) z
bounded_again (pos n) high =
    let below : nat_lt n (2 ^ 63) ≡ true = grind (arith, nat_tests) in
    rw below refl
bounded_again (negsuc n) high = refl

within_again : (least : ℤ) → Again (IsWithin least greatest_bound) whole_value
within_again least d z h = record { number = bounded_again z h.high; low = h.low; high = h.high }

-- a bound that is left out is one too
pub or_within : (least default : ℤ) → int_le least default ≡ true → int_le default greatest_bound ≡ true → (o : Option Data) (z : ℤ) → StatesOr (IsWithin least greatest_bound) default o z → IsWithin least greatest_bound (whole_value z) z
or_within least default low high None z is = rw is (record { number = bounded_again default high; low = low; high = high })
or_within least default low high (Some d) z h = within_again least d z h

-- ---- texts

pub name_again : Again StatesName string
name_again d name h = record { text = refl; valid = h.valid }

pub names_again : Again (IsList StatesName) (list_value string)
names_again = list_again StatesName string name_again

pub kernel_again : Again StatesKernel string
kernel_again d name h = record { text = refl; valid = h.valid }

pub end_again : Again StatesEnd end_value
end_again d end h = record { text = refl; valid = h.valid }

-- ---- expressions and ports

pub input_again : Again StatesInput input_value
unfolding input_value has_form
input_again d input h = record { members = refl; name = member_again StatesName string name_again (codes "name") d (input_value input) input refl h.name }

module _ (printed_answers : (text : List ℕ) (t : NamedTree) → Answers text (Ok t) → Answers (printed t) (Ok t)) where
  pub expression_again : Again StatesExpression expression_value
  expression_again d expr h = record { text = printed expr; is_text = refl; answer = printed_answers h.text expr h.answer }

  pub port_again : Again StatesPort port_value
  unfolding port_value has_form
  port_again d port h = record {
    members = refl;
    name = member_again StatesName string name_again (codes "name") d (port_value port) port.name refl h.name;
    rate = member_again StatesExpression expression_value expression_again (codes "rate") d (port_value port) port.rate refl h.rate;
  }

-- ---- FIFOs

-- whether the canonical value of a FIFO states its life
abbrev pub shows_life : ℕ → FileDelay → Bool
shows_life version delay = has_lives version && not (is_no_delay delay)

-- what the canonical value of the FIFO shows is what the FIFO has: its delay, and where no life is stated, that of a firing
pub record IsShown (version : ℕ) (fifo : FileFifo) : Type 0 where
  pub delay : StatesDelay (delay_value fifo.delay) fifo.delay
  pub life : shows_life version fifo.delay ≡ false → fifo.life ≡ Firing

abbrev pub AreShown : ℕ → FileGraph → Type 0
AreShown version graph = AllByRecursion (IsShown version) graph.fifos

no_delay : (delay : FileDelay) → is_no_delay delay ≡ true → delay ≡ Zeros 0
no_delay (Zeros count) none =
    let same : count ≡ 0 = grind (arith, nat_tests) in
    ap (λ n. Zeros n) same
no_delay (Tokens tokens) none = absurd cc

-- whether the version has lives, and whether the delay is left out
pub either_again : (version : ℕ) (d : Data) (fifo : FileFifo) (lives none : Bool) → has_lives version ≡ lives → is_no_delay fifo.delay ≡ none → IsShown version fifo
    → HasMember StatesEnd d (codes "from") fifo.from → HasMember StatesEnd d (codes "to") fifo.to
    → StatesFifo version (object (cond none (end_members (lives && not none) fifo.life (end_text fifo.from) (end_text fifo.to)) (member (codes "delay") (delay_value fifo.delay) (end_members (lives && not none) fifo.life (end_text fifo.from) (end_text fifo.to))))) fifo
unfolding has_form
either_again version d fifo true true has left_out shown from to = record {
  members = refl;
  from = member_again StatesEnd end_value end_again (codes "from") d _ fifo.from refl from;
  to = member_again StatesEnd end_value end_again (codes "to") d _ fifo.to refl to;
  delay = no_delay fifo.delay left_out;
  life = shown.life (rw (has, left_out) refl);
}
either_again version d fifo true false has left_out shown from to = record {
  members = rw has refl;
  from = member_again StatesEnd end_value end_again (codes "from") d _ fifo.from refl from;
  to = member_again StatesEnd end_value end_again (codes "to") d _ fifo.to refl to;
  delay = shown.delay;
  life = refl;
}
either_again version d fifo false true has left_out shown from to = record {
  members = refl;
  from = member_again StatesEnd end_value end_again (codes "from") d _ fifo.from refl from;
  to = member_again StatesEnd end_value end_again (codes "to") d _ fifo.to refl to;
  delay = no_delay fifo.delay left_out;
  life = shown.life (rw has refl);
}
either_again version d fifo false false has left_out shown from to = record {
  members = rw has refl;
  from = member_again StatesEnd end_value end_again (codes "from") d _ fifo.from refl from;
  to = member_again StatesEnd end_value end_again (codes "to") d _ fifo.to refl to;
  delay = shown.delay;
  life = shown.life (rw has refl);
}

pub fifo_again : (version : ℕ) (d : Data) (fifo : FileFifo) → IsShown version fifo → HasMember StatesEnd d (codes "from") fifo.from → HasMember StatesEnd d (codes "to") fifo.to → StatesFifo version (fifo_value version fifo) fifo
unfolding fifo_value
fifo_again version d fifo shown from to = either_again version d fifo (has_lives version) (is_no_delay fifo.delay) refl refl shown from to

module _ (printed_answers : (text : List ℕ) (t : NamedTree) → Answers text (Ok t) → Answers (printed t) (Ok t)) where
  -- ---- parameters

  range_low : (d : Data) (param : FileParam) → StatesParam d param → IsWithin (pos 0) greatest_bound (whole_value param.low) param.low
  range_low d param h = or_within (pos 0) (pos 0) refl refl _ param.low h.low

  range_high : (d : Data) (param : FileParam) → StatesParam d param → IsWithin param.low greatest_bound (whole_value param.high) param.high
  range_high d param h = or_within param.low greatest_bound (range_low d param h).high refl _ param.high h.high

  kind_again : (d : Data) (kind : FileParamKind) (name : List ℕ) (low high : ℤ) → StatesParam d (record { name = name; kind = kind; low = low; high = high })
      → StatesParam (param_value (record { name = name; kind = kind; low = low; high = high })) (record { name = name; kind = kind; low = low; high = high })
  unfolding param_value has_form
  kind_again d Inherited name low high h = record {
    members = refl;
    name = member_again StatesName string name_again (codes "name") d _ name refl h.name;
    kind = record { value = string (codes "in"); is_there = refl; states = refl };
    expr = tt;
    low = range_low d (record { name = name; kind = Inherited; low = low; high = high }) h;
    high = range_high d (record { name = name; kind = Inherited; low = low; high = high }) h;
  }
  kind_again d (Derived expr) name low high h = record {
    members = refl;
    name = member_again StatesName string name_again (codes "name") d _ name refl h.name;
    kind = record { value = string (codes "is"); is_there = refl; states = refl };
    expr = member_again StatesExpression expression_value (expression_again printed_answers) (codes "expr") d _ expr refl h.expr;
    low = range_low d (record { name = name; kind = Derived expr; low = low; high = high }) h;
    high = range_high d (record { name = name; kind = Derived expr; low = low; high = high }) h;
  }
  kind_again d Chosen name low high h = record {
    members = refl;
    name = member_again StatesName string name_again (codes "name") d _ name refl h.name;
    kind = record { value = string (codes "set"); is_there = refl; states = refl };
    expr = tt;
    low = range_low d (record { name = name; kind = Chosen; low = low; high = high }) h;
    high = range_high d (record { name = name; kind = Chosen; low = low; high = high }) h;
  }

  param_again : Again StatesParam param_value
  param_again d param h = kind_again d param.kind param.name param.low param.high h

  -- ---- actors

  args_again : Again (IsList StatesExpression) (list_value expression_value)
  args_again = list_again StatesExpression expression_value (expression_again printed_answers)

  ports_again : Again (IsList StatesPort) (list_value port_value)
  ports_again = list_again StatesPort port_value (port_again printed_answers)

  body_again : (version : ℕ) (d : Data) (name : List ℕ) (body : FileBody) → StatesActor version d (record { name = name; body = body }) → StatesActor version (actor_value (record { name = name; body = body })) (record { name = name; body = body })
  unfolding actor_value has_form
  body_again version d name (Kernel kernel args ins outs) h = record {
    members = refl;
    name = member_again StatesName string name_again (codes "name") d _ name refl h.name;
    kind = record { value = string (codes "kernel"); is_there = refl; states = refl };
    body = record {
      kernel = member_again StatesKernel string kernel_again (codes "kernel") d _ kernel refl h.body.kernel;
      args = member_again (IsList StatesExpression) (list_value expression_value) args_again (codes "args") d _ args refl h.body.args;
      ins = member_again (IsList StatesPort) (list_value port_value) ports_again (codes "ins") d _ ins refl h.body.ins;
      outs = member_again (IsList StatesPort) (list_value port_value) ports_again (codes "outs") d _ outs refl h.body.outs;
    };
  }
  body_again version d name (Config kernel args ins outs sets) h = record {
    members = refl;
    name = member_again StatesName string name_again (codes "name") d _ name refl h.name;
    kind = record { value = string (codes "config"); is_there = refl; states = refl };
    body = record {
      kernel = member_again StatesKernel string kernel_again (codes "kernel") d _ kernel refl h.body.kernel;
      args = member_again (IsList StatesExpression) (list_value expression_value) args_again (codes "args") d _ args refl h.body.args;
      ins = member_again (IsList StatesInput) (list_value input_value) (list_again StatesInput input_value input_again) (codes "ins") d _ ins refl h.body.ins;
      outs = member_again (IsList StatesPort) (list_value port_value) ports_again (codes "outs") d _ outs refl h.body.outs;
      sets = member_again (IsList StatesName) (list_value string) names_again (codes "sets") d _ sets refl h.body.sets;
    };
  }
  body_again version d name (Child graph args) h = record {
    members = refl;
    name = member_again StatesName string name_again (codes "name") d _ name refl h.name;
    kind = record { value = string (codes "graph"); is_there = refl; states = refl };
    body = record {
      graph = member_again StatesName string name_again (codes "graph") d _ graph refl h.body.graph;
      args = member_again (IsList StatesExpression) (list_value expression_value) args_again (codes "args") d _ args refl h.body.args;
    };
  }
  body_again version d name (ConfigChild graph args sets) h = record {
    members = refl;
    name = member_again StatesName string name_again (codes "name") d _ name refl h.name;
    kind = record { value = string (codes "setgraph"); is_there = refl; states = refl };
    body = record {
      is_there = h.body.is_there;
      graph = member_again StatesName string name_again (codes "graph") d _ graph refl h.body.graph;
      args = member_again (IsList StatesExpression) (list_value expression_value) args_again (codes "args") d _ args refl h.body.args;
      sets = member_again (IsList StatesName) (list_value string) names_again (codes "sets") d _ sets refl h.body.sets;
    };
  }

  actor_again : (version : ℕ) → Again (StatesActor version) actor_value
  actor_again version d actor h = body_again version d actor.name actor.body h

  -- ---- graphs

  fifos_shown : (version : ℕ) (graph : FileGraph) → AreShown version graph → (d : Data) → StatesGraph version d graph → IsList (StatesFifo version) (list_value (fifo_value version) graph.fifos) graph.fifos
  fifos_shown version graph shown d h =
      list_again_where (StatesFifo version) (fifo_value version) (IsShown version) (λ d fifo shown h. fifo_again version d fifo shown h.from h.to) h.fifos.value graph.fifos shown h.fifos.states

  -- whether the version has exports
  exporting_again : (version : ℕ) (d : Data) (graph : FileGraph) (exporting : Bool) → has_exports version ≡ exporting → AreShown version graph → StatesGraph version d graph → StatesExports exporting d graph.exports
      → StatesGraph version (object (graph_members exporting graph.name (list_value param_value graph.params) (list_value port_value graph.inputs) (list_value port_value graph.outputs) (list_value actor_value graph.actors) (list_value (fifo_value version) graph.fifos) (list_value string graph.exports))) graph
  unfolding has_form
  exporting_again version d graph true has shown h exports = record {
    members = rw has refl;
    name = member_again StatesName string name_again (codes "name") d _ graph.name refl h.name;
    params = member_again (IsList StatesParam) (list_value param_value) (list_again StatesParam param_value param_again) (codes "params") d _ graph.params refl h.params;
    inputs = member_again (IsList StatesPort) (list_value port_value) ports_again (codes "inputs") d _ graph.inputs refl h.inputs;
    outputs = member_again (IsList StatesPort) (list_value port_value) ports_again (codes "outputs") d _ graph.outputs refl h.outputs;
    actors = member_again (IsList (StatesActor version)) (list_value actor_value) (list_again (StatesActor version) actor_value (actor_again version)) (codes "actors") d _ graph.actors refl h.actors;
    fifos = record { value = list_value (fifo_value version) graph.fifos; is_there = refl; states = fifos_shown version graph shown d h };
    exports = rw has (member_again (IsList StatesName) (list_value string) names_again (codes "exports") d _ graph.exports refl exports);
  }
  exporting_again version d graph false has shown h exports = record {
    members = rw has refl;
    name = member_again StatesName string name_again (codes "name") d _ graph.name refl h.name;
    params = member_again (IsList StatesParam) (list_value param_value) (list_again StatesParam param_value param_again) (codes "params") d _ graph.params refl h.params;
    inputs = member_again (IsList StatesPort) (list_value port_value) ports_again (codes "inputs") d _ graph.inputs refl h.inputs;
    outputs = member_again (IsList StatesPort) (list_value port_value) ports_again (codes "outputs") d _ graph.outputs refl h.outputs;
    actors = member_again (IsList (StatesActor version)) (list_value actor_value) (list_again (StatesActor version) actor_value (actor_again version)) (codes "actors") d _ graph.actors refl h.actors;
    fifos = record { value = list_value (fifo_value version) graph.fifos; is_there = refl; states = fifos_shown version graph shown d h };
    exports = rw has exports;
  }

  graph_again : (version : ℕ) (d : Data) (graph : FileGraph) → AreShown version graph → StatesGraph version d graph → StatesGraph version (graph_value version graph) graph
  unfolding graph_value
  graph_again version d graph shown h = exporting_again version d graph (has_exports version) refl shown h h.exports

  -- ---- files

  version_again : (stated : ℕ) → stated ≤ 3 → StatesVersion stated (number (unsigned stated)) stated
  version_again stated last =
      let below : nat_lt stated (2 ^ 63) ≡ true = grind (arith, nat_tests) in
      record { number = rw below refl; is_version = refl }

  pub canonical_states_file : (d : Data) (file : File) → AllByRecursion (AreShown file.version) file.graphs → States d file → States (file_value file) file
  unfolding file_value has_form
  canonical_states_file d file shown h =
      let version = file.version in
      record {
        first_version = h.first_version;
        last_version = h.last_version;
        states = record {
          members = refl;
          pisdf = record { value = number (unsigned version); is_there = refl; states = version_again version h.last_version };
          top = member_again StatesName string name_again (codes "top") d _ file.top refl h.states.top;
          graphs = record {
            value = list_value (graph_value version) file.graphs;
            is_there = refl;
            states = list_again_where (StatesGraph version) (graph_value version) (AreShown version) (graph_again version) h.states.graphs.value file.graphs shown h.states.graphs.states;
          };
        };
      }
