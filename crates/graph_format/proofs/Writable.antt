-- The graphs that a file means can be written, where some value states the file.
use Rattle.std.proofs.Common.{◌≡◌, ℕ, ◌+◌, ◌==◌, pos, negsuc, Bool, List, [], ◌∷◌, map, All, length, refl, sym, subst}
use Rattle.std.specs.List.{enumerate_from}
use Rattle.std.proofs.lemmas.List.{length-map}
use Rattle.std.proofs.lemmas.List.Elements.{All-nil, All-cons, All-head, All-tail}
use Rattle.serde_json.specs.Data.{Data, Items, no_items, item}
use Rattle.kernel_gate.specs.Signed.{SignatureView}
use Rattle.param_expr.proofs.Stated.{spelled_stated}
use Rattle.param_expr.specs.Bind.{placed_in}
use Rattle.param_expr.specs.Eval.{RefersBelow}
use Rattle.param_expr.specs.Named.{NamedTree, number, name, binary}
use Rattle.param_expr.specs.Parse.{IsStated}
use Rattle.param_expr.specs.Print.{NonNegative}
use Rattle.param_expr.specs.Words.{IsName}
use Rattle.pisdf_model.specs.Range.{InRange, IsParamInRange, IsPortInRange, IsInterfaceInRange, IsBodyInRange, IsActorInRange, IsGraphInRange}
use Rattle.pisdf_model.specs.declared.graph.Graph.{Graph}
use Rattle.pisdf_model.specs.declared.graph.Graphs.{Graphs}
use Rattle.pisdf_model.specs.declared.param.Param.{Param}
use Rattle.graph_format.specs.Faults.{graphs_of}
use Rattle.graph_format.specs.Kernels.{kernel_names}
use Rattle.graph_format.specs.Placed.{placed_actor, placed_body, placed_graph, placed_interface, placed_kind, placed_param, placed_port, tokens_of, top_of}
use Rattle.graph_format.specs.KnownNames.{KnownNames, known_names}
use Rattle.graph_format.specs.States.{StatesIn, StatesActor, StatesBody, StatesGraph, StatesParam, StatesPort, StatesRule}
use Rattle.graph_format.specs.Values.{AreItems, IsList, StatesExpression}
use Rattle.graph_format.specs.declared.actor.FileActor.{FileActor}
use Rattle.graph_format.specs.declared.actor.FileBody.{FileBody}
use Rattle.graph_format.specs.declared.actor.FileBody.TheVariants.{Kernel, Config, Child, ConfigChild}
use Rattle.graph_format.specs.declared.file.File.{File}
use Rattle.graph_format.specs.declared.file.FileGraph.{FileGraph}
use Rattle.graph_format.specs.declared.param.FileParam.{FileParam}
use Rattle.graph_format.specs.declared.param.FileParamKind.{FileParamKind}
use Rattle.graph_format.specs.declared.param.FileParamKind.TheVariants.{Inherited, Derived, Chosen}
use Rattle.graph_format.specs.declared.port.FilePort.{FilePort}
use Rattle.graph_format.specs.Writable.{IsWritable, IsWritableActor, IsWritableBody, IsWritableGraph, IsWritableInterface, IsWritableKind, IsWritableParam, IsWritablePort}

-- ---- lists

-- what is shown of each part, from the value that states it and from what is known of what it becomes
each_shown : {A B : Type 0} (R : Data → A → Type 0) (m : A → B) (P Q : B → Type 0) → ((d : Data) (x : A) → R d x → P (m x) → Q (m x)) → (ds : Items) (xs : List A) → AreItems R ds xs → All P (map m xs) → All Q (map m xs)
each_shown R m P Q shown no_items [] items all = All-nil Q
each_shown R m P Q shown no_items (x ∷ xs) items all = absurd items
each_shown R m P Q shown (item d ds) [] items all = absurd items
each_shown R m P Q shown (item d ds) (x ∷ xs) items all =
    All-cons Q (m x) (map m xs) (shown d x items.0 (All-head P (m x) (map m xs) all)) (each_shown R m P Q shown ds xs items.1 (All-tail P (m x) (map m xs) all))

-- with their numbers
numbered : {A : Type 0} (R : Data → A → Type 0) (n : ℕ) (ds : Items) (xs : List A) → AreItems R ds xs → AreItems (λ d (p : ℕ × A). R d p.1) ds (enumerate_from n xs)
numbered R n no_items [] items = tt
numbered R n no_items (x ∷ xs) items = absurd items
numbered R n (item d ds) [] items = absurd items
numbered R n (item d ds) (x ∷ xs) items = (items.0, numbered R (n + 1) ds xs items.1)

-- ---- expressions

not_negative : (names : List (List ℕ)) (t : NamedTree) → IsStated t → NonNegative (placed_in names t)
not_negative names (number (pos n)) h = tt
not_negative names (number (negsuc n)) h = absurd h
not_negative names (name w) h = tt
not_negative names (binary op a b) h = (not_negative names a h.0, not_negative names b h.1)

-- ---- the parts of a graph with these parameters

module _ (s : KnownNames) (params : List Param) (named : All IsName (map (λ (p : Param). p.name) params)) where
  abbrev names : List (List ℕ)
  names = map (λ (p : Param). p.name) params

  expr_writable : (d : Data) (t : NamedTree) → StatesExpression d t → RefersBelow (length params) (placed_in s.params t) → IsWritable names (placed_in s.params t)
  expr_writable d t h below = record {
    named = named;
    refers = subst (λ n. RefersBelow n (placed_in s.params t)) (sym (length-map params (λ (p : Param). p.name))) below;
    numbers = not_negative s.params t (spelled_stated h.text t h.answer.1);
  }

  exprs_writable : (d : Data) (ts : List NamedTree) → IsList StatesExpression d ts → All (λ e. RefersBelow (length params) e) (map (placed_in s.params) ts) → All (IsWritable names) (map (placed_in s.params) ts)
  exprs_writable d ts h below = each_shown StatesExpression (placed_in s.params) (λ e. RefersBelow (length params) e) (IsWritable names) expr_writable h.values ts h.items below

  kind_writable : (d : Data) (kind : FileParamKind) → StatesRule d kind → (p : Param) → p.kind ≡ placed_kind s kind → IsParamInRange (length params) p → IsWritableKind names (placed_kind s kind)
  kind_writable d Inherited h p is below = tt
  kind_writable d (Derived expr) h p is below = expr_writable h.value expr h.states (rw is at below)
  kind_writable d Chosen h p is below = tt

  param_writable : (d : Data) (p : FileParam) → StatesParam d p → IsParamInRange (length params) (placed_param s p) → IsWritableParam names (placed_param s p)
  param_writable d p h below = kind_writable d p.kind h.expr (placed_param s p) refl below

  port_writable : (d : Data) (p : FilePort) → StatesPort d p → IsPortInRange (length params) (placed_port s p) → IsWritablePort names (placed_port s p)
  port_writable d p h below = expr_writable h.rate.value p.rate h.rate.states below

  ports_writable : (d : Data) (ps : List FilePort) → IsList StatesPort d ps → All (λ p. IsPortInRange (length params) p) (map (placed_port s) ps) → All (IsWritablePort names) (map (placed_port s) ps)
  ports_writable d ps h below = each_shown StatesPort (placed_port s) (λ p. IsPortInRange (length params) p) (IsWritablePort names) port_writable h.values ps h.items below

  interface_writable : (d : Data) (p : FilePort) → StatesPort d p → IsInterfaceInRange (length params) (placed_interface s p) → IsWritableInterface names (placed_interface s p)
  interface_writable d p h below = expr_writable h.rate.value p.rate h.rate.states below

  interfaces_writable : (d : Data) (ps : List FilePort) → IsList StatesPort d ps → All (λ x. IsInterfaceInRange (length params) x) (map (placed_interface s) ps) → All (IsWritableInterface names) (map (placed_interface s) ps)
  interfaces_writable d ps h below = each_shown StatesPort (placed_interface s) (λ x. IsInterfaceInRange (length params) x) (IsWritableInterface names) interface_writable h.values ps h.items below

  body_writable : (version graphs : ℕ) (d : Data) (b : FileBody) → StatesBody version d b → IsBodyInRange version graphs (length params) (placed_body s b) → IsWritableBody names (placed_body s b)
  body_writable version graphs d (Kernel kernel args ins outs) h range =
      (exprs_writable h.args.value args h.args.states range.0, ports_writable h.ins.value ins h.ins.states range.1, ports_writable h.outs.value outs h.outs.states range.2)
  body_writable version graphs d (Config kernel args ins outs sets) h range =
      (exprs_writable h.args.value args h.args.states range.0, ports_writable h.outs.value outs h.outs.states range.1)
  body_writable version graphs d (Child graph args) h range = exprs_writable h.args.value args h.args.states range.1
  body_writable version graphs d (ConfigChild graph args sets) h range = exprs_writable h.args.value args h.args.states range.2

  actors_writable : (version graphs : ℕ) (d : Data) (actors : List FileActor) → IsList (StatesActor version) d actors → All (λ a. IsActorInRange version graphs (length params) a) (map (placed_actor s) actors) → All (IsWritableActor names) (map (placed_actor s) actors)
  actors_writable version graphs d actors h range =
      each_shown (StatesActor version) (placed_actor s) (λ a. IsActorInRange version graphs (length params) a) (IsWritableActor names) (λ d a states inside. body_writable version graphs d a.body states.body inside) h.values actors h.items range

-- ---- graphs

param_named : (s : KnownNames) (ds : Items) (ps : List FileParam) → AreItems StatesParam ds ps → All IsName (map (λ (p : Param). p.name) (map (placed_param s) ps))
param_named s no_items [] items = All-nil IsName
param_named s no_items (p ∷ ps) items = absurd items
param_named s (item d ds) [] items = absurd items
param_named s (item d ds) (p ∷ ps) items = All-cons IsName p.name (map (λ (p : Param). p.name) (map (placed_param s) ps)) items.0.name.states.valid (param_named s ds ps items.1)

-- in range in some file, as its top or as another graph of it
abbrev IsSomewhereInRange : ℕ → List Graph → Graph → Type 0
IsSomewhereInRange version graphs g = (is_top : Bool) × IsGraphInRange version graphs is_top g

graph_writable : (version : ℕ) (graphs : List Graph) (is_top : Bool) (s : KnownNames) (d : Data) (g : FileGraph) → StatesGraph version d g → IsSomewhereInRange version graphs (placed_graph version tokens_of is_top s g) → IsWritableGraph (placed_graph version tokens_of is_top s g)
graph_writable version graphs is_top s d g h range =
    let params = map (placed_param s) g.params in
    let named = param_named s h.params.states.values g.params h.params.states.items in
    record {
      params = each_shown StatesParam (placed_param s) (λ p. IsParamInRange (length params) p) (IsWritableParam (map (λ (p : Param). p.name) params)) (param_writable s params named) h.params.states.values g.params h.params.states.items range.1.params;
      inputs = interfaces_writable s params named h.inputs.value g.inputs h.inputs.states range.1.inputs;
      outputs = interfaces_writable s params named h.outputs.value g.outputs h.outputs.states range.1.outputs;
      actors = actors_writable s params named version (length graphs) h.actors.value g.actors h.actors.states range.1.actors;
    }

pub writable : (signatures : List SignatureView) (d : Data) (file : File) → StatesIn file.version d file → InRange (graphs_of signatures file) → All IsWritableGraph (graphs_of signatures file).graphs
writable signatures d file h range =
    let graphs : Graphs = graphs_of signatures file in
    let here = λ (p : ℕ × FileGraph). known_names (kernel_names signatures) file.graphs p.1 in
    each_shown (λ d (p : ℕ × FileGraph). StatesGraph file.version d p.1) (λ (p : ℕ × FileGraph). placed_graph file.version tokens_of (p.0 == top_of file) (here p) p.1) (IsSomewhereInRange file.version graphs.graphs) IsWritableGraph
    (λ d p states inside. graph_writable file.version graphs.graphs (p.0 == top_of file) (here p) d p.1 states inside)
    h.graphs.states.values (enumerate_from 0 file.graphs) (numbered (StatesGraph file.version) 0 h.graphs.states.values file.graphs h.graphs.states.items)
    (λ k d inside. (k == graphs.top, range.each_graph k d inside))
