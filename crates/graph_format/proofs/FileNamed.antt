-- Each name of a file that some value states is a name, and so is each name of the graphs that it means.
use Rattle.std.proofs.Common.{ℕ, ◌+◌, List, [], ◌∷◌, ◌++◌, map, sym, subst}
use Rattle.std.specs.List.{All}
use Rattle.std.proofs.lemmas.List.Elements.{All-nil, All-cons, All-head, All-tail, All-append}
use Rattle.serde_json.specs.Data.{Data, Items, no_items, item}
use Rattle.param_expr.specs.Words.{IsName}
use Rattle.kernel_gate.specs.Signed.{SignatureView}
use Rattle.pisdf_model.specs.Details.{from_number}
use Rattle.pisdf_model.specs.Names.{scoped}
use Rattle.pisdf_model.specs.Valid.{AreNamed}
use Rattle.pisdf_model.specs.declared.names.Scope.{Scope}
use Rattle.pisdf_model.specs.declared.names.Scope.TheVariants as scope
use Rattle.pisdf_model.specs.declared.names.ScopedName.{ScopedName}
use Rattle.graph_format.specs.Faults.{graphs_of}
use Rattle.graph_format.specs.FileNames.{actor_walk, graph_walk, names_of_file, own_port_names}
use Rattle.graph_format.specs.Kernels.{kernel_names}
use Rattle.graph_format.specs.Placed.{tokens_of}
use Rattle.graph_format.specs.States.{StatesIn, StatesActor, StatesBody, StatesGraph, StatesInput, StatesParam, StatesPort}
use Rattle.graph_format.specs.Values.{AreItems}
use Rattle.graph_format.specs.declared.actor.FileActor.{FileActor}
use Rattle.graph_format.specs.declared.actor.FileBody.{FileBody}
use Rattle.graph_format.specs.declared.actor.FileBody.TheVariants.{Kernel, Config, Child, ConfigChild}
use Rattle.graph_format.specs.declared.file.File.{File}
use Rattle.graph_format.specs.declared.file.FileGraph.{FileGraph}
use Rattle.graph_format.specs.declared.param.FileParam.{FileParam}
use Rattle.graph_format.specs.declared.port.FilePort.{FilePort}
use Rattle.graph_format.proofs.Laws.{names_kept}

abbrev HasName : ScopedName → Type 0
HasName name = IsName name.name

-- ---- lists

-- what each part is told to have, where a value states each of them
each_told : {A D : Type 0} (R : Data → A → Type 0) (P : D → Type 0) (f : ℕ → A → List D) → ((n : ℕ) (d : Data) (x : A) → R d x → All P (f n x)) → (n : ℕ) (ds : Items) (xs : List A) → AreItems R ds xs → All P (from_number n f xs)
each_told R P f one n no_items [] items = All-nil P
each_told R P f one n no_items (x ∷ xs) items = absurd items
each_told R P f one n (item d ds) [] items = absurd items
each_told R P f one n (item d ds) (x ∷ xs) items = All-append P (f n x) (from_number (n + 1) f xs) (one n d x items.0) (each_told R P f one (n + 1) ds xs items.1)

-- the names of parts, where a value states each of them
each_named : {A : Type 0} (R : Data → A → Type 0) (name : A → List ℕ) → ((d : Data) (x : A) → R d x → IsName (name x)) → (ds : Items) (xs : List A) → AreItems R ds xs → All IsName (map name xs)
each_named R name one no_items [] items = All-nil IsName
each_named R name one no_items (x ∷ xs) items = absurd items
each_named R name one (item d ds) [] items = absurd items
each_named R name one (item d ds) (x ∷ xs) items = All-cons IsName (name x) (map name xs) (one d x items.0) (each_named R name one ds xs items.1)

inputs_named : (ds : Items) (xs : List (List ℕ)) → AreItems StatesInput ds xs → All IsName xs
inputs_named no_items [] items = All-nil IsName
inputs_named no_items (x ∷ xs) items = absurd items
inputs_named (item d ds) [] items = absurd items
inputs_named (item d ds) (x ∷ xs) items = All-cons IsName x xs items.0.name.states.valid (inputs_named ds xs items.1)

-- names of one scope
scoped_named : (s : Scope) (names : List (List ℕ)) → All IsName names → All HasName (scoped s names)
scoped_named s [] all = All-nil HasName
scoped_named s (name ∷ names) all = All-cons HasName (record { scope = s; name = name }) (scoped s names) (All-head IsName name names all) (scoped_named s names (All-tail IsName name names all))

ports_named : (ds : Items) (ports : List FilePort) → AreItems StatesPort ds ports → All IsName (map (λ (p : FilePort). p.name) ports)
ports_named ds ports items = each_named StatesPort (λ (p : FilePort). p.name) (λ d p states. states.name.states.valid) ds ports items

-- ---- the walk

own_named : (version : ℕ) (d : Data) (b : FileBody) → StatesBody version d b → All IsName (own_port_names b)
own_named version d (Kernel kernel args ins outs) h =
    All-append IsName (map (λ (p : FilePort). p.name) ins) (map (λ (p : FilePort). p.name) outs) (ports_named h.ins.states.values ins h.ins.states.items) (ports_named h.outs.states.values outs h.outs.states.items)
own_named version d (Config kernel args ins outs sets) h =
    All-append IsName ins (map (λ (p : FilePort). p.name) outs) (inputs_named h.ins.states.values ins h.ins.states.items) (ports_named h.outs.states.values outs h.outs.states.items)
own_named version d (Child graph args) h = All-nil IsName
own_named version d (ConfigChild graph args sets) h = All-nil IsName

actor_named : (version n a : ℕ) (d : Data) (actor : FileActor) → StatesActor version d actor → All HasName (actor_walk n a actor)
actor_named version n a d actor h =
    All-cons HasName (record { scope = scope.Parts n; name = actor.name }) (scoped (scope.Ports n a) (own_port_names actor.body)) h.name.states.valid
    (scoped_named (scope.Ports n a) (own_port_names actor.body) (own_named version d actor.body h.body))

graph_named : (version n : ℕ) (d : Data) (g : FileGraph) → StatesGraph version d g → All HasName (graph_walk n g)
graph_named version n d g h =
    let named : List FilePort → List ScopedName = λ ports. scoped (scope.Parts n) (map (λ (p : FilePort). p.name) ports) in
    let params : List ScopedName = scoped (scope.Parts n) (map (λ (p : FileParam). p.name) g.params) in
    let actors : List ScopedName = from_number 0 (λ a actor. actor_walk n a actor) g.actors in
    All-cons HasName (record { scope = scope.Graphs; name = g.name }) (params ++ (named g.inputs ++ (named g.outputs ++ actors))) h.name.states.valid
    (All-append HasName params (named g.inputs ++ (named g.outputs ++ actors)) (scoped_named (scope.Parts n) (map (λ (p : FileParam). p.name) g.params) (each_named StatesParam (λ (p : FileParam). p.name) (λ d p states. states.name.states.valid) h.params.states.values g.params h.params.states.items))
    (All-append HasName (named g.inputs) (named g.outputs ++ actors) (scoped_named (scope.Parts n) (map (λ (p : FilePort). p.name) g.inputs) (ports_named h.inputs.states.values g.inputs h.inputs.states.items))
    (All-append HasName (named g.outputs) actors (scoped_named (scope.Parts n) (map (λ (p : FilePort). p.name) g.outputs) (ports_named h.outputs.states.values g.outputs h.outputs.states.items))
    (each_told (StatesActor version) HasName (λ a actor. actor_walk n a actor) (λ a d actor states. actor_named version n a d actor states) 0 h.actors.states.values g.actors h.actors.states.items))))

file_named : (d : Data) (file : File) → StatesIn file.version d file → All HasName (names_of_file file)
file_named d file h = each_told (StatesGraph file.version) HasName (λ n g. graph_walk n g) (λ n d g states. graph_named file.version n d g states) 0 h.graphs.states.values file.graphs h.graphs.states.items

pub named : (signatures : List SignatureView) (d : Data) (file : File) → StatesIn file.version d file → AreNamed (graphs_of signatures file)
named signatures d file h = subst (λ (names : List ScopedName). All HasName names) (sym (names_kept tokens_of (kernel_names signatures) file)) (file_named d file h)
