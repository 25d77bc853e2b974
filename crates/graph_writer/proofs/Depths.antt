-- How deep a canonical value nests.
use Rattle.std.proofs.Common.{ℕ, ◌≤◌, ◌&&◌, not, List, [], ◌∷◌, map, Bool, true, false, codes, if◌then◌else◌, arith}
use Rattle.serde_json.specs.Data.{Data, Members, no_members, member, string, depth, items_depth, members_depth}
use Rattle.serde_json.specs.View.{items_of}
use Rattle.serde_json.specs.Read.{max_depth}
use Rattle.graph_format.specs.States.{kind_text}
use Rattle.graph_format.specs.Canonical.{whole_value, expression_value, with_rule, param_members, param_value, port_value, input_value, body_members, actor_value, delay_value, end_members, fifo_value, graph_value, file_value, is_no_delay, list_value}
use Rattle.graph_format.specs.Objects.{has_exports, has_lives}
use Rattle.graph_format.specs.Values.{end_text}
use Rattle.pisdf_model.specs.declared.fifo.Life.{Life}
use Rattle.graph_format.specs.declared.param.FileParam.{FileParam}
use Rattle.graph_format.specs.declared.param.FileParamKind.{FileParamKind}
use Rattle.graph_format.specs.declared.param.FileParamKind.TheVariants.{Inherited, Derived, Chosen}
use Rattle.graph_format.specs.declared.port.FilePort.{FilePort}
use Rattle.graph_format.specs.declared.actor.FileActor.{FileActor}
use Rattle.graph_format.specs.declared.actor.FileBody.{FileBody}
use Rattle.graph_format.specs.declared.actor.FileBody.TheVariants.{Kernel, Config, Child, ConfigChild}
use Rattle.graph_format.specs.declared.fifo.FileDelay.{FileDelay}
use Rattle.graph_format.specs.declared.fifo.FileDelay.TheVariants.{Zeros, Tokens}
use Rattle.graph_format.specs.declared.fifo.FileFifo.{FileFifo}
use Rattle.graph_format.specs.declared.file.FileGraph.{FileGraph}
use Rattle.graph_format.specs.declared.file.File.{File}

each : {A : Type 0} (value : A → Data) (n : ℕ) → ((x : A) → depth (value x) ≤ n) → (xs : List A) → items_depth (items_of (map value xs)) ≤ n
each value n low [] = omega arith
each value n low (x ∷ xs) =
    let here = low x in
    let later = each value n low xs in
    omega arith

rule : (kind : FileParamKind) (ms : Members) (n : ℕ) → members_depth ms ≤ n → members_depth (with_rule kind ms) ≤ n
rule Inherited ms n low = low
rule (Derived expr) ms n low = omega arith
rule Chosen ms n low = low

param : (p : FileParam) → depth (param_value p) ≤ 1
unfolding param_value
param p =
    let low = rule p.kind (param_members p.name (kind_text p.kind) p.low p.high) 0 (omega arith) in
    omega (arith, low)

port : (p : FilePort) → depth (port_value p) ≤ 1
unfolding port_value
port p = omega arith

input : (name : List ℕ) → depth (input_value name) ≤ 1
unfolding input_value
input name = omega arith

texts : (xs : List (List ℕ)) → items_depth (items_of (map string xs)) ≤ 0
texts xs = each string 0 (λ s. omega arith) xs

body : (name : List ℕ) (b : FileBody) → members_depth (body_members name b) ≤ 2
body name (Kernel kernel args ins outs) =
    let a = each expression_value 0 (λ e. omega arith) args in
    let i = each port_value 1 port ins in
    let o = each port_value 1 port outs in
    omega arith
body name (Config kernel args ins outs sets) =
    let a = each expression_value 0 (λ e. omega arith) args in
    let i = each input_value 1 input ins in
    let o = each port_value 1 port outs in
    let s = texts sets in
    omega arith
body name (Child graph args) =
    let a = each expression_value 0 (λ e. omega arith) args in
    omega arith
body name (ConfigChild graph args sets) =
    let a = each expression_value 0 (λ e. omega arith) args in
    let s = texts sets in
    omega arith

actor : (a : FileActor) → depth (actor_value a) ≤ 3
unfolding actor_value
actor a =
    let low = body a.name a.body in
    omega arith

delay : (d : FileDelay) → depth (delay_value d) ≤ 1
delay (Zeros count) = omega arith
delay (Tokens tokens) =
    let low = each whole_value 0 (λ z. omega arith) tokens in
    omega arith

unless : (b : Bool) (k : List ℕ) (d : Data) (ms : Members) (n : ℕ) → depth d ≤ n → members_depth ms ≤ n → members_depth (if b then ms else member k d ms) ≤ n
unless true k d ms n low more = more
unless false k d ms n low more = omega arith

ends : (stated : Bool) (life : Life) (from to : List ℕ) → members_depth (end_members stated life from to) ≤ 0
ends true life from to = omega arith
ends false life from to = omega arith

fifo : (version : ℕ) (f : FileFifo) → depth (fifo_value version f) ≤ 2
unfolding fifo_value
fifo version f =
    let stated = has_lives version && not (is_no_delay f.delay) in
    let from_to = ends stated f.life (end_text f.from) (end_text f.to) in
    let low = unless (is_no_delay f.delay) (codes "delay") (delay_value f.delay) (end_members stated f.life (end_text f.from) (end_text f.to)) 1 (delay f.delay) (omega (arith, from_to)) in
    omega (arith, low)

optional : (b : Bool) (k : List ℕ) (d : Data) (ms : Members) (n : ℕ) → depth d ≤ n → members_depth ms ≤ n → members_depth (if b then member k d ms else ms) ≤ n
optional true k d ms n low more = omega arith
optional false k d ms n low more = more

after_exports : (version : ℕ) (g : FileGraph) → Members
after_exports version g =
    member (codes "fifos") (list_value (fifo_value version) g.fifos)
    (member (codes "inputs") (list_value port_value g.inputs)
    (member (codes "name") (string g.name)
    (member (codes "outputs") (list_value port_value g.outputs)
    (member (codes "params") (list_value param_value g.params)
    no_members))))

rest : (version : ℕ) (g : FileGraph) → members_depth (after_exports version g) ≤ 4
unfolding after_exports
rest version g =
    let f = each (fifo_value version) 2 (fifo version) g.fifos in
    let i = each port_value 1 port g.inputs in
    let o = each port_value 1 port g.outputs in
    let p = each param_value 1 param g.params in
    omega arith

graph : (version : ℕ) (g : FileGraph) → depth (graph_value version g) ≤ 5
unfolding graph_value after_exports
graph version g =
    let a = each actor_value 3 actor g.actors in
    let e = texts g.exports in
    let low = optional (has_exports version) (codes "exports") (list_value string g.exports) (after_exports version g) 4 (omega (arith, e)) (rest version g) in
    omega (arith, a, low)

pub nests_little : (file : File) → depth (file_value file) ≤ max_depth
unfolding file_value
nests_little file =
    let g = each (graph_value file.version) 5 (graph file.version) file.graphs in
    omega arith
