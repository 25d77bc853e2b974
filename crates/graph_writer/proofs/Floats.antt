-- A canonical value has no float.
use Rattle.std.proofs.Common.{◌≡◌, ◌&&◌, ℕ, ℤ, pos, negsuc, List, [], ◌∷◌, map, Bool, true, false, not, codes, if◌then◌else◌, refl}
use Rattle.serde_json.specs.Data.{Data, Members, no_members, member, string}
use Rattle.serde_json.specs.View.{items_of}
use Rattle.serde_json.specs.Written.{has_float, items_have_float, members_have_float}
use Rattle.graph_format.specs.Canonical.{whole_value, expression_value, with_rule, param_value, port_value, input_value, body_members, actor_value, delay_value, end_members, fifo_value, graph_value, file_value, is_no_delay, list_value}
use Rattle.graph_format.specs.Objects.{has_exports, has_lives}
use Rattle.graph_format.specs.Values.{end_text}
use Rattle.pisdf_model.specs.declared.fifo.Life.{Life}
use Rattle.graph_format.specs.declared.param.FileParam.{FileParam}
use Rattle.graph_format.specs.declared.param.FileParamKind.{FileParamKind}
use Rattle.graph_format.specs.declared.param.FileParamKind.TheVariants.{Inherited, Derived, Chosen}
use Rattle.graph_format.specs.declared.port.FilePort.{FilePort}
use Rattle.graph_format.specs.declared.actor.FileActor.{FileActor}
use Rattle.graph_format.specs.declared.actor.FileBody.{FileBody}
use Rattle.graph_format.specs.declared.actor.FileBody.TheVariants.{Kernel, Config, Child, ConfigChild}
use Rattle.graph_format.specs.declared.fifo.FileDelay.{FileDelay}
use Rattle.graph_format.specs.declared.fifo.FileDelay.TheVariants.{Zeros, Tokens}
use Rattle.graph_format.specs.declared.fifo.FileFifo.{FileFifo}
use Rattle.graph_format.specs.declared.file.FileGraph.{FileGraph}
use Rattle.graph_format.specs.declared.file.File.{File}

each : {A : Type 0} (value : A → Data) → ((x : A) → has_float (value x) ≡ false) → (xs : List A) → items_have_float (items_of (map value xs)) ≡ false
each value none [] = refl
each value none (x ∷ xs) = rw (none x) (each value none xs)

whole : (z : ℤ) → has_float (whole_value z) ≡ false
whole (pos n) = refl
whole (negsuc n) = refl

rule : (kind : FileParamKind) (ms : Members) → members_have_float ms ≡ false → members_have_float (with_rule kind ms) ≡ false
rule Inherited ms none = none
rule (Derived expr) ms none = none
rule Chosen ms none = none

param : (p : FileParam) → has_float (param_value p) ≡ false
unfolding param_value
param p = rule p.kind _ (rw (whole p.high, whole p.low) refl)

port : (p : FilePort) → has_float (port_value p) ≡ false
unfolding port_value
port p = refl

input : (name : List ℕ) → has_float (input_value name) ≡ false
unfolding input_value
input name = refl

body : (name : List ℕ) (b : FileBody) → members_have_float (body_members name b) ≡ false
body name (Kernel kernel args ins outs) = rw (each expression_value (λ e. refl) args, each port_value port ins, each port_value port outs) refl
body name (Config kernel args ins outs sets) = rw (each expression_value (λ e. refl) args, each input_value input ins, each port_value port outs, each string (λ s. refl) sets) refl
body name (Child graph args) = rw (each expression_value (λ e. refl) args) refl
body name (ConfigChild graph args sets) = rw (each expression_value (λ e. refl) args, each string (λ s. refl) sets) refl

actor : (a : FileActor) → has_float (actor_value a) ≡ false
unfolding actor_value
actor a = body a.name a.body

delay : (d : FileDelay) → has_float (delay_value d) ≡ false
delay (Zeros count) = refl
delay (Tokens tokens) = each whole_value whole tokens

unless : (b : Bool) (k : List ℕ) (d : Data) (ms : Members) → has_float d ≡ false → members_have_float ms ≡ false → members_have_float (if b then ms else member k d ms) ≡ false
unless true k d ms none more = more
unless false k d ms none more = rw none more

ends : (stated : Bool) (life : Life) (from to : List ℕ) → members_have_float (end_members stated life from to) ≡ false
ends true life from to = refl
ends false life from to = refl

fifo : (version : ℕ) (f : FileFifo) → has_float (fifo_value version f) ≡ false
unfolding fifo_value
fifo version f =
    let from_to = ends (has_lives version && not (is_no_delay f.delay)) f.life (end_text f.from) (end_text f.to) in
    unless (is_no_delay f.delay) (codes "delay") (delay_value f.delay) _ (delay f.delay) from_to

optional : (b : Bool) (k : List ℕ) (d : Data) (ms : Members) → has_float d ≡ false → members_have_float ms ≡ false → members_have_float (if b then member k d ms else ms) ≡ false
optional true k d ms none more = rw none more
optional false k d ms none more = more

abbrev after_exports : ℕ → FileGraph → Members
after_exports version g =
    member (codes "fifos") (list_value (fifo_value version) g.fifos)
    (member (codes "inputs") (list_value port_value g.inputs)
    (member (codes "name") (string g.name)
    (member (codes "outputs") (list_value port_value g.outputs)
    (member (codes "params") (list_value param_value g.params)
    no_members))))

rest : (version : ℕ) (g : FileGraph) → members_have_float (after_exports version g) ≡ false
rest version g = rw (each (fifo_value version) (fifo version) g.fifos, each port_value port g.inputs, each port_value port g.outputs, each param_value param g.params) refl

graph : (version : ℕ) (g : FileGraph) → has_float (graph_value version g) ≡ false
unfolding graph_value
graph version g =
    rw (each actor_value actor g.actors) (optional (has_exports version) (codes "exports") (list_value string g.exports) (after_exports version g) (each string (λ s. refl) g.exports) (rest version g))

pub no_float : (file : File) → has_float (file_value file) ≡ false
unfolding file_value
no_float file = rw (each (graph_value file.version) (graph file.version) file.graphs) refl
