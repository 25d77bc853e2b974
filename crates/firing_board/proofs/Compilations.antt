-- Only a compilation compiles.
use Rattle.std.proofs.Common.{◌≡◌, ℕ, zero, suc, Bool, true, false, cond, nat_lt, List, [], ◌∷◌, length, Option, Some, None, slice_get, refl, ap, subst}
use Rattle.std.specs.Prelude.{ℤ, ◌&&◌, unwrap_or}
use Rattle.pisdf_model.specs.declared.actor.Actor.{Actor}
use Rattle.pisdf_model.specs.declared.actor.Body.{Body}
use Rattle.pisdf_model.specs.declared.actor.Body.TheVariants.{Kernel, Config, Child, ConfigChild}
use Rattle.pisdf_model.specs.declared.graph.Graph.{Graph}
use Rattle.pisdf_meaning.specs.Configuring.{Configuration, configurations}
use Rattle.pisdf_meaning.specs.declared.firing.Configured.{Configured}
use Rattle.pisdf_meaning.specs.declared.firing.Firing.{Firing}
use Rattle.param_resolver.specs.Numbering.{acting}
use Rattle.sdf_level.specs.declared.node.Node.{Node}
use Rattle.sdf_level.specs.declared.node.Node.TheVariants as node
use Rattle.job_flow.specs.Frames.{inputs, lens}
use Rattle.job_flow.specs.Graphs.{node_at}
use Rattle.job_rules.specs.Items.{Prepared, actor_task, compile_rule, config_task, edges_in, firing_task, is_ready_by, job_graph, left_in, node_values, nodes_in, values_in, node_rule, node_task, prepared_in, rule_from}
use Rattle.job_rules.specs.Words as words
use Rattle.job_rules.specs.Words.{Answer}
use Rattle.nested_jobs.specs.Rules.{Call, Task, Values, Work}
use Rattle.graph_firing.specs.View.{OpenView, answered, compilation_of, graph_in, left_by, task}

-- the task isn't a compilation
abbrev NoCompile : Option (Task Firing words.Work) → Type 0
NoCompile None = Unit {0}
NoCompile (Some (Call d)) = Unit {0}
NoCompile (Some (Work (words.Fires spot asked))) = Unit {0}
NoCompile (Some (Work (words.Copies node read lens))) = Unit {0}
NoCompile (Some (Work (words.Compiles firing left))) = ⊥

refuted : (t : Option (Task Firing words.Work)) (firing : Firing) (left : List Configured) → NoCompile t → t ≡ Some (Work (words.Compiles firing left)) → ⊥
refuted t firing left fine is = subst NoCompile is fine

config_no : (graphs : List Graph) (g : Graph) (firing : Firing) (c : Configuration) (body : Body) → NoCompile (config_task graphs g firing c body)
config_no graphs g firing c (Kernel kernel args ins outs) = tt
config_no graphs g firing c (Config kernel args ins outs sets) = tt
config_no graphs g firing c (Child place args) = tt
config_no graphs g firing c (ConfigChild place args sets) = tt

firing_no : (graphs : List Graph) (g : Graph) (firing : Firing) (values : List ℤ) (a k : ℕ) (read : List (List ℤ)) (actor : Actor) (body : Body) → NoCompile (firing_task graphs g firing values a k read actor body)
firing_no graphs g firing values a k read actor (Kernel kernel args ins outs) = tt
firing_no graphs g firing values a k read actor (Config kernel args ins outs sets) = tt
firing_no graphs g firing values a k read actor (Child place args) = tt
firing_no graphs g firing values a k read actor (ConfigChild place args sets) = tt

actor_no : (graphs : List Graph) (g : Graph) (firing : Firing) (values : List ℤ) (a k : ℕ) (read : List (List ℤ)) (o : Option Actor) → NoCompile (actor_task graphs g firing values a k read o)
actor_no graphs g firing values a k read None = tt
actor_no graphs g firing values a k read (Some actor) = firing_no graphs g firing values a k read actor actor.body

node_no : (graphs : List Graph) (g : Graph) (firing : Firing) (values : List ℤ) (n : Node) (read : List (List ℤ)) (lens : List ℕ) → NoCompile (node_task graphs g firing values n read lens)
node_no graphs g firing values (node.Source s) read lens = tt
node_no graphs g firing values (node.Init l) read lens = tt
node_no graphs g firing values (node.Firing a k) read lens = actor_no graphs g firing values a k read (slice_get (acting g) a)
node_no graphs g firing values (node.Broadcast l) read lens = tt
node_no graphs g firing values (node.Fork l i) read lens = tt
node_no graphs g firing values (node.Join l j) read lens = tt
node_no graphs g firing values (node.Round l) read lens = tt
node_no graphs g firing values (node.End l) read lens = tt
node_no graphs g firing values (node.Sink t) read lens = tt

if_no : (b : Bool) (t : Option (Task Firing words.Work)) → NoCompile t → NoCompile (cond b t None)
if_no true t fine = fine
if_no false t fine = tt

node_rule_no : (graphs : List Graph) (g : Graph) (firing : Firing) (v : Values Answer) (n : ℕ) (p : Option Prepared) → NoCompile (node_rule graphs g firing v n p)
node_rule_no graphs g firing v n None = tt
node_rule_no graphs g firing v n (Some p) =
    if_no (nat_lt n (length (nodes_in graphs g firing p)) && is_ready_by (edges_in graphs g firing p) (node_values graphs g firing p v) n)
    (node_task graphs g firing (values_in g firing p) (node_at (nodes_in graphs g firing p) n) (inputs (job_graph graphs g firing p) (node_values graphs g firing p v) n) (lens (job_graph graphs g firing p) n))
    (node_no graphs g firing (values_in g firing p) (node_at (nodes_in graphs g firing p) n) (inputs (job_graph graphs g firing p) (node_values graphs g firing p v) n) (lens (job_graph graphs g firing p) n))

compile_is : (firing : Firing) (o : Option (List Configured)) (other : Firing) (left : List Configured) → compile_rule firing o ≡ Some (Work (words.Compiles other left)) → (firing ≡ other) × (unwrap_or o [] ≡ left)
compile_is firing None other left is = absurd (cc)
compile_is firing (Some l) other left is = (cc, cc)

rule_is : (graphs : List Graph) (g : Graph) (firing : Firing) (v : Values Answer) (cs : List Configuration) (i : ℕ) (other : Firing) (left : List Configured) → rule_from graphs g firing v cs i ≡ Some (Work (words.Compiles other left))
    → (i ≡ length cs) × (firing ≡ other) × (unwrap_or (left_in g v) [] ≡ left)
rule_is graphs g firing v [] zero other left is = let t = compile_is firing (left_in g v) other left is in (refl, t.0, t.1)
rule_is graphs g firing v [] (suc n) other left is = absurd (refuted (node_rule graphs g firing v n (prepared_in g v)) other left (node_rule_no graphs g firing v n (prepared_in g v)) is)
rule_is graphs g firing v (c ∷ cs) zero other left is = absurd (refuted (config_task graphs g firing c c.body) other left (config_no graphs g firing c c.body) is)
rule_is graphs g firing v (c ∷ cs) (suc i) other left is = let t = rule_is graphs g firing v cs i other left is in (ap (λ (n : ℕ). suc n) t.0, t.1, t.2)

pub compiles_at : (v : OpenView) (i : ℕ) (firing : Firing) (left : List Configured) → task v i ≡ Some (Work (words.Compiles firing left)) → (i ≡ compilation_of v) × (v.firing ≡ firing) × (left_by v ≡ left)
compiles_at v i firing left is = rule_is v.graphs.graphs (graph_in v) v.firing (answered v) (configurations (graph_in v)) i firing left is
