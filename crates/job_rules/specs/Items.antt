-- The items of a job, by number: its configuration actors in file order, its compilation, and the nodes of the single-rate
-- graph of its level. An item has a task once all that stands before it is finished without a fault.
use Rattle.std.specs.Prelude.{ℕ, zero, suc, ◌+◌, ℤ, nat_lt, ◌==◌, ◌&&◌, Bool, true, false, List, [], ◌∷◌, length, slice_get, slice_index, slice_index_or, Option, Some, None, Result, Ok, Err, if◌then◌else◌}
use Rattle.std.specs.Option.{option_map, unwrap_or}
use Rattle.param_resolver.specs.Assignment.{numbers, values_of}
use Rattle.param_resolver.specs.LevelOf.{level_args, out_rates}
use Rattle.param_resolver.specs.Numbering.{acting, acting_places, has_state}
use Rattle.pisdf_model.specs.Parts.{input_count}
use Rattle.pisdf_model.specs.declared.actor.Actor.{Actor}
use Rattle.pisdf_model.specs.declared.actor.Body.{Body}
use Rattle.pisdf_model.specs.declared.actor.Body.TheVariants.{Kernel, Config, Child, ConfigChild}
use Rattle.pisdf_model.specs.declared.graph.Graph.{Graph}
use Rattle.sdf_level.specs.View.{LevelView}
use Rattle.sdf_level.specs.declared.node.Node.{Node}
use Rattle.sdf_level.specs.declared.node.Node.TheVariants as node
use Rattle.sdf_level.specs.declared.single_rate.Edge.{Edge}
use Rattle.single_rate.specs.Expanded.{nodes, edges, place_of}
use Rattle.level_schedule.specs.declared.scheduling.LevelSchedule.{LevelSchedule}
use Rattle.pisdf_meaning.specs.Configuring.{Configuration, configurations, config_args, config_rates, config_firing, fed_to}
use Rattle.pisdf_meaning.specs.Preparing.{level_in, supplied_values}
use Rattle.pisdf_meaning.specs.Running.{Traces, child_firing, child_fires, given_by, link_starts, source_tokens}
use Rattle.pisdf_meaning.specs.States.{tokens_at}
use Rattle.pisdf_meaning.specs.declared.outcome.TraceRow.{TraceRow}
use Rattle.pisdf_meaning.specs.declared.firing.Configured.{Configured}
use Rattle.pisdf_meaning.specs.declared.firing.Firing.{Firing}
use Rattle.pisdf_meaning.specs.declared.refusal.Refusal.{Refusal}
use Rattle.nested_jobs.specs.Rules.{Values, Task, Work, Call, Rules}
use Rattle.job_flow.specs.Frames as flow
use Rattle.job_flow.specs.Frames.{inputs, lens}
use Rattle.job_flow.specs.Graphs.{JobGraph, node_at}
use Rattle.job_flow.specs.Outcomes.{ended}
use Rattle.job_rules.specs.Words as words
use Rattle.job_rules.specs.Words.{Answer, Gives, Schedules, Refuses, Spot, Asked, left_of}

-- ---- configuration actors

-- a kernel fires, or the graph that the actor names
abbrev pub config_task : List Graph → Graph → Firing → Configuration → Body → Option (Task Firing words.Work)
config_task graphs g firing c (Kernel kernel args ins outs) = None
config_task graphs g firing c (Child place args) = None
config_task graphs g firing c (Config kernel args ins outs sets) =
    Some (Work (words.Fires record { path = firing.path; name = c.name; turn = 0 } record { kind = kernel; args = config_args graphs firing c.number; inputs = fed_to g firing.inputs c.place (length ins); lens = config_rates graphs firing c.number; sets = length sets }))
config_task graphs g firing c (ConfigChild place args sets) = Some (Call (config_firing graphs g firing c place))

-- what an item that has given something leaves as a configuration actor
abbrev pub leaves : Option Answer → Option Configured
leaves None = None
leaves (Some (Gives given)) = Some (left_of given)
leaves (Some (Schedules schedule)) = None
leaves (Some (Refuses refusal)) = None

abbrev pub both : {T : Type 0} → Option T → Option (List T) → Option (List T)
both None more = None
both (Some one) None = None
both (Some one) (Some more) = Some (one ∷ more)

-- what these configuration actors leave, the first of which has this number, where all have given something
abbrev pub left_from : Values Answer → ℕ → List Configuration → Option (List Configured)
left_from v i [] = Some []
left_from v i (c ∷ cs) = both (leaves (v i)) (left_from v (i + 1) cs)

abbrev pub left_in : Graph → Values Answer → Option (List Configured)
left_in g v = left_from v 0 (configurations g)

-- ---- the compilation

-- its number
abbrev pub compile_number : Graph → ℕ
compile_number g = length (configurations g)

-- what it came to, where it isn't refused
abbrev pub schedule_of : Option Answer → Option LevelSchedule
schedule_of None = None
schedule_of (Some (Gives given)) = None
schedule_of (Some (Schedules schedule)) = Some schedule
schedule_of (Some (Refuses refusal)) = None

-- what is known of a job once it is compiled: what its configuration actors left, and its schedule
pub record Prepared : Type 0 where
  pub left : List Configured
  pub schedule : LevelSchedule

abbrev pub prepared_by : Option (List Configured) → Option LevelSchedule → Option Prepared
prepared_by None schedule = None
prepared_by (Some left) None = None
prepared_by (Some left) (Some schedule) = Some record { left = left; schedule = schedule }

abbrev pub prepared_in : Graph → Values Answer → Option Prepared
prepared_in g v = prepared_by (left_in g v) (schedule_of (v (compile_number g)))

-- the values of its parameters, its level, and the nodes and edges of its single-rate graph
abbrev pub values_in : Graph → Firing → Prepared → List ℤ
values_in g firing p = numbers (values_of g.params (supplied_values g firing p.left))

abbrev pub level_of : List Graph → Graph → Firing → Prepared → LevelView
level_of graphs g firing p = level_in graphs g firing (values_in g firing p)

abbrev pub nodes_in : List Graph → Graph → Firing → Prepared → List Node
nodes_in graphs g firing p = nodes (level_of graphs g firing p) p.schedule.counts p.schedule.order

abbrev pub edges_in : List Graph → Graph → Firing → Prepared → List Edge
edges_in graphs g firing p = edges (level_of graphs g firing p) p.schedule.counts p.schedule.order

-- ---- nodes

-- the graph of the job: its level expanded, with what its sources give and with what its links begin
abbrev pub job_graph : List Graph → Graph → Firing → Prepared → JobGraph ℤ
job_graph graphs g firing p = record {
  level = level_of graphs g firing p;
  nodes = nodes_in graphs g firing p;
  edges = edges_in graphs g firing p;
  sources = source_tokens g firing p.left;
  delays = link_starts graphs g firing;
}

-- the actor whose firing a node is
abbrev pub actor_of : Graph → Node → Option Actor
actor_of g (node.Source s) = None
actor_of g (node.Init l) = None
actor_of g (node.Firing a k) = slice_get (acting g) a
actor_of g (node.Broadcast l) = None
actor_of g (node.Fork l i) = None
actor_of g (node.Join l j) = None
actor_of g (node.Round l) = None
actor_of g (node.End l) = None
actor_of g (node.Sink t) = None

-- of a firing the place of its actor among all actors of the graph, and its number; of another node nothing is told
abbrev pub step_of_node : Graph → Node → ℕ × ℕ
step_of_node g (node.Source s) = (0, 0)
step_of_node g (node.Init l) = (0, 0)
step_of_node g (node.Firing a k) = (slice_index (acting_places g) a, k)
step_of_node g (node.Broadcast l) = (0, 0)
step_of_node g (node.Fork l i) = (0, 0)
step_of_node g (node.Join l j) = (0, 0)
step_of_node g (node.Round l) = (0, 0)
step_of_node g (node.End l) = (0, 0)
step_of_node g (node.Sink t) = (0, 0)

-- whether the state of the actor's graph goes on over its link to itself
abbrev pub keeps_state : List Graph → Option Actor → Bool
keeps_state graphs None = false
keeps_state graphs (Some actor) = has_state graphs actor

-- what a node gives on its outputs, of which the last is the state that goes on, where one does
abbrev pub node_result : Bool → Answer → Result (List (List ℤ)) Refusal
node_result keeps (Gives given) = child_fires keeps (Ok given)
node_result keeps (Schedules schedule) = Ok []
node_result keeps (Refuses refusal) = Err refusal

-- the number of node 0
abbrev pub node_base : Graph → ℕ
node_base g = compile_number g + 1

abbrev pub node_values : List Graph → Graph → Firing → Prepared → Values Answer → flow.Values ℤ Refusal
node_values graphs g firing p v n = option_map (node_result (keeps_state graphs (actor_of g (node_at (nodes_in graphs g firing p) n)))) (v (node_base g + n))

-- finished without a fault
abbrev pub is_done : Option (Result (List (List ℤ)) Refusal) → Bool
is_done None = false
is_done (Some (Ok outs)) = true
is_done (Some (Err refusal)) = false

-- each node from which one of these edges leads to this node is
abbrev pub is_ready_by : List Edge → flow.Values ℤ Refusal → ℕ → Bool
is_ready_by [] v n = true
is_ready_by (e ∷ edges) v n = (if e.head == n then is_done (v e.tail) else true) && is_ready_by edges v n

-- firing k of an actor, which reads this
abbrev pub firing_task : List Graph → Graph → Firing → List ℤ → ℕ → ℕ → List (List ℤ) → Actor → Body → Option (Task Firing words.Work)
firing_task graphs g firing values a k read actor (Kernel kernel exprs ins outs) =
    Some (Work (words.Fires record { path = firing.path; name = actor.name; turn = k } record { kind = kernel; args = tokens_at (level_args g values) a; inputs = read; lens = out_rates graphs values actor.body; sets = 0 }))
firing_task graphs g firing values a k read actor (Child place exprs) =
    Some (Call (child_firing graphs firing actor.name k (tokens_at (level_args g values) a) (has_state graphs actor) place (input_count graphs actor.body) read))
firing_task graphs g firing values a k read actor (Config kernel exprs ins outs sets) = None
firing_task graphs g firing values a k read actor (ConfigChild place exprs sets) = None

abbrev pub actor_task : List Graph → Graph → Firing → List ℤ → ℕ → ℕ → List (List ℤ) → Option Actor → Option (Task Firing words.Work)
actor_task graphs g firing values a k read None = None
actor_task graphs g firing values a k read (Some actor) = firing_task graphs g firing values a k read actor actor.body

-- a node that reads this and writes outputs of these lengths
abbrev pub node_task : List Graph → Graph → Firing → List ℤ → Node → List (List ℤ) → List ℕ → Option (Task Firing words.Work)
node_task graphs g firing values (node.Source s) read lengths = Some (Work (words.Copies (node.Source s) read lengths))
node_task graphs g firing values (node.Init l) read lengths = Some (Work (words.Copies (node.Init l) read lengths))
node_task graphs g firing values (node.Firing a k) read lengths = actor_task graphs g firing values a k read (slice_get (acting g) a)
node_task graphs g firing values (node.Broadcast l) read lengths = Some (Work (words.Copies (node.Broadcast l) read lengths))
node_task graphs g firing values (node.Fork l i) read lengths = Some (Work (words.Copies (node.Fork l i) read lengths))
node_task graphs g firing values (node.Join l j) read lengths = Some (Work (words.Copies (node.Join l j) read lengths))
node_task graphs g firing values (node.Round l) read lengths = Some (Work (words.Copies (node.Round l) read lengths))
node_task graphs g firing values (node.End l) read lengths = Some (Work (words.Copies (node.End l) read lengths))
node_task graphs g firing values (node.Sink t) read lengths = Some (Work (words.Copies (node.Sink t) read lengths))

-- node number n of a job, where it is there and the nodes before it are finished without a fault
abbrev pub ready_task : List Graph → Graph → Firing → Prepared → flow.Values ℤ Refusal → ℕ → Option (Task Firing words.Work)
ready_task graphs g firing p values n =
    if nat_lt n (length (nodes_in graphs g firing p)) && is_ready_by (edges_in graphs g firing p) values n
    then node_task graphs g firing (values_in g firing p) (node_at (nodes_in graphs g firing p) n) (inputs (job_graph graphs g firing p) values n) (lens (job_graph graphs g firing p) n)
    else None

-- ---- the rules

abbrev pub no_graph : Graph
no_graph = record { name = []; params = []; inputs = []; outputs = []; actors = []; fifos = []; exports = [] }

-- the graph that is fired
abbrev pub graph_of : List Graph → Firing → Graph
graph_of graphs firing = slice_index_or graphs firing.graph no_graph

abbrev pub nodes_after : List Graph → Graph → Firing → Option Prepared → List Node
nodes_after graphs g firing None = []
nodes_after graphs g firing (Some p) = nodes_in graphs g firing p

-- how many items there are
abbrev pub count : List Graph → Firing → Values Answer → ℕ
count graphs firing v = node_base (graph_of graphs firing) + length (nodes_after graphs (graph_of graphs firing) firing (prepared_in (graph_of graphs firing) v))

abbrev pub node_rule : List Graph → Graph → Firing → Values Answer → ℕ → Option Prepared → Option (Task Firing words.Work)
node_rule graphs g firing v n None = None
node_rule graphs g firing v n (Some p) = ready_task graphs g firing p (node_values graphs g firing p v) n

abbrev pub compile_rule : Firing → Option (List Configured) → Option (Task Firing words.Work)
compile_rule firing None = None
compile_rule firing (Some left) = Some (Work (words.Compiles firing left))

-- item number i among these configuration actors and what comes after them
abbrev pub rule_from : List Graph → Graph → Firing → Values Answer → List Configuration → ℕ → Option (Task Firing words.Work)
rule_from graphs g firing v [] zero = compile_rule firing (left_in g v)
rule_from graphs g firing v [] (suc n) = node_rule graphs g firing v n (prepared_in g v)
rule_from graphs g firing v (c ∷ cs) zero = config_task graphs g firing c c.body
rule_from graphs g firing v (c ∷ cs) (suc i) = rule_from graphs g firing v cs i

abbrev pub rule : List Graph → Firing → Values Answer → ℕ → Option (Task Firing words.Work)
rule graphs firing v i = rule_from graphs (graph_of graphs firing) firing v (configurations (graph_of graphs firing)) i

-- ---- how a quiet job ends

abbrev pub refusal_or : Option Answer → Option Refusal → Option Refusal
refusal_or None later = later
refusal_or (Some (Gives given)) later = later
refusal_or (Some (Schedules schedule)) later = later
refusal_or (Some (Refuses refusal)) later = Some refusal

-- the refusal of the least number among so many items from number i on: configuration actors come in file order, then the
-- compilation, then the firings in the order of one thread
abbrev pub first_refusal : Values Answer → ℕ → ℕ → Option Refusal
first_refusal v i zero = None
first_refusal v i (suc n) = refusal_or (v i) (first_refusal v (i + 1) n)

abbrev pub trace_of : Option Answer → List TraceRow
trace_of None = []
trace_of (Some (Gives given)) = given.trace
trace_of (Some (Schedules schedule)) = []
trace_of (Some (Refuses refusal)) = []

-- the trace of each firing of each actor of the level
abbrev pub traces_in : List Graph → Graph → Firing → Prepared → Values Answer → Traces
traces_in graphs g firing p v a k = trace_of (v (node_base g + place_of (nodes_in graphs g firing p) (node.Firing a k)))

-- what the job gives, where nothing is refused
abbrev pub given_in : List Graph → Graph → Firing → Values Answer → Prepared → Answer
given_in graphs g firing v p =
    Gives (given_by graphs g firing p.left (values_in g firing p) p.schedule.counts (traces_in graphs g firing p v) (ended (job_graph graphs g firing p) (node_values graphs g firing p v)))

abbrev pub no_schedule : Prepared
no_schedule = record { left = []; schedule = record { counts = []; order = [] } }

abbrev pub outcome_of : List Graph → Graph → Firing → Values Answer → Option Refusal → Answer
outcome_of graphs g firing v None = given_in graphs g firing v (unwrap_or (prepared_in g v) no_schedule)
outcome_of graphs g firing v (Some refusal) = Refuses refusal

-- the first refusal, else what the job gives
abbrev pub outcome : List Graph → Firing → Values Answer → Answer
outcome graphs firing v = outcome_of graphs (graph_of graphs firing) firing v (first_refusal v 0 (count graphs firing v))

-- all that a board knows of jobs
abbrev pub job_rules : List Graph → Rules Firing words.Work Answer
job_rules graphs = record { count = count graphs; rule = rule graphs; outcome = outcome graphs }
