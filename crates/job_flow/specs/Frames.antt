-- What the nodes of a job read and write: for each port a list of tokens. Nodes and edges go by their numbers.
use Rattle.std.specs.Prelude.{ℕ, zero, suc, ◌+◌, ◌==◌, ◌&&◌, List, [], ◌∷◌, ◌++◌, map, length, slice_index_or, Option, Some, None, Result, Ok, Err, if◌then◌else◌}
use Rattle.sdf_level.specs.Invariants.{how_many, is_into_port}
use Rattle.sdf_level.specs.Run.{is_into_actor, head_rate}
use Rattle.sdf_level.specs.declared.link.Link.{Link}
use Rattle.sdf_level.specs.declared.node.Node.{Node}
use Rattle.sdf_level.specs.declared.node.Node.TheVariants as node
use Rattle.sdf_level.specs.declared.single_rate.Edge.{Edge}
use Rattle.single_rate.specs.Names.{is_from_actor, output_rate}
use Rattle.job_flow.specs.Graphs.{JobGraph, node_at}

-- what each node is finished with, if it is: its outputs, a list for each output port, or its fault
abbrev pub Values : Type 0 → Type 0 → Type 0
Values T F = ℕ → Option (Result (List (List T)) F)

-- the outputs; none of a node that isn't finished, or failed
abbrev pub given : {T F : Type 0} → Option (Result (List (List T)) F) → List (List T)
given None = []
given (Some (Ok outs)) = outs
given (Some (Err fault)) = []

-- what stands on an edge: what its tail gave at the port where the edge begins
abbrev pub on_edge : {T F : Type 0} → Values T F → Edge → List T
on_edge v e = slice_index_or (given (v e.tail)) e.tail_port []

abbrev pub on : {T F : Type 0} → Values T F → List Edge → List (List T)
on v edges = map (on_edge v) edges

-- what stands on the edges into a node's port, joined in the order of the edges
abbrev pub arriving : {T : Type 0} → List Edge → List (List T) → ℕ → ℕ → List T
arriving [] tokens n port = []
arriving (e ∷ edges) [] n port = []
arriving (e ∷ edges) (here ∷ tokens) n port = (if (e.head == n) && (e.head_port == port) then here else []) ++ arriving edges tokens n port

-- at the first so many ports
abbrev pub arriving_below : {T : Type 0} → List Edge → List (List T) → ℕ → ℕ → List (List T)
arriving_below edges tokens n zero = []
arriving_below edges tokens n (suc port) = arriving_below edges tokens n port ++ arriving edges tokens n port ∷ []

-- the sizes of the edges into a node's port, together
abbrev pub arriving_size : List Edge → ℕ → ℕ → ℕ
arriving_size [] n port = 0
arriving_size (e ∷ edges) n port = (if (e.head == n) && (e.head_port == port) then e.size else 0) + arriving_size edges n port

abbrev pub sizes_below : List Edge → ℕ → ℕ → List ℕ
sizes_below edges n zero = []
sizes_below edges n (suc port) = sizes_below edges n port ++ arriving_size edges n port ∷ []

-- how many edges lead into a node
abbrev pub edges_into : List Edge → ℕ → ℕ
edges_into [] n = 0
edges_into (e ∷ edges) n = (if e.head == n then 1 else 0) + edges_into edges n

-- the sizes of the edges out of a node, in order
abbrev pub sizes_out : List Edge → ℕ → List ℕ
sizes_out [] n = []
sizes_out (e ∷ edges) n = (if e.tail == n then e.size ∷ [] else []) ++ sizes_out edges n

-- the rates of an actor's output ports, by port
abbrev pub rates_below : List Link → ℕ → ℕ → List ℕ
rates_below links a zero = []
rates_below links a (suc p) = rates_below links a p ++ output_rate a p links ∷ []

abbrev pub output_rates : List Link → ℕ → List ℕ
output_rates links a = rates_below links a (how_many (is_from_actor a) links)

-- the rate of an actor's input port, and those of all its input ports
abbrev pub input_rate : ℕ → ℕ → List Link → ℕ
input_rate b port [] = 0
input_rate b port (link ∷ links) = if is_into_port b port link then head_rate link.head else input_rate b port links

abbrev pub input_rates_below : List Link → ℕ → ℕ → List ℕ
input_rates_below links b zero = []
input_rates_below links b (suc port) = input_rates_below links b port ++ input_rate b port links ∷ []

abbrev pub input_rates : List Link → ℕ → List ℕ
input_rates links b = input_rates_below links b (how_many (is_into_actor b) links)

-- How many input ports a node has: a firing those of its actor, a Join and a Round one for each edge, every other node one.
abbrev pub ports_in : {T : Type 0} → JobGraph T → Node → ℕ → ℕ
ports_in job (node.Source s) n = 1
ports_in job (node.Init l) n = 1
ports_in job (node.Firing a k) n = how_many (is_into_actor a) job.level.links
ports_in job (node.End l) n = 1
ports_in job (node.Sink t) n = 1
ports_in job (node.Broadcast l) n = 1
ports_in job (node.Fork l i) n = 1
ports_in job (node.Join l j) n = edges_into job.edges n
ports_in job (node.Round l) n = edges_into job.edges n

-- a Source and an Init read what the job is given for them, the others what arrives at their input ports
abbrev pub reads : {T F : Type 0} → JobGraph T → Values T F → Node → ℕ → List (List T)
reads job v (node.Source s) n = slice_index_or job.sources s [] ∷ []
reads job v (node.Init l) n = slice_index_or job.delays l [] ∷ []
reads job v (node.Firing a k) n = arriving_below job.edges (on v job.edges) n (ports_in job (node.Firing a k) n)
reads job v (node.End l) n = arriving_below job.edges (on v job.edges) n (ports_in job (node.End l) n)
reads job v (node.Sink t) n = arriving_below job.edges (on v job.edges) n (ports_in job (node.Sink t) n)
reads job v (node.Broadcast l) n = arriving_below job.edges (on v job.edges) n (ports_in job (node.Broadcast l) n)
reads job v (node.Fork l i) n = arriving_below job.edges (on v job.edges) n (ports_in job (node.Fork l i) n)
reads job v (node.Join l j) n = arriving_below job.edges (on v job.edges) n (ports_in job (node.Join l j) n)
reads job v (node.Round l) n = arriving_below job.edges (on v job.edges) n (ports_in job (node.Round l) n)

-- what node number n reads: a list for each input port
abbrev pub inputs : {T F : Type 0} → JobGraph T → Values T F → ℕ → List (List T)
inputs job v n = reads job v (node_at job.nodes n) n

-- how much a node reads at each input port
abbrev pub lengths_read : {T : Type 0} → JobGraph T → Node → ℕ → List ℕ
lengths_read job (node.Source s) n = length (slice_index_or job.sources s []) ∷ []
lengths_read job (node.Init l) n = length (slice_index_or job.delays l []) ∷ []
lengths_read job (node.Firing a k) n = sizes_below job.edges n (ports_in job (node.Firing a k) n)
lengths_read job (node.End l) n = sizes_below job.edges n (ports_in job (node.End l) n)
lengths_read job (node.Sink t) n = sizes_below job.edges n (ports_in job (node.Sink t) n)
lengths_read job (node.Broadcast l) n = sizes_below job.edges n (ports_in job (node.Broadcast l) n)
lengths_read job (node.Fork l i) n = sizes_below job.edges n (ports_in job (node.Fork l i) n)
lengths_read job (node.Join l j) n = sizes_below job.edges n (ports_in job (node.Join l j) n)
lengths_read job (node.Round l) n = sizes_below job.edges n (ports_in job (node.Round l) n)

abbrev pub in_lens : {T : Type 0} → JobGraph T → ℕ → List ℕ
in_lens job n = lengths_read job (node_at job.nodes n) n

-- how much it writes at each output port: a firing as its actor's rates say, a Source, an Init, an End and a Sink as much as
-- they read, the others the sizes of the edges that leave them
abbrev pub lengths_written : {T : Type 0} → JobGraph T → Node → ℕ → List ℕ
lengths_written job (node.Source s) n = lengths_read job (node.Source s) n
lengths_written job (node.Init l) n = lengths_read job (node.Init l) n
lengths_written job (node.Firing a k) n = output_rates job.level.links a
lengths_written job (node.End l) n = lengths_read job (node.End l) n
lengths_written job (node.Sink t) n = lengths_read job (node.Sink t) n
lengths_written job (node.Broadcast l) n = sizes_out job.edges n
lengths_written job (node.Fork l i) n = sizes_out job.edges n
lengths_written job (node.Join l j) n = sizes_out job.edges n
lengths_written job (node.Round l) n = sizes_out job.edges n

abbrev pub lens : {T : Type 0} → JobGraph T → ℕ → List ℕ
lens job n = lengths_written job (node_at job.nodes n) n
