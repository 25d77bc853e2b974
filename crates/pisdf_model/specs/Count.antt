-- What there may be too many of.
use Rattle.std.specs.Prelude.{ℕ, nat_le, nat_lt, Bool, not, List, ◌++◌, length, codes}
use Rattle.std.specs.List.{list_any}
use Rattle.pisdf_model.specs.Details.{of_each, unless}
use Rattle.pisdf_model.specs.Hold.{has_large_hold}
use Rattle.pisdf_model.specs.declared.counting.Counted.{Counted}
use Rattle.pisdf_model.specs.declared.counting.Counted.TheVariants as counted
use Rattle.pisdf_model.specs.declared.counting.PartCounts.{PartCounts}
use Rattle.pisdf_model.specs.declared.fifo.Fifo.{Fifo}
use Rattle.pisdf_model.specs.declared.graph.Graph.{Graph}
use Rattle.pisdf_model.specs.declared.graph.Graphs.{Graphs}

abbrev pub word_of : Counted → List ℕ
word_of counted.Graphs = codes "graphs"
word_of counted.Params = codes "params"
word_of counted.Inputs = codes "inputs"
word_of counted.Outputs = codes "outputs"
word_of counted.Actors = codes "actors"
word_of counted.Fifos = codes "fifos"
word_of counted.Exports = codes "exports"
word_of counted.Delay = codes "delay"
word_of counted.Hold = codes "hold"

-- ---- the limits

-- the most graphs of a file
abbrev pub graphs_limit : ℕ
graphs_limit = 32

-- the most parameters of a graph
abbrev pub params_limit : ℕ
params_limit = 64

-- the most input interfaces of a graph
abbrev pub inputs_limit : ℕ
inputs_limit = 32

-- the most output interfaces of a graph
abbrev pub outputs_limit : ℕ
outputs_limit = 32

-- the most actors of a graph
abbrev pub actors_limit : ℕ
actors_limit = 64

-- the most FIFOs of a graph
abbrev pub fifos_limit : ℕ
fifos_limit = 128

-- the most exports of a graph
abbrev pub exports_limit : ℕ
exports_limit = 64

-- the most tokens of a delay
abbrev pub delay_limit : ℕ
delay_limit = 65536

-- ---- what is over them

-- some delay has more tokens than the limit
abbrev pub has_long_delay : List Fifo → Bool
has_long_delay fifos = list_any (λ fifo. nat_lt delay_limit (length fifo.delay)) fifos

-- what there are too many of, where a graph has so many parts
abbrev pub excess_of : PartCounts → List Counted
excess_of counts =
    unless (nat_le counts.params params_limit) counted.Params
    ++ (unless (nat_le counts.inputs inputs_limit) counted.Inputs
    ++ (unless (nat_le counts.outputs outputs_limit) counted.Outputs
    ++ (unless (nat_le counts.actors actors_limit) counted.Actors
    ++ (unless (nat_le counts.fifos fifos_limit) counted.Fifos
    ++ (unless (nat_le counts.exports exports_limit) counted.Exports
    ++ (unless (not counts.has_long_delay) counted.Delay
    ++ unless (not counts.has_large_hold) counted.Hold))))))

-- how many parts a graph has, where its hold is too large or not
abbrev pub counts_of : Bool → Graph → PartCounts
counts_of is_large g = record {
  params = length g.params;
  inputs = length g.inputs;
  outputs = length g.outputs;
  actors = length g.actors;
  fifos = length g.fifos;
  exports = length g.exports;
  has_long_delay = has_long_delay g.fifos;
  has_large_hold = is_large;
}

-- what the graph at a place has too many of
abbrev pub graph_counts : List Graph → ℕ → Graph → List Counted
graph_counts graphs n g = excess_of (counts_of (has_large_hold graphs n) g)

-- the graphs, then what each of them has too many of
abbrev pub count_faults : Graphs → List Counted
count_faults graphs = unless (nat_le (length graphs.graphs) graphs_limit) counted.Graphs ++ of_each (graph_counts graphs.graphs) graphs.graphs
