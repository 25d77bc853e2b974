-- How many parts a graph of a file has, and how many tokens of its delays go on over its firings.
use Rattle.std.specs.Prelude.{ℕ, ◌==◌, nat_lt, Bool, List, length, map, sum_by}
use Rattle.std.specs.List.{enumerate_from, list_any}
use Rattle.pisdf_model.specs.Count.{delay_limit}
use Rattle.pisdf_model.specs.Hold.{capped_hold, kept_tokens}
use Rattle.pisdf_model.specs.Range.{life_of}
use Rattle.pisdf_model.specs.declared.counting.PartCounts.{PartCounts}
use Rattle.graph_format.specs.declared.fifo.FileFifo.{FileFifo}
use Rattle.graph_format.specs.declared.file.File.{File}
use Rattle.graph_format.specs.declared.file.FileGraph.{FileGraph}
use Rattle.graph_format.specs.Placed.{tokens_of}

-- some delay has more tokens than the limit
abbrev pub has_long_delay : List FileFifo → Bool
has_long_delay fifos = list_any (λ (f : FileFifo). nat_lt delay_limit (length (tokens_of f.delay))) fifos

-- how many parts a graph has, where its hold is too large or not
abbrev pub part_counts : Bool → FileGraph → PartCounts
part_counts is_large g = record {
  params = length g.params;
  inputs = length g.inputs;
  outputs = length g.outputs;
  actors = length g.actors;
  fifos = length g.fifos;
  exports = length g.exports;
  has_long_delay = has_long_delay g.fifos;
  has_large_hold = is_large;
}

-- how many tokens of a FIFO go on, in a graph that is the top one or not
abbrev pub kept_count : ℕ → Bool → FileFifo → ℕ
kept_count version is_top f = length (kept_tokens (life_of version is_top f.life (tokens_of f.delay)) (tokens_of f.delay))

abbrev pub own_count : ℕ → Bool → FileGraph → ℕ
own_count version is_top g = sum_by (kept_count version is_top) g.fifos

-- the same of each graph, counted to one more than the limit
abbrev pub own_counts : File → ℕ → List ℕ
own_counts file top = map (λ (n : ℕ × FileGraph). capped_hold (own_count file.version (n.0 == top) n.1)) (enumerate_from 0 file.graphs)
