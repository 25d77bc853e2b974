use Rattle.std.proofs.Common.{◌≡◌, ◌==◌, ℕ, map, take}
use Rattle.std.specs.List.{enumerate_from}
use Rattle.pisdf_model.specs.Hold.{capped_hold}
use Rattle.graph_format.specs.declared.file.FileGraph.{FileGraph}
use Rattle.graph_reader.specs.Counted.{own_count}
use Rattle.graph_reader.proofs.file_counts.own_counts.Given as goal

abbrev pub invariant-loop-number : goal.invariant-loop-number
invariant-loop-number l = l.own.items ≡ map (λ (n : ℕ × FileGraph). capped_hold (own_count l.file.version (n.0 == l.top) n.1)) (take l.number (enumerate_from 0 l.file.graphs))
