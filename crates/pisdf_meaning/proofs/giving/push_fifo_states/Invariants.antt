use Rattle.std.proofs.Common.{◌≡◌, ◌+◌, ◌++◌, drop, length, vec_capacity, vec_len}
use Rattle.std.specs.List.{filter}
use Rattle.param_resolver.specs.Numbering.{is_kept}
use Rattle.pisdf_meaning.specs.Running.{fifo_states}
use Rattle.pisdf_meaning.proofs.giving.push_fifo_states.Given as goal

-- with what is still to come they are all, and so are the lists taken
abbrev pub invariant-loop-fifo : goal.invariant-loop-fifo
invariant-loop-fifo l = record {
  state : l.state.items ++ fifo_states l.graph (drop l.fifo-index l.graph.fifos) l.left.items ≡ l.initial.state.items ++ fifo_states l.graph l.graph.fifos l.initial.left.items;
  left : drop (length (filter (is_kept l.graph) (drop l.fifo-index l.graph.fifos))) l.left.items ≡ drop (length (filter (is_kept l.graph) l.graph.fifos)) l.initial.left.items;
  len : vec_len l.state ≡ vec_len l.initial.state + l.fifo-index;
  capacity : vec_capacity l.state ≡ vec_capacity l.initial.state;
}
