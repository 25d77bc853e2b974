use Rattle.std.proofs.Common.{◌≡◌, ◌≤◌, replicate, vec_len, vec_capacity}
use Rattle.graph_firing.specs.declared.nodes.frames.Held.TheVariants.{Nothing}
use Rattle.graph_firing.proofs.nodes.frames.nothing_held.Given as goal

abbrev pub invariant-loop-n : goal.invariant-loop-n
invariant-loop-n l = record { items : l.all.items ≡ replicate l._n Nothing; len : vec_len l.all ≡ l._n; room : l.count ≤ vec_capacity l.all }
