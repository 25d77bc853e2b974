use Rattle.std.proofs.Common.{◌≡◌, ◌<◌, ℕ, [], length, replicate}
use Rattle.graph_firing.specs.Nodes.Parts.{call_count, row_at}
use Rattle.graph_firing.proofs.nodes.given.empty_rows.Given as goal

abbrev pub invariant-loop-actor : goal.invariant-loop-actor
invariant-loop-actor l = record { many : length l.rows.items ≡ l.actor; rows : (a : ℕ) → a < l.actor → row_at l.rows.items a ≡ replicate (call_count l.kinds l.counts a) [] }
