use Rattle.std.proofs.Common.{◌≡◌, ℕ, List, ◌++◌, drop, length}
use Rattle.pisdf_meaning.specs.Running.{Traces, child_rows}
use Rattle.pisdf_meaning.specs.declared.firing.Configured.{Configured}
use Rattle.job_preparing.specs.Handing.{with_traces}
use Rattle.graph_firing.specs.Nodes.Parts.{HaveTraces}
use Rattle.graph_firing.proofs.nodes.tracing.append_traces.Given as goal

-- with what is still to come they are all, whatever the traces are that the lists hold
abbrev pub invariant-loop-actor : goal.invariant-loop-actor
invariant-loop-actor l = record {
  rows : (b n : ℕ) × (l.own.items ≡ drop b l.initial.own.items) × (l.left.items ≡ drop n l.initial.left.items)
      × ((counts : List ℕ) (traces : Traces) (configured : List Configured) → length l.initial.left.items ≡ length configured → HaveTraces counts traces l.initial.own.items → l.rows ++ child_rows counts traces b (drop l.actor-index l.actors) (drop n (with_traces configured l.initial.left.items)) ≡ l.initial.rows ++ child_rows counts traces 0 l.actors (with_traces configured l.initial.left.items));
}
