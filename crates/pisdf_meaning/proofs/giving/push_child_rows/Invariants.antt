use Rattle.std.proofs.Common.{◌≡◌, ℕ, ◌≤◌, List, ◌++◌, drop}
use Rattle.sdf_level.specs.Lists.{lists_of}
use Rattle.pisdf_meaning.specs.Running.{HaveRows, Traces, child_rows}
use Rattle.pisdf_meaning.proofs.giving.push_child_rows.Given as goal

-- with what is still to come they are all, whatever the traces are that the lists hold
abbrev pub invariant-loop-actor : goal.invariant-loop-actor
invariant-loop-actor l = record {
  few : l.number ≤ l.actor-index;
  rows : (b : ℕ) × (l.own.items ≡ drop b l.initial.own.items)
      × ((counts : List ℕ) (traces : Traces) → HaveRows counts traces (lists_of l.initial.own.items) → l.rows.items ++ child_rows counts traces b (drop l.actor-index l.actors) (drop l.number l.configured) ≡ l.initial.rows.items ++ child_rows counts traces 0 l.actors l.configured);
}
