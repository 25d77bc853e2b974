use Rattle.std.proofs.Common.{◌≡◌, ◌<◌, ◌≤◌, ℕ, true}
use Rattle.one_job.specs.Pick.{is_child}
use Rattle.graph_firing.proofs.nodes.starting.room_needed.Given as goal

abbrev pub invariant-loop-needed : goal.invariant-loop-needed
invariant-loop-needed l = record { few : l.needed ≤ l.nodes; all : (n : ℕ) → n < l.nodes → is_child l.job n ≡ true → n < l.needed }

abbrev pub decreases-loop-needed : goal.decreases-loop-needed
decreases-loop-needed l = l.needed
