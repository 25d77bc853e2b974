use Rattle.worker_mapping.specs.Growing.{Grows, unplaced_below}
use Rattle.worker_mapping.proofs.schedule.list_schedule.Given as goal

abbrev pub invariant-loop-growing : goal.invariant-loop-growing
invariant-loop-growing l = Grows l.work l.growing

abbrev pub decreases-loop-growing : goal.decreases-loop-growing
decreases-loop-growing l = unplaced_below l.growing.entries.items l.nodes
