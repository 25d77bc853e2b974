use Rattle.std.proofs.Common.{◌≡◌, vec_capacity}
use Rattle.one_job.specs.Taking.{AreDue, with_leases}
use Rattle.one_job.proofs.leases.give_all.Given as goal

abbrev pub invariant-loop-lease : goal.invariant-loop-lease
invariant-loop-lease l = record { whole : with_leases l.leases.items l.pool ≡ with_leases l.fn.leases.items l.fn.pool; due : AreDue l.leases.items l.pool; capacity : vec_capacity l.leases ≡ vec_capacity l.fn.leases }

abbrev pub decreases-loop-lease : goal.decreases-loop-lease
decreases-loop-lease l = goal.left-loop-lease l
