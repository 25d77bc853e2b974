use Rattle.worker_crew.proofs.under_lock.+claim_held.Given as goal

abbrev pub decreases-claim_held : goal.decreases-claim_held
decreases-claim_held l = l.copies
