use Rattle.param_resolver.proofs.acting.add_actor.Goals as goal

pub returns-in-Child-clause-fault : goal.returns-in-Child-clause-fault
returns-in-Child-clause-fault c = rw c.in-Child.is (rw c.items-in-Child.ensures at c.add_child.ensures.fault)
