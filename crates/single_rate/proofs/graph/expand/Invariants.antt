use Rattle.single_rate.proofs.graph.expand.Given as goal

abbrev pub ghost-longest : goal.ghost-longest
ghost-longest a = 8192
