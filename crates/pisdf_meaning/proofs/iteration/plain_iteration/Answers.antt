use Rattle.pisdf_meaning.proofs.Iterating.{only_given, only_refused}
use Rattle.pisdf_meaning.proofs.iteration.plain_iteration.Goals as goal

pub returns-clause-only_given : goal.returns-clause-only_given
returns-clause-only_given g c = only_given c.args.graphs.now c.args.ins.now c.args.delays.now.lists (c.one_meaning.ensures.firings c.args.graphs.now.graphs) c.iterate.result c.iterate.new.delays.lists c.iterate.ensures.gives c.iterate.ensures.refused

pub returns-clause-only_refused : goal.returns-clause-only_refused
returns-clause-only_refused g c = only_refused c.args.graphs.now c.args.ins.now c.args.delays.now.lists (c.one_meaning.ensures.firings c.args.graphs.now.graphs) c.iterate.result c.iterate.new.delays.lists c.iterate.ensures.gives c.iterate.ensures.refused
