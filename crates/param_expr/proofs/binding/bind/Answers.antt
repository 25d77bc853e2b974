use Rattle.param_expr.proofs.Bound.{bound_refers, bound_numbers}
use Rattle.param_expr.proofs.binding.bind.Goals as goal

pub returns-clause-refers : goal.returns-clause-refers
returns-clause-refers c = bound_refers c.args.names.now c.args.parsed.now c.bind_in.result c.bind_in.ensures.bound

pub returns-clause-numbers : goal.returns-clause-numbers
returns-clause-numbers c = bound_numbers c.args.names.now c.args.parsed.now c.bind_in.result c.bind_in.ensures.bound
