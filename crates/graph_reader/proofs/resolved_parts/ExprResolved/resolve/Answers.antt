use Rattle.graph_reader.proofs.Bound.{bound_resolves, unbound_fails}
use Rattle.graph_reader.proofs.resolved_parts.ExprResolved.resolve.Goals as goal

pub returns-in-Err-Unknown : goal.returns-in-Err-Unknown
returns-in-Err-Unknown c = unbound_fails c.args.surroundings.now.params c.args.source.now c.in-Err-Unknown.name (rw c.in-Err-Unknown.field-0-is at c.in-Err-Unknown.ensures.bound)

pub returns-in-Ok : goal.returns-in-Ok
returns-in-Ok c = bound_resolves c.args.surroundings.now.params c.args.source.now c.in-Ok.expr c.in-Ok.ensures.bound
