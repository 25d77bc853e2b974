use Rattle.param_expr.proofs.Computed.{answers, answer_is}
use Rattle.param_expr.proofs.laws.one_answer.Goals as goal

pub returns-clause-is : goal.returns-clause-is
returns-clause-is c = answers

pub returns-clause-only : goal.returns-clause-only
returns-clause-only c = answer_is
