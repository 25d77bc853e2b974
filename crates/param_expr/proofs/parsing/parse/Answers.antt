use Rattle.param_expr.proofs.Computed.{computed}
use Rattle.param_expr.proofs.OneAnswer.{one_answer, one_spelled}
use Rattle.param_expr.proofs.Stated.{answer_stated}
use Rattle.param_expr.proofs.parsing.parse.Goals as goal

pub returns-clause-only : goal.returns-clause-only
returns-clause-only c = λ answer h. one_answer c.args.text.now c.first_answer.result answer c.first_answer.ensures.answer h

pub returns-clause-one_tree : goal.returns-clause-one_tree
returns-clause-one_tree c = one_spelled c.args.text.now

pub returns-clause-stated : goal.returns-clause-stated
returns-clause-stated c = answer_stated c.args.text.now c.first_answer.result c.first_answer.ensures.answer

pub returns-clause-computed : goal.returns-clause-computed
returns-clause-computed c = computed c.args.text.now c.first_answer.result c.first_answer.ensures.answer
