use Rattle.std.proofs.Common.{subst, sym, arith}
use Rattle.std.proofs.lemmas.Result.{err_from_is_err_and}
use Rattle.param_expr.specs.Parse.{Answers, UnlessMemory}
use Rattle.param_expr.proofs.Answered.{read_answers, stop_answers}
use Rattle.param_expr.proofs.parsing.first_answer.Goals as goal

pub returns-in_err-reading-clause-answer : goal.returns-in_err-reading-clause-answer
returns-in_err-reading-clause-answer c =
    let p = err_from_is_err_and c.from_residual.result c.from_residual.ensures.1 in
    rw (p.1, p.2) (stop_answers c.args.text.now c.in_err-reading.field-0.0 (omega arith) c.in_err-reading.ensures)

pub returns-clause-answer : goal.returns-clause-answer
returns-clause-answer c = subst (UnlessMemory (Answers c.args.text.now)) (sym c.judged.ensures) (read_answers c.args.text.now c.in_ok-reading.reading (omega arith) c.in_ok-reading.ensures)
