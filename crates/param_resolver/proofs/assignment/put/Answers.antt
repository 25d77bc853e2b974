use Rattle.std.proofs.Common.{FitsSigned, rules, w64}
use Rattle.std.proofs.lemmas.Int.{to_z-of_z}
use Rattle.param_resolver.proofs.Settling.{numbers_with}
use Rattle.param_resolver.proofs.assignment.put.Goals as goal

pub returns-clause-numbers : goal.returns-clause-numbers
returns-clause-numbers c =
    let fits : FitsSigned w64 c.number.result = search rules in
    rw (to_z-of_z w64 c.number.result fits) (numbers_with c.args.found.now c.args.numbers.now c.args.place c.args.outcome c.number.result c.requires.numbers c.number.ensures)
