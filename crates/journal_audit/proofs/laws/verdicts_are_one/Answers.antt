use Rattle.journal_audit.proofs.OneVerdict.{one_verdict}
use Rattle.journal_audit.proofs.laws.verdicts_are_one.Goals as goal

pub returns : goal.returns
returns c = λ graphs kernels streams iterations workers text one other. one_verdict graphs kernels streams iterations workers (c.one_meaning.ensures.runs graphs) text one other
