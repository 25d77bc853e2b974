use Rattle.kernel_gate.proofs.GivenLengths.{lengths_told}
use Rattle.kernel_gate.proofs.laws.lengths_given.Goals as goal

pub returns : goal.returns
returns c = λ kind counts is. lengths_told kind counts is
