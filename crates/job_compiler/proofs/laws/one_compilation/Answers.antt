use Rattle.job_compiler.proofs.OnlyOne.{compilation_only}
use Rattle.job_compiler.proofs.laws.one_compilation.Goals as goal

pub returns : goal.returns
returns c = compilation_only
