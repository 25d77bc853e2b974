use Rattle.one_job.proofs.Owners.{one_owner}
use Rattle.one_job.proofs.laws.cells_have_one_owner.Goals as goal

pub returns : goal.returns
returns c = one_owner
