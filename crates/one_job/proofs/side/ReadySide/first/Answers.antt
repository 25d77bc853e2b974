use Rattle.one_job.proofs.Heads.{home_first, all_first}
use Rattle.one_job.proofs.side.ReadySide.first.Goals as goal

pub returns-in-Some : goal.returns-in-Some
returns-in-Some c = λ mapping ranked. home_first mapping c.args.self.now ranked c.args.worker c.in-Some.node c.in-Some.ensures

pub returns-in-None : goal.returns-in-None
returns-in-None c = λ mapping ranked. all_first mapping c.args.self.now ranked c.args.worker c.first_of_all.result c.in-None.ensures c.first_of_all.ensures
