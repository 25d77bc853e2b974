use Rattle.kernel_gate.specs.Signed.{unnamed}
use Rattle.worker_crew.proofs.Advancing.{all_idle_later, all_may_later, worked_on}
use Rattle.worker_crew.proofs.crew.crew_by.Goals as goal

pub crew_of-requires-2-clause-may : goal.crew_of-requires-2-clause-may
crew_of-requires-2-clause-may g c κs within = all_may_later (unnamed (g.K.Gate.kernels c.args.gate.now)) c.args.pass.known c.work_alone-pass.result.0.known c.work_alone-pass.ensures.worked.later c.requires.may

pub crew_of-requires-2-clause-idle : goal.crew_of-requires-2-clause-idle
crew_of-requires-2-clause-idle g c κs within = all_idle_later c.args.pass.known c.work_alone-pass.result.0.known c.work_alone-pass.ensures.worked c.requires.idle

pub returns-clause-worked : goal.returns-clause-worked
returns-clause-worked g c = worked_on c.args.pass.known c.work_alone-pass.result.0.known c.crew_of-2.result.known c.work_alone-pass.ensures.worked c.crew_of-2.ensures.worked
