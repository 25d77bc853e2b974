use Rattle.audit_job.proofs.KindTasks.{config_call, config_work}
use Rattle.audit_job.proofs.configuring.config_kind.Goals as goal

pub returns-in-Config : goal.returns-in-Config
returns-in-Config c = λ graphs g firing k. config_work graphs g firing k c.args.body.now c.in-Config.kernel c.in-Config.args c.in-Config.ins c.in-Config.outs c.in-Config.sets c.in-Config.is

pub returns-in-ConfigChild : goal.returns-in-ConfigChild
returns-in-ConfigChild c = λ graphs g firing k. config_call graphs g firing k c.args.body.now c.in-ConfigChild.graph c.in-ConfigChild.args c.in-ConfigChild.sets c.in-ConfigChild.is
