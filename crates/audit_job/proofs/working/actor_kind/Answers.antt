use Rattle.audit_job.proofs.KindTasks.{child_call, kernel_work}
use Rattle.audit_job.proofs.working.actor_kind.Goals as goal

pub returns-in-Kernel : goal.returns-in-Kernel
returns-in-Kernel c = λ graphs g firing values a k read actor. kernel_work graphs g firing values a k read actor c.args.body.now c.in-Kernel.kernel c.in-Kernel.args c.in-Kernel.ins c.in-Kernel.outs c.in-Kernel.is

pub returns-in-Child : goal.returns-in-Child
returns-in-Child c = λ graphs g firing values a k read actor. child_call graphs g firing values a k read actor c.args.body.now c.in-Child.graph c.in-Child.args c.in-Child.is
