use Rattle.graph_firing.proofs.OfNodes.NamedKernels.{refusal_named}
use Rattle.graph_firing.proofs.nodes.ending.kernel_refusal.Goals as goal

pub returns : goal.returns
returns c = λ own named. refusal_named c.args.path own c.args.names.items c.args.which c.args.code c.in-Firing.actor c.in-Firing.turn c.take_name.result named c.in-Firing.is c.take_name.ensures
