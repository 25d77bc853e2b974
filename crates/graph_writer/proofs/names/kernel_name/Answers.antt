use Rattle.std.proofs.Common.{arith, rules}
use Rattle.std.proofs.lemmas.Grind.{common_steps}
use Rattle.graph_writer.proofs.KernelPlaces.{same_kernels}
use Rattle.graph_writer.proofs.names.kernel_name.Goals as goal

pub returns-then-place-signatures : goal.returns-then-place-signatures
returns-then-place-signatures c = rw (same_kernels c.args.signatures.now) (first_of (search rules, grind (arith, common_steps)))
