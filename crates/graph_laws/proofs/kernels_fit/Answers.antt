use Rattle.graph_laws.proofs.KernelsFit.{kernels_fit}
use Rattle.graph_laws.proofs.kernels_fit.Goals as goal

pub returns : goal.returns
returns c = λ signatures file none. kernels_fit signatures file none
