use Rattle.order_memory.proofs.LiveBuffers.{live_apart}
use Rattle.order_memory.proofs.laws.live_buffers_apart.Goals as goal

pub returns : goal.returns
returns c = λ edges orders sizes offsets height run long valid ordered. live_apart edges orders run ordered sizes offsets height long valid
