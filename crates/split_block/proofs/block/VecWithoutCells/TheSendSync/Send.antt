use denote.RattleType.{RattleType}
use denote.Param.Send.{IsSend, Frees}
use Rattle.std.specs.declared.alloc.Allocator.{Ghosts}
use Rattle.split_block.proofs.Crosses.{without_cells-send}
use Rattle.split_block.specs.contracts.block.VecWithoutCells as C

pub send : (A : RattleType) (g : Ghosts A.Denot) → IsSend A → Frees g g.dealloc_token → IsSend (C.the_row A g)
send = without_cells-send
