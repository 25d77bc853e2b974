use denote.RattleType.{RattleType}
use denote.Param.Send.{IsSync}
use Rattle.std.specs.declared.alloc.Allocator.{Ghosts}
use Rattle.split_block.proofs.Crosses.{without_cells-sync}
use Rattle.split_block.specs.contracts.block.VecWithoutCells as C

pub sync : (A : RattleType) (g : Ghosts A.Denot) → IsSync (C.the_row A g)
sync = without_cells-sync
