-- The fields of a lease.
use Rattle.std.specs.Prelude.{◌≡◌, ◌+◌, ◌*◌, ◌^◌, ◌<◌, ◌≤◌, length}
use denote.RawPtr.{◌+ₚ◌}
use Rattle.split_block.specs.View.{LeaseView, HasHome}
use Rattle.split_block.specs.declared.lease.Lease.TheInside.{Inside}

abbrev pub view_of : Inside → LeaseView
view_of l = record { block = l.origin.block; start = l.origin.start; cells = l.buf.items }

-- the cells lie in the block, and the first of them has what makes the block a Vec again
pub record IsLeased (l : Inside) : Type 0 where
  pub placed : l.buf.ptr ≡ l.origin.block.ptr +ₚ (l.origin.start * 8)
  pub within : l.origin.start + length l.buf.items ≤ l.origin.block.len
  pub small : l.origin.block.len * 8 < 2 ^ 63
  pub home : HasHome l.home (view_of l)
