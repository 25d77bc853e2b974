use Rattle.std.proofs.Common.{◌≡◌, ℤ, List, length, ap, arith}
use Rattle.job_preparing.proofs.Reading.{line_more}
use Rattle.job_preparing.proofs.ending.in_line.Goals as goal

pub add_reserved-requires : goal.add_reserved-requires
add_reserved-requires c =
    let more = line_more c.args.state.now c.loop-list.list-index c.list-item.result c.loop-list-test.true c.list-item.is in
    let so_far = ap (λ (l : List ℤ). length l) c.loop-list.invariant.items in
    let here = ap (λ (l : List ℤ). length l) c.items.ensures in
    let capacity = c.loop-list.invariant.capacity in
    let room = c.requires.room in
    omega arith
