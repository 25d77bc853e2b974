use Rattle.std.specs.Arc.{arc_value}
use Rattle.ready_heap.specs.Groups.{RankingView}
use Rattle.ready_heap.proofs.GroupSteps.{empty_of}
use Rattle.ready_heap.proofs.groups.GroupedHeaps.is_empty.Goals as goal

pub returns : goal.returns
returns c =
    let i = c.self.inside in
    let r : RankingView = arc_value i.ranking in
    let next = rw c.deref.ensures.value at c.next_bit.ensures in
    rw (← c.self.view_is) (empty_of r.groups r.keys r.starts r.numbers r.ranks c.self.invariant.0 i.words.items i.summary.items c.self.invariant.1 c.next_bit.result c.is_none.result c.is_none.ensures next)
