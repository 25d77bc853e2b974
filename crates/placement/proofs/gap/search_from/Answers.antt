use Rattle.std.proofs.Common.{◌<◌, sym, length, arith}
use Rattle.std.proofs.lemmas.List.Elements.{All-append}
use Rattle.placement_checker.specs.Rows.{RowHas}
use Rattle.placement.specs.Placing.{in_order, Blocks}
use Rattle.placement.specs.declared.gap.Placed.{Placed}
use Rattle.placement.proofs.Sweep.{free_before, free_at_end, passed_higher, search_starts, blocked_to_gap, one_more_large}
use Rattle.placement.proofs.gap.search_from.Goals as goal

pub loop-k-init : goal.loop-k-init
loop-k-init c = search_starts (RowHas c.args.sought.now.row.now) c.args.sought.now.size (in_order c.args.placed.now.small) (in_order c.args.placed.now.large) c.args.start.offset c.args.start.place c.requires.passed c.requires.room

pub loop-k-preserved : goal.loop-k-preserved
loop-k-preserved c =
    let all = c.len-k-end.ensures in
    let test = c.loop-k-test.true in
    let inside : c.loop-k.k < length (in_order c.args.placed.now.large) = omega arith in
    let so_far = c.loop-k.invariant in
    let gap = c.next_gap-gap.ensures in
    one_more_large (RowHas c.args.sought.now.row.now) c.args.sought.now.size (in_order c.args.placed.now.small) (in_order c.args.placed.now.large) c.args.start.offset _ c.next_gap-gap.result.place c.loop-k.k c.next_gap-gap.result.offset c.pass-offset.result c.at-p.result.now inside (rw (sym c.at-p.ensures) c.pass-offset.ensures) c.requires.large (rw (sym c.at-p.ensures) c.if-gap-sought.false) gap.passed
    (passed_higher (RowHas c.args.sought.now.row.now) c.args.sought.now.size (in_order c.args.placed.now.large) c.loop-k.k c.loop-k.from.offset c.next_gap-gap.result.offset gap.up so_far.large_passed)
    (blocked_to_gap (RowHas c.args.sought.now.row.now) c.args.sought.now.size (in_order c.args.placed.now.small) (in_order c.args.placed.now.large) c.args.start.offset c.loop-k.from.place c.loop-k.k c.loop-k.from.offset c.next_gap-gap.result.offset so_far gap.blocked)
    (let up = gap.up in let before = so_far.up in omega arith)
    gap.room

pub returns-then-bound-gap : goal.returns-then-bound-gap
returns-then-bound-gap c = record {
  free = λ below. absurd (omega arith);
  blocked = blocked_to_gap (RowHas c.args.sought.now.row.now) c.args.sought.now.size (in_order c.args.placed.now.small) (in_order c.args.placed.now.large) c.args.start.offset c.loop-k.from.place c.loop-k.k c.loop-k.from.offset c.next_gap-gap.result.offset c.loop-k.invariant c.next_gap-gap.ensures.blocked;
  room = c.next_gap-gap.ensures.room;
}

pub returns-then-gap-sought : goal.returns-then-gap-sought
returns-then-gap-sought c = record {
  free = λ below.
      All-append (λ (p : Placed). Blocks (RowHas c.args.sought.now.row.now) c.args.sought.now.size c.next_gap-gap.result.offset p → ⊥) (in_order c.args.placed.now.small) (in_order c.args.placed.now.large) (c.next_gap-gap.ensures.free below)
      (free_before (RowHas c.args.sought.now.row.now) c.args.sought.now.size (in_order c.args.placed.now.large) _ c.loop-k.k c.next_gap-gap.result.offset c.at-p.result.now c.requires.large (passed_higher (RowHas c.args.sought.now.row.now) c.args.sought.now.size (in_order c.args.placed.now.large) c.loop-k.k c.loop-k.from.offset c.next_gap-gap.result.offset c.next_gap-gap.ensures.up c.loop-k.invariant.large_passed) (rw (sym c.at-p.ensures) c.if-gap-sought.true));
  blocked = blocked_to_gap (RowHas c.args.sought.now.row.now) c.args.sought.now.size (in_order c.args.placed.now.small) (in_order c.args.placed.now.large) c.args.start.offset c.loop-k.from.place c.loop-k.k c.loop-k.from.offset c.next_gap-gap.result.offset c.loop-k.invariant c.next_gap-gap.ensures.blocked;
  room = c.next_gap-gap.ensures.room;
}

pub returns : goal.returns
returns c = record {
  free = λ below.
      All-append (λ (p : Placed). Blocks (RowHas c.args.sought.now.row.now) c.args.sought.now.size c.next_gap-last.result.offset p → ⊥) (in_order c.args.placed.now.small) (in_order c.args.placed.now.large) (c.next_gap-last.ensures.free below)
      (free_at_end (RowHas c.args.sought.now.row.now) c.args.sought.now.size (in_order c.args.placed.now.large) c.loop-k.k c.next_gap-last.result.offset (let all = c.len-k-end.ensures in let test = c.loop-k-test.false in omega arith)
      (passed_higher (RowHas c.args.sought.now.row.now) c.args.sought.now.size (in_order c.args.placed.now.large) c.loop-k.k c.loop-k.from.offset c.next_gap-last.result.offset c.next_gap-last.ensures.up c.loop-k.invariant.large_passed));
  blocked = blocked_to_gap (RowHas c.args.sought.now.row.now) c.args.sought.now.size (in_order c.args.placed.now.small) (in_order c.args.placed.now.large) c.args.start.offset c.loop-k.from.place c.loop-k.k c.loop-k.from.offset c.next_gap-last.result.offset c.loop-k.invariant c.next_gap-last.ensures.blocked;
  room = c.next_gap-last.ensures.room;
}
