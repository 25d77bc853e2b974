use Rattle.placement_checker.specs.Rows.{RowHas}
use Rattle.placement.specs.Placing.{in_order}
use Rattle.placement.proofs.Sweep.{free_before, one_more}
use Rattle.placement.proofs.gap.next_gap.Goals as goal
use Rattle.std.proofs.Common.{◌<◌, sym, length, arith}

pub loop-k-init : goal.loop-k-init
loop-k-init c = record {
  passed = c.requires.passed;
  blocked = λ lower low below. absurd (omega arith);
  up = omega arith;
  room = c.requires.room;
}

pub returns-then-offset-sought : goal.returns-then-offset-sought
returns-then-offset-sought c =
    let so_far = c.loop-k.invariant in
    record {
      passed = so_far.passed;
      free = λ below. free_before (RowHas c.args.sought.now.row.now) c.args.sought.now.size (in_order c.args.placed.now) _ c.loop-k.k c.loop-k.offset c.at-p.result.now c.requires.placed so_far.passed (rw (sym c.at-p.ensures) c.if-offset-sought.true);
      blocked = so_far.blocked;
      up = so_far.up;
      room = so_far.room;
    }

pub loop-k-preserved : goal.loop-k-preserved
loop-k-preserved c =
    let all = c.len-k-end.ensures in
    let test = c.loop-k-test.true in
    let inside : c.loop-k.k < length (in_order c.args.placed.now) = omega arith in
    one_more (RowHas c.args.sought.now.row.now) c.args.sought.now.size (in_order c.args.placed.now) c.loop-k.k c.loop-k.offset c.pass-offset.result c.at-p.result.now inside (rw (sym c.at-p.ensures) c.pass-offset.ensures) _ c.args.from.offset c.requires.placed (rw (sym c.at-p.ensures) c.if-offset-sought.false) c.loop-k.invariant
