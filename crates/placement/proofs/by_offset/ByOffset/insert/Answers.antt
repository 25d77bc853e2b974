use Rattle.std.proofs.Common.{reverse, ◌∙◌}
use Rattle.placement.proofs.Cut.{only_joins, still_rises}
use Rattle.placement.proofs.by_offset.ByOffset.insert.Goals as goal

pub returns-clause-same : goal.returns-clause-same
returns-clause-same c =
    rw (c.in_ok-push_low.ensures.low, c.in_ok-push_low.ensures.high) (rw (c.in_ok-raise.ensures.same ∙ c.in_ok-lower.ensures.same) at (only_joins c.raise.new.self.low.items (reverse c.raise.new.self.high.items) c.args.next))

pub returns-clause-order : goal.returns-clause-order
returns-clause-order c = record {
  rising = rw (c.in_ok-push_low.ensures.low, c.in_ok-push_low.ensures.high) (still_rises c.raise.new.self.low.items (reverse c.raise.new.self.high.items) c.args.next (rw (c.in_ok-raise.ensures.same ∙ c.in_ok-lower.ensures.same) c.requires.rising) c.in_ok-raise.ensures.low c.in_ok-raise.ensures.high);
  reach = c.in_ok-push_low.ensures.reach;
}
