use Rattle.std.proofs.Common.{◌≡◌, length, map}
use Rattle.std.specs.List.{range_with_len}
use Rattle.pisdf_model.specs.Hold.{capped_hold, hold_over}
use Rattle.pisdf_model.proofs.state_tokens.hold_of_each.Given as goal

abbrev pub invariant-loop-level : goal.invariant-loop-level
invariant-loop-level l = l.holds.items ≡ map (λ place. capped_hold (hold_over l.own l.children l._level place)) (range_with_len 0 (length l.children))
