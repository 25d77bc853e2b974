use Rattle.std.proofs.Common.{◌≡◌, ◌+◌, get_or, map}
use Rattle.std.specs.Prelude.{sum_by}
use Rattle.std.specs.List.{range_with_len}
use Rattle.pisdf_model.specs.Arrows.{to_of}
use Rattle.pisdf_model.specs.Hold.{capped_hold}
use Rattle.pisdf_model.proofs.state_tokens.over_one_level_more.Given as goal

abbrev pub invariant-loop-place : goal.invariant-loop-place
invariant-loop-place l = l.more.items ≡ map (λ place. capped_hold (get_or l.own place 0 + sum_by (λ k. get_or l.holds k 0) (to_of l.children place))) (range_with_len 0 l.place)
