use Rattle.std.proofs.Common.{◌≡◌, map}
use Rattle.std.specs.List.{range_with_len}
use Rattle.pisdf_model.specs.Hold.{is_large}
use Rattle.pisdf_model.proofs.state_tokens.large_holds.Given as goal

abbrev pub invariant-loop-place : goal.invariant-loop-place
invariant-loop-place l = l.large.items ≡ map (λ place. is_large l.own l.children.items place) (range_with_len 0 l.place)
