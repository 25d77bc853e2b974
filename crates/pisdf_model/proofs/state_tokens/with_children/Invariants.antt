use Rattle.std.proofs.Common.{◌≡◌, get_or, take}
use Rattle.std.specs.Prelude.{sum_by}
use Rattle.pisdf_model.specs.Hold.{capped_hold}
use Rattle.pisdf_model.proofs.state_tokens.with_children.Given as goal

abbrev pub invariant-loop-child : goal.invariant-loop-child
invariant-loop-child l = l.of_children ≡ capped_hold (sum_by (λ k. get_or l.holds k 0) (take l.child-index l.children))
