use Rattle.std.proofs.Common.{◌≡◌, ◌-◌}
use Rattle.pisdf_program.specs.Soak.{tokens_from, x_token}
use Rattle.pisdf_program.proofs.soak_tokens.x_tokens.Given as goal

abbrev pub invariant-loop-place : goal.invariant-loop-place
invariant-loop-place l = l.tokens.items ≡ tokens_from (x_token l.number) l.start (l.place - l.start)
