use Rattle.std.proofs.Common.{◌≡◌, take}
use Rattle.std.specs.Prelude.{◌+ℤ◌, fold}
use Rattle.pisdf_program.proofs.soak_totals.with_tokens.Given as goal

abbrev pub invariant-loop-token : goal.invariant-loop-token
invariant-loop-token l = l.sum ≡ fold (λ sum token. sum +ℤ token) l.total.sum (take l.token-index l.tokens)
