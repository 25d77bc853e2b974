use Rattle.std.proofs.Common.{◌≡◌, ◌≤◌, replicate, vec_len, vec_capacity}
use Rattle.board_calls.specs.declared.held.Held.TheVariants.{Nothing}
use Rattle.board_calls.proofs.holding.idle.Given as goal

-- so many hold nothing, and there is room for the others
abbrev pub invariant-loop : goal.invariant-loop
invariant-loop l = record { items : l.held.items ≡ replicate l.counter Nothing; len : vec_len l.held ≡ l.counter; room : l.workers ≤ vec_capacity l.held }
