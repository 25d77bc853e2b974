use Rattle.std.proofs.Common.{◌≡◌, length, take}
use Rattle.std.specs.Prelude.{sum_by}
use Rattle.pisdf_model.specs.Hold.{capped_hold, kept_in}
use Rattle.pisdf_model.specs.declared.fifo.Fifo.{Fifo}
use Rattle.pisdf_model.proofs.state_tokens.own_hold.Given as goal

abbrev pub invariant-loop-fifo : goal.invariant-loop-fifo
invariant-loop-fifo l = l.total ≡ capped_hold (sum_by (λ (f : Fifo). length (kept_in f)) (take l.fifo-index l.fifo-items))
