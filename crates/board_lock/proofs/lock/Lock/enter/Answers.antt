use Rattle.std.proofs.Common.{ap, sym, Some, ◌∙◌, arith}
use mathlib.Core.Option.{none}
use Rattle.atomic_table.specs.Table.{step}
use Rattle.board_lock.proofs.Phases.{full}
use Rattle.board_lock.proofs.Steps.{tries_at}
use Rattle.board_lock.proofs.lock.Lock.enter.Goals as goal

pub compare_exchange-requires : goal.compare_exchange-requires
compare_exchange-requires g c =
    let words = c.self.invariant.0 in
    let own = ap (λ p. p.lock) c.pass.view_is ∙ (c.requires ∙ sym c.self.view_is) in (
      c.loop.invariant.table ∙ own,
      omega arith,
      tries_at g.S.Locked.meant _ _ _ _ _ (step 1 0 0 1 none) (ap (λ me. me.0.phase) c.loop.invariant.me ∙ c.pass.invariant.3) (ap (λ me. me.1) c.loop.invariant.me ∙ c.pass.invariant.4),
    )

pub exchange-requires : goal.exchange-requires
exchange-requires g c =
    let own = ap (λ p. p.lock) c.pass.view_is ∙ (c.requires ∙ sym c.self.view_is) in
    let took = c.compare_exchange.ensures.2.0 c.if-compare_exchange-eq-FREE.true in
    (c.compare_exchange.ensures.0 ∙ (c.loop.invariant.table ∙ own), (Some took.0, full _ (Some took.0) (ap (λ me. me.1) took.2)))
