use Rattle.std.proofs.Common.{◌<◌, ap, ◌∙◌, sym, subst, arith, Some, None, ◌∷◌}
use mathlib.Core.Option.{none}
use Rattle.atomic_table.specs.Table.{step, rest}
use Rattle.board_lock.specs.declared.view.Phase.TheVariants.{Holding}
use Rattle.board_lock.specs.Passes.{LendsNothing, MayLeave}
use Rattle.board_lock.proofs.Steps.{starts_at, leaves_at, first_may_leave}
use Rattle.board_lock.proofs.lock.Lock.filled.Goals as goal

pub load-requires : goal.load-requires
load-requires g c =
    let words = c.requires.table.0 in
    let positive = subst (λ k. 0 < k.workers) (sym c.requires.table.2) c.requires.some in
    let nothing = subst (λ k. LendsNothing g.S.Locked.meant k.state.value) (sym c.requires.table.2) c.requires.lent in (
      c.requires.seat.0,
      omega arith,
      starts_at g.S.Locked.meant _ _ _ _ _ (step 1 0 0 0 none) positive nothing (ap (λ me. me.0.phase) c.requires.seat.1) (ap (λ me. me.1) c.requires.seat.1),
    )

pub store-requires : goal.store-requires
store-requires g c =
    let words = c.requires.table.0 in
    let b = c.args.state in
    let me = c.load.ensures.2 ∙ ap (λ me. (record me.0 { phase = Holding }, (0, None) ∷ me.1)) c.requires.seat.1 in
    let after = c.exchange-none.ensures.3 ∙ ap (λ me. (me.0, (0, Some b) ∷ rest me.1)) me in (
      c.exchange-none.ensures.0 ∙ (c.load.ensures.0 ∙ c.requires.seat.0),
      omega arith,
      leaves_at g.S.Locked.meant _ _ _ _ _ b (step 1 0 0 0 none) (ap (λ me. me.0.phase) after) (ap (λ me. me.1) after)
          (subst (λ v. MayLeave g.S.Locked.meant v.known v.found b.value) (sym (ap (λ me. me.0) after)) (first_may_leave g.S.Locked.meant b.value c.args.workers)),
    )
