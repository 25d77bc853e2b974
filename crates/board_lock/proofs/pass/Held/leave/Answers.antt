use Rattle.std.proofs.Common.{ap, ◌∙◌, sym, subst, arith, Some, ◌∷◌}
use mathlib.Core.Option.{none}
use Rattle.atomic_table.specs.Table.{step, rest}
use Rattle.board_lock.specs.Passes.{MayLeave}
use Rattle.board_lock.proofs.Steps.{leaves_at}
use Rattle.board_lock.proofs.pass.Held.leave.Goals as goal

pub store-requires : goal.store-requires
store-requires g c =
    let words = c.lock.invariant.0 in
    let b = c.args.self.state in
    let own = c.turn.invariant.0 ∙ sym c.lock.view_is in
    let after = c.exchange-none.ensures.3 ∙ ap (λ l. (c.turn.inside.seat.me.0, (0, Some b) ∷ rest l)) c.turn.invariant.5 in
    let may = subst (λ h. MayLeave g.S.Locked.meant h.known h.found b.value) (sym c.turn.view_is) c.requires in (
      c.exchange-none.ensures.0 ∙ own,
      omega arith,
      leaves_at g.S.Locked.meant _ _ _ _ _ b (step 1 0 0 0 none) (ap (λ me. me.0.phase) after ∙ c.turn.invariant.4) (ap (λ me. me.1) after)
          (subst (λ v. MayLeave g.S.Locked.meant v.known v.found b.value) (sym (ap (λ me. me.0) after)) may),
    )
