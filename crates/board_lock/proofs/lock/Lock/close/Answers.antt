use Rattle.std.proofs.Common.{◌≡◌, length, sym, ap, ◌∙◌, subst}
use Rattle.board_lock.specs.Passes.{Finds}
use Rattle.board_lock.proofs.Phases.{taken, none_some, some_is}
use Rattle.board_lock.proofs.Steps.{closes}
use Rattle.board_lock.proofs.lock.Lock.close.Goals as goal

pub unreachable-requires : goal.unreachable-requires
unreachable-requires g c =
    let low = ap (λ p. p.known.number) c.pass.view_is ∙ c.requires.all.0 in
    let all = subst (λ p. length p.known.own ≡ p.known.workers) (sym c.pass.view_is) c.requires.all.1 in
    let h = closes g.S.Locked.meant _ _ _ _ _ _ c.pass.invariant.3 low all c.close_with-closed.ensures.values.2 in
    none_some h.0 (sym c.in_default.is ∙ taken _ h.0 _ h.1 c.take.ensures.value)

pub returns : goal.returns
returns g c =
    let low = ap (λ p. p.known.number) c.pass.view_is ∙ c.requires.all.0 in
    let all = subst (λ p. length p.known.own ≡ p.known.workers) (sym c.pass.view_is) c.requires.all.1 in
    let h = closes g.S.Locked.meant _ _ _ _ _ _ c.pass.invariant.3 low all c.close_with-closed.ensures.values.2 in
    let box = some_is h.0 c.in-Some.state (sym (taken _ h.0 _ h.1 c.take.ensures.value) ∙ c.in-Some.is) in
    let found = subst (λ p. Finds g.S.Locked.meant p.known c.in-Some.state.value) c.pass.view_is (subst (λ b. Finds g.S.Locked.meant c.pass.inside.seat.me.0.known b.value) box h.2) in
    subst (λ x. Finds g.S.Locked.meant c.args.pass.known x) (sym c.into_inner.ensures) found
