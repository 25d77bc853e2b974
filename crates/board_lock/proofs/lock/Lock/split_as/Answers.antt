use Rattle.std.proofs.Common.{◌<◌, length, ap, sym, ◌∙◌, subst, arith}
use Rattle.board_lock.proofs.Parts.{cuts_at}
use Rattle.board_lock.proofs.lock.Lock.split_as.Goals as goal

pub split_seat-other-requires : goal.split_seat-other-requires
split_seat-other-requires g c =
    let words = c.self.invariant.0 in
    let own = ap (λ p. p.lock) c.pass.view_is ∙ (c.requires.lock ∙ sym c.self.view_is) in
    let inside = subst (λ p. c.args.at < length p.known.own) (sym c.pass.view_is) c.requires.inside.1 in
    (own, omega arith, cuts_at g.S.Locked.meant _ _ _ _ _ _ c.requires.numbers c.pass.invariant.3 c.requires.inside.0 inside)
