use Rattle.std.proofs.Common.{◌+◌, length, ap, sym, ◌∙◌, arith}
use Rattle.board_lock.proofs.Parts.{merges}
use Rattle.board_lock.proofs.lock.Lock.join.Goals as goal

pub join_seat-requires : goal.join_seat-requires
join_seat-requires g c =
    let words = c.self.invariant.0 in
    let first = ap (λ p. p.lock) c.first.view_is ∙ (c.requires.first ∙ sym c.self.view_is) in
    let second = ap (λ p. p.lock) c.second.view_is ∙ (c.requires.second ∙ sym c.self.view_is) in
    let beside = ap (λ p. p.known.number + length p.known.own) c.first.view_is ∙ (c.requires.beside ∙ sym (ap (λ p. p.known.number) c.second.view_is)) in
    (first, second, c.second.invariant.4, omega arith, merges g.S.Locked.meant _ _ _ _ _ _ c.first.invariant.3 c.second.invariant.3 beside)
