use Rattle.std.proofs.Common.{◌≡◌, Bool, true, false, IsTrue, IsFalse, ◌↔◌, length, refl, get_or, sym, ◌∙◌, arith}
use Rattle.std.proofs.lemmas.List.{get_or_read}
use Rattle.memory_exclusion.specs.Paths.{tail_of, Excludes}
use Rattle.memory_exclusion.specs.Bits.{HasBit}
use Rattle.memory_exclusion.proofs.Reached.{shares_forth, stay_apart, behind_row}
use Rattle.memory_exclusion.proofs.relation.Reach.shares.Goals as goal

not_both : (b : Bool) → b ≡ true → b ≡ false → ⊥
not_both b on off = let same : true ≡ false = sym on ∙ off in absurd (cc)

-- an answer that is the negation of a test
denied : (b : Bool) {P : Type 0} → (IsTrue b ↔ P) → (Q : Type 0) → (P → Q → ⊥) → ((P → ⊥) → Q) → IsFalse b ↔ Q
denied true means Q ruled_out otherwise = ((λ off. absurd (cc)), (λ q. absurd (ruled_out (means.0 refl) q)))
denied false means Q ruled_out otherwise = ((λ off. otherwise (λ p. let set = means.1 p in absurd (cc))), (λ q. refl))

pub has_bit-requires-else-has_bit : goal.has_bit-requires-else-has_bit
has_bit-requires-else-has_bit c =
    let e_in = rw (← c.self.view_is) at c.requires.e in
    let f_in = rw (← c.self.view_is) at c.requires.f in
    let at : c.index.result.now ≡ get_or c.self.inside.edges.items c.args.e (0, 0) = get_or_read c.self.inside.edges.items c.args.e c.index.result.now e_in c.index.ensures (0, 0) in
    rw (c.deref-else-has_bit.ensures.value, at) (
    let row = behind_row c.self.inside.edges.items c.self.inside.width (length c.self.inside.behind.items) c.args.e c.self.invariant.1.rows e_in in
    let wide = c.self.invariant.0.wide in
    omega arith)

pub returns-else-has_bit : goal.returns-else-has_bit
returns-else-has_bit c =
    let e_in = rw (← c.self.view_is) at c.requires.e in
    let f_in = rw (← c.self.view_is) at c.requires.f in
    let at : c.index.result.now ≡ get_or c.self.inside.edges.items c.args.e (0, 0) = get_or_read c.self.inside.edges.items c.args.e c.index.result.now e_in c.index.ensures (0, 0) in
    let back = rw (c.deref.ensures.value, at) at c.has_bit.ensures in
    let forth = rw (c.deref-else-has_bit.ensures.value, at) at c.has_bit-else-has_bit.ensures in
    let no_back : HasBit c.self.inside.before.items c.self.inside.width (tail_of c.self.inside.edges.items c.args.e) c.args.f → ⊥ =
    λ has. not_both c.has_bit.result (back.1 has) c.if-has_bit.false in
    rw (← c.self.view_is) (denied c.has_bit-else-has_bit.result forth (Excludes c.self.inside.edges.items c.args.e c.args.f)
    (λ has. shares_forth c.self.inside.edges.items c.self.inside.width c.self.inside.before.items c.self.inside.behind.items c.self.invariant.0 c.self.invariant.1 c.args.e c.args.f f_in has)
    (λ no_forth. stay_apart c.self.inside.edges.items c.self.inside.width c.self.inside.before.items c.self.inside.behind.items c.self.invariant.0 c.self.invariant.1 c.args.e c.args.f f_in no_back no_forth))
