use Rattle.std.proofs.Common.{ℕ, ◌≡◌, ◌++◌, List, length, take, drop, ap, sym, ◌∙◌, subst, arith}
use Rattle.std.proofs.lemmas.List.{append-nil, drop_all, take_all}
use Rattle.single_rate.specs.Ranks.{AreRanks}
use Rattle.single_rate.proofs.Ranking.{settled-ranks}
use Rattle.single_rate.proofs.ranks.longest.Goals as goal

written : (new old : List ℕ) (n : ℕ) → length new ≡ n → length old ≡ n → take n (new ++ drop (length new) old) ≡ new
written new old n e f = ap (λ (x : List ℕ). take n (new ++ x)) (drop_all (length new) old (omega arith)) ∙ ap (take n) (append-nil new) ∙ take_all n new (omega arith)

pub returns-then-not-raised : goal.returns-then-not-raised
returns-then-not-raised g c =
    let new = c.raise_all-raised.new.ranks in
    let P : List ℕ → Type 0 = λ x. AreRanks c.args.nodes c.args.edges.now x in
    let long : length new ≡ c.args.nodes = omega (arith, c.raise_all-raised.auto.ranks, c.deref_mut.ensures.len) in
    let is : take c.loop-ranks.ranks.len (new ++ drop (length new) c.loop-ranks.ranks.items) ≡ new = written new c.loop-ranks.ranks.items c.loop-ranks.ranks.len (omega arith) (omega arith) in
    subst P (sym is) (settled-ranks c.args.edges.now c.args.nodes new long c.raise_all-raised.ensures.reached (c.raise_all-raised.ensures.settled c.if-not-raised.true))
