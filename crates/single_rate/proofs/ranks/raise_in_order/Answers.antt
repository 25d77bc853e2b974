use Rattle.std.proofs.Common.{ℕ, ◌<◌, ◌∙◌, length, slice_index, slice_index_or, sym, subst, arith}
use Rattle.sdf_level.specs.declared.single_rate.Edge.{Edge}
use Rattle.single_rate.specs.Raising.{EndsBelow}
use Rattle.single_rate.proofs.Ranking.{among-all, among-at, reached-within, raised-path}
use Rattle.single_rate.proofs.ranks.raise_in_order.Goals as goal

abbrev no_edge : Edge
no_edge = record { tail = 0; tail_port = 0; head = 0; head_port = 0; size = 0 }

pub raise-raised-requires-clause-fits : goal.raise-raised-requires-clause-fits
raise-raised-requires-clause-fits g c =
    let edges = c.args.edges.now in
    let number : ℕ = slice_index_or c.args.order.now c.loop-number.number-index 0 in
    let inside : number < length edges = c.requires.1.1.1.1 c.loop-number.number-index 0 c.loop-number-test.true in
    let e : Edge = slice_index_or edges number no_edge in
    let below = among-all (λ x. (x.tail < length c.args.ranks.now) × (x.head < length c.args.ranks.now)) edges e c.requires.1.1.0 (among-at edges number no_edge inside) in
    let long = c.loop-number.invariant.0 in
    let w = reached-within edges g.last e.tail (slice_index c.loop-number.ranks e.tail) c.requires.1.0 (c.loop-number.invariant.1 e.tail (omega arith)) in
    let l = c.requires.0 in
    omega arith

pub loop-number-preserved : goal.loop-number-preserved
loop-number-preserved g c =
    let edges = c.args.edges.now in
    let number : ℕ = slice_index_or c.args.order.now c.loop-number.number-index 0 in
    let inside : number < length edges = c.requires.1.1.1.1 c.loop-number.number-index 0 c.loop-number-test.true in
    let P : ℕ → Type 0 = λ x. EndsBelow x edges in
    let ends : P (length c.loop-number.ranks) = subst P (sym c.loop-number.invariant.0) c.requires.1.1.0 in
    let next = raised-path edges c.loop-number.ranks c.raise-raised.new.ranks number c.raise-raised.result no_edge ends inside c.loop-number.invariant.1 c.raise-raised.ensures.kept c.raise-raised.ensures.raised in
    (next.0 ∙ c.loop-number.invariant.0, next.1)
