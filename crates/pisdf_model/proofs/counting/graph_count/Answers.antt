use Rattle.std.proofs.Common.{◌≡◌, ◌∙◌, ap, arith, false, get_or, sym, unwrap_or}
use Rattle.pisdf_model.proofs.Holds.{counted_here, none_here}
use Rattle.pisdf_model.proofs.counting.graph_count.Goals as goal

pub returns-in-None : goal.returns-in-None
returns-in-None c = λ graphs told inside.
    let read : c.unwrap_or.result ≡ get_or c.args.large.now c.args.number false = c.unwrap_or.ensures ∙ ap (λ o. unwrap_or o false) c.copied.ensures ∙ c.get.ensures.lookup.4 (omega arith) false in
    none_here graphs c.args.large.now c.args.number c.args.graph.now c.unwrap_or.result c.excess.result told inside read (rw c.counts_of.ensures at c.excess.ensures) c.in-None.is

pub returns-in-Some : goal.returns-in-Some
returns-in-Some c = λ graphs told inside.
    let read : c.unwrap_or.result ≡ get_or c.args.large.now c.args.number false = c.unwrap_or.ensures ∙ ap (λ o. unwrap_or o false) c.copied.ensures ∙ c.get.ensures.lookup.4 (omega arith) false in
    sym (counted_here graphs c.args.large.now c.args.number c.args.graph.now c.unwrap_or.result c.excess.result told inside read (rw c.counts_of.ensures at c.excess.ensures)) ∙ c.in-Some.is
