use Rattle.std.proofs.Common.{◌≡◌, ◌<◌, ◌+◌, ◌-◌, ℕ, List, length, get_or, sym, subst, arith}
use Rattle.std.proofs.lemmas.List.{get_or_default}
use Rattle.sdf_level.specs.declared.node.Node.{Node}
use Rattle.sdf_level.specs.declared.node.Node.TheVariants as node
use Rattle.audit_job.proofs.OutletPlaces.{AreFrom, one_back}
use Rattle.audit_job.proofs.outlets.outlet_places.Goals as goal

pub loop-back-preserved : goal.loop-back-preserved
loop-back-preserved c =
    let nodes : List Node = c.args.nodes.now in
    let back = c.loop-back.back in
    let q : ℕ = length nodes - 1 - back in
    let low = c.loop-back-test.true in
    let inside : q < length nodes = omega arith in
    let next : q + 1 ≡ length nodes - back = omega arith in
    let x : Node = get_or nodes q (node.Source 0) in
    let one = one_back nodes c.args.outlet c.args.count q (length nodes - back) c.loop-back.places.items c.loop-back.invariant next inside x (get_or_default nodes q x (node.Source 0) inside) c.number_of.result c.number_of.ensures in
    let e : q ≡ length nodes - (back + 1) = omega arith in
    subst (λ (k : ℕ). AreFrom nodes c.args.outlet c.args.count k c.note.new.places.items) e (subst (λ (l : List ℕ). AreFrom nodes c.args.outlet c.args.count q l) (sym c.note.ensures) one)
