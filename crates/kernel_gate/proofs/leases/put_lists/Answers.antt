use Rattle.std.proofs.Common.{◌≡◌, [], ◌∷◌, ◌++◌, length, map, List, ℤ, sym, ap, ◌∙◌, subst, append_assoc, arith}
use Rattle.std.proofs.lemmas.List.{map-append}
use Rattle.std.specs.Vec.Iter.{into_iter_items}
use Rattle.split_block.specs.View.{cells_of, lease_place}
use Rattle.kernel_gate.specs.Leased.{AllWhole}
use Rattle.kernel_gate.proofs.Lists.{whole_more}
use Rattle.kernel_gate.proofs.leases.put_lists.Goals as goal

pub loop-cells-preserved : goal.loop-cells-preserved
loop-cells-preserved c =
    let at = c.loop-cells in
    let old = at.leases.items in
    let lease = c.from_vec.result in
    let rest = into_iter_items c.next.new.self in
    let steps : into_iter_items at.cells-iterator ≡ c.in-Some.cells ∷ into_iter_items c.next.new.self = c.in-Some.ensures.steps.0 in
    let items = c.push_reserved.ensures.items in
    let more = ap length steps in
    let gone = c.in-Some.ensures.steps.1 in (
      ap (λ l. map cells_of l ++ rest) items ∙ ap (λ l. l ++ rest) (map-append cells_of old (lease ∷ [])) ∙ append_assoc (map cells_of old) (cells_of lease ∷ []) rest
          ∙ ap (λ (y : List ℤ). map cells_of old ++ (y ∷ rest)) (c.from_vec.ensures.cells ∙ c.into_items.ensures) ∙ ap (λ l. map cells_of old ++ l) (sym steps) ∙ at.invariant.0,
      subst AllWhole (sym (ap (λ l. map lease_place l) items ∙ map-append lease_place old (lease ∷ []))) (whole_more (map lease_place old) (lease_place lease) at.invariant.1 c.from_vec.ensures.whole),
      omega (arith, c.push_reserved.ensures.len, c.push_reserved.ensures.capacity, more, at.invariant.2),
      omega (arith, more, gone, at.invariant.3),
    )
