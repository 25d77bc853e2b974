-- No cell of a job has two owners among its items.
use Rattle.std.proofs.Common.{◌≡◌, ◌⊎◌, ⊎_elim, ℕ, zero, suc, ◌+◌, ◌<◌, true, List, [], ◌∷◌, slice_get, Option, Some, None, sym, ap, ◌∙◌, subst}
use Rattle.split_block.specs.View.{LeasePlace, IsWholePlace}
use Rattle.kernel_gate.specs.Leased.{AllWhole, AreWhole}
use Rattle.kernel_gate.specs.Value.{Places}
use Rattle.one_job.specs.Leased.{HasCell, JobCells, OneOwnerEach, Port, Input, Output}
use Rattle.one_job.specs.LiveLaws.{CellsHaveOneOwner}
use Rattle.job_preparing.specs.Handing.{lent_at}
use Rattle.graph_firing.specs.Nodes.Leases.{as_nodes}
use Rattle.graph_firing.specs.Leases.{LendsAs, LendsItems, node_lent, node_marks}
use Rattle.graph_firing.specs.View.{OpenView, compilation_of}
use Rattle.graph_firing.proofs.Offered.{IsAfter, where_is}

whole_at : (leases : List LeasePlace) (p : ℕ) (lease : LeasePlace) → AllWhole leases → slice_get leases p ≡ Some lease → IsWholePlace lease
whole_at [] p lease all is = absurd (cc)
whole_at (q ∷ leases) zero lease all is = let same : q ≡ lease = cc in subst IsWholePlace same all.0
whole_at (q ∷ leases) (suc p) lease all is = whole_at leases p lease all.1 is

not_pooled : (lease : LeasePlace) → lease.block.pooled ≡ true → IsWholePlace lease → ⊥
not_pooled lease pooled whole = let own = whole.0 in cc

-- a block of its own has no cell of a pool
own_has_none : (places : Places) (port : Port) (cell : ℕ) → AreWhole places → HasCell places port cell → ⊥
own_has_none places (Input p) cell whole has = not_pooled has.lease has.pooled (whole_at places.inputs p has.lease whole.0 has.here)
own_has_none places (Output p) cell whole has = not_pooled has.lease has.pooled (whole_at places.outputs p has.lease whole.1 has.here)

module _ (law : CellsHaveOneOwner) (v : OpenView) (lends : LendsItems v) where
  -- an item that has been lent a cell of a pool is a node
  is_node : (i : ℕ) (places : Places) (port : Port) (cell : ℕ) → lent_at v.lent i ≡ Some places → HasCell places port cell → IsAfter (compilation_of v) i
  is_node i places port cell lent has = ⊎_elim
      (λ (below : i < compilation_of v). absurd (own_has_none places port cell (lends.actors i places below lent) has))
      (λ (rest : (i ≡ compilation_of v) ⊎ IsAfter (compilation_of v) i). ⊎_elim
      (λ (at : i ≡ compilation_of v). absurd (let none = ap (lent_at v.lent) at ∙ lends.compilation in cc))
      (λ (after : IsAfter (compilation_of v) i). after)
      rest)
      (where_is (compilation_of v) i)

  to_node : (i : ℕ) (places : Places) (after : IsAfter (compilation_of v) i) → lent_at v.lent i ≡ Some places → node_lent v after.node ≡ Some places
  to_node i places after lent = ap (lent_at v.lent) (sym after.number) ∙ lent

  by_nodes : (o : Option JobCells) → LendsAs v o → (n m : ℕ) (p q : Places) (a b : Port) (cell : ℕ) → node_lent v n ≡ Some p → node_lent v m ≡ Some q → HasCell p a cell → HasCell q b cell → (n ≡ m) × (a ≡ b)
  by_nodes None none n m p q a b cell one two has other = absurd (let never = none n in cc)
  by_nodes (Some c) some n m p q a b cell one two has other = law c (as_nodes (node_marks v)) (node_lent v) some.lends n m p q a b cell one two has other

  pub one_owner : OneOwnerEach (lent_at v.lent)
  one_owner = λ i j p q a b cell one two has other.
      let x = is_node i p a cell one has in
      let y = is_node j q b cell two other in
      let same = by_nodes v.cells lends.nodes x.node y.node p q a b cell (to_node i p x one) (to_node j q y two) has other in
      (x.number ∙ (ap (λ (n : ℕ). compilation_of v + 1 + n) same.0 ∙ sym y.number), same.1)
