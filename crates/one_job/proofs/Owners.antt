-- No cell of a job has two owners.
use Rattle.std.proofs.Common.{◌≡◌, ◌⊎◌, inl, inr, ⊎_elim, ℕ, zero, suc, ◌+◌, ◌<◌, ◌≤◌, Bool, true, false, List, length, refl, sym, ap, ◌∙◌, subst, arith}
use Rattle.std.specs.Prelude.{Option, Some, slice_get, slice_index}
use Rattle.std.proofs.lemmas.Bool.{cases_eq}
use Rattle.sdf_level.specs.declared.single_rate.Edge.{Edge}
use Rattle.split_block.specs.View.{LeasePlace, IsWholePlace}
use Rattle.kernel_gate.specs.Value.{Places}
use Rattle.job_flow.specs.Graphs.{node_at}
use Rattle.one_job.specs.Marks.{Mark, IsClaimed, phase}
use Rattle.one_job.specs.Places.{edge_at}
use Rattle.one_job.specs.Live.{IsLent}
use Rattle.one_job.specs.Leased.{AreLeases, HasCell, JobCells, LendsBuffers, Port, Input, Output, buffer_lease}
use Rattle.one_job.specs.Ports.{reads_stored, writes_stored}
use Rattle.one_job.proofs.Order.{live_apart, lent_live}
use Rattle.one_job.proofs.Phases.{claimed_not_finished, claimed_not_free}
use Rattle.one_job.proofs.Wires.{laid_of}

-- a number below a count of which this holds, where it is told of each whether it does
find_below : (P : ℕ → Type 0) (decide : (e : ℕ) → P e ⊎ (P e → ⊥)) (count : ℕ) → ((e : ℕ) × (e < count) × P e) ⊎ ((e : ℕ) → e < count → P e → ⊥)
find_below P decide zero = inr (λ e below is. let bad : ⊥ = omega arith in bad)
find_below P decide (suc count) = ⊎_elim
    (λ (here : P count). inl (count, omega arith, here))
    (λ (not : P count → ⊥). ⊎_elim
    (λ (found : (e : ℕ) × (e < count) × P e). inl (found.0, (let l = found.1 in omega arith), found.2))
    (λ (none : (e : ℕ) → e < count → P e → ⊥). inr (λ e below is. ⊎_elim
    (λ (same : e ≡ count). not (subst P same is))
    (λ (other : e ≡ count → ⊥). none e (omega arith) is)
    (cases_eq e count)))
    (find_below P decide count))
    (decide count)

both : (a b c d : ℕ) → ((a ≡ b) × (c ≡ d)) ⊎ ((a ≡ b) × (c ≡ d) → ⊥)
both a b c d = ⊎_elim
    (λ (one : a ≡ b). ⊎_elim (λ (two : c ≡ d). inl (one, two)) (λ (not : c ≡ d → ⊥). inr (λ h. not h.1)) (cases_eq c d))
    (λ (not : a ≡ b → ⊥). inr (λ h. not h.0))
    (cases_eq a b)

-- the node at a port of an edge
abbrev pub node_of : Edge → Port → ℕ
node_of e (Input p) = e.head
node_of e (Output p) = e.tail

abbrev pub number_of : Edge → Port → ℕ
number_of e (Input p) = e.head_port
number_of e (Output p) = e.tail_port

abbrev pub number : Port → ℕ
number (Input p) = p
number (Output p) = p

-- the buffer that a cell lies in
pub record InBuffer (c : JobCells) (n : ℕ) (port : Port) (cell : ℕ) : Type 0 where
  pub edge : ℕ
  pub inside : edge < length c.compilation.graph.edges
  pub node : node_of (edge_at c.compilation.graph.edges edge) port ≡ n
  pub number : number_of (edge_at c.compilation.graph.edges edge) port ≡ number port
  pub from : slice_index c.compilation.placement.offsets edge ≤ cell
  pub below : cell < slice_index c.compilation.placement.offsets edge + (edge_at c.compilation.graph.edges edge).size

the_lease : (o : Option LeasePlace) (p q : LeasePlace) → o ≡ Some p → o ≡ Some q → p ≡ q
the_lease o p q one two = cc

by_edge : (c : JobCells) (n : ℕ) (port : Port) (cell : ℕ) (lease : LeasePlace) (o : Option LeasePlace) → o ≡ Some lease → lease.start ≤ cell → cell < lease.start + lease.len → (e : ℕ) → e < length c.compilation.graph.edges
    → node_of (edge_at c.compilation.graph.edges e) port ≡ n → number_of (edge_at c.compilation.graph.edges e) port ≡ number port → o ≡ Some (buffer_lease c e) → InBuffer c n port cell
by_edge c n port cell lease o here from below e inside node number is =
    let same : lease ≡ buffer_lease c e = the_lease o lease (buffer_lease c e) here is in
    record {
      edge = e;
      inside = inside;
      node = node;
      number = number;
      from = subst (λ (l : LeasePlace). l.start ≤ cell) same from;
      below = subst (λ (l : LeasePlace). cell < l.start + l.len) same below;
    }

not_stored : (lease : LeasePlace) → lease.block.pooled ≡ true → IsWholePlace lease → ⊥
not_stored lease pooled whole = let own = whole.0 in cc

empty_has_none : (lease : LeasePlace) (cell : ℕ) → lease.start ≤ cell → cell < lease.start + lease.len → lease.len ≡ 0 → ⊥
empty_has_none lease cell from below empty = omega arith

abbrev Enters : JobCells → ℕ → ℕ → ℕ → Type 0
Enters c n p e = ((edge_at c.compilation.graph.edges e).head ≡ n) × ((edge_at c.compilation.graph.edges e).head_port ≡ p)

abbrev Leaves : JobCells → ℕ → ℕ → ℕ → Type 0
Leaves c n p e = ((edge_at c.compilation.graph.edges e).tail ≡ n) × ((edge_at c.compilation.graph.edges e).tail_port ≡ p)

input_buffer : (c : JobCells) (n : ℕ) (places : Places) (p cell : ℕ) → AreLeases c n places → HasCell places (Input p) cell → (stored : Bool) → reads_stored (node_at c.compilation.graph.nodes n) ≡ stored → InBuffer c n (Input p) cell
input_buffer c n places p cell are has true stored = absurd (not_stored has.lease has.pooled (are.stored_input p has.lease stored has.here))
input_buffer c n places p cell are has false stored = ⊎_elim
    (λ (found : (e : ℕ) × (e < length c.compilation.graph.edges) × Enters c n p e).
    by_edge c n (Input p) cell has.lease (slice_get places.inputs p) has.here has.from has.below found.0 found.1 found.2.0 found.2.1
    (ap (slice_get places.inputs) (sym found.2.1) ∙ are.inputs found.0 found.1 found.2.0))
    (λ (none : (e : ℕ) → e < length c.compilation.graph.edges → Enters c n p e → ⊥).
    absurd (empty_has_none has.lease cell has.from has.below (are.no_input p has.lease stored (λ e inside head port. none e inside (head, port)) has.here)))
    (find_below (Enters c n p) (λ e. both (edge_at c.compilation.graph.edges e).head n (edge_at c.compilation.graph.edges e).head_port p) (length c.compilation.graph.edges))

output_buffer : (c : JobCells) (n : ℕ) (places : Places) (p cell : ℕ) → AreLeases c n places → HasCell places (Output p) cell → (stored : Bool) → writes_stored (node_at c.compilation.graph.nodes n) ≡ stored → InBuffer c n (Output p) cell
output_buffer c n places p cell are has true stored = absurd (not_stored has.lease has.pooled (are.stored_output p has.lease stored has.here))
output_buffer c n places p cell are has false stored = ⊎_elim
    (λ (found : (e : ℕ) × (e < length c.compilation.graph.edges) × Leaves c n p e).
    by_edge c n (Output p) cell has.lease (slice_get places.outputs p) has.here has.from has.below found.0 found.1 found.2.0 found.2.1
    (ap (slice_get places.outputs) (sym found.2.1) ∙ are.outputs found.0 found.1 found.2.0))
    (λ (none : (e : ℕ) → e < length c.compilation.graph.edges → Leaves c n p e → ⊥).
    absurd (empty_has_none has.lease cell has.from has.below (are.no_output p has.lease stored (λ e inside tail port. none e inside (tail, port)) has.here)))
    (find_below (Leaves c n p) (λ e. both (edge_at c.compilation.graph.edges e).tail n (edge_at c.compilation.graph.edges e).tail_port p) (length c.compilation.graph.edges))

in_buffer : (c : JobCells) (n : ℕ) (places : Places) (port : Port) (cell : ℕ) → AreLeases c n places → HasCell places port cell → InBuffer c n port cell
in_buffer c n places (Input p) cell are has = input_buffer c n places p cell are has (reads_stored (node_at c.compilation.graph.nodes n)) refl
in_buffer c n places (Output p) cell are has = output_buffer c n places p cell are has (writes_stored (node_at c.compilation.graph.nodes n)) refl

-- an edge's buffer is lent by its tail or by its head, and not by both
lent_by : (c : JobCells) (marks : List Mark) (n : ℕ) (port : Port) (cell : ℕ) → phase marks n ≡ IsClaimed → (b : InBuffer c n port cell) → IsLent c.compilation.graph.edges marks b.edge
lent_by c marks n (Input p) cell claimed b = inr (ap (phase marks) b.node ∙ claimed)
lent_by c marks n (Output p) cell claimed b = inl (ap (phase marks) b.node ∙ claimed)

-- the head of an edge isn't claimed as long as its tail is
not_twice : (c : JobCells) (marks : List Mark) (lent : ℕ → Option Places) → LendsBuffers c marks lent → (n m : ℕ) → phase marks n ≡ IsClaimed → phase marks m ≡ IsClaimed → (edge : Edge) (e : ℕ) → e < length c.compilation.graph.edges → edge_at c.compilation.graph.edges e ≡ edge
    → edge.head ≡ n → edge.tail ≡ m → ⊥
not_twice c marks lent lends n m one two edge e inside is at_n at_m =
    let head : phase marks (edge_at c.compilation.graph.edges e).head ≡ IsClaimed = ap (λ (x : Edge). phase marks x.head) is ∙ (ap (phase marks) at_n ∙ one) in
    let tail : phase marks (edge_at c.compilation.graph.edges e).tail ≡ IsClaimed = ap (λ (x : Edge). phase marks x.tail) is ∙ (ap (phase marks) at_m ∙ two) in
    claimed_not_finished (phase marks (edge_at c.compilation.graph.edges e).tail) tail (lends.order e inside (claimed_not_free (phase marks (edge_at c.compilation.graph.edges e).head) head))

one_port : (c : JobCells) (marks : List Mark) (lent : ℕ → Option Places) → LendsBuffers c marks lent → (n m : ℕ) → phase marks n ≡ IsClaimed → phase marks m ≡ IsClaimed → (a b : Port) (edge : Edge) (e : ℕ) → e < length c.compilation.graph.edges → edge_at c.compilation.graph.edges e ≡ edge
    → node_of edge a ≡ n → node_of edge b ≡ m → number_of edge a ≡ number a → number_of edge b ≡ number b → (n ≡ m) × (a ≡ b)
one_port c marks lent lends n m one two (Input p) (Input q) edge e inside is at_n at_m at_p at_q = (sym at_n ∙ at_m, ap Input (sym at_p ∙ at_q))
one_port c marks lent lends n m one two (Output p) (Output q) edge e inside is at_n at_m at_p at_q = (sym at_n ∙ at_m, ap Output (sym at_p ∙ at_q))
one_port c marks lent lends n m one two (Input p) (Output q) edge e inside is at_n at_m at_p at_q = absurd (not_twice c marks lent lends n m one two edge e inside is at_n at_m)
one_port c marks lent lends n m one two (Output p) (Input q) edge e inside is at_n at_m at_p at_q = absurd (not_twice c marks lent lends m n two one edge e inside is at_m at_n)

no_cell_in_both : (s l t k cell : ℕ) → (s + l ≤ t) ⊎ (t + k ≤ s) → s ≤ cell → cell < s + l → t ≤ cell → cell < t + k → ⊥
no_cell_in_both s l t k cell (inl before) from below other_from other_below = omega arith
no_cell_in_both s l t k cell (inr after) from below other_from other_below = omega arith

pub one_owner : (c : JobCells) (marks : List Mark) (lent : ℕ → Option Places) → LendsBuffers c marks lent → (n m : ℕ) (p q : Places) (a b : Port) (cell : ℕ) → lent n ≡ Some p → lent m ≡ Some q → HasCell p a cell → HasCell q b cell → (n ≡ m) × (a ≡ b)
one_owner c marks lent lends n m p q a b cell to_n to_m has other =
    let x = in_buffer c n p a cell (lends.leases n p to_n) has in
    let y = in_buffer c m q b cell (lends.leases m q to_m) other in
    let one = lends.claimed n p to_n in
    let two = lends.claimed m q to_m in
    let edges = c.compilation.graph.edges in
    let offsets = c.compilation.placement.offsets in
    ⊎_elim
    (λ (same : y.edge ≡ x.edge). one_port c marks lent lends n m one two a b (edge_at edges x.edge) x.edge x.inside refl x.node (ap (λ (e : ℕ). node_of (edge_at edges e) b) (sym same) ∙ y.node) x.number (ap (λ (e : ℕ). number_of (edge_at edges e) b) (sym same) ∙ y.number))
    (λ (differ : y.edge ≡ x.edge → ⊥).
    let apart = live_apart edges offsets c.compilation.placement.height (laid_of c.compilation lends.compiled) marks lends.order x.edge y.edge x.inside y.inside (λ e. differ (sym e))
    (lent_live edges marks lends.order x.edge x.inside (lent_by c marks n a cell one x)) (lent_live edges marks lends.order y.edge y.inside (lent_by c marks m b cell two y)) in
    absurd (no_cell_in_both (slice_index offsets x.edge) (edge_at edges x.edge).size (slice_index offsets y.edge) (edge_at edges y.edge).size cell apart x.from x.below y.from y.below))
    (cases_eq y.edge x.edge)
