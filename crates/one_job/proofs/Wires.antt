-- What stands at the ports of a job's nodes.
use Rattle.std.proofs.Common.{◌≡◌, ℕ, zero, suc, ℤ, ◌+◌, ◌<◌, ◌≤◌, Bool, true, false, List, [], ◌∷◌, ◌++◌, length, map, take, get_or, refl, sym, ap, ap₂, ◌∙◌, subst, add-one, arith}
use Rattle.std.specs.Prelude.{◌==◌, ◌&&◌, Option, Some, None, slice_index, slice_index_or, slice_get, if◌then◌else◌}
use Rattle.std.proofs.lemmas.Bool.{eqb-true, eq-eqb, and_parts, false≢true}
use Rattle.std.proofs.lemmas.List.{append-nil, map_more, take_all, get_or-map, length-map}
use Rattle.std.proofs.lemmas.List.Elements.{All-from_recursion}
use Rattle.sdf_level.specs.declared.single_rate.Edge.{Edge}
use Rattle.sdf_level.specs.declared.node.Node.{Node}
use Rattle.sdf_level.specs.declared.node.Node.TheVariants as node
use Rattle.split_block.specs.View.{Block, LeaseView, LeasePlace, lease_place, cells_of}
use Rattle.split_block.specs.Places.{window}
use Rattle.cell_pool.specs.View.{PoolView}
use Rattle.job_compiler.specs.Compilation.{Compilation, IsCompiled}
use Rattle.job_flow.specs.Graphs.{JobGraph, node_at}
use Rattle.job_flow.specs.Frames.{on_edge, on, arriving, arriving_below, arriving_size, lengths_written, lens, ports_in, reads, inputs, Values}
use Rattle.job_flow.specs.Events.{IsDone}
use Rattle.one_job.specs.Marks.{Mark, Free, Claimed, Finished, Failed, mark_at, IsFinished, phase_of, values, value_of}
use Rattle.one_job.specs.Places.{no_edge, edge_at, buffer_at}
use Rattle.one_job.specs.Ports.{reads_stored, writes_stored, row_of, EachEnters, AreWired, EachLies, port_size}
use Rattle.one_job.specs.Taking.{Layout, EachTaken}
use Rattle.one_job.specs.View.{JobView, IsEnabled, graph_of}
use Rattle.one_job.specs.Invariants.{stored_at}
use Rattle.one_job.proofs.Order.{IsLaid, CanClaim}
use Rattle.one_job.proofs.Cells.{length-window}
use Rattle.one_job.proofs.Lending.{EachEdge}
use Rattle.one_job.proofs.Claiming.{ArePorts}

-- ---- the layout of a compilation

pub laid_of : (c : Compilation) → IsCompiled c → IsLaid c.graph.edges c.placement.offsets c.placement.height
laid_of c is = record { valid = is.placed.valid; some = λ e inside. is.expanded.sound.small.sizes e no_edge inside }

-- ---- marks and values

pub done_phase : (m : Mark) → IsDone (value_of m) → phase_of m ≡ IsFinished
done_phase Free done = absurd done
done_phase (Claimed places) done = absurd done
done_phase (Finished outs) done = refl
done_phase (Failed code) done = absurd done

pub can_claim : (j : JobView) (n : ℕ) → length j.marks ≡ length j.compilation.graph.nodes → IsEnabled j n → CanClaim j.compilation.graph.edges j.marks n
can_claim j n one_each is = record {
  there = subst (λ k. n < k) (sym one_each) is.ready.there;
  free = ap phase_of is.unclaimed;
  before = λ e inside here. done_phase (mark_at j.marks (edge_at j.compilation.graph.edges e).tail)
      (All-from_recursion (λ (f : Edge). f.head ≡ n → IsDone (values j.marks f.tail)) j.compilation.graph.edges is.ready.before e no_edge inside here);
}

-- ---- ports

pub ports_of : (g : JobGraph ℤ) (entering leaving : List (List (Option ℕ))) (n : ℕ) → AreWired g entering leaving → n < length g.nodes → ArePorts g.edges n (row_of entering n) (row_of leaving n)
ports_of g entering leaving n wired inside = record {
  enters = wired.enters n inside;
  leaves = wired.leaves n inside;
  heads_at = λ e e_in here. subst (λ v. get_or (row_of entering v) (edge_at g.edges e).head_port None ≡ Some e) here (wired.heads e e_in);
  tails_at = λ e e_in here. subst (λ v. get_or (row_of leaving v) (edge_at g.edges e).tail_port None ≡ Some e) here (wired.tails e e_in);
}

pub enters_at : (edges : List Edge) (n p : ℕ) (ports : List (Option ℕ)) (k e : ℕ) → EachEnters edges n p ports → get_or ports k None ≡ Some e → (e < length edges) × ((edge_at edges e).head ≡ n) × ((edge_at edges e).head_port ≡ p + k)
enters_at edges n p [] k e each is = absurd (cc)
enters_at edges n p (None ∷ ports) zero e each is = absurd (cc)
enters_at edges n p (Some f ∷ ports) zero e each is =
    let same : f ≡ e = cc in
    subst (λ g. (g < length edges) × ((edge_at edges g).head ≡ n) × ((edge_at edges g).head_port ≡ p + 0)) same (each.0, each.1, omega (arith, each.2))
enters_at edges n p (None ∷ ports) (suc k) e each is =
    let rest = enters_at edges n (p + 1) ports k e each is in (rest.0, rest.1, omega (arith, rest.2))
enters_at edges n p (Some f ∷ ports) (suc k) e each is =
    let rest = enters_at edges n (p + 1) ports k e each.3 is in (rest.0, rest.1, omega (arith, rest.2))

-- ---- what arrives

abbrev meets : Edge → ℕ → ℕ → Bool
meets x n p = (x.head == n) && (x.head_port == p)

meets_true : (x : Edge) (n p : ℕ) → x.head ≡ n → x.head_port ≡ p → meets x n p ≡ true
meets_true x n p head port = rw (eq-eqb x.head n head, eq-eqb x.head_port p port) refl

arriving_none : (edges : List Edge) (tokens : List (List ℤ)) (n p : ℕ) → ((k : ℕ) → k < length edges → (edge_at edges k).head ≡ n → (edge_at edges k).head_port ≡ p → ⊥) → arriving edges tokens n p ≡ []
arriving_none [] tokens n p never = refl
arriving_none (x ∷ edges) [] n p never = refl
arriving_none (x ∷ edges) (t ∷ tokens) n p never =
    let rest = arriving_none edges tokens n p (λ k inside. never (suc k) (omega arith)) in
    go (meets x n p) refl rest
  where
    go : (b : Bool) → meets x n p ≡ b → arriving edges tokens n p ≡ [] → (if b then t else []) ++ arriving edges tokens n p ≡ []
    go true is rest = let parts = and_parts (x.head == n) (x.head_port == p) is in absurd (never 0 (omega arith) (eqb-true x.head n parts.0) (eqb-true x.head_port p parts.1))
    go false is rest = rest

arriving_one : (edges : List Edge) (tokens : List (List ℤ)) (n p e : ℕ) → length tokens ≡ length edges → e < length edges → (edge_at edges e).head ≡ n → (edge_at edges e).head_port ≡ p → ((k : ℕ) → k < length edges → (edge_at edges k).head ≡ n → (edge_at edges k).head_port ≡ p → k ≡ e) → arriving edges tokens n p ≡ slice_index_or tokens e []
arriving_one [] tokens n p e long inside head port only = absurd (let bad : ⊥ = omega arith in bad)
arriving_one (x ∷ edges) [] n p e long inside head port only = absurd (let bad : ⊥ = omega arith in bad)
arriving_one (x ∷ edges) (t ∷ tokens) n p zero long inside head port only =
    let none = arriving_none edges tokens n p (λ k k_in h q. let bad = only (suc k) (omega arith) h q in let no_such : ⊥ = omega arith in no_such) in
    rw (meets_true x n p head port) (ap (λ r. t ++ r) none ∙ append-nil t)
arriving_one (x ∷ edges) (t ∷ tokens) n p (suc e) long inside head port only =
    go (meets x n p) refl (arriving_one edges tokens n p e (omega arith) (omega arith) head port (λ k k_in h q. let same = only (suc k) (omega arith) h q in omega arith))
  where
    go : (b : Bool) → meets x n p ≡ b → arriving edges tokens n p ≡ slice_index_or tokens e [] → (if b then t else []) ++ arriving edges tokens n p ≡ slice_index_or tokens e []
    go true is rest = let parts = and_parts (x.head == n) (x.head_port == p) is in absurd (let bad = only 0 (omega arith) (eqb-true x.head n parts.0) (eqb-true x.head_port p parts.1) in let no_such : ⊥ = omega arith in no_such)
    go false is rest = rest

-- the tokens on the edge of a port
abbrev pub on_port : List Edge → Values ℤ ℕ → Option ℕ → List ℤ
on_port edges v None = []
on_port edges v (Some e) = on_edge v (edge_at edges e)

module _ (edges : List Edge) (v : Values ℤ ℕ) (n : ℕ) (ports : List (Option ℕ)) (enters : EachEnters edges n 0 ports) (heads : (e : ℕ) → e < length edges → (edge_at edges e).head ≡ n → get_or ports (edge_at edges e).head_port None ≡ Some e) where
  arrives : (k : ℕ) (port : Option ℕ) → get_or ports k None ≡ port → arriving edges (on v edges) n k ≡ on_port edges v port
  arrives k None is = arriving_none edges (on v edges) n k (λ e inside head port.
      let there = heads e inside head in
      let here : get_or ports k None ≡ Some e = subst (λ q. get_or ports q None ≡ Some e) port there in
      let bad : None ≡ Some e = sym is ∙ here in absurd (cc))
  arrives k (Some e) is =
      let at = enters_at edges n 0 ports k e enters is in
      arriving_one edges (on v edges) n k e (length-map edges (on_edge v)) at.0 at.1 (omega (arith, at.2)) (λ f f_in head port.
      let there : get_or ports k None ≡ Some f = subst (λ q. get_or ports q None ≡ Some f) port (heads f f_in head) in
      let same : Some f ≡ Some e = sym there ∙ is in cc)
      ∙ get_or-map (on_edge v) edges e no_edge [] at.0

  arrives_below : (k : ℕ) → k ≤ length ports → arriving_below edges (on v edges) n k ≡ map (on_port edges v) (take k ports)
  arrives_below zero few = refl
  arrives_below (suc k) few =
      ap₂ (λ a b. a ++ b ∷ []) (arrives_below k (omega arith)) (arrives k (get_or ports k None) refl)
      ∙ (sym (map_more (on_port edges v) ports k None (omega arith)) ∙ ap (λ i. map (on_port edges v) (take i ports)) (add-one k))

  pub arriving_is : arriving_below edges (on v edges) n (length ports) ≡ map (on_port edges v) ports
  arriving_is = arrives_below (length ports) (omega arith) ∙ ap (map (on_port edges v)) (take_all (length ports) ports (omega arith))

-- ---- what a node reads

pub reads_of_stored : (j : JobView) (v : Values ℤ ℕ) (n : ℕ) (which : Node) → reads_stored which ≡ true → reads (graph_of j) v which n ≡ stored_at j which ∷ []
reads_of_stored j v n (node.Source s) is = refl
reads_of_stored j v n (node.Init l) is = refl
reads_of_stored j v n (node.Firing a k) is = absurd (false≢true is)
reads_of_stored j v n (node.End l) is = absurd (false≢true is)
reads_of_stored j v n (node.Sink t) is = absurd (false≢true is)
reads_of_stored j v n (node.Broadcast l) is = absurd (false≢true is)
reads_of_stored j v n (node.Fork l i) is = absurd (false≢true is)
reads_of_stored j v n (node.Join l i) is = absurd (false≢true is)
reads_of_stored j v n (node.Round l) is = absurd (false≢true is)

pub reads_of_ports : (j : JobView) (v : Values ℤ ℕ) (n : ℕ) (which : Node) → reads_stored which ≡ false → reads (graph_of j) v which n ≡ arriving_below (graph_of j).edges (on v (graph_of j).edges) n (ports_in (graph_of j) which n)
reads_of_ports j v n (node.Source s) is = absurd (false≢true (sym is))
reads_of_ports j v n (node.Init l) is = absurd (false≢true (sym is))
reads_of_ports j v n (node.Firing a k) is = refl
reads_of_ports j v n (node.End l) is = refl
reads_of_ports j v n (node.Sink t) is = refl
reads_of_ports j v n (node.Broadcast l) is = refl
reads_of_ports j v n (node.Fork l i) is = refl
reads_of_ports j v n (node.Join l i) is = refl
reads_of_ports j v n (node.Round l) is = refl

-- the stored tokens, if it reads any, then those of its ports
abbrev pub stored_part : Bool → List ℤ → List (List ℤ)
stored_part true tokens = tokens ∷ []
stored_part false tokens = []

no_ports : (ports : List (Option ℕ)) → length ports ≡ 0 → ports ≡ []
no_ports [] is = refl
no_ports (port ∷ ports) is = absurd (let bad : ⊥ = omega arith in bad)

pub row_empty : (b : Bool) (ports : List (Option ℕ)) (count : ℕ) → length ports ≡ (if b then 0 else count) → b ≡ true → ports ≡ []
row_empty true ports count is stored = no_ports ports is
row_empty false ports count is stored = absurd (false≢true stored)

module _ (j : JobView) (entering leaving : List (List (Option ℕ))) (n : ℕ) (wired : AreWired (graph_of j) entering leaving) (inside : n < length (graph_of j).nodes) (v : Values ℤ ℕ) where
  abbrev which : Node
  which = node_at (graph_of j).nodes n

  abbrev row : List (Option ℕ)
  row = row_of entering n

  by_kind : (b : Bool) → reads_stored which ≡ b → inputs (graph_of j) v n ≡ stored_part (reads_stored which) (stored_at j which) ++ map (on_port (graph_of j).edges v) row
  by_kind true is =
      let none : row ≡ [] = row_empty (reads_stored which) row (ports_in (graph_of j) which n) (wired.ins n inside) is in
      reads_of_stored j v n which is ∙ sym (ap₂ (λ b ports. stored_part b (stored_at j which) ++ map (on_port (graph_of j).edges v) ports) is none)
  by_kind false is =
      let long : length row ≡ ports_in (graph_of j) which n = wired.ins n inside ∙ ap (λ b. if b then 0 else ports_in (graph_of j) which n) is in
      reads_of_ports j v n which is ∙ (ap (arriving_below (graph_of j).edges (on v (graph_of j).edges) n) (sym long)
      ∙ (arriving_is (graph_of j).edges v n row (wired.enters n inside) (ports_of (graph_of j) entering leaving n wired inside).heads_at
      ∙ sym (ap (λ b. stored_part b (stored_at j which) ++ map (on_port (graph_of j).edges v) row) is)))

  pub inputs_are : inputs (graph_of j) v n ≡ stored_part (reads_stored which) (stored_at j which) ++ map (on_port (graph_of j).edges v) row
  inputs_are = by_kind (reads_stored which) refl

-- ---- what is taken for them

module _ (edges : List Edge) (offsets : List ℕ) (pool : PoolView) where
  abbrev place : Layout
  place = buffer_at edges offsets

  pub taken_cells : (v : Values ℤ ℕ) (ports : List (Option ℕ)) (leases : List LeaseView) → EachTaken place pool ports leases → EachEdge (λ e. window (place e).start (place e).len pool.cells ≡ on_edge v (edge_at edges e)) ports → map cells_of leases ≡ map (on_port edges v) ports
  taken_cells v [] [] each full = refl
  taken_cells v [] (lease ∷ leases) each full = absurd each
  taken_cells v (None ∷ ports) [] each full = absurd each
  taken_cells v (Some e ∷ ports) [] each full = absurd each
  taken_cells v (None ∷ ports) (lease ∷ leases) each full = ap₂ (λ x xs. x ∷ xs) each.0.1 (taken_cells v ports leases each.1 full)
  taken_cells v (Some e ∷ ports) (lease ∷ leases) each full = ap₂ (λ x xs. x ∷ xs) (ap (λ (l : LeaseView). l.cells) each.0 ∙ full.0) (taken_cells v ports leases each.1 full.1)

  -- they lie at the buffers
  pub taken_lie : (ports : List (Option ℕ)) (leases : List LeaseView) → EachTaken place pool ports leases → EachEdge (λ e. (place e).start + (place e).len ≤ length pool.cells) ports → EachLies place pool.block ports (map lease_place leases)
  taken_lie [] [] each within = tt
  taken_lie [] (lease ∷ leases) each within = absurd each
  taken_lie (None ∷ ports) [] each within = absurd each
  taken_lie (Some e ∷ ports) [] each within = absurd each
  taken_lie (None ∷ ports) (lease ∷ leases) each within = ((each.0.0, ap length each.0.1), taken_lie ports leases each.1 within)
  taken_lie (Some e ∷ ports) (lease ∷ leases) each within = (
    ap lease_place each.0 ∙ (λ i. record { block = pool.block; start = (place e).start; len = length-window pool.cells (place e).start (place e).len within.0 i }),
    taken_lie ports leases each.1 within.1,
  )

-- the lengths at the ports
pub EachLies-lengths : (edges : List Edge) (offsets : List ℕ) (block : Block) (ports : List (Option ℕ)) (leases : List LeaseView) → EachLies (buffer_at edges offsets) block ports (map lease_place leases) → map (λ (l : LeaseView). length l.cells) leases ≡ map (port_size edges) ports
EachLies-lengths edges offsets block [] [] each = refl
EachLies-lengths edges offsets block [] (lease ∷ leases) each = absurd each
EachLies-lengths edges offsets block (None ∷ ports) [] each = absurd each
EachLies-lengths edges offsets block (Some e ∷ ports) [] each = absurd each
EachLies-lengths edges offsets block (None ∷ ports) (lease ∷ leases) each = ap₂ (λ x xs. x ∷ xs) each.0.1 (EachLies-lengths edges offsets block ports leases each.1)
EachLies-lengths edges offsets block (Some e ∷ ports) (lease ∷ leases) each = ap₂ (λ x xs. x ∷ xs) (ap (λ (p : LeasePlace). p.len) each.0) (EachLies-lengths edges offsets block ports leases each.1)

-- the place of a port's lease
pub EachLies-at : (place : Layout) (block : Block) (ports : List (Option ℕ)) (places : List LeasePlace) (p e : ℕ) → EachLies place block ports places → get_or ports p None ≡ Some e → slice_get places p ≡ Some record { block = block; start = (place e).start; len = (place e).len }
EachLies-at place block [] places p e each is = absurd (cc)
EachLies-at place block (None ∷ ports) [] p e each is = absurd each
EachLies-at place block (Some f ∷ ports) [] p e each is = absurd each
EachLies-at place block (None ∷ ports) (q ∷ places) zero e each is = absurd (cc)
EachLies-at place block (Some f ∷ ports) (q ∷ places) zero e each is =
    let same : f ≡ e = cc in ap (λ x. Some x) (each.0 ∙ λ i. record { block = block; start = (place (same i)).start; len = (place (same i)).len })
EachLies-at place block (None ∷ ports) (q ∷ places) (suc p) e each is = EachLies-at place block ports places p e each.1 is
EachLies-at place block (Some f ∷ ports) (q ∷ places) (suc p) e each is = EachLies-at place block ports places p e each.1 is

-- an End and a Sink write at one port
pub writes_one : (g : JobGraph ℤ) (which : Node) (n : ℕ) → writes_stored which ≡ true → lengths_written g which n ≡ arriving_size g.edges n 0 ∷ []
writes_one g (node.Source s) n is = absurd (false≢true is)
writes_one g (node.Init l) n is = absurd (false≢true is)
writes_one g (node.Firing a k) n is = absurd (false≢true is)
writes_one g (node.End l) n is = refl
writes_one g (node.Sink t) n is = refl
writes_one g (node.Broadcast l) n is = absurd (false≢true is)
writes_one g (node.Fork l i) n is = absurd (false≢true is)
writes_one g (node.Join l i) n is = absurd (false≢true is)
writes_one g (node.Round l) n is = absurd (false≢true is)

pub written_at_one : (g : JobGraph ℤ) (n : ℕ) → writes_stored (node_at g.nodes n) ≡ true → lens g n ≡ slice_index (lens g n) 0 ∷ []
written_at_one g n is = let one = writes_one g (node_at g.nodes n) n is in one ∙ ap (λ sizes. slice_index sizes 0 ∷ []) (sym one)
