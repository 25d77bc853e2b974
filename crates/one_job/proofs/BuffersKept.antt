-- The leases of claimed nodes, as users see them.
use Rattle.std.proofs.Common.{◌≡◌, ℕ, zero, suc, ℤ, ◌+◌, ◌<◌, Bool, true, false, List, [], ◌∷◌, ◌++◌, length, get_or, drop, refl, sym, ap, ◌∙◌, subst, arith}
use Rattle.std.specs.Prelude.{Option, Some, None, slice_get, if◌then◌else◌}
use Rattle.std.proofs.lemmas.List.{length-map, append-nil, length-take-le, length-drop}
use Rattle.sdf_level.specs.declared.single_rate.Edge.{Edge}
use Rattle.split_block.specs.View.{Block, LeasePlace, IsWholePlace}
use Rattle.cell_pool.specs.View.{PoolView}
use Rattle.kernel_gate.specs.Value.{Places}
use Rattle.kernel_gate.specs.Leased.{AllWhole}
use Rattle.job_flow.specs.Graphs.{node_at}
use Rattle.job_flow.specs.Frames.{ports_in, lens, on_edge}
use Rattle.one_job.specs.Marks.{Claimed, mark_at, phase, phase_of, values}
use Rattle.one_job.specs.Live.{IsFull}
use Rattle.one_job.specs.Places.{edge_at, buffer_at}
use Rattle.one_job.specs.Taking.{Layout}
use Rattle.one_job.specs.Ports.{reads_stored, writes_stored, row_of, EachLeaves, EachLies, LieBehind, port_size}
use Rattle.one_job.specs.View.{JobView, graph_of}
use Rattle.one_job.specs.Leased.{AreLeases, cells_of}
use Rattle.one_job.specs.LiveLaws.{KeepsBuffers}
use Rattle.one_job.specs.Invariants.{Parts, Keeps}
use Rattle.one_job.proofs.Phases.{inside_of, claimed_not_free}
use Rattle.one_job.proofs.Order.{buffer_within}
use Rattle.one_job.proofs.Wires.{laid_of, ports_of, enters_at}
use Rattle.one_job.proofs.JobClaim.{LieBehind-at, no_own}

-- the edge at a port leaves the node there
leaves_at : (edges : List Edge) (n p : ℕ) (ports : List (Option ℕ)) (k e : ℕ) → EachLeaves edges n p ports → get_or ports k None ≡ Some e → (e < length edges) × ((edge_at edges e).tail ≡ n) × ((edge_at edges e).tail_port ≡ p + k)
leaves_at edges n p [] k e each is = absurd (cc)
leaves_at edges n p (None ∷ ports) zero e each is = absurd (cc)
leaves_at edges n p (Some f ∷ ports) zero e each is =
    let same : f ≡ e = cc in
    subst (λ g. (g < length edges) × ((edge_at edges g).tail ≡ n) × ((edge_at edges g).tail_port ≡ p + 0)) same (each.0, each.1, each.2 ∙ omega arith)
leaves_at edges n p (None ∷ ports) (suc k) e each is =
    let rest = leaves_at edges n (p + 1) ports k e each is in (rest.0, rest.1, rest.2 ∙ omega arith)
leaves_at edges n p (Some f ∷ ports) (suc k) e each is =
    let rest = leaves_at edges n (p + 1) ports k e each.3 is in (rest.0, rest.1, rest.2 ∙ omega arith)

-- a port without an edge has an empty lease
lies_empty : (place : Layout) (block : Block) (ports : List (Option ℕ)) (places : List LeasePlace) (p : ℕ) (lease : LeasePlace) → EachLies place block ports places → get_or ports p None ≡ None → slice_get places p ≡ Some lease → lease.len ≡ 0
lies_empty place block [] [] p lease each none is = absurd (cc)
lies_empty place block [] (q ∷ places) p lease each none is = absurd each
lies_empty place block (None ∷ ports) [] p lease each none is = absurd each
lies_empty place block (Some f ∷ ports) [] p lease each none is = absurd each
lies_empty place block (None ∷ ports) (q ∷ places) zero lease each none is = let same : q ≡ lease = cc in ap (λ (x : LeasePlace). x.len) (sym same) ∙ each.0.1
lies_empty place block (Some f ∷ ports) (q ∷ places) zero lease each none is = absurd (cc)
lies_empty place block (None ∷ ports) (q ∷ places) (suc p) lease each none is = lies_empty place block ports places p lease each.1 none is
lies_empty place block (Some f ∷ ports) (q ∷ places) (suc p) lease each none is = lies_empty place block ports places p lease each.1 none is

behind_empty : (place : Layout) (block : Block) (stored : Bool) (ports : List (Option ℕ)) (places : List LeasePlace) (p : ℕ) (lease : LeasePlace) → stored ≡ false → LieBehind place block stored ports places → get_or ports p None ≡ None → slice_get places p ≡ Some lease → lease.len ≡ 0
behind_empty place block stored ports places p lease alone lies none is =
    lies_empty place block ports lies.others p lease lies.each none (ap (λ l. slice_get l p) (sym (no_own stored lies.own lies.others places alone lies.count lies.all)) ∙ is)

-- a lease of stored tokens is a whole block
whole_at : (own : List LeasePlace) (p : ℕ) (lease : LeasePlace) → AllWhole own → slice_get own p ≡ Some lease → IsWholePlace lease
whole_at [] p lease all is = absurd (cc)
whole_at (q ∷ own) zero lease all is = let same : q ≡ lease = cc in subst IsWholePlace same all.0
whole_at (q ∷ own) (suc p) lease all is = whole_at own p lease all.1 is

no_others : (place : Layout) (block : Block) (ports : List (Option ℕ)) (others : List LeasePlace) → length ports ≡ 0 → EachLies place block ports others → others ≡ []
no_others place block [] [] none each = refl
no_others place block [] (q ∷ others) none each = absurd each
no_others place block (port ∷ ports) others none each = absurd (let bad : ⊥ = omega arith in bad)

behind_whole : (place : Layout) (block : Block) (stored : Bool) (count : ℕ) (ports : List (Option ℕ)) (places : List LeasePlace) (p : ℕ) (lease : LeasePlace) → stored ≡ true → length ports ≡ (if stored then 0 else count) → LieBehind place block stored ports places → slice_get places p ≡ Some lease → IsWholePlace lease
behind_whole place block stored count ports places p lease has long lies is =
    let none : length ports ≡ 0 = long ∙ ap (λ (s : Bool). if s then 0 else count) has in
    let alone : places ≡ lies.own = lies.all ∙ (ap (λ l. lies.own ++ l) (no_others place block ports lies.others none lies.each) ∙ append-nil lies.own) in
    whole_at lies.own p lease lies.whole (ap (λ l. slice_get l p) (sym alone) ∙ is)

no_edge_at : (port : Option ℕ) → ((e : ℕ) → port ≡ Some e → ⊥) → port ≡ None
no_edge_at None none = refl
no_edge_at (Some e) none = absurd (none e refl)

module _ (j : JobView) (p : Parts) (pool : PoolView) (outs left : List (List ℤ)) (keeps : Keeps j p pool outs left) where
  outs_long : (n : ℕ) → n < length j.compilation.graph.nodes → length (row_of p.leaving n) ≡ (if writes_stored (node_at j.compilation.graph.nodes n) then 0 else length (lens (graph_of j) n))
  outs_long n inside = sym (length-map (row_of p.leaving n) (port_size j.compilation.graph.edges)) ∙ (ap length (keeps.wired.outs n inside) ∙ by (writes_stored (node_at j.compilation.graph.nodes n)))
    where
      by : (c : Bool) → length (if c then [] else lens (graph_of j) n) ≡ (if c then 0 else length (lens (graph_of j) n))
      by true = refl
      by false = refl

  lie_out : (n : ℕ) (places : Places) → mark_at j.marks n ≡ Claimed places → AreLeases (cells_of j) n places
  lie_out n places is =
      let inside : n < length j.compilation.graph.nodes = subst (λ k. n < k) keeps.one_each (inside_of j.marks n (claimed_not_free (phase j.marks n) (ap phase_of is))) in
      let right = keeps.claimed n places is in
      let edges = j.compilation.graph.edges in
      let place = buffer_at edges j.compilation.placement.offsets in
      let which = node_at j.compilation.graph.nodes n in
      let ports = ports_of (graph_of j) p.entering p.leaving n keeps.wired inside in
      record {
        inputs = λ e e_in here. LieBehind-at place j.block (reads_stored which) (ports_in (graph_of j) which n) (row_of p.entering n) places.inputs (edge_at edges e).head_port e (keeps.wired.ins n inside) right.inputs (ports.heads_at e e_in here);
        outputs = λ e e_in here. LieBehind-at place j.block (writes_stored which) (length (lens (graph_of j) n)) (row_of p.leaving n) places.outputs (edge_at edges e).tail_port e (outs_long n inside) right.outputs (ports.tails_at e e_in here);
        no_input = λ port lease alone none at. behind_empty place j.block (reads_stored which) (row_of p.entering n) places.inputs port lease alone right.inputs
            (no_edge_at (get_or (row_of p.entering n) port None) (λ e found. let there = enters_at edges n 0 (row_of p.entering n) port e (keeps.wired.enters n inside) found in none e there.0 there.1 (there.2 ∙ omega arith))) at;
        no_output = λ port lease alone none at. behind_empty place j.block (writes_stored which) (row_of p.leaving n) places.outputs port lease alone right.outputs
            (no_edge_at (get_or (row_of p.leaving n) port None) (λ e found. let there = leaves_at edges n 0 (row_of p.leaving n) port e (keeps.wired.leaves n inside) found in none e there.0 there.1 (there.2 ∙ omega arith))) at;
        stored_input = λ port lease stored at. behind_whole place j.block (reads_stored which) (ports_in (graph_of j) which n) (row_of p.entering n) places.inputs port lease stored (keeps.wired.ins n inside) right.inputs at;
        stored_output = λ port lease stored at. behind_whole place j.block (writes_stored which) (length (lens (graph_of j) n)) (row_of p.leaving n) places.outputs port lease stored (outs_long n inside) right.outputs at;
      }

  full_long : (e : ℕ) → e < length j.compilation.graph.edges → IsFull j.compilation.graph.edges j.marks e → length (on_edge (values j.marks) (edge_at j.compilation.graph.edges e)) ≡ (edge_at j.compilation.graph.edges e).size
  full_long e inside full =
      let place = buffer_at j.compilation.graph.edges j.compilation.placement.offsets e in
      let within = buffer_within j.compilation.graph.edges j.compilation.placement.offsets j.compilation.placement.height (laid_of j.compilation keeps.compiled) e inside in
      ap length (sym (keeps.full e inside full))
      ∙ length-take-le place.len (drop place.start pool.cells) (omega (arith, within, keeps.cells.long, length-drop place.start pool.cells))

  pub keeps_buffers : KeepsBuffers j
  keeps_buffers = record { compiled = keeps.compiled; pooled = keeps.cells.pooled; high = keeps.cells.len; one_each = keeps.one_each; order = keeps.order; leases = lie_out; full = full_long }
