-- A job at its start.
use Rattle.std.proofs.Common.{◌≡◌, ℕ, suc, ℤ, ◌+◌, ◌<◌, ◌≤◌, ⊎_elim, Bool, true, false, List, [], ◌∷◌, length, map, replicate, get_or, refl, sym, ap, ap₂, ◌∙◌, subst, arith}
use Rattle.std.specs.Prelude.{◌==◌, ◌&&◌, Option, Some, None, slice_index, slice_index_or, if◌then◌else◌}
use Rattle.std.proofs.lemmas.Bool.{cases_lt, false≢true, and_parts, eqb-true}
use Rattle.std.proofs.lemmas.List.{get_or-replicate, get_or_past, length-replicate}
use Rattle.cell_pool.specs.View.{PoolView}
use Rattle.sdf_level.specs.declared.link.Link.{Link}
use Rattle.sdf_level.specs.declared.node.Node.{Node}
use Rattle.sdf_level.specs.declared.node.Node.TheVariants as node
use Rattle.sdf_level.specs.declared.single_rate.Edge.{Edge}
use Rattle.job_compiler.specs.Compilation.{Compilation, IsCompiled}
use Rattle.job_compiler.specs.Wired.{WireJobs}
use Rattle.sdf_level.specs.LevelRun.{HaveDelays}
use Rattle.job_flow.specs.Graphs.{JobGraph, IsJobGraph, node_at}
use Rattle.job_flow.specs.Frames.{Values, lengths_read, in_lens, arriving_size}
use Rattle.job_flow.specs.Outcomes.{sunk, left_over}
use Rattle.job_flow.specs.Frames.{given}
use Rattle.job_flow.specs.Laws.{HavePorts, EdgesHavePorts}
use Rattle.one_job.specs.Marks.{Mark, Free, Claimed, mark_at, IsFree, IsFinished, phase, phase_of, values, value_of}
use Rattle.one_job.specs.Places.{edge_at, buffer_at}
use Rattle.one_job.specs.Live.{IsLent, AreOut}
use Rattle.one_job.specs.Ports.{writes_stored, row_of, AreWired, port_size}
use Rattle.one_job.specs.Opening.{AreMade}
use Rattle.one_job.specs.View.{JobView, graph_of, job_graph, HasLists}
use Rattle.one_job.specs.Invariants.{Parts, HasRoom, HasStock, IsPoolOf, Keeps}
use Rattle.one_job.proofs.Wires.{enters_at, writes_one}

-- the rows of the ports, whatever compilation was read
pub wired_by : (one comp : Compilation) (ins outs : List (List (Option ℕ))) → one ≡ comp → WireJobs one.level one.graph ins outs
    → (sources stored : List (List ℤ)) → map length sources ≡ comp.level.sources → HaveDelays comp.level.links stored → AreWired (job_graph comp sources stored) ins outs
wired_by one comp ins outs same wires sources stored fit have = subst (λ (x : Compilation). WireJobs x.level x.graph ins outs) same wires sources stored fit have

-- the edge at the first port of a node is there
pub first_there : (job : JobGraph ℤ) (entering leaving : List (List (Option ℕ))) → AreWired job entering leaving → (n e : ℕ) → get_or (row_of entering n) 0 None ≡ Some e → e < length job.edges
first_there job entering leaving wired n e found = ⊎_elim
    (λ (inside : n < length job.nodes). (enters_at job.edges n 0 (row_of entering n) 0 e (wired.enters n inside) found).0)
    (λ (past : length job.nodes ≤ n).
    let none : row_of entering n ≡ [] = get_or_past entering n [] (omega (arith, past, wired.rows_in)) in
    let bad : None ≡ Some e = sym (ap (λ (row : List (Option ℕ)). get_or row 0 None) none) ∙ found in absurd (cc))
    (cases_lt n (length job.nodes))

mark_free : (count n : ℕ) → mark_at (replicate count Free) n ≡ Free
mark_free count n = ⊎_elim
    (λ (inside : n < count). get_or-replicate count n Free Free inside)
    (λ (past : count ≤ n). get_or_past (replicate count Free) n Free (omega (arith, past, length-replicate count Free)))
    (cases_lt n count)

sunk_free : (list : List Node) (v : Values ℤ ℕ) (t : ℕ) (rates : List ℕ) → ((m : ℕ) → v m ≡ None) → sunk list v t rates ≡ replicate (length rates) []
sunk_free list v t [] free = refl
sunk_free list v t (rate ∷ rates) free = ap₂ (λ a b. a ∷ b) (ap (λ o. slice_index_or (given o) 0 []) (free (Rattle.single_rate.specs.Expanded.place_of list (node.Sink t)))) (sunk_free list v (t + 1) rates free)

left_free : (list : List Node) (v : Values ℤ ℕ) (l : ℕ) (links : List Link) → ((m : ℕ) → v m ≡ None) → left_over list v l links ≡ replicate (length links) []
left_free list v l [] free = refl
left_free list v l (link ∷ links) free = ap₂ (λ a b. a ∷ b) (ap (λ o. slice_index_or (given o) 0 []) (free (Rattle.single_rate.specs.Expanded.place_of list (node.End l)))) (left_free list v (l + 1) links free)

-- where no edge enters a port, nothing arrives
arriving_none : (edges : List Edge) (n port : ℕ) → ((e : ℕ) → e < length edges → (edge_at edges e).head ≡ n → (edge_at edges e).head_port ≡ port → ⊥) → arriving_size edges n port ≡ 0
arriving_none [] n port none = refl
arriving_none (x ∷ edges) n port none =
    ap₂ (λ a b. a + b) (none_here ((x.head == n) && (x.head_port == port)) refl) (arriving_none edges n port (λ e inside. none (suc e) (omega (arith, inside))))
  where
    none_here : (b : Bool) → ((x.head == n) && (x.head_port == port)) ≡ b → (if b then x.size else 0) ≡ 0
    none_here true is =
        let parts = and_parts (x.head == n) (x.head_port == port) is in
        absurd (none 0 (omega arith) (eqb-true x.head n parts.0) (eqb-true x.head_port port parts.1))
    none_here false is = refl

reads_one : (g : JobGraph ℤ) (which : Node) (n : ℕ) → writes_stored which ≡ true → lengths_read g which n ≡ arriving_size g.edges n 0 ∷ []
reads_one g (node.Source s) n is = absurd (false≢true is)
reads_one g (node.Init l) n is = absurd (false≢true is)
reads_one g (node.Firing a k) n is = absurd (false≢true is)
reads_one g (node.End l) n is = refl
reads_one g (node.Sink t) n is = refl
reads_one g (node.Broadcast l) n is = absurd (false≢true is)
reads_one g (node.Fork l i) n is = absurd (false≢true is)
reads_one g (node.Join l i) n is = absurd (false≢true is)
reads_one g (node.Round l) n is = absurd (false≢true is)

module _ (g : JobGraph ℤ) (entering leaving : List (List (Option ℕ))) (wired : AreWired g entering leaving) where
  -- what arrives at the one port of an End or a Sink
  pub arrives : HavePorts g → (n : ℕ) → n < length g.nodes → writes_stored (node_at g.nodes n) ≡ true → (port : Option ℕ) → get_or (row_of entering n) 0 None ≡ port → arriving_size g.edges n 0 ≡ port_size g.edges port
  arrives have n inside is (Some e) found =
      let at = enters_at g.edges n 0 (row_of entering n) 0 e (wired.enters n inside) found in
      let port : (edge_at g.edges e).head_port ≡ 0 = omega (arith, at.2) in
      sym (ap (λ row. slice_index row 0) (reads_one g (node_at g.nodes n) n is)) ∙ (ap₂ (λ m k. slice_index (in_lens g m) k) (sym at.1) (sym port) ∙ have.head_sizes e at.0)
  arrives have n inside is None found = arriving_none g.edges n 0 (λ e below here port.
      let there : get_or (row_of entering n) 0 None ≡ Some e = ap₂ (λ m k. get_or (row_of entering m) k None) (sym here) (sym port) ∙ wired.heads e below in
      let bad : None ≡ Some e = sym found ∙ there in absurd (cc))

module _ (j : JobView) (p : Parts) (compiled : IsCompiled j.compilation) (has_lists : HasLists j) (wired : AreWired (graph_of j) p.entering p.leaving) where
  abbrev nodes : List Node
  nodes = j.compilation.graph.nodes

  is_graph : IsJobGraph j.compilation.counts j.compilation.order (graph_of j)
  is_graph = record { level_kept = compiled.level_kept; repetition = compiled.repetition; order = compiled.order_is; nodes_are = compiled.expanded.nodes_are; edges_are = compiled.expanded.edges_are; sources_fit = has_lists.sources; delays_fit = has_lists.stored }

  -- what was made for a node is what it has
  pub stock_of_free : EdgesHavePorts ℤ → AreMade nodes j.compilation.graph.edges p.entering j.sources j.stored p.stock → (n : ℕ) → n < length nodes → HasStock j p n
  stock_of_free law made n inside =
      let one = made.each n inside in
      record {
        read_are = one.read_are;
        long = λ is.
            one.long is
            ∙ sym (ap (λ sizes. slice_index sizes 0) (writes_one (graph_of j) (node_at nodes n) n is)
            ∙ arrives (graph_of j) p.entering p.leaving wired (law j.compilation.counts j.compilation.order (graph_of j) is_graph) n inside is (get_or (row_of p.entering n) 0 None) refl);
      }

  pub keeps_at_start : (pool : PoolView) (outs left : List (List ℤ)) → j.marks ≡ replicate (length nodes) Free
      → IsPoolOf j pool → pool.out ≡ [] → length p.stock ≡ length nodes → ((n : ℕ) → n < length nodes → HasStock j p n) → ((n : ℕ) → n < length nodes → HasRoom j p n)
      → outs ≡ replicate (length j.compilation.level.sinks) [] → left ≡ replicate (length j.compilation.level.links) []
      → Keeps j p pool outs left
  keeps_at_start pool outs left all_free cells none_out stocked free rooms outs_are left_are =
      let free_at : (n : ℕ) → mark_at j.marks n ≡ Free = λ n. ap (λ marks. mark_at marks n) all_free ∙ mark_free (length nodes) n in
      let none_at : (n : ℕ) → values j.marks n ≡ None = λ n. ap value_of (free_at n) in
      let not_yet : (n : ℕ) → phase j.marks n ≡ IsFree = λ n. ap phase_of (free_at n) in
      record {
        compiled = compiled;
        lists = has_lists;
        one_each = ap length all_free ∙ length-replicate (length nodes) Free;
        wired = wired;
        order = λ e inside not_free. absurd (not_free (not_yet (edge_at j.compilation.graph.edges e).head));
        cells = cells;
        out = subst (λ list. AreOut (buffer_at j.compilation.graph.edges j.compilation.placement.offsets) (length j.compilation.graph.edges) (IsLent j.compilation.graph.edges j.marks) list) (sym none_out) record {
          all = λ e inside lent. absurd (⊎_elim
              (λ (t : phase j.marks (edge_at j.compilation.graph.edges e).tail ≡ Rattle.one_job.specs.Marks.IsClaimed). not_claimed (phase j.marks (edge_at j.compilation.graph.edges e).tail) (not_yet (edge_at j.compilation.graph.edges e).tail) t)
              (λ (h : phase j.marks (edge_at j.compilation.graph.edges e).head ≡ Rattle.one_job.specs.Marks.IsClaimed). not_claimed (phase j.marks (edge_at j.compilation.graph.edges e).head) (not_yet (edge_at j.compilation.graph.edges e).head) h)
              lent);
          only = λ place found. absurd (false≢true found);
          apart = tt;
        };
        full = λ e inside is. absurd (not_finished (phase j.marks (edge_at j.compilation.graph.edges e).tail) (not_yet (edge_at j.compilation.graph.edges e).tail) is.given);
        stocked = stocked;
        free = λ n inside is. free n inside;
        rooms = rooms;
        claimed = λ n places is. let bad : Free ≡ Claimed places = sym (free_at n) ∙ is in absurd (cc);
        outs_are = outs_are ∙ sym (sunk_free nodes (values j.marks) 0 j.compilation.level.sinks none_at);
        left_are = left_are ∙ sym (left_free nodes (values j.marks) 0 j.compilation.level.links none_at);
      }
    where
      not_claimed : (q : Rattle.one_job.specs.Marks.Phase) → q ≡ IsFree → q ≡ Rattle.one_job.specs.Marks.IsClaimed → ⊥
      not_claimed q is bad = absurd (cc)

      not_finished : (q : Rattle.one_job.specs.Marks.Phase) → q ≡ IsFree → q ≡ IsFinished → ⊥
      not_finished q is bad = absurd (cc)
