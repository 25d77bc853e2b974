-- The rows of ports of the nodes of a level's graph.
use Rattle.std.proofs.Common.{◌≡◌, ℕ, zero, suc, ℤ, ◌+◌, ◌<◌, ◌≤◌, ⊎_elim, Bool, true, false, List, [], ◌∷◌, ◌++◌, length, map, get_or, refl, sym, ap, ap₂, ◌∙◌, subst, arith, All}
use Rattle.std.specs.Prelude.{◌≢◌, ◌==◌, Option, Some, None, slice_index, if◌then◌else◌}
use Rattle.std.proofs.lemmas.Bool.{cases_lt, eq-eqb, false≢true}
use Rattle.std.proofs.lemmas.List.{length-map, length-append, get_or-map, ext_get_or}
use Rattle.std.proofs.lemmas.List.Elements.{All-from_get_or}
use Rattle.sdf_level.specs.Invariants.{IsLevel}
use Rattle.sdf_level.specs.LevelRun.{HaveDelays}
use Rattle.sdf_level.specs.declared.link.Link.{Link}
use Rattle.sdf_level.specs.declared.node.Node.{Node}
use Rattle.sdf_level.specs.declared.node.Node.TheVariants as node
use Rattle.sdf_level.specs.View.{LevelView}
use Rattle.sdf_level.specs.declared.single_rate.Edge.{Edge}
use Rattle.sdf_level.specs.declared.single_rate.SingleRate.{SingleRate}
use Rattle.single_rate.specs.Nodes.{kind}
use Rattle.single_rate.specs.Ports.{ports_into, ports_from, PortsAt, EdgesHavePorts as NodesHavePorts}
use Rattle.job_flow.specs.Graphs.{JobGraph, IsJobGraph, node_at}
use Rattle.job_flow.specs.Frames.{ports_in, lengths_read, in_lens, lens, lengths_written, edges_into, sizes_out, sizes_below, rates_below, output_rates}
use Rattle.job_flow.specs.Laws.{edge_at, HavePorts, EdgesHavePorts, PortsAreUsed}
use Rattle.job_compiler.specs.Rows.{row_of}
use Rattle.job_compiler.specs.Wired.{reads_stored, writes_stored, EachEnters, EachLeaves, AreWired, port_size, job_of, IsGraphOf}
use Rattle.job_compiler.specs.Ends.{head_of, tail_of, end_at, ends_at, AreEndCounts, in_count, out_count, AreCounts, HaveRows, AreRows}

-- ---- ends of edges

abbrev no_edge : Edge
no_edge = record { tail = 0; tail_port = 0; head = 0; head_port = 0; size = 0 }

pub head_at : (edges : List Edge) (e : ℕ) → e < length edges → end_at (map head_of edges) e ≡ head_of (edge_at edges e)
head_at edges e inside = get_or-map head_of edges e no_edge (0, 0) inside

pub tail_at : (edges : List Edge) (e : ℕ) → e < length edges → end_at (map tail_of edges) e ≡ tail_of (edge_at edges e)
tail_at edges e inside = get_or-map tail_of edges e no_edge (0, 0) inside

ends_into : (edges : List Edge) (n : ℕ) → ends_at n (map head_of edges) ≡ edges_into edges n
ends_into [] n = refl
ends_into (e ∷ edges) n = ap (λ k. (if e.head == n then 1 else 0) + k) (ends_into edges n)

one_out : (b : Bool) (size : ℕ) → (if b then 1 else 0) ≡ length (if b then (size ∷ []) else [])
one_out true size = refl
one_out false size = refl

ends_from : (edges : List Edge) (n : ℕ) → ends_at n (map tail_of edges) ≡ length (sizes_out edges n)
ends_from [] n = refl
ends_from (e ∷ edges) n = ap₂ (λ a b. a + b) (one_out (e.tail == n) e.size) (ends_from edges n) ∙ sym (length-append (if e.tail == n then (e.size ∷ []) else []) (sizes_out edges n))

some_in : (edges : List Edge) (n e : ℕ) → e < length edges → (edge_at edges e).head ≡ n → ports_into edges n ≡ [] → ⊥
some_in [] n e inside here none = let bad : ⊥ = omega arith in bad
some_in (x ∷ edges) n zero inside here none =
    let bad : x.head_port ∷ ports_into edges n ≡ [] = ap (λ b. (if b then (x.head_port ∷ []) else []) ++ ports_into edges n) (sym (eq-eqb x.head n here)) ∙ none in absurd (cc)
some_in (x ∷ edges) n (suc e) inside here none = some_in edges n e (omega arith) here (no_more (x.head == n) none)
  where
    no_more : (b : Bool) → (if b then (x.head_port ∷ []) else []) ++ ports_into edges n ≡ [] → ports_into edges n ≡ []
    no_more true is = absurd (cc)
    no_more false is = is

some_out : (edges : List Edge) (n e : ℕ) → e < length edges → (edge_at edges e).tail ≡ n → ports_from edges n ≡ [] → ⊥
some_out [] n e inside here none = let bad : ⊥ = omega arith in bad
some_out (x ∷ edges) n zero inside here none =
    let bad : x.tail_port ∷ ports_from edges n ≡ [] = ap (λ b. (if b then (x.tail_port ∷ []) else []) ++ ports_from edges n) (sym (eq-eqb x.tail n here)) ∙ none in absurd (cc)
some_out (x ∷ edges) n (suc e) inside here none = some_out edges n e (omega arith) here (no_more (x.tail == n) none)
  where
    no_more : (b : Bool) → (if b then (x.tail_port ∷ []) else []) ++ ports_from edges n ≡ [] → ports_from edges n ≡ []
    no_more true is = absurd (cc)
    no_more false is = is

-- ---- how many ports there are

length-sizes_below : (edges : List Edge) (n k : ℕ) → length (sizes_below edges n k) ≡ k
length-sizes_below edges n zero = refl
length-sizes_below edges n (suc k) = length-append (sizes_below edges n k) (Rattle.job_flow.specs.Frames.arriving_size edges n k ∷ []) ∙ omega (arith, length-sizes_below edges n k)

length-rates_below : (links : List Link) (a k : ℕ) → length (rates_below links a k) ≡ k
length-rates_below links a zero = refl
length-rates_below links a (suc k) = length-append (rates_below links a k) (Rattle.single_rate.specs.Names.output_rate a k links ∷ []) ∙ omega (arith, length-rates_below links a k)

in_count_is : (g : JobGraph ℤ) (which : Node) (n : ℕ) → in_count g.level.links which (edges_into g.edges n) ≡ (if reads_stored which then 0 else ports_in g which n)
in_count_is g (node.Source s) n = refl
in_count_is g (node.Init l) n = refl
in_count_is g (node.Firing a k) n = refl
in_count_is g (node.End l) n = refl
in_count_is g (node.Sink t) n = refl
in_count_is g (node.Broadcast l) n = refl
in_count_is g (node.Fork l i) n = refl
in_count_is g (node.Join l i) n = refl
in_count_is g (node.Round l) n = refl

lengths_read_is : (g : JobGraph ℤ) (which : Node) (n : ℕ) → reads_stored which ≡ false → length (lengths_read g which n) ≡ ports_in g which n
lengths_read_is g (node.Source s) n is = refl
lengths_read_is g (node.Init l) n is = refl
lengths_read_is g (node.Firing a k) n is = length-sizes_below g.edges n (ports_in g (node.Firing a k) n)
lengths_read_is g (node.End l) n is = length-sizes_below g.edges n 1
lengths_read_is g (node.Sink t) n is = length-sizes_below g.edges n 1
lengths_read_is g (node.Broadcast l) n is = length-sizes_below g.edges n 1
lengths_read_is g (node.Fork l i) n is = length-sizes_below g.edges n 1
lengths_read_is g (node.Join l i) n is = length-sizes_below g.edges n (ports_in g (node.Join l i) n)
lengths_read_is g (node.Round l) n is = length-sizes_below g.edges n (ports_in g (node.Round l) n)

out_count_is : (g : JobGraph ℤ) (which : Node) (n : ℕ) → out_count g.level.links which (length (sizes_out g.edges n)) ≡ length (if writes_stored which then [] else lengths_written g which n)
out_count_is g (node.Source s) n = refl
out_count_is g (node.Init l) n = refl
out_count_is g (node.Firing a k) n = sym (length-rates_below g.level.links a (Rattle.sdf_level.specs.Invariants.how_many (Rattle.single_rate.specs.Names.is_from_actor a) g.level.links))
out_count_is g (node.End l) n = refl
out_count_is g (node.Sink t) n = refl
out_count_is g (node.Broadcast l) n = refl
out_count_is g (node.Fork l i) n = refl
out_count_is g (node.Join l i) n = refl
out_count_is g (node.Round l) n = refl

-- ---- where no edge is

none_into : (level : LevelView) (which : Node) (into from : List ℕ) → PortsAt level which into from → reads_stored which ≡ true → into ≡ []
none_into level (node.Source s) into from ports is = ports.0
none_into level (node.Init l) into from ports is = ports.0
none_into level (node.Firing a k) into from ports is = absurd (false≢true is)
none_into level (node.End l) into from ports is = absurd (false≢true is)
none_into level (node.Sink t) into from ports is = absurd (false≢true is)
none_into level (node.Broadcast l) into from ports is = absurd (false≢true is)
none_into level (node.Fork l i) into from ports is = absurd (false≢true is)
none_into level (node.Join l i) into from ports is = absurd (false≢true is)
none_into level (node.Round l) into from ports is = absurd (false≢true is)

none_from : (level : LevelView) (which : Node) (into from : List ℕ) → PortsAt level which into from → writes_stored which ≡ true → from ≡ []
none_from level (node.Source s) into from ports is = absurd (false≢true is)
none_from level (node.Init l) into from ports is = absurd (false≢true is)
none_from level (node.Firing a k) into from ports is = absurd (false≢true is)
none_from level (node.End l) into from ports is = ports.1
none_from level (node.Sink t) into from ports is = ports.1
none_from level (node.Broadcast l) into from ports is = absurd (false≢true is)
none_from level (node.Fork l i) into from ports is = absurd (false≢true is)
none_from level (node.Join l i) into from ports is = absurd (false≢true is)
none_from level (node.Round l) into from ports is = absurd (false≢true is)

other_kinds : (which : Node) → writes_stored which ≡ false → (kind which ≢ 3) × (kind which ≢ 4)
other_kinds (node.Source s) is = ((λ bad. let no_such : ⊥ = omega arith in no_such), (λ bad. let no_such : ⊥ = omega arith in no_such))
other_kinds (node.Init l) is = ((λ bad. let no_such : ⊥ = omega arith in no_such), (λ bad. let no_such : ⊥ = omega arith in no_such))
other_kinds (node.Firing a k) is = ((λ bad. let no_such : ⊥ = omega arith in no_such), (λ bad. let no_such : ⊥ = omega arith in no_such))
other_kinds (node.End l) is = absurd (false≢true (sym is))
other_kinds (node.Sink t) is = absurd (false≢true (sym is))
other_kinds (node.Broadcast l) is = ((λ bad. let no_such : ⊥ = omega arith in no_such), (λ bad. let no_such : ⊥ = omega arith in no_such))
other_kinds (node.Fork l i) is = ((λ bad. let no_such : ⊥ = omega arith in no_such), (λ bad. let no_such : ⊥ = omega arith in no_such))
other_kinds (node.Join l i) is = ((λ bad. let no_such : ⊥ = omega arith in no_such), (λ bad. let no_such : ⊥ = omega arith in no_such))
other_kinds (node.Round l) is = ((λ bad. let no_such : ⊥ = omega arith in no_such), (λ bad. let no_such : ⊥ = omega arith in no_such))

-- ---- rows as ports

enters_from : (edges : List Edge) (n p : ℕ) (ports : List (Option ℕ)) → ((k e : ℕ) → get_or ports k None ≡ Some e → (e < length edges) × ((edge_at edges e).head ≡ n) × ((edge_at edges e).head_port ≡ p + k)) → EachEnters edges n p ports
enters_from edges n p [] each = tt
enters_from edges n p (None ∷ ports) each = enters_from edges n (p + 1) ports (λ k e is. let found = each (suc k) e is in (found.0, found.1, omega (arith, found.2)))
enters_from edges n p (Some e ∷ ports) each =
    let here = each 0 e refl in
    (here.0, here.1, omega (arith, here.2), enters_from edges n (p + 1) ports (λ k f is. let found = each (suc k) f is in (found.0, found.1, omega (arith, found.2))))

leaves_from : (edges : List Edge) (n p : ℕ) (ports : List (Option ℕ)) → ((k e : ℕ) → get_or ports k None ≡ Some e → (e < length edges) × ((edge_at edges e).tail ≡ n) × ((edge_at edges e).tail_port ≡ p + k)) → EachLeaves edges n p ports
leaves_from edges n p [] each = tt
leaves_from edges n p (None ∷ ports) each = leaves_from edges n (p + 1) ports (λ k e is. let found = each (suc k) e is in (found.0, found.1, omega (arith, found.2)))
leaves_from edges n p (Some e ∷ ports) each =
    let here = each 0 e refl in
    (here.0, here.1, omega (arith, here.2), leaves_from edges n (p + 1) ports (λ k f is. let found = each (suc k) f is in (found.0, found.1, omega (arith, found.2))))

module _ (law : EdgesHavePorts ℤ) (used : PortsAreUsed ℤ) (at_nodes : NodesHavePorts) (level : LevelView) (graph : SingleRate) (kept : IsLevel level) (own : IsGraphOf level graph) (sources stored : List (List ℤ)) (sources_fit : map length sources ≡ level.sources) (stored_fit : HaveDelays level.links stored) where
  abbrev g : JobGraph ℤ
  g = job_of level graph sources stored

  is_graph : IsJobGraph own.counts own.order g
  is_graph = record { level_kept = kept; repetition = own.repetition; order = own.order_is; nodes_are = own.expanded.nodes_are; edges_are = own.expanded.edges_are; sources_fit = sources_fit; delays_fit = stored_fit }

  have : HavePorts g
  have = law own.counts own.order g is_graph

  ports_at : (n : ℕ) → n < length graph.nodes → PortsAt level (node_at graph.nodes n) (ports_into graph.edges n) (ports_from graph.edges n)
  ports_at n inside =
      subst (λ list. PortsAt level (node_at list n) (ports_into graph.edges n) (ports_from graph.edges n)) (sym own.expanded.nodes_are)
      (subst (λ edges. PortsAt level (node_at (Rattle.single_rate.specs.Expanded.nodes level own.counts own.order) n) (ports_into edges n) (ports_from edges n)) (sym own.expanded.edges_are)
      (at_nodes level own.counts own.order n kept own.order_is (subst (λ list. n < length list) own.expanded.nodes_are inside)))

  reads_ports : (e : ℕ) → e < length graph.edges → reads_stored (node_at graph.nodes (edge_at graph.edges e).head) ≡ false
  reads_ports e inside = go (reads_stored (node_at graph.nodes (edge_at graph.edges e).head)) refl
    where
      go : (b : Bool) → reads_stored (node_at graph.nodes (edge_at graph.edges e).head) ≡ b → b ≡ false
      go false eq = refl
      go true eq = absurd (some_in graph.edges (edge_at graph.edges e).head e inside refl (none_into level (node_at graph.nodes (edge_at graph.edges e).head) (ports_into graph.edges (edge_at graph.edges e).head) (ports_from graph.edges (edge_at graph.edges e).head) (ports_at (edge_at graph.edges e).head (have.heads_there e inside)) eq))

  writes_ports : (e : ℕ) → e < length graph.edges → writes_stored (node_at graph.nodes (edge_at graph.edges e).tail) ≡ false
  writes_ports e inside = go (writes_stored (node_at graph.nodes (edge_at graph.edges e).tail)) refl
    where
      go : (b : Bool) → writes_stored (node_at graph.nodes (edge_at graph.edges e).tail) ≡ b → b ≡ false
      go false eq = refl
      go true eq = absurd (some_out graph.edges (edge_at graph.edges e).tail e inside refl (none_from level (node_at graph.nodes (edge_at graph.edges e).tail) (ports_into graph.edges (edge_at graph.edges e).tail) (ports_from graph.edges (edge_at graph.edges e).tail) (ports_at (edge_at graph.edges e).tail (have.tails_there e inside)) eq))

  pub heads_below : All (λ (x : ℕ × ℕ). x.0 < length graph.nodes) (map head_of graph.edges)
  heads_below = All-from_get_or (λ (x : ℕ × ℕ). x.0 < length graph.nodes) (map head_of graph.edges) (0, 0) (λ e below.
      let inside : e < length graph.edges = omega (arith, below, length-map graph.edges head_of) in
      subst (λ (x : ℕ × ℕ). x.0 < length graph.nodes) (sym (head_at graph.edges e inside)) (have.heads_there e inside))

  pub tails_below : All (λ (x : ℕ × ℕ). x.0 < length graph.nodes) (map tail_of graph.edges)
  tails_below = All-from_get_or (λ (x : ℕ × ℕ). x.0 < length graph.nodes) (map tail_of graph.edges) (0, 0) (λ e below.
      let inside : e < length graph.edges = omega (arith, below, length-map graph.edges tail_of) in
      subst (λ (x : ℕ × ℕ). x.0 < length graph.nodes) (sym (tail_at graph.edges e inside)) (have.tails_there e inside))

  module _ (into ins : List ℕ) (into_are : AreEndCounts (length graph.nodes) (map head_of graph.edges) into) (ins_are : AreCounts (in_count level.links) graph.nodes into ins) where
    in_is : (n : ℕ) → n < length graph.nodes → slice_index ins n ≡ (if reads_stored (node_at graph.nodes n) then 0 else ports_in g (node_at graph.nodes n) n)
    in_is n inside = ins_are.each n inside ∙ (ap (in_count level.links (node_at graph.nodes n)) (into_are.each n inside ∙ ends_into graph.edges n) ∙ in_count_is g (node_at graph.nodes n) n)

    pub have_ins : HaveRows ins (map head_of graph.edges)
    have_ins = record {
      there = λ e below.
          let inside : e < length graph.edges = omega (arith, below, length-map graph.edges head_of) in
          let h = have.heads_there e inside in
          subst (λ (x : ℕ × ℕ). x.0 < length ins) (sym (head_at graph.edges e inside)) (omega (arith, h, ins_are.one_each));
      ports = λ e below.
          let inside : e < length graph.edges = omega (arith, below, length-map graph.edges head_of) in
          let h = (edge_at graph.edges e).head in
          let which = node_at graph.nodes h in
          let count : slice_index ins h ≡ ports_in g which h = in_is h (have.heads_there e inside) ∙ ap (λ b. if b then 0 else ports_in g which h) (reads_ports e inside) in
          subst (λ (x : ℕ × ℕ). x.1 < slice_index ins x.0) (sym (head_at graph.edges e inside)) (omega (arith, have.head_ports e inside, lengths_read_is g which h (reads_ports e inside), count));
      apart = λ e f e_below f_below same_node same_port.
          let e_in : e < length graph.edges = omega (arith, e_below, length-map graph.edges head_of) in
          let f_in : f < length graph.edges = omega (arith, f_below, length-map graph.edges head_of) in
          have.heads_apart e f e_in f_in
          (sym (ap (λ (x : ℕ × ℕ). x.0) (head_at graph.edges e e_in)) ∙ (same_node ∙ ap (λ (x : ℕ × ℕ). x.0) (head_at graph.edges f f_in)))
          (sym (ap (λ (x : ℕ × ℕ). x.1) (head_at graph.edges e e_in)) ∙ (same_port ∙ ap (λ (x : ℕ × ℕ). x.1) (head_at graph.edges f f_in)));
    }

    module _ (from outs : List ℕ) (from_are : AreEndCounts (length graph.nodes) (map tail_of graph.edges) from) (outs_are : AreCounts (out_count level.links) graph.nodes from outs) where
      out_is : (n : ℕ) → n < length graph.nodes → slice_index outs n ≡ length (if writes_stored (node_at graph.nodes n) then [] else lens g n)
      out_is n inside = outs_are.each n inside ∙ (ap (out_count level.links (node_at graph.nodes n)) (from_are.each n inside ∙ ends_from graph.edges n) ∙ out_count_is g (node_at graph.nodes n) n)

      pub have_outs : HaveRows outs (map tail_of graph.edges)
      have_outs = record {
        there = λ e below.
            let inside : e < length graph.edges = omega (arith, below, length-map graph.edges tail_of) in
            let h = have.tails_there e inside in
            subst (λ (x : ℕ × ℕ). x.0 < length outs) (sym (tail_at graph.edges e inside)) (omega (arith, h, outs_are.one_each));
        ports = λ e below.
            let inside : e < length graph.edges = omega (arith, below, length-map graph.edges tail_of) in
            let h = (edge_at graph.edges e).tail in
            let count : slice_index outs h ≡ length (lens g h) = out_is h (have.tails_there e inside) ∙ ap (λ b. length (if b then [] else lens g h)) (writes_ports e inside) in
            subst (λ (x : ℕ × ℕ). x.1 < slice_index outs x.0) (sym (tail_at graph.edges e inside)) (omega (arith, have.tail_ports e inside, count));
        apart = λ e f e_below f_below same_node same_port.
            let e_in : e < length graph.edges = omega (arith, e_below, length-map graph.edges tail_of) in
            let f_in : f < length graph.edges = omega (arith, f_below, length-map graph.edges tail_of) in
            have.tails_apart e f e_in f_in
            (sym (ap (λ (x : ℕ × ℕ). x.0) (tail_at graph.edges e e_in)) ∙ (same_node ∙ ap (λ (x : ℕ × ℕ). x.0) (tail_at graph.edges f f_in)))
            (sym (ap (λ (x : ℕ × ℕ). x.1) (tail_at graph.edges e e_in)) ∙ (same_port ∙ ap (λ (x : ℕ × ℕ). x.1) (tail_at graph.edges f f_in)));
      }

      module _ (entering leaving : List (List (Option ℕ))) (in_rows : AreRows ins (map head_of graph.edges) (length (map head_of graph.edges)) entering) (out_rows : AreRows outs (map tail_of graph.edges) (length (map tail_of graph.edges)) leaving) where
        into_at : (n p e : ℕ) → get_or (row_of entering n) p None ≡ Some e → (e < length graph.edges) × ((edge_at graph.edges e).head ≡ n) × ((edge_at graph.edges e).head_port ≡ p)
        into_at n p e found =
            let at = in_rows.only n p e found in
            let inside : e < length graph.edges = omega (arith, at.0, length-map graph.edges head_of) in
            (inside, sym (ap (λ (x : ℕ × ℕ). x.0) (head_at graph.edges e inside)) ∙ at.1, sym (ap (λ (x : ℕ × ℕ). x.1) (head_at graph.edges e inside)) ∙ at.2)

        from_at : (n p e : ℕ) → get_or (row_of leaving n) p None ≡ Some e → (e < length graph.edges) × ((edge_at graph.edges e).tail ≡ n) × ((edge_at graph.edges e).tail_port ≡ p)
        from_at n p e found =
            let at = out_rows.only n p e found in
            let inside : e < length graph.edges = omega (arith, at.0, length-map graph.edges tail_of) in
            (inside, sym (ap (λ (x : ℕ × ℕ). x.0) (tail_at graph.edges e inside)) ∙ at.1, sym (ap (λ (x : ℕ × ℕ). x.1) (tail_at graph.edges e inside)) ∙ at.2)

        tails_found : (e : ℕ) → e < length graph.edges → get_or (row_of leaving (edge_at graph.edges e).tail) (edge_at graph.edges e).tail_port None ≡ Some e
        tails_found e inside = subst (λ (x : ℕ × ℕ). get_or (row_of leaving x.0) x.1 None ≡ Some e) (tail_at graph.edges e inside) (out_rows.entered e (omega (arith, inside, length-map graph.edges tail_of)))

        -- each port has as many tokens as its node writes there
        size_of : (n p : ℕ) → n < length graph.nodes → writes_stored (node_at graph.nodes n) ≡ false → (port : Option ℕ) → get_or (row_of leaving n) p None ≡ port → port_size graph.edges port ≡ slice_index (lens g n) p
        size_of n p inside no_end (Some e) found =
            let at = from_at n p e found in
            sym (ap₂ (λ m k. slice_index (lens g m) k) (sym at.1) (sym at.2) ∙ have.tail_sizes e at.0)
        size_of n p inside no_end None found = ⊎_elim
            (λ (some : 0 < slice_index (lens g n) p).
            let kinds = other_kinds (node_at graph.nodes n) no_end in
            let taken = used own.counts own.order g n p is_graph inside kinds.0 kinds.1 some in
            let there : get_or (row_of leaving n) p None ≡ Some taken.edge = ap₂ (λ m k. get_or (row_of leaving m) k None) (sym taken.tail) (sym taken.port) ∙ tails_found taken.edge taken.there in
            let bad : None ≡ Some taken.edge = sym found ∙ there in absurd (cc))
            (λ (none : slice_index (lens g n) p ≤ 0). omega arith)
            (cases_lt 0 (slice_index (lens g n) p))

        sizes_are : (n : ℕ) → n < length graph.nodes → (b : Bool) → writes_stored (node_at graph.nodes n) ≡ b → map (port_size graph.edges) (row_of leaving n) ≡ (if b then [] else lens g n)
        sizes_are n inside true eq =
            let long : length (row_of leaving n) ≡ 0 = out_rows.longs n (omega (arith, inside, outs_are.one_each)) ∙ (out_is n inside ∙ ap (λ b. length (if b then [] else lens g n)) eq) in
            none_mapped (row_of leaving n) long
          where
            none_mapped : (row : List (Option ℕ)) → length row ≡ 0 → map (port_size graph.edges) row ≡ []
            none_mapped [] long = refl
            none_mapped (port ∷ row) long = absurd (let bad : ⊥ = omega arith in bad)
        sizes_are n inside false eq =
            let long : length (row_of leaving n) ≡ length (lens g n) = out_rows.longs n (omega (arith, inside, outs_are.one_each)) ∙ (out_is n inside ∙ ap (λ b. length (if b then [] else lens g n)) eq) in
            ext_get_or 0 (map (port_size graph.edges) (row_of leaving n)) (lens g n) (length-map (row_of leaving n) (port_size graph.edges) ∙ long) (λ p below.
            let p_in : p < length (row_of leaving n) = omega (arith, below, length-map (row_of leaving n) (port_size graph.edges)) in
            get_or-map (port_size graph.edges) (row_of leaving n) p None 0 p_in ∙ size_of n p inside eq (get_or (row_of leaving n) p None) refl)

        pub wired_of : AreWired g entering leaving
        wired_of = record {
          rows_in = in_rows.one_each ∙ ins_are.one_each;
          rows_out = out_rows.one_each ∙ outs_are.one_each;
          enters = λ n inside. enters_from graph.edges n 0 (row_of entering n) (λ k e found. let at = into_at n k e found in (at.0, at.1, omega (arith, at.2)));
          leaves = λ n inside. leaves_from graph.edges n 0 (row_of leaving n) (λ k e found. let at = from_at n k e found in (at.0, at.1, omega (arith, at.2)));
          heads = λ e inside. subst (λ (x : ℕ × ℕ). get_or (row_of entering x.0) x.1 None ≡ Some e) (head_at graph.edges e inside) (in_rows.entered e (omega (arith, inside, length-map graph.edges head_of)));
          tails = tails_found;
          ins = λ n inside. in_rows.longs n (omega (arith, inside, ins_are.one_each)) ∙ in_is n inside;
          outs = λ n inside. sizes_are n inside (writes_stored (node_at graph.nodes n)) refl;
        }
