-- The ports and sizes of a job's edges, and the frames of its nodes.
use Rattle.std.proofs.Common.{◌≡◌, ℕ, zero, suc, ◌+◌, ◌-◌, ◌<◌, ◌≤◌, true, false, ◌&&◌, ◌==◌, ⊎_elim, List, [], ◌∷◌, map, length, drop, slice_index, slice_index_or, Option, Result, Ok, refl, ap, sym, ◌∙◌, arith}
use Rattle.std.specs.List.{All, AllByRecursion, sum}
use Rattle.std.proofs.lemmas.Bool.{cases_Bool, cases_eq, cases_lt, eq-eqb, ne_eqb}
use Rattle.std.proofs.lemmas.List.{length-append, length-drop, get_or_past, map-append, get_or_push, get_or_append_left}
use Rattle.std.proofs.lemmas.List.Elements.{recursion_from_All}
use Rattle.std.proofs.lemmas.List.Sums.{sum_by-cons}
use Rattle.sdf_level.specs.Invariants.{how_many}
use Rattle.sdf_level.specs.Copying.{Copies}
use Rattle.sdf_level.specs.Interfaces.{last}
use Rattle.sdf_level.specs.Lists.{occurrences}
use Rattle.sdf_level.specs.Run.{Fire}
use Rattle.sdf_level.specs.LevelRun.{HaveDelays}
use Rattle.sdf_level.specs.declared.link.Link.{Link}
use Rattle.sdf_level.specs.declared.node.Node.{Node}
use Rattle.sdf_level.specs.declared.node.Node.TheVariants as node
use Rattle.sdf_level.specs.declared.single_rate.Edge.{Edge}
use Rattle.sdf_level.specs.declared.token_name.TokenName.{TokenName}
use Rattle.sdf_level.specs.declared.turn.Turn.{Turn}
use Rattle.special_actors.specs.Copying.{joined}
use Rattle.special_actors.specs.Fitting.{HasLengths}
use Rattle.single_rate.specs.declared.wire.Wire.{Wire}
use Rattle.single_rate.specs.Nodes.{kind}
use Rattle.single_rate.specs.Names.{names, output_names, is_from_actor, output_rate}
use Rattle.single_rate.specs.Flow.{Sends, EachEdge, IsFlow, arrives, leaves}
use Rattle.single_rate.specs.Expanded.{wire_of, by_nodes, place_of, nodes, edges}
use Rattle.single_rate.specs.Laws.{HasOneFlow, GraphsHaveOneFlow, graph}
use Rattle.single_rate.specs.Tiers.{node_at}
use Rattle.single_rate.specs.Ports.{ports_into, ports_from, up_from, AreCounted, PortsAt, UsesPorts}
use Rattle.single_rate.specs.Sizes.{HasTokens}
use Rattle.single_rate.proofs.PortCounts.{one}
use Rattle.job_flow.specs.GraphLaws.{GraphLaws}
use Rattle.job_flow.specs.Graphs.{JobGraph, IsJobGraph}
use Rattle.job_flow.specs.Frames.{Values, given, on_edge, on, arriving, arriving_below, arriving_size, sizes_below, sizes_out, edges_into, ports_in, reads, inputs, lengths_read, in_lens, lengths_written, lens, rates_below}
use Rattle.job_flow.specs.Events.{IsDone, IsReady, AreAnswered}
use Rattle.job_flow.specs.Laws.{edge_at, HavePorts, IsUsed}
use Rattle.job_flow.proofs.Steady.{done-is}
use Rattle.job_flow.proofs.Collected.{collected, each-long, below-collected, arrives-is, leaves-is}
use Rattle.job_flow.proofs.Sized.{length-at, names-rates, into-many, from-many}
use Rattle.job_flow.proofs.OwnPorts.{each-index, into-once, from-once, step, stands, apart, arrives-alone, size-alone, in-slot, out-slot, counted-within, counted-there, found}
use Rattle.job_flow.proofs.Flows.{IsNumbered}
use Rattle.job_flow.proofs.Jobs.{numbered, graph-is}

-- as many tokens at the start of a link
delays-alike : {A B : Type 0} (links : List Link) (xs : List (List A)) (ys : List (List B)) (l : ℕ) → HaveDelays links xs → HaveDelays links ys → length (slice_index_or xs l []) ≡ length (slice_index_or ys l [])
delays-alike [] [] [] l of_xs of_ys = refl
delays-alike [] [] (y ∷ ys) l of_xs of_ys = absurd of_ys
delays-alike [] (x ∷ xs) ys l of_xs of_ys = absurd of_xs
delays-alike (link ∷ links) [] ys l of_xs of_ys = absurd of_xs
delays-alike (link ∷ links) (x ∷ xs) [] l of_xs of_ys = absurd of_ys
delays-alike (link ∷ links) (x ∷ xs) (y ∷ ys) zero of_xs of_ys = of_xs.0 ∙ sym (of_ys.0)
delays-alike (link ∷ links) (x ∷ xs) (y ∷ ys) (suc l) of_xs of_ys = delays-alike links xs ys l of_xs.1 of_ys.1

each-at : {A : Type 0} (list : List Node) (P : Wire → List A → Type 0) (es : List Edge) (ys : List (List A)) (i : ℕ) → EachEdge P (map (wire_of list) es) ys → i < length es → P (wire_of list (edge_at es i)) (slice_index_or ys i [])
each-at list P [] ys i each h = absurd (omega arith)
each-at list P (e ∷ es) [] i each h = absurd each
each-at list P (e ∷ es) (y ∷ ys) zero each h = each.0
each-at list P (e ∷ es) (y ∷ ys) (suc i) each h = each-at list P es ys i each.1 (omega arith)

module _ {A : Type 0} where
  -- the sizes of the edges into a node's ports, where a list of each edge's size stands on it
  sized-arriving : (list : List Node) (es : List Edge) (ys : List (List A)) (n p : ℕ) → EachEdge (λ w tokens. length tokens ≡ w.size) (map (wire_of list) es) ys → length (arriving es ys n p) ≡ arriving_size es n p
  sized-arriving list [] [] n p each = refl
  sized-arriving list [] (y ∷ ys) n p each = absurd each
  sized-arriving list (e ∷ es) [] n p each = absurd each
  sized-arriving list (e ∷ es) (y ∷ ys) n p each = let later = sized-arriving list es ys n p each.1 in let size : length y ≡ e.size = each.0 in ⊎_elim
      (λ (c : ((e.head == n) && (e.head_port == p)) ≡ true). rw (c, length-append) (omega arith))
      (λ (c : ((e.head == n) && (e.head_port == p)) ≡ false). rw c (omega arith))
      (cases_Bool ((e.head == n) && (e.head_port == p)))

  pub sized-below : (list : List Node) (es : List Edge) (ys : List (List A)) (n k : ℕ) → EachEdge (λ w tokens. length tokens ≡ w.size) (map (wire_of list) es) ys → map length (arriving_below es ys n k) ≡ sizes_below es n k
  sized-below list es ys n zero each = refl
  sized-below list es ys n (suc k) each = map-append length (arriving_below es ys n k) (arriving es ys n k ∷ []) ∙ rw (sized-below list es ys n k each, sized-arriving list es ys n k each) refl

  sized-out : (list : List Node) (es : List Edge) (ys : List (List A)) (n : ℕ) → EachEdge (λ w tokens. length tokens ≡ w.size) (map (wire_of list) es) ys → length (collected (λ e. e.tail == n) es ys) ≡ sum (sizes_out es n)
  sized-out list [] [] n each = refl
  sized-out list [] (y ∷ ys) n each = absurd each
  sized-out list (e ∷ es) [] n each = absurd each
  sized-out list (e ∷ es) (y ∷ ys) n each = let later = sized-out list es ys n each.1 in let size : length y ≡ e.size = each.0 in ⊎_elim
      (λ (c : (e.tail == n) ≡ true). let s : sum (e.size ∷ sizes_out es n) ≡ e.size + sum (sizes_out es n) = sum_by-cons (λ (x : ℕ). x) e.size (sizes_out es n) in rw (c, length-append, s) (omega arith))
      (λ (c : (e.tail == n) ≡ false). rw c later)
      (cases_Bool (e.tail == n))

  length-joined : (xs : List (List A)) → length (joined xs) ≡ sum (map length xs)
  length-joined [] = refl
  length-joined (x ∷ xs) = let s : sum (length x ∷ map length xs) ≡ length x + sum (map length xs) = sum_by-cons (λ (y : ℕ). y) (length x) (map length xs) in rw (length-append, s, length-joined xs) refl

-- an actor's rates by port
length-rates : (links : List Link) (a k : ℕ) → length (rates_below links a k) ≡ k
length-rates links a zero = refl
length-rates links a (suc k) = length-append (rates_below links a k) (output_rate a k links ∷ []) ∙ (let e = length-rates links a k in omega arith)

rate-slot : (links : List Link) (a k p : ℕ) → p < k → slice_index (rates_below links a k) p ≡ output_rate a p links
rate-slot links a zero p h = absurd (omega arith)
rate-slot links a (suc k) p h = let long = length-rates links a k in ⊎_elim
    (λ (e : p ≡ k). get_or_push (rates_below links a k) (output_rate a k links) 0 p (omega arith) ∙ rw e refl)
    (λ (f : p ≡ k → ⊥). get_or_append_left (rates_below links a k) (output_rate a k links ∷ []) 0 p (omega arith) ∙ rate-slot links a k p (omega arith))
    (cases_eq p k)

-- what arrives at a port with an edge
some-arrives : (es : List Edge) (n p : ℕ) → AllByRecursion HasTokens es → 0 < occurrences p (ports_into es n) → 0 < arriving_size es n p
some-arrives [] n p tokens some = absurd (omega arith)
some-arrives (e ∷ es) n p tokens some = let s = step (λ e. e.head) (λ e. e.head_port) e es n p in let t : 1 ≤ e.size = tokens.0 in ⊎_elim
    (λ (c : ((e.head == n) && (e.head_port == p)) ≡ true). rw c (omega arith))
    (λ (c : ((e.head == n) && (e.head_port == p)) ≡ false). let o : one ((e.head == n) && (e.head_port == p)) ≡ 0 = rw c refl in let later = some-arrives es n p tokens.1 (omega arith) in rw c (omega arith))
    (cases_Bool ((e.head == n) && (e.head_port == p)))

length-last : {A : Type 0} (r : ℕ) (t : List A) → length (last r t) ≤ length t
length-last {A} r t = let d : length (drop (length t - r) t) ≡ length t - (length t - r) = length-drop (length t - r) t in omega arith

module _ (known : GraphLaws) (one_flow : GraphsHaveOneFlow TokenName) {T : Type 0} (q : List ℕ) (turns : List Turn) (job : JobGraph T) (is : IsJobGraph q turns job) where
  abbrev N : List Node
  N = job.nodes

  abbrev E : List Edge
  E = job.edges

  num : IsNumbered job.level turns N E
  num = numbered known q turns job is

  pub node-once : (n : ℕ) → n < length N → place_of N (node_at N n) ≡ n
  node-once = num.once

  tokens : All HasTokens E
  tokens = rw (is.edges_are) (known.tokens job.level q turns is.level_kept is.repetition)

  named : HasOneFlow (names job.level) (graph job.level q turns)
  named = one_flow job.level q turns (names job.level) record { level_kept = is.level_kept; repetition = is.repetition; order = is.order; lengths = known.names_fit job.level q is.level_kept }

  abbrev ys : List (List TokenName)
  ys = named.on

  flow : IsFlow (names job.level) (by_nodes N E) named.on
  flow = rw (graph-is known q turns job is) (named.flows)

  ends-at : (i : ℕ) → i < length E → ((edge_at E i).tail < length N) × ((edge_at E i).head < length N)
  ends-at i h = all-at (λ e. (e.tail < length N) × (e.head < length N)) E i num.ends h
    where
      all-at : (P : Edge → Type 0) (es : List Edge) (i : ℕ) → AllByRecursion P es → i < length es → P (edge_at es i)
      all-at P [] i all h = absurd (omega arith)
      all-at P (e ∷ es) zero all h = all.0
      all-at P (e ∷ es) (suc i) all h = all-at P es i all.1 (omega arith)

  ports-at : (n : ℕ) → n < length N → PortsAt job.level (node_at N n) (ports_into E n) (ports_from E n)
  ports-at = num.ports

  entering : (i : ℕ) → i < length E → 0 < occurrences (edge_at E i).head_port (ports_into E (edge_at E i).head)
  entering i h = stands (λ e. e.head) (λ e. e.head_port) E i (edge_at E i).head (edge_at E i).head_port h refl refl

  leaving : (i : ℕ) → i < length E → 0 < occurrences (edge_at E i).tail_port (ports_from E (edge_at E i).tail)
  leaving i h = stands (λ e. e.tail) (λ e. e.tail_port) E i (edge_at E i).tail (edge_at E i).tail_port h refl refl

  pub heads-once : (n p : ℕ) → n < length N → occurrences p (ports_into E n) ≤ 1
  heads-once n p h = into-once job.level (ports_into E n) (ports_from E n) (node_at N n) (ports-at n h) p

  tails-once : (n p : ℕ) → n < length N → occurrences p (ports_from E n) ≤ 1
  tails-once n p h = from-once job.level (ports_into E n) (ports_from E n) (node_at N n) (ports-at n h) p

  -- where an edge enters
  head-slot : (i : ℕ) → i < length E → ((edge_at E i).head_port < length (in_lens job (edge_at E i).head)) × (slice_index (in_lens job (edge_at E i).head) (edge_at E i).head_port ≡ (edge_at E i).size)
  head-slot i h =
      let n : ℕ = (edge_at E i).head in
      let p : ℕ = (edge_at E i).head_port in
      let inside = (ends-at i h).1 in
      let slot = in-slot job n (node_at N n) (ports_from E n) (ports-at n inside) p (entering i h) in
      (slot.0, slot.1 ∙ size-alone E n p i (heads-once n p inside) h refl refl)

  -- where it leaves
  module _ (i : ℕ) (h : i < length E) where
    abbrev e : Edge
    e = edge_at E i

    abbrev n : ℕ
    n = e.tail

    abbrev y : List TokenName
    y = slice_index_or named.on i []

    size : length y ≡ e.size
    size = each-at N (λ w x. length x ≡ w.size) E named.on i flow.sizes h

    abbrev TailSlot : Node → Type 0
    TailSlot m = (e.tail_port < length (lengths_written job m n)) × (slice_index (lengths_written job m n) e.tail_port ≡ e.size)

    -- at its one port
    one-slot : (s : ℕ) → s ≡ e.size → AreCounted (ports_from E n) × (length (ports_from E n) ≤ 1) → (e.tail_port < length (s ∷ [])) × (slice_index (s ∷ []) e.tail_port ≡ e.size)
    one-slot s long single =
        let w = counted-within (ports_from E n) (single.0) e.tail_port (leaving i h) in
        let few = single.1 in
        let zero_port : e.tail_port ≡ 0 = omega arith in
        (omega arith, ap (slice_index (s ∷ [])) zero_port ∙ long)

    counted-slot : AreCounted (ports_from E n) → (e.tail_port < length (sizes_out E n)) × (slice_index (sizes_out E n) e.tail_port ≡ e.size)
    counted-slot counted = out-slot [] E n (length (ports_from E n)) i counted h refl

    tail-slot : (m : Node) → Sends (names job.level) m e.tail_port y → PortsAt job.level m (ports_into E n) (ports_from E n) → TailSlot m
    tail-slot (node.Source s) sent ports = one-slot (length (slice_index_or job.sources s []))
        (length-at job.sources s ∙ ap (λ (l : List ℕ). slice_index l s) (is.sources_fit ∙ sym (known.names_fit job.level q is.level_kept).sources) ∙ sym (length-at (names job.level).sources s) ∙ ap (λ (x : List TokenName). length x) (sym sent) ∙ size) ports.1
    tail-slot (node.Init l) sent ports = one-slot (length (slice_index_or job.delays l []))
        (delays-alike job.level.links job.delays (names job.level).delays l is.delays_fit (known.names_fit job.level q is.level_kept).delays ∙ ap (λ (x : List TokenName). length x) (sym sent) ∙ size) ports.1
    tail-slot (node.Firing a k) sent ports =
        let rates = names-rates job.level.links a k (how_many (is_from_actor a) job.level.links) in
        let slot : slice_index (lengths_written job (node.Firing a k) n) e.tail_port ≡ e.size = ap (λ (l : List ℕ). slice_index l e.tail_port) (sym rates) ∙ sym (length-at (output_names job.level.links a k) e.tail_port) ∙ ap (λ (x : List TokenName). length x) (sym sent) ∙ size in (
          ⊎_elim
              (λ (lt : e.tail_port < length (lengths_written job (node.Firing a k) n)). lt)
              (λ (ge : length (lengths_written job (node.Firing a k) n) ≤ e.tail_port). absurd (let z = get_or_past (lengths_written job (node.Firing a k) n) e.tail_port 0 ge in let t : 1 ≤ e.size = tokens i _ h in omega arith))
              (cases_lt e.tail_port (length (lengths_written job (node.Firing a k) n))),
          slot,
        )
    tail-slot (node.End l) sent ports = absurd sent
    tail-slot (node.Sink t) sent ports = absurd sent
    tail-slot (node.Broadcast l) sent ports = counted-slot (ports.1)
    tail-slot (node.Fork l j) sent ports = counted-slot (ports.1)
    tail-slot (node.Join l j) sent ports = counted-slot (rw (ports.1) refl)
    tail-slot (node.Round l) sent ports = counted-slot (rw (ports.1) refl)

    pub leaves-slot : (e.tail_port < length (lens job n)) × (slice_index (lens job n) e.tail_port ≡ e.size)
    leaves-slot = tail-slot (node_at N n) (each-at N (λ w x. Sends (names job.level) w.tail.node w.tail.port x) E named.on i flow.sent h) (ports-at n (ends-at i h).0)

  pub have-ports : HavePorts job
  have-ports = record {
    tails_there = λ i h. (ends-at i h).0;
    heads_there = λ i h. (ends-at i h).1;
    tail_ports = λ i h. (leaves-slot i h).0;
    head_ports = λ i h. (head-slot i h).0;
    tail_sizes = λ i h. (leaves-slot i h).1;
    head_sizes = λ i h. (head-slot i h).1;
    tails_apart = λ i j h g same_tail same_port. apart (λ e. e.tail) (λ e. e.tail_port) E (edge_at E j).tail (edge_at E j).tail_port (tails-once (edge_at E j).tail (edge_at E j).tail_port (ends-at j g).0) i j h g same_tail refl same_port refl;
    heads_apart = λ i j h g same_head same_port. apart (λ e. e.head) (λ e. e.head_port) E (edge_at E j).head (edge_at E j).head_port (heads-once (edge_at E j).head (edge_at E j).head_port (ends-at j g).1) i j h g same_head refl same_port refl;
  }

  -- a port where a node writes tokens
  used-graph : (n : ℕ) → n < length (nodes job.level q turns) → UsesPorts job.level (node_at (nodes job.level q turns) n) (ports_from (edges job.level q turns) n)
  used-graph n inside = known.used job.level q turns n is.level_kept is.repetition is.order inside

  uses : (n : ℕ) → n < length N → UsesPorts job.level (node_at N n) (ports_from E n)
  uses = rw (is.nodes_are, is.edges_are) used-graph

  below-length : (xs : List ℕ) (p : ℕ) → 0 < slice_index xs p → p < length xs
  below-length xs p some = ⊎_elim (λ (lt : p < length xs). lt) (λ (ge : length xs ≤ p). absurd (let z = get_or_past xs p 0 ge in omega arith)) (cases_lt p (length xs))

  some-leaves : (n p : ℕ) (m : Node) → (kind m ≡ 3 → ⊥) → (kind m ≡ 4 → ⊥) → UsesPorts job.level m (ports_from E n) → PortsAt job.level m (ports_into E n) (ports_from E n) → 0 < slice_index (lengths_written job m n) p → 0 < occurrences p (ports_from E n)
  some-leaves n p (node.Source s) no_end no_sink used ports some =
      let b = below-length (length (slice_index_or job.sources s []) ∷ []) p some in
      let zero_port : p ≡ 0 = omega arith in
      let long : length (slice_index_or job.sources s []) ≡ slice_index job.level.sources s = length-at job.sources s ∙ ap (λ (l : List ℕ). slice_index l s) is.sources_fit in
      let first : 0 < slice_index (length (slice_index_or job.sources s []) ∷ []) 0 = rw zero_port at some in
      rw zero_port (used (omega arith))
  some-leaves n p (node.Init l) no_end no_sink used ports some =
      let b = below-length (length (slice_index_or job.delays l []) ∷ []) p some in
      let zero_port : p ≡ 0 = omega arith in rw zero_port used
  some-leaves n p (node.Firing a k) no_end no_sink used ports some =
      let count : ℕ = how_many (is_from_actor a) job.level.links in
      let b = below-length (rates_below job.level.links a count) p some in
      let l = length-rates job.level.links a count in
      let r = rate-slot job.level.links a count p (omega arith) in
      used p (omega arith)
  some-leaves n p (node.End l) no_end no_sink used ports some = absurd (no_end refl)
  some-leaves n p (node.Sink t) no_end no_sink used ports some = absurd (no_sink refl)
  some-leaves n p (node.Broadcast l) no_end no_sink used ports some = let b = below-length (sizes_out E n) p some in let m = from-many E n in counted-there (ports_from E n) (ports.1) p (omega arith)
  some-leaves n p (node.Fork l i) no_end no_sink used ports some = let b = below-length (sizes_out E n) p some in let m = from-many E n in counted-there (ports_from E n) (ports.1) p (omega arith)
  some-leaves n p (node.Join l j) no_end no_sink used ports some = let b = below-length (sizes_out E n) p some in let m = from-many E n in counted-there (ports_from E n) (rw (ports.1) refl) p (omega arith)
  some-leaves n p (node.Round l) no_end no_sink used ports some = let b = below-length (sizes_out E n) p some in let m = from-many E n in counted-there (ports_from E n) (rw (ports.1) refl) p (omega arith)

  pub port-used : (n p : ℕ) → n < length N → (kind (node_at N n) ≡ 3 → ⊥) → (kind (node_at N n) ≡ 4 → ⊥) → 0 < slice_index (lens job n) p → IsUsed E n p
  port-used n p inside no_end no_sink some =
      let at = found (λ e. e.tail) (λ e. e.tail_port) E n p (some-leaves n p (node_at N n) no_end no_sink (uses n inside) (ports-at n inside) some) in
      record { edge = at.0; there = at.1; tail = at.2; port = at.3 }

  pub edge-arrives : (tokens : List (List T)) (i : ℕ) → length tokens ≡ length E → i < length E → arriving E tokens (edge_at E i).head (edge_at E i).head_port ≡ slice_index_or tokens i []
  edge-arrives tokens i long h = arrives-alone E tokens (edge_at E i).head (edge_at E i).head_port i long (heads-once (edge_at E i).head (edge_at E i).head_port (ends-at i h).1) h refl refl

  -- what a ready node reads
  module _ {F : Type 0} (fire : Fire T F) (v : Values T F) (answered : AreAnswered job fire v) (n : ℕ) (ready : IsReady job v n) where
    -- what is done is as long as its edge
    sized-done : (e : Edge) → slice_index (lens job e.tail) e.tail_port ≡ e.size → IsDone (v e.tail) → length (on_edge v e) ≡ e.size
    sized-done e slot done =
        let outs = done-is (v e.tail) done in
        let long : map length outs.0 ≡ lens job e.tail = (answered e.tail (Ok outs.0) outs.1).answers.lengths in
        ap (λ (o : Option (Result (List (List T)) F)). length (slice_index_or (given o) e.tail_port [])) outs.1 ∙ length-at outs.0 e.tail_port ∙ ap (λ (l : List ℕ). slice_index l e.tail_port) long ∙ slot

    arriving-sized : (p : ℕ) (es : List Edge) → AllByRecursion (λ e. slice_index (lens job e.tail) e.tail_port ≡ e.size) es → AllByRecursion (λ e. e.head ≡ n → IsDone (v e.tail)) es → length (arriving es (on v es) n p) ≡ arriving_size es n p
    arriving-sized p [] slots before = refl
    arriving-sized p (e ∷ es) slots before = let later = arriving-sized p es slots.1 before.1 in ⊎_elim
        (λ (own : e.head ≡ n). let size = sized-done e slots.0 (before.0 own) in ⊎_elim
        (λ (c : (e.head_port == p) ≡ true). rw (eq-eqb e.head n own, c, length-append) (omega arith))
        (λ (c : (e.head_port == p) ≡ false). rw (eq-eqb e.head n own, c) (omega arith))
        (cases_Bool (e.head_port == p)))
        (λ (other : e.head ≡ n → ⊥). rw (ne_eqb e.head n other) (omega arith))
        (cases_eq e.head n)

    slots : AllByRecursion (λ e. slice_index (lens job e.tail) e.tail_port ≡ e.size) E
    slots = each-index (λ e. slice_index (lens job e.tail) e.tail_port ≡ e.size) E (λ i h. (leaves-slot i h).1)

    below-sized : (k : ℕ) → map length (arriving_below E (on v E) n k) ≡ sizes_below E n k
    below-sized zero = refl
    below-sized (suc k) = map-append length (arriving_below E (on v E) n k) (arriving E (on v E) n k ∷ []) ∙ rw (below-sized k, arriving-sized k E slots ready.before) refl

    pub reads-sized : (m : Node) → map length (reads job v m n) ≡ lengths_read job m n
    reads-sized (node.Source s) = refl
    reads-sized (node.Init l) = refl
    reads-sized (node.Firing a k) = below-sized (ports_in job (node.Firing a k) n)
    reads-sized (node.End l) = below-sized 1
    reads-sized (node.Sink t) = below-sized 1
    reads-sized (node.Broadcast l) = below-sized 1
    reads-sized (node.Fork l i) = below-sized 1
    reads-sized (node.Join l j) = below-sized (edges_into E n)
    reads-sized (node.Round l) = below-sized (edges_into E n)

    pub inputs-sized : map length (inputs job v n) ≡ in_lens job n
    inputs-sized = reads-sized (node_at N n)

  -- the frame of a node that copies
  module _ (n : ℕ) (inside : n < length N) where
    into-sum : (k : ℕ) → ports_into E n ≡ up_from 0 k → sum (sizes_below E n k) ≡ length (arrives (by_nodes N E) named.on (node_at N n))
    into-sum k ports =
        let long = each-long N (λ w x. length x ≡ w.size) E named.on flow.sizes in
        ap sum (sym (sized-below N E named.on n k flow.sizes)) ∙ sym (length-joined (arriving_below E named.on n k)) ∙ ap (λ (x : List TokenName). length x) (below-collected E named.on n k long ports ∙ sym (arrives-is N num.once n inside E num.ends named.on))

    out-sum : sum (sizes_out E n) ≡ length (leaves (by_nodes N E) named.on (node_at N n))
    out-sum = sym (sized-out N E named.on n flow.sizes) ∙ ap (λ (x : List TokenName). length x) (sym (leaves-is N num.once n inside E num.ends named.on))

    some-in : ports_into E n ≡ 0 ∷ [] → 0 < sum (sizes_below E n 1)
    some-in ports =
        let one_port : occurrences 0 (ports_into E n) ≡ 1 = ap (occurrences 0) ports in
        let some = some-arrives E n 0 (recursion_from_All HasTokens E tokens) (omega arith) in
        let s : sum (arriving_size E n 0 ∷ []) ≡ arriving_size E n 0 + sum [] = sum_by-cons (λ (x : ℕ). x) (arriving_size E n 0) [] in omega arith

    one-out : ports_from E n ≡ 0 ∷ [] → length (sizes_out E n) ≡ 1
    one-out ports = from-many E n ∙ ap (λ (l : List ℕ). length l) ports

    many-into : AreCounted (ports_into E n) → ports_into E n ≡ up_from 0 (edges_into E n)
    many-into counted = rw (into-many E n) counted

    fits : (m : Node) → (kind m ≡ 2 → ⊥) → PortsAt job.level m (ports_into E n) (ports_from E n) → node_at N n ≡ m → Copies m (arrives (by_nodes N E) named.on (node_at N n)) (leaves (by_nodes N E) named.on (node_at N n)) → HasLengths m (lengths_read job m n) (lengths_written job m n)
    fits (node.Source s) other ports at copied = (refl, refl)
    fits (node.Init l) other ports at copied = (refl, refl)
    fits (node.Firing a k) other ports at copied = absurd (other refl)
    fits (node.End l) other ports at copied = (refl, refl)
    fits (node.Sink t) other ports at copied = (refl, refl)
    fits (node.Broadcast l) other ports at copied = (refl, some-in (ports.0))
    fits (node.Fork l i) other ports at copied = (refl, out-sum ∙ ap (λ (x : List TokenName). length x) copied ∙ sym (into-sum 1 (ports.0)))
    fits (node.Join l j) other ports at copied = (one-out (ports.1), out-sum ∙ ap (λ (x : List TokenName). length x) copied ∙ sym (into-sum (edges_into E n) (many-into (ports.0))))
    fits (node.Round l) other ports at copied = (one-out (ports.1), (let a = out-sum in let b = into-sum (edges_into E n) (many-into (ports.0)) in let c : length (leaves (by_nodes N E) named.on (node_at N n)) ≤ length (arrives (by_nodes N E) named.on (node_at N n)) = few copied in omega arith))
      where
        few : leaves (by_nodes N E) named.on (node_at N n) ≡ last (length (leaves (by_nodes N E) named.on (node_at N n))) (arrives (by_nodes N E) named.on (node_at N n)) → length (leaves (by_nodes N E) named.on (node_at N n)) ≤ length (arrives (by_nodes N E) named.on (node_at N n))
        few copied = let l = length-last (length (leaves (by_nodes N E) named.on (node_at N n))) (arrives (by_nodes N E) named.on (node_at N n)) in let e = ap (λ (x : List TokenName). length x) copied in omega arith

    pub frame-fits : (kind (node_at N n) ≡ 2 → ⊥) → HasLengths (node_at N n) (in_lens job n) (lens job n)
    frame-fits other = fits (node_at N n) other (ports-at n inside) refl (flow.copied (node_at N n))
