-- What finished nodes gave is what flows over the edges.
use Rattle.std.proofs.Common.{◌≡◌, ℕ, zero, suc, ◌+◌, ◌<◌, ◌≤◌, Bool, true, ◌&&◌, ◌==◌, ⊎_elim, List, [], ◌∷◌, ◌++◌, map, length, slice_index_or, Option, Some, None, Result, Ok, Err, refl, ap, sym, ◌∙◌, subst, arith, slice_index}
use Rattle.std.specs.List.{AllByRecursion}
use Rattle.std.proofs.lemmas.Bool.{cases_eq, cases_lt, eq-eqb, ne_eqb, eqb-true}
use Rattle.std.proofs.lemmas.List.{length-map}
use Rattle.sdf_level.specs.View.{LevelView}
use Rattle.sdf_level.specs.Copying.{Copies}
use Rattle.sdf_level.specs.Firings.{firings, actors_of}
use Rattle.sdf_level.specs.Run.{Fire}
use Rattle.sdf_level.specs.Told.{Made}
use Rattle.sdf_level.specs.declared.node.Node.{Node}
use Rattle.sdf_level.specs.declared.node.Node.TheVariants as node
use Rattle.sdf_level.specs.declared.single_rate.Edge.{Edge}
use Rattle.sdf_level.specs.declared.turn.Turn.{Turn}
use Rattle.special_actors.specs.Copying.{joined}
use Rattle.single_rate.specs.Nodes.{kind}
use Rattle.single_rate.specs.Flow.{Given, Sends, EachEdge, IsFlow, arrives, leaves}
use Rattle.single_rate.specs.Expanded.{place_of, wire_of, by_nodes}
use Rattle.single_rate.specs.Tiers.{node_at, first_firing, IsOfFiring}
use Rattle.single_rate.specs.Ports.{ports_into, ports_from, up_from, AreCounted, IsAtMostOne, PortsAt}
use Rattle.single_rate.proofs.Unique.{IsCopy, copies-same, and-left}
use Rattle.job_flow.specs.Graphs.{JobGraph}
use Rattle.job_flow.specs.Frames.{Values, given, on_edge, on, arriving, arriving_below, edges_into, sizes_out, reads, lengths_written}
use Rattle.job_flow.specs.Laws.{edge_at}
use Rattle.job_flow.specs.Events.{IsDone, IsReady, Allows, AreAnswered}
use Rattle.job_flow.proofs.Steady.{done-is}
use Rattle.job_flow.proofs.Collected.{collected, each-long, arriving-is, arrives-is, leaves-is, below-collected, out-collected, Agree, agree-less, collected-same, Sized, collected-split}
use Rattle.job_flow.proofs.Sized.{length-at, into-many, from-many, collected-length, the-one}
use Rattle.job_flow.proofs.OwnPorts.{each-index, out-slot}

-- what firings make: the outputs where they are done, and these else
abbrev pub made_of : {T F : Type 0} → Option (Result (List (List T)) F) → List (List T) → List (List T)
made_of None otherwise = otherwise
made_of (Some (Ok outs)) otherwise = outs
made_of (Some (Err fault)) otherwise = otherwise

-- a graph by its numbers: each node once, edges of later and later tiers, and the firings in the order of one thread
pub record IsNumbered (level : LevelView) (turns : List Turn) (list : List Node) (es : List Edge) : Type 0 where
  pub once : (n : ℕ) → n < length list → place_of list (node_at list n) ≡ n
  pub found : (m : Node) → place_of list m < length list → node_at list (place_of list m) ≡ m
  pub ends : AllByRecursion (λ e. (e.tail < length list) × (e.head < length list)) es
  pub ports : (n : ℕ) → n < length list → PortsAt level (node_at list n) (ports_into es n) (ports_from es n)
  pub tier : ℕ → ℕ
  pub rising : AllByRecursion (λ e. tier e.tail < tier e.head) es
  pub in_order : (i j : ℕ) → i < j → j < length turns → tier (first_firing level + i) < tier (first_firing level + j)
  pub stands : (before after : List ℕ) (b : ℕ) → actors_of turns ≡ before ++ b ∷ after → node_at list (first_firing level + length before) ≡ node.Firing b (firings b before)
  pub all : (n : ℕ) → kind (node_at list n) ≡ 2 → IsOfFiring level turns n

pub all-both : (P Q R : Edge → Type 0) → ((e : Edge) → P e → Q e → R e) → (es : List Edge) → AllByRecursion P es → AllByRecursion Q es → AllByRecursion R es
all-both P Q R join [] p q = tt
all-both P Q R join (e ∷ es) p q = (join e p.0 q.0, all-both P Q R join es p.1 q.1)

all-edges : (P : Edge → Type 0) → ((e : Edge) → P e) → (es : List Edge) → AllByRecursion P es
all-edges P each [] = tt
all-edges P each (e ∷ es) = (each e, all-edges P each es)

-- ports of which there is at most one are 0
zero-ports : (n : ℕ) (es : List Edge) → IsAtMostOne (ports_from es n) → AllByRecursion (λ e. e.tail ≡ n → e.tail_port ≡ 0) es
zero-ports n es single = go es (zeros (ports_from es n) single)
  where
    zeros : (ports : List ℕ) → IsAtMostOne ports → AllByRecursion (λ p. p ≡ 0) ports
    zeros [] single = tt
    zeros (p ∷ []) single = ((let e = single.0 in cc), tt)
    zeros (p ∷ r ∷ ports) single = absurd (let f = single.1 in omega arith)

    go : (es : List Edge) → AllByRecursion (λ p. p ≡ 0) (ports_from es n) → AllByRecursion (λ e. e.tail ≡ n → e.tail_port ≡ 0) es
    go [] all = tt
    go (e ∷ es) all = ⊎_elim
        (λ (own : e.tail ≡ n). let a = rw (eq-eqb e.tail n own) at all in ((λ is. a.0), go es a.1))
        (λ (other : e.tail ≡ n → ⊥). let a = rw (ne_eqb e.tail n other) at all in ((λ is. absurd (other is)), go es a))
        (cases_eq e.tail n)

module _ {T F : Type 0} (turns : List Turn) (job : JobGraph T) (num : IsNumbered job.level turns job.nodes job.edges) (fire : Fire T F) (v : Values T F) (answered : AreAnswered job fire v) (made : Made T) (made-is : (a k : ℕ) → place_of job.nodes (node.Firing a k) < length job.nodes → (outs : List (List T)) → v (place_of job.nodes (node.Firing a k)) ≡ Some (Ok outs) → made a k ≡ outs)
    (on0 : List (List T)) (flow : IsFlow record { sources = job.sources; delays = job.delays; made = made } (by_nodes job.nodes job.edges) on0) where
  abbrev N : List Node
  N = job.nodes

  abbrev E : List Edge
  E = job.edges

  abbrev G : Given T
  G = record { sources = job.sources; delays = job.delays; made = made }

  abbrev f : Edge → List T
  f = on_edge v

  each-sized : (es : List Edge) (ys : List (List T)) → EachEdge (λ w tokens. length tokens ≡ w.size) (map (wire_of N) es) ys → Sized es ys
  each-sized [] ys each = tt
  each-sized (e ∷ es) [] each = tt
  each-sized (e ∷ es) (y ∷ ys) each = (each.0, each-sized es ys each.1)

  pub long : length on0 ≡ length E
  long = each-long N (λ w tokens. length tokens ≡ w.size) E on0 flow.sizes

  pub sized : Sized E on0
  sized = each-sized E on0 flow.sizes

  -- what a node sends that doesn't copy
  sends-agree : (n : ℕ) (to : Edge → List T) (es : List Edge) (ys : List (List T)) → EachEdge (λ w tokens. Sends G w.tail.node w.tail.port tokens) (map (wire_of N) es) ys →
      ((e : Edge) (y : List T) → e.tail ≡ n → Sends G (node_at N e.tail) e.tail_port y → to e ≡ y) → AllByRecursion (λ e. e.tail ≡ n → f e ≡ to e) es → Agree f (λ e. e.tail ≡ n) es ys
  sends-agree n to [] ys sent sends gives = tt
  sends-agree n to (e ∷ es) [] sent sends gives = tt
  sends-agree n to (e ∷ es) (y ∷ ys) sent sends gives = ((λ is. gives.0 is ∙ sends e y is sent.0), sends-agree n to es ys sent.1 sends gives.1)

  module _ (n : ℕ) (inside : n < length N) (outs : List (List T)) (is : v n ≡ Some (Ok outs)) where
    gives : (e : Edge) → e.tail ≡ n → f e ≡ slice_index_or outs e.tail_port []
    gives e own = ap (λ (o : Option (Result (List (List T)) F)). slice_index_or (given o) e.tail_port []) (ap v own ∙ is)

    single-agrees : (ins : List T) → joined outs ≡ joined (ins ∷ []) → map length outs ≡ length ins ∷ [] → IsAtMostOne (ports_from E n) → ((e : Edge) (y : List T) → e.tail ≡ n → Sends G (node_at N e.tail) e.tail_port y → ins ≡ y) → Agree f (λ e. e.tail ≡ n) E on0
    single-agrees ins same lengths single sends = sends-agree n (λ e. ins) E on0 flow.sent sends
        (all-both (λ e. e.tail ≡ n → e.tail_port ≡ 0) (λ e. e.tail ≡ n → f e ≡ slice_index_or outs e.tail_port []) (λ e. e.tail ≡ n → f e ≡ ins)
        (λ e zero given own. given own ∙ ap (λ p. slice_index_or outs p []) (zero own) ∙ the-one outs ins (length ins) lengths same) E (zero-ports n E single) (all-edges (λ e. e.tail ≡ n → f e ≡ slice_index_or outs e.tail_port []) gives E))

    -- a node that copies
    copy-agrees : (m : Node) → node_at N n ≡ m → IsCopy m → (ins : List (List T)) → joined ins ≡ collected (λ e. e.head == n) E (on v E) → Copies m (joined ins) (joined outs) → map length outs ≡ sizes_out E n → AreCounted (ports_from E n) →
        Agree f (λ e. e.head ≡ n) E on0 → Agree f (λ e. e.tail ≡ n) E on0
    copy-agrees m at copies ins into copied lengths counted before =
        let many : length outs ≡ length (ports_from E n) = let a : length (map length outs) ≡ length (sizes_out E n) = ap length lengths in let b : length (map length outs) ≡ length outs = length-map outs (λ (x : List T). length x) in let c = from-many E n in omega arith in
        let ports : ports_from E n ≡ up_from 0 (length outs) = rw many counted in
        let out : collected (λ e. e.tail == n) E (on v E) ≡ joined outs = out-collected f outs n gives E [] outs refl ports in
        let sizes = each-index (λ e. e.tail ≡ n → length (slice_index_or outs e.tail_port []) ≡ e.size) E (λ i h own. length-at outs (edge_at E i).tail_port ∙ ap (λ (l : List ℕ). slice_index l (edge_at E i).tail_port) lengths ∙ (out-slot [] E n (length outs) i ports h own).1) in
        let f-sizes : AllByRecursion (λ e. (e.tail == n) ≡ true → length (f e) ≡ e.size) E = all-both (λ e. e.tail ≡ n → length (slice_index_or outs e.tail_port []) ≡ e.size) (λ e. e.tail ≡ n → f e ≡ slice_index_or outs e.tail_port []) (λ e. (e.tail == n) ≡ true → length (f e) ≡ e.size)
        (λ e size given own. ap length (given (eqb-true e.tail n own)) ∙ size (eqb-true e.tail n own)) E sizes (all-edges (λ e. e.tail ≡ n → f e ≡ slice_index_or outs e.tail_port []) gives E) in
        let heads : collected (λ e. e.head == n) E (on v E) ≡ collected (λ e. e.head == n) E on0 = collected-same f (λ e. e.head == n) E on0 long
        (agree-less f (λ e. e.head ≡ n) (λ e. (e.head == n) ≡ true) E on0 (all-edges (λ e. (e.head == n) ≡ true → e.head ≡ n) (λ e own. eqb-true e.head n own) E) before) in
        let P : Node → Type 0 = λ x. Copies x (arrives (by_nodes N E) on0 x) (leaves (by_nodes N E) on0 x) in
        let flowing : P (node_at N n) = flow.copied (node_at N n) in
        let arrived = arrives-is N num.once n inside E num.ends on0 in
        let left = leaves-is N num.once n inside E num.ends on0 in
        let flows : Copies m (collected (λ e. e.head == n) E on0) (collected (λ e. e.tail == n) E on0) = rw (← arrived, ← left, at) (rw at at flowing) in
        let lengths_same : length (joined outs) ≡ length (collected (λ e. e.tail == n) E on0) = ap length (sym out) ∙ collected-length f (λ e. e.tail == n) E on0 long f-sizes sized in
        let same : joined outs ≡ collected (λ e. e.tail == n) E on0 = copies-same m (joined ins) (collected (λ e. e.head == n) E on0) (joined outs) (collected (λ e. e.tail == n) E on0) copies (into ∙ heads) lengths_same copied flows in
        agree-less f (λ e. (e.tail == n) ≡ true) (λ e. e.tail ≡ n) E on0 (all-edges (λ e. e.tail ≡ n → (e.tail == n) ≡ true) (λ e own. eq-eqb e.tail n own) E)
        (collected-split f (λ e. e.tail == n) E on0 f-sizes sized (out ∙ same))

    -- the edges out of a node that is done carry the flow, where those into it do
    node-agrees : (m : Node) → node_at N n ≡ m → Allows fire m (reads job v m n) (Ok outs) → map length outs ≡ lengths_written job m n → PortsAt job.level m (ports_into E n) (ports_from E n) → Agree f (λ e. e.head ≡ n) E on0 → Agree f (λ e. e.tail ≡ n) E on0
    node-agrees (node.Source s) at allowed lengths ports before = single-agrees (slice_index_or job.sources s []) allowed lengths ports.1
        (λ e y own sent. let S : Node → Type 0 = λ x. Sends G x e.tail_port y in let own_sent : S (node.Source s) = subst S (ap (node_at N) own ∙ at) sent in sym own_sent)
    node-agrees (node.Init l) at allowed lengths ports before = single-agrees (slice_index_or job.delays l []) allowed lengths ports.1
        (λ e y own sent. let S : Node → Type 0 = λ x. Sends G x e.tail_port y in let own_sent : S (node.Init l) = subst S (ap (node_at N) own ∙ at) sent in sym own_sent)
    node-agrees (node.Firing a k) at allowed lengths ports before =
        let place : place_of N (node.Firing a k) ≡ n = ap (place_of N) (sym at) ∙ num.once n inside in
        let made_here : made a k ≡ outs = made-is a k (let i = inside in omega arith) outs (ap v place ∙ is) in
        sends-agree n (λ e. slice_index_or outs e.tail_port []) E on0 flow.sent
        (λ e y own sent. let S : Node → Type 0 = λ x. Sends G x e.tail_port y in let own_sent : S (node.Firing a k) = subst S (ap (node_at N) own ∙ at) sent in ap (λ (o : List (List T)). slice_index_or o e.tail_port []) (sym made_here) ∙ sym own_sent)
        (all-edges (λ e. e.tail ≡ n → f e ≡ slice_index_or outs e.tail_port []) gives E)
    node-agrees (node.End l) at allowed lengths ports before = sends-agree n f E on0 flow.sent
        (λ e y own sent. let S : Node → Type 0 = λ x. Sends G x e.tail_port y in let none : S (node.End l) = subst S (ap (node_at N) own ∙ at) sent in absurd none) (all-edges (λ e. e.tail ≡ n → f e ≡ f e) (λ e own. refl) E)
    node-agrees (node.Sink t) at allowed lengths ports before = sends-agree n f E on0 flow.sent
        (λ e y own sent. let S : Node → Type 0 = λ x. Sends G x e.tail_port y in let none : S (node.Sink t) = subst S (ap (node_at N) own ∙ at) sent in absurd none) (all-edges (λ e. e.tail ≡ n → f e ≡ f e) (λ e own. refl) E)
    node-agrees (node.Broadcast l) at allowed lengths ports before = copy-agrees (node.Broadcast l) at (omega arith) (arriving_below E (on v E) n 1) (below-collected E (on v E) n 1 (length-map E f) (ports.0)) allowed lengths ports.1 before
    node-agrees (node.Fork l i) at allowed lengths ports before = copy-agrees (node.Fork l i) at (omega arith) (arriving_below E (on v E) n 1) (below-collected E (on v E) n 1 (length-map E f) (ports.0)) allowed lengths ports.1 before
    node-agrees (node.Join l j) at allowed lengths ports before = copy-agrees (node.Join l j) at (omega arith) (arriving_below E (on v E) n (edges_into E n)) (below-collected E (on v E) n (edges_into E n) (length-map E f) (rw (into-many E n) (ports.0))) allowed lengths (rw (ports.1) refl) before
    node-agrees (node.Round l) at allowed lengths ports before = copy-agrees (node.Round l) at (omega arith) (arriving_below E (on v E) n (edges_into E n)) (below-collected E (on v E) n (edges_into E n) (length-map E f) (rw (into-many E n) (ports.0))) allowed lengths (rw (ports.1) refl) before

  done-agrees : (n : ℕ) → n < length N → IsDone (v n) → Agree f (λ e. e.head ≡ n) E on0 → Agree f (λ e. e.tail ≡ n) E on0
  done-agrees n inside done before =
      let outs = done-is (v n) done in
      let answer = answered n (Ok outs.0) outs.1 in
      node-agrees n inside outs.0 outs.1 (node_at N n) refl answer.answers.allowed answer.answers.lengths (num.ports n inside) before

  -- edges out of nodes that are done, of an earlier tier than this
  abbrev Below : ℕ → Edge → Type 0
  Below r e = (num.tier e.tail < r) × IsDone (v e.tail)

  agree-none : (es : List Edge) (ys : List (List T)) → Agree f (Below 0) es ys
  agree-none [] ys = tt
  agree-none (e ∷ es) [] = tt
  agree-none (e ∷ es) (y ∷ ys) = ((λ below. absurd (let b = below.0 in omega arith)), agree-none es ys)

  agree-next : (r : ℕ) (es : List Edge) (ys : List (List T)) → AllByRecursion (λ e. (e.tail < length N) × (e.head < length N)) es → Agree f (Below r) es ys → ((n : ℕ) → n < length N → num.tier n ≡ r → IsDone (v n) → Agree f (λ e. e.tail ≡ n) es ys) → Agree f (Below (suc r)) es ys
  agree-next r [] ys ends below here = tt
  agree-next r (e ∷ es) [] ends below here = tt
  agree-next r (e ∷ es) (y ∷ ys) ends below here = (
    (λ at. ⊎_elim
        (λ (early : num.tier e.tail < r). below.0 (early, at.1))
        (λ (late : r ≤ num.tier e.tail). (here e.tail ends.0.0 (let b = at.0 in omega arith) at.1).0 refl)
        (cases_lt (num.tier e.tail) r)),
    agree-next r es ys ends.1 below.1 (λ n inside at done. (here n inside at done).1),
  )

  agree-below : (r : ℕ) → Agree f (Below r) E on0
  agree-below zero = agree-none E on0
  agree-below (suc r) = let earlier = agree-below r in agree-next r E on0 num.ends earlier
      (λ n inside at done.
      let outs = done-is (v n) done in
      let ready = (answered n (Ok outs.0) outs.1).ready in
      done-agrees n inside done (agree-less f (Below r) (λ e. e.head ≡ n) E on0
      (all-both (λ e. num.tier e.tail < num.tier e.head) (λ e. e.head ≡ n → IsDone (v e.tail)) (λ e. e.head ≡ n → Below r e)
      (λ e rises before own. let s : num.tier e.head ≡ num.tier n = ap num.tier own in (omega arith, before own)) E num.rising ready.before) earlier))

  agree-done : (es : List Edge) (ys : List (List T)) → ((r : ℕ) → Agree f (Below r) es ys) → Agree f (λ e. IsDone (v e.tail)) es ys
  agree-done [] ys all = tt
  agree-done (e ∷ es) [] all = tt
  agree-done (e ∷ es) (y ∷ ys) all = ((λ done. (all (suc (num.tier e.tail))).0 (omega arith, done)), agree-done es ys (λ r. (all r).1))

  -- what arrives at a ready node is what flows there
  pub arriving-flows : (n : ℕ) → IsReady job v n → (port : ℕ) → arriving E (on v E) n port ≡ arriving E on0 n port
  arriving-flows n ready port =
      let test : Edge → Bool = λ e. (e.head == n) && (e.head_port == port) in
      arriving-is E (on v E) n port
      ∙ collected-same f test E on0 long (agree-less f (λ e. IsDone (v e.tail)) (λ e. test e ≡ true) E on0
      (all-both (λ e. e.head ≡ n → IsDone (v e.tail)) (λ e. test e ≡ true → e.head ≡ n) (λ e. test e ≡ true → IsDone (v e.tail)) (λ e before own passes. before (own passes)) E ready.before
      (all-edges (λ e. test e ≡ true → e.head ≡ n) (λ e passes. eqb-true e.head n (and-left (e.head == n) (e.head_port == port) passes)) E))
      (agree-done E on0 agree-below))
      ∙ sym (arriving-is E on0 n port)
