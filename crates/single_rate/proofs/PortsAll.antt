-- The ports at the nodes of a whole graph.
use Rattle.std.proofs.Common.{◌≡◌, ℕ, ◌+◌, ◌<◌, ◌≤◌, Bool, true, false, ◌&&◌, ◌==◌, ⊎_elim, inl, inr, List, [], ◌∷◌, ◌++◌, map, length, if◌then◌else◌, refl, ap, sym, ◌∙◌, subst, arith}
use Rattle.std.specs.List.{AllByRecursion}
use Rattle.std.proofs.lemmas.Bool.{cases_Bool, cases_eq, cases_lt, eq-eqb, ne_eqb, eqb-true}
use Rattle.std.proofs.lemmas.List.{append-nil}
use Rattle.sdf_level.specs.View.{LevelView}
use Rattle.sdf_level.specs.Invariants.{IsLevel, TailIsThere, HeadIsThere, how_many, is_from_source, is_into_sink, is_from_port, is_into_port}
use Rattle.sdf_level.specs.Lists.{occurrences}
use Rattle.sdf_level.specs.Orders.{IsTurnOrder}
use Rattle.sdf_level.specs.Run.{is_into_actor}
use Rattle.sdf_level.specs.declared.link.Link.{Link}
use Rattle.sdf_level.specs.declared.link.Tail.{Tail}
use Rattle.sdf_level.specs.declared.link.Head.{Head}
use Rattle.sdf_level.specs.declared.link.Tail.TheVariants as tail
use Rattle.sdf_level.specs.declared.link.Head.TheVariants as head
use Rattle.sdf_level.specs.declared.node.Node.{Node}
use Rattle.sdf_level.specs.declared.node.Node.TheVariants as node
use Rattle.sdf_level.specs.declared.turn.Turn.{Turn}
use Rattle.single_rate.specs.declared.part.Port.{Port}
use Rattle.single_rate.specs.declared.wire.Wire.{Wire}
use Rattle.single_rate.specs.Nodes.{kind, subject, same}
use Rattle.single_rate.specs.Wires.{wires_at, wires_from, wires}
use Rattle.single_rate.specs.Expanded.{nodes, edges, edge_of, place_of, started, ended, copied_nodes}
use Rattle.single_rate.specs.Tiers.{node_at}
use Rattle.single_rate.specs.Ports.{ports_into, ports_from, up_from, AreCounted, IsAtMostOne, PortsAt}
use Rattle.single_rate.proofs.Picked.{Every}
use Rattle.single_rate.proofs.Unique.{same-node, same-self, and-left, and-right}
use Rattle.single_rate.proofs.Places.{In, HasEnds, place-found}
use Rattle.single_rate.proofs.Readers.{at_port}
use Rattle.single_rate.proofs.Rising.{tail_parts, head_parts}
use Rattle.single_rate.proofs.AllNumbered.{edges-in}
use Rattle.single_rate.proofs.CopiedNodes.{all-found}
use Rattle.single_rate.proofs.Once.{In-split, in-at, nodes-once, copies-in}
use Rattle.single_rate.proofs.FewNodes.{number-below}
use Rattle.single_rate.proofs.PortCounts.{one, one-most, count, count-append, heads, tails, passing}
use Rattle.single_rate.proofs.PortOrders.{ports, ports-append, length-ports, none-counted}
use Rattle.single_rate.proofs.PortLinks.{Skips, link-heads, link-tails}
use Rattle.single_rate.proofs.PortNodes.{eq-turned, into-end, into-sink, into-source, into-init, into-firing, out-init, out-source, out-end, out-sink, out-firing}
use Rattle.single_rate.proofs.PortCopies.{other-heads, other-tails, fork-heads, broadcast-into, join-tails, round-out, fork-out, join-into, broadcast-out, round-into}

-- how many links meet a test, the first of them having this number
abbrev met : (ℕ → Link → Bool) → ℕ → List Link → ℕ
met f l [] = 0
met f l (link ∷ links) = one (f l link) + met f (l + 1) links

met-false : (l : ℕ) (links : List Link) → met (λ l link. false) l links ≡ 0
met-false l [] = refl
met-false l (link ∷ links) = let e = met-false (l + 1) links in omega arith

met-test : (test : Link → Bool) (l : ℕ) (links : List Link) → met (λ l link. test link) l links ≡ how_many test links
met-test test l [] = refl
met-test test l (link ∷ links) = let e = met-test test (l + 1) links in omega arith

met-guarded : (c : Bool) (f : ℕ → Link → Bool) (l : ℕ) (links : List Link) → met f l links ≤ 1 → met (λ l link. c && f l link) l links ≤ one c
met-guarded true f l links once = once
met-guarded false f l links once = let e = met-false l links in omega arith

-- a test that one number alone meets
module _ (f : ℕ → Bool) (l' : ℕ) (only : (l : ℕ) → f l ≡ true → l' ≡ l) where
  met-past : (l : ℕ) (links : List Link) → l' < l → met (λ l link. f l) l links ≡ 0
  met-past l [] past = refl
  met-past l (link ∷ links) past = let later = met-past (l + 1) links (omega arith) in ⊎_elim
      (λ (e : f l ≡ true). absurd (let g = only l e in omega arith))
      (λ (e : f l ≡ false). rw e (omega arith))
      (cases_Bool (f l))

  met-number : (l : ℕ) (links : List Link) → met (λ l link. f l) l links ≤ 1
  met-number l [] = omega arith
  met-number l (link ∷ links) = ⊎_elim
      (λ (e : f l ≡ true). let past = met-past (l + 1) links (let g = only l e in omega arith) in let o = one-most (f l) in omega arith)
      (λ (e : f l ≡ false). let later = met-number (l + 1) links in rw e (omega arith))
      (cases_Bool (f l))

-- lists of ports by how often each stands there
none-list : (xs : List ℕ) → ((p : ℕ) → occurrences p xs ≡ 0) → xs ≡ []
none-list [] none = refl
none-list (x ∷ xs) none = absurd (let e : (if x == x then 1 else 0) + occurrences x xs ≡ 0 = none x in let f = rw (eq-eqb x x refl) at e in omega arith)

single-list : (xs : List ℕ) → ((p : ℕ) → occurrences p xs ≤ one (p == 0)) → IsAtMostOne xs
single-list [] few = (refl, omega arith)
single-list (x ∷ []) few = ⊎_elim
    (λ (e : x ≡ 0). (rw e refl, omega arith))
    (λ (n : x ≡ 0 → ⊥). absurd (let f : (if x == x then 1 else 0) + 0 ≤ one (x == 0) = few x in let g = rw (eq-eqb x x refl, ne_eqb x 0 n) at f in omega arith))
    (cases_eq x 0)
single-list (x ∷ y ∷ xs) few = absurd (⊎_elim
    (λ (e : x ≡ 0). ⊎_elim
    (λ (e' : y ≡ 0). let f : (if x == 0 then 1 else 0) + ((if y == 0 then 1 else 0) + occurrences 0 xs) ≤ one (0 == 0) = few 0 in let g = rw (eq-eqb x 0 e, eq-eqb y 0 e') at f in let z : one (0 == 0) ≤ 1 = one-most (0 == 0) in omega arith)
    (λ (n : y ≡ 0 → ⊥). let f : (if x == y then 1 else 0) + ((if y == y then 1 else 0) + occurrences y xs) ≤ one (y == 0) = few y in let g = rw (eq-eqb y y refl, ne_eqb y 0 n) at f in omega arith)
    (cases_eq y 0))
    (λ (n : x ≡ 0 → ⊥). let f : (if x == x then 1 else 0) + ((if y == x then 1 else 0) + occurrences x xs) ≤ one (x == 0) = few x in let g = rw (eq-eqb x x refl, ne_eqb x 0 n) at f in omega arith)
    (cases_eq x 0))

one-list : (xs : List ℕ) → IsAtMostOne xs → 0 < length xs → xs ≡ 0 ∷ []
one-list xs single some = let e : length xs ≡ 1 = let f = single.1 in omega arith in single.0 ∙ ap (up_from 0) e

pub occurrences-more : (end : Wire → Port) (n : Node) (p : ℕ) (ws : List Wire) → occurrences p (ports end (λ x. same n x.node) ws) ≡ count end (at_port n p) ws
occurrences-more end n p [] = refl
occurrences-more end n p (w ∷ ws) = go (same n (end w).node) (occurrences-more end n p ws)
  where
    go : (c : Bool) → occurrences p (ports end (λ x. same n x.node) ws) ≡ count end (at_port n p) ws → occurrences p ((if c then (end w).port ∷ [] else []) ++ ports end (λ x. same n x.node) ws) ≡ one (c && (p == (end w).port)) + count end (at_port n p) ws
    go true later = rw (eq-turned p (end w).port) (omega arith)
    go false later = omega arith

-- the nodes that copy, by an edge of each
started-is : (n m : Node) → In n (started m) → (m ≡ n) × (kind n < 7)
started-is n (node.Source s) i = absurd i
started-is n (node.Init l) i = absurd i
started-is n (node.Firing a k) i = absurd i
started-is n (node.End l) i = absurd i
started-is n (node.Sink t) i = absurd i
started-is n (node.Broadcast l) (inl e) = (e, (let k = ap kind e in omega arith))
started-is n (node.Broadcast l) (inr i) = absurd i
started-is n (node.Fork l i) (inl e) = (e, (let k = ap kind e in omega arith))
started-is n (node.Fork l i) (inr none) = absurd none
started-is n (node.Join l j) i = absurd i
started-is n (node.Round l) i = absurd i

ended-is : (n m : Node) → In n (ended m) → (m ≡ n) × (7 ≤ kind n)
ended-is n (node.Source s) i = absurd i
ended-is n (node.Init l) i = absurd i
ended-is n (node.Firing a k) i = absurd i
ended-is n (node.End l) i = absurd i
ended-is n (node.Sink t) i = absurd i
ended-is n (node.Broadcast l) i = absurd i
ended-is n (node.Fork l i) none = absurd none
ended-is n (node.Join l j) (inl e) = (e, (let k = ap kind e in omega arith))
ended-is n (node.Join l j) (inr i) = absurd i
ended-is n (node.Round l) (inl e) = (e, (let k = ap kind e in omega arith))
ended-is n (node.Round l) (inr i) = absurd i

one-same : (n m : Node) → m ≡ n → one (same n m) ≡ 1
one-same n m e = let s : same n m ≡ true = rw e (same-self n) in rw s refl

entered : (n : Node) (ws : List Wire) → kind n < 7 → In n (copied_nodes ws) → 0 < heads (λ p. same n p.node) ws
entered n [] early i = absurd i
entered n (w ∷ ws) early i = ⊎_elim
    (λ (here : In n (started w.head.node ++ ended w.tail.node)). ⊎_elim
    (λ (s : In n (started w.head.node)). let is = started-is n w.head.node s in let o = one-same n w.head.node is.0 in omega arith)
    (λ (e : In n (ended w.tail.node)). let is = ended-is n w.tail.node e in absurd (omega arith))
    (In-split n (started w.head.node) (ended w.tail.node) here))
    (λ (later : In n (copied_nodes ws)). let l = entered n ws early later in omega arith)
    (In-split n (started w.head.node ++ ended w.tail.node) (copied_nodes ws) i)

left : (n : Node) (ws : List Wire) → 7 ≤ kind n → In n (copied_nodes ws) → 0 < tails (λ p. same n p.node) ws
left n [] late i = absurd i
left n (w ∷ ws) late i = ⊎_elim
    (λ (here : In n (started w.head.node ++ ended w.tail.node)). ⊎_elim
    (λ (s : In n (started w.head.node)). let is = started-is n w.head.node s in absurd (omega arith))
    (λ (e : In n (ended w.tail.node)). let is = ended-is n w.tail.node e in let o = one-same n w.tail.node is.0 in omega arith)
    (In-split n (started w.head.node) (ended w.tail.node) here))
    (λ (later : In n (copied_nodes ws)). let l = left n ws late later in omega arith)
    (In-split n (started w.head.node ++ ended w.tail.node) (copied_nodes ws) i)

-- a source that isn't there has no link, and so has a sink
module _ (level : LevelView) where
  source-none : (s : ℕ) → length level.sources ≤ s → (links : List Link) → AllByRecursion (λ link. TailIsThere level link.tail) links → how_many (is_from_source s) links ≡ 0
  source-none s past [] there = refl
  source-none s past (link ∷ links) there = let later = source-none s past links there.1 in let h = here link.tail link.head link.delay there.0 in omega arith
    where
      here : (x : Tail) (h : Head) (d : ℕ) → TailIsThere level x → one (is_from_source s record { tail = x; head = h; delay = d }) ≡ 0
      here (tail.Source t) h d below = rw (ne_eqb t s (λ e. omega arith)) refl
      here (tail.Port a p r) h d below = refl

  sink-none : (t : ℕ) → length level.sinks ≤ t → (links : List Link) → AllByRecursion (λ link. HeadIsThere level link.head) links → how_many (is_into_sink t) links ≡ 0
  sink-none t past [] there = refl
  sink-none t past (link ∷ links) there = let later = sink-none t past links there.1 in let h = here link.tail link.head link.delay there.0 in omega arith
    where
      here : (x : Tail) (h : Head) (d : ℕ) → HeadIsThere level h → one (is_into_sink t record { tail = x; head = h; delay = d }) ≡ 0
      here x (head.Sink u) d below = rw (ne_eqb u t (λ e. omega arith)) refl
      here x (head.Port b j c) d below = refl

  source-once : IsLevel level → (s : ℕ) → how_many (is_from_source s) level.links ≤ 1
  source-once sound s = ⊎_elim (λ (lt : s < length level.sources). let o = sound.sources_at_one s lt in omega arith) (λ (ge : length level.sources ≤ s). let n = source-none s ge level.links sound.tails_there in omega arith) (cases_lt s (length level.sources))

  sink-once : IsLevel level → (t : ℕ) → how_many (is_into_sink t) level.links ≤ 1
  sink-once sound t = ⊎_elim (λ (lt : t < length level.sinks). let o = sound.sinks_at_one t lt in omega arith) (λ (ge : length level.sinks ≤ t). let n = sink-none t ge level.links sound.heads_there in omega arith) (cases_lt t (length level.sinks))

-- by number
module _ (list : List Node) (n : ℕ) (m : Node) (at : node_at list n ≡ m) (once : place_of list (node_at list n) ≡ n) where
  same-number : (x : Node) → In x list → (place_of list x == n) ≡ same m x
  same-number x there = ⊎_elim
      (λ (e : same m x ≡ true). let f : place_of list x ≡ n = ap (place_of list) (sym (at ∙ same-node m x e)) ∙ once in rw (eq-eqb (place_of list x) n f) (sym e))
      (λ (e : same m x ≡ false). rw (ne_eqb (place_of list x) n (λ f. let g : m ≡ x = sym at ∙ ap (node_at list) (sym f) ∙ place-found list x there in let s : same m x ≡ true = rw (← g) (same-self m) in absurd (cc))) (sym e))
      (cases_Bool (same m x))

  into-is : (ws : List Wire) → Every (HasEnds list) ws → ports_into (map (edge_of list) ws) n ≡ ports (λ w. w.head) (λ p. same m p.node) ws
  into-is [] ends = refl
  into-is (w ∷ ws) ends = rw (same-number w.head.node ends.0.1, into-is ws ends.1) refl

  pub from-is : (ws : List Wire) → Every (HasEnds list) ws → ports_from (map (edge_of list) ws) n ≡ ports (λ w. w.tail) (λ p. same m p.node) ws
  from-is [] ends = refl
  from-is (w ∷ ws) ends = rw (same-number w.tail.node ends.0.0, from-is ws ends.1) refl

module _ (level : LevelView) (q : List ℕ) where
  abbrev W : List Wire
  W = wires_from level q 0 level.links

  total-within : (end : Wire → Port) (t : Port → Bool) (f : ℕ → Link → Bool) → ((l : ℕ) (x : Tail) (h : Head) (d : ℕ) → count end t (wires_at level q l x h d) ≤ one (f l record { tail = x; head = h; delay = d })) → (l : ℕ) (links : List Link) → count end t (wires_from level q l links) ≤ met f l links
  total-within end t f each l [] = omega arith
  total-within end t f each l (link ∷ links) =
      let here : count end t (wires_at level q l link.tail link.head link.delay) ≤ one (f l link) = each l link.tail link.head link.delay in
      let later = total-within end t f each (l + 1) links in
      let all = count-append end t (wires_at level q l link.tail link.head link.delay) (wires_from level q (l + 1) links) in
      omega arith

  -- a node of one link
  module _ (end : Wire → Port) (t : Port → Bool) (l' : ℕ) (other : (l : ℕ) → (l' ≡ l → ⊥) → (x : Tail) (h : Head) (d : ℕ) → count end t (wires_at level q l x h d) ≡ 0) where
    only-past : (l : ℕ) (links : List Link) → l' < l → count end t (wires_from level q l links) ≡ 0
    only-past l [] past = refl
    only-past l (link ∷ links) past =
        let here = other l (λ e. omega arith) link.tail link.head link.delay in
        let later = only-past (l + 1) links (omega arith) in
        let all = count-append end t (wires_at level q l link.tail link.head link.delay) (wires_from level q (l + 1) links) in
        omega arith

    only-here : ((l : ℕ) (x : Tail) (h : Head) (d : ℕ) → AreCounted (ports end t (wires_at level q l x h d))) → (l : ℕ) (links : List Link) → AreCounted (ports end t (wires_from level q l links))
    only-here each l [] = refl
    only-here each l (link ∷ links) =
        let here : List Wire = wires_at level q l link.tail link.head link.delay in
        let rest : List Wire = wires_from level q (l + 1) links in
        ⊎_elim
        (λ (e : l' ≡ l). rw (ports-append end t here rest, none-counted end t rest (only-past (l + 1) links (omega arith)), append-nil (ports end t here)) (each l link.tail link.head link.delay))
        (λ (f : l' ≡ l → ⊥). rw (ports-append end t here rest, none-counted end t here (other l f link.tail link.head link.delay)) (only-here each (l + 1) links))
        (cases_eq l' l)

  -- of a node that doesn't copy
  plain-into : (m : Node) (p : ℕ) (f : ℕ → Link → Bool) → ((l : ℕ) → Skips (at_port m p) l) → ((l : ℕ) (x : Tail) (h : Head) (d : ℕ) → passing (at_port m p) (head_parts level q l x h d) ≤ one (f l record { tail = x; head = h; delay = d })) → heads (at_port m p) W ≤ met f 0 level.links
  plain-into m p f skips bound = total-within (λ w. w.head) (at_port m p) f (λ l x h d. let a = link-heads level q l (at_port m p) (skips l) x h d in let b = bound l x h d in omega arith) 0 level.links

  plain-from : (m : Node) (p : ℕ) (f : ℕ → Link → Bool) → ((l : ℕ) → Skips (at_port m p) l) → ((l : ℕ) (x : Tail) (h : Head) (d : ℕ) → passing (at_port m p) (tail_parts level q l x h d) ≤ one (f l record { tail = x; head = h; delay = d })) → tails (at_port m p) W ≤ met f 0 level.links
  plain-from m p f skips bound = total-within (λ w. w.tail) (at_port m p) f (λ l x h d. let a = link-tails level q l (at_port m p) (skips l) x h d in let b = bound l x h d in omega arith) 0 level.links

  module _ (into from : List ℕ) where
    abbrev AreInto : Node → Type 0
    AreInto m = into ≡ ports (λ w. w.head) (λ p. same m p.node) W

    abbrev AreFrom : Node → Type 0
    AreFrom m = from ≡ ports (λ w. w.tail) (λ p. same m p.node) W

    into-many : (m : Node) → AreInto m → (p : ℕ) → occurrences p into ≡ heads (at_port m p) W
    into-many m is p = ap (occurrences p) is ∙ occurrences-more (λ w. w.head) m p W

    from-many : (m : Node) → AreFrom m → (p : ℕ) → occurrences p from ≡ tails (at_port m p) W
    from-many m is p = ap (occurrences p) is ∙ occurrences-more (λ w. w.tail) m p W

    -- at one link, and there at port 0
    single-into : (m : Node) → AreInto m → (f : ℕ → Link → Bool) → met f 0 level.links ≤ 1 → ((p : ℕ) → heads (at_port m p) W ≤ met (λ l link. (p == 0) && f l link) 0 level.links) → IsAtMostOne into
    single-into m is f once within = single-list into (λ p. let a = into-many m is p in let b = within p in let g = met-guarded (p == 0) f 0 level.links once in omega arith)

    single-from : (m : Node) → AreFrom m → (f : ℕ → Link → Bool) → met f 0 level.links ≤ 1 → ((p : ℕ) → tails (at_port m p) W ≤ met (λ l link. (p == 0) && f l link) 0 level.links) → IsAtMostOne from
    single-from m is f once within = single-list from (λ p. let a = from-many m is p in let b = within p in let g = met-guarded (p == 0) f 0 level.links once in omega arith)

    none-into : (m : Node) → AreInto m → ((p l : ℕ) → Skips (at_port m p) l) → ((p l : ℕ) (x : Tail) (h : Head) (d : ℕ) → passing (at_port m p) (head_parts level q l x h d) ≡ 0) → into ≡ []
    none-into m is skips none = none-list into (λ p. let a = into-many m is p in let b = plain-into m p (λ l link. false) (skips p) (λ l x h d. let n = none p l x h d in omega arith) in let c = met-false 0 level.links in omega arith)

    none-from : (m : Node) → AreFrom m → ((p l : ℕ) → Skips (at_port m p) l) → ((p l : ℕ) (x : Tail) (h : Head) (d : ℕ) → passing (at_port m p) (tail_parts level q l x h d) ≡ 0) → from ≡ []
    none-from m is skips none = none-list from (λ p. let a = from-many m is p in let b = plain-from m p (λ l link. false) (skips p) (λ l x h d. let n = none p l x h d in omega arith) in let c = met-false 0 level.links in omega arith)

    number-once : (l' : ℕ) → met (λ l link. l' == l) 0 level.links ≤ 1
    number-once l' = met-number (λ l. l' == l) l' (λ l e. eqb-true l' l e) 0 level.links

    one-into : (m : Node) → AreInto m → IsAtMostOne into → kind m < 7 → In m (copied_nodes W) → into ≡ 0 ∷ []
    one-into m is single early there = one-list into single (let e = entered m W early there in let l = length-ports (λ w. w.head) (λ p. same m p.node) W in let a = ap length is in omega arith)

    one-from : (m : Node) → AreFrom m → IsAtMostOne from → 7 ≤ kind m → In m (copied_nodes W) → from ≡ 0 ∷ []
    one-from m is single late there = one-list from single (let e = left m W late there in let l = length-ports (λ w. w.tail) (λ p. same m p.node) W in let a = ap length is in omega arith)

    counted-from : (m : Node) → AreFrom m → 5 ≤ kind m → ((l : ℕ) (x : Tail) (h : Head) (d : ℕ) → AreCounted (ports (λ w. w.tail) (λ p. same m p.node) (wires_at level q l x h d))) → AreCounted from
    counted-from m is copies each = let P : List ℕ → Type 0 = λ xs. AreCounted xs in subst P (sym is) (only-here (λ w. w.tail) (λ p. same m p.node) (subject m) (λ l other x h d. other-tails level q l m copies other x h d) each 0 level.links)

    counted-into : (m : Node) → AreInto m → 5 ≤ kind m → ((l : ℕ) (x : Tail) (h : Head) (d : ℕ) → AreCounted (ports (λ w. w.head) (λ p. same m p.node) (wires_at level q l x h d))) → AreCounted into
    counted-into m is copies each = let P : List ℕ → Type 0 = λ xs. AreCounted xs in subst P (sym is) (only-here (λ w. w.head) (λ p. same m p.node) (subject m) (λ l other x h d. other-heads level q l m copies other x h d) each 0 level.links)

    ports-at : IsLevel level → (m : Node) → AreInto m → AreFrom m → (5 ≤ kind m → In m (copied_nodes W)) → PortsAt level m into from
    ports-at sound (node.Source s) i f there = (
      none-into (node.Source s) i (λ p l k o. (refl, refl, refl, refl)) (λ p l x h d. into-source level q l p s x h d),
      single-from (node.Source s) f (λ l link. is_from_source s link) (let e = met-test (is_from_source s) 0 level.links in let o = source-once level sound s in omega arith)
          (λ p. plain-from (node.Source s) p (λ l link. (p == 0) && is_from_source s link) (λ l k o. (refl, refl, refl, refl)) (λ l x h d. out-source level q l p s x h d)),
    )
    ports-at sound (node.Init l') i f there = (
      none-into (node.Init l') i (λ p l k o. (refl, refl, refl, refl)) (λ p l x h d. into-init level q l p l' x h d),
      single-from (node.Init l') f (λ l link. same (node.Init l') (node.Init l)) (met-number (λ l. same (node.Init l') (node.Init l)) l' (λ l e. ap subject (same-node (node.Init l') (node.Init l) e)) 0 level.links)
          (λ p. plain-from (node.Init l') p (λ l link. (p == 0) && same (node.Init l') (node.Init l)) (λ l k o. (refl, refl, refl, refl)) (λ l x h d. out-init level q l p l' x h d)),
    )
    ports-at sound (node.Firing a k) i f there =
        let m : Node = node.Firing a k in
        let ins : (p : ℕ) → occurrences p into ≤ how_many (is_into_port a p) level.links = λ p.
        let many = into-many m i p in let b = plain-into m p (λ l link. is_into_port a p link) (λ l k o. (refl, refl, refl, refl)) (λ l x h d. into-firing level q l p a k x h d) in let t = met-test (is_into_port a p) 0 level.links in omega arith in
        let outs : (p : ℕ) → occurrences p from ≤ how_many (is_from_port a p) level.links = λ p.
        let many = from-many m f p in let b = plain-from m p (λ l link. is_from_port a p link) (λ l k o. (refl, refl, refl, refl)) (λ l x h d. out-firing level q l p a k x h d) in let t = met-test (is_from_port a p) 0 level.links in omega arith in (
          (λ p. let e = ins p in let o = sound.inputs_once a p in omega arith),
          (λ p some. number-below (is_into_port a) one-input (is_into_actor a) of-actor level.links (sound.inputs_without_gap a) p (let e = ins p in omega arith)),
          (λ p. let e = outs p in let o = sound.outputs_once a p in omega arith),
        )
      where
        one-input : (link : Link) (s t : ℕ) → is_into_port a s link ≡ true → is_into_port a t link ≡ true → s ≡ t
        one-input link s t e g = go link.head e g
          where
            go : (x : Head) → (elim x [ head.Sink u ↦ false | head.Port b j r ↦ (b == a) && (j == s) ]) ≡ true → (elim x [ head.Sink u ↦ false | head.Port b j r ↦ (b == a) && (j == t) ]) ≡ true → s ≡ t
            go (head.Sink u) e g = absurd (cc)
            go (head.Port b j r) e g = sym (eqb-true j s (and-right (b == a) (j == s) e)) ∙ eqb-true j t (and-right (b == a) (j == t) g)

        of-actor : (link : Link) (s : ℕ) → is_into_port a s link ≡ true → is_into_actor a link ≡ true
        of-actor link s e = go link.head e
          where
            go : (x : Head) → (elim x [ head.Sink u ↦ false | head.Port b j r ↦ (b == a) && (j == s) ]) ≡ true → (elim x [ head.Sink u ↦ false | head.Port b j r ↦ b == a ]) ≡ true
            go (head.Sink u) e = e
            go (head.Port b j r) e = and-left (b == a) (j == s) e
    ports-at sound (node.End l') i f there = (
      single-into (node.End l') i (λ l link. same (node.End l') (node.End l)) (met-number (λ l. same (node.End l') (node.End l)) l' (λ l e. ap subject (same-node (node.End l') (node.End l) e)) 0 level.links)
          (λ p. plain-into (node.End l') p (λ l link. (p == 0) && same (node.End l') (node.End l)) (λ l k o. (refl, refl, refl, refl)) (λ l x h d. into-end level q l p l' x h d)),
      none-from (node.End l') f (λ p l k o. (refl, refl, refl, refl)) (λ p l x h d. out-end level q l p l' x h d),
    )
    ports-at sound (node.Sink t) i f there = (
      single-into (node.Sink t) i (λ l link. is_into_sink t link) (let e = met-test (is_into_sink t) 0 level.links in let o = sink-once level sound t in omega arith)
          (λ p. plain-into (node.Sink t) p (λ l link. (p == 0) && is_into_sink t link) (λ l k o. (refl, refl, refl, refl)) (λ l x h d. into-sink level q l p t x h d)),
      none-from (node.Sink t) f (λ p l k o. (refl, refl, refl, refl)) (λ p l x h d. out-sink level q l p t x h d),
    )
    ports-at sound (node.Broadcast l') i f there = let m : Node = node.Broadcast l' in (
      one-into m i (single-into m i (λ l link. l' == l) (number-once l') (λ p. total-within (λ w. w.head) (at_port m p) (λ l link. (p == 0) && (l' == l)) (λ l x h d. broadcast-into level q l l' p x h d) 0 level.links)) (omega arith) (there (omega arith)),
      counted-from m f (omega arith) (λ l x h d. broadcast-out level q l l' x h d),
    )
    ports-at sound (node.Fork l' k) i f there = let m : Node = node.Fork l' k in (
      one-into m i (single-into m i (λ l link. l' == l) (number-once l') (λ p. total-within (λ w. w.head) (at_port m p) (λ l link. (p == 0) && (l' == l)) (λ l x h d. fork-heads level q l l' k p x h d) 0 level.links)) (omega arith) (there (omega arith)),
      counted-from m f (omega arith) (λ l x h d. fork-out level q l l' k x h d),
    )
    ports-at sound (node.Join l' k) i f there = let m : Node = node.Join l' k in (
      counted-into m i (omega arith) (λ l x h d. join-into level q l l' k x h d),
      one-from m f (single-from m f (λ l link. l' == l) (number-once l') (λ p. total-within (λ w. w.tail) (at_port m p) (λ l link. (p == 0) && (l' == l)) (λ l x h d. join-tails level q l l' k p x h d) 0 level.links)) (omega arith) (there (omega arith)),
    )
    ports-at sound (node.Round l') i f there = let m : Node = node.Round l' in (
      counted-into m i (omega arith) (λ l x h d. round-into level q l l' x h d),
      one-from m f (single-from m f (λ l link. l' == l) (number-once l') (λ p. total-within (λ w. w.tail) (at_port m p) (λ l link. (p == 0) && (l' == l)) (λ l x h d. round-out level q l l' p x h d) 0 level.links)) (omega arith) (there (omega arith)),
    )

  pub edges-have-ports : (turns : List Turn) → IsLevel level → IsTurnOrder level q turns → (n : ℕ) → n < length (nodes level q turns) → PortsAt level (node_at (nodes level q turns) n) (ports_into (edges level q turns) n) (ports_from (edges level q turns) n)
  edges-have-ports turns sound order n inside =
      let list : List Node = nodes level q turns in
      let m : Node = node_at list n in
      let once = nodes-once level q turns order n inside in
      let ends = edges-in level q turns sound order in
      ports-at (ports_into (edges level q turns) n) (ports_from (edges level q turns) n) sound m
      (into-is list n m refl once (wires level q) ends) (from-is list n m refl once (wires level q) ends)
      (λ copies. let P : List Node → Type 0 = λ l. In m l in subst P (sym (all-found level q 0 level.links)) (copies-in level q turns order m (in-at list n inside) copies))
