-- An edge leaves each port where a node has tokens to give.
use Rattle.std.proofs.Common.{◌≡◌, ℕ, zero, suc, ◌+◌, ◌-◌, ◌*◌, ◌<◌, ◌≤◌, Bool, true, false, ◌==◌, ⊎_elim, List, [], ◌∷◌, ◌++◌, length, slice_index, if◌then◌else◌, refl, ap, sym, ◌∙◌, subst, arith}
use Rattle.std.specs.List.{AllByRecursion}
use Rattle.std.proofs.lemmas.Bool.{cases_Bool, cases_eq, cases_lt, eq-eqb, ne_eqb, eqb-true, lt-ltb, le-ltb}
use Rattle.std.proofs.lemmas.List.{get_or_past}
use Rattle.sdf_level.specs.View.{LevelView}
use Rattle.sdf_level.specs.Invariants.{IsLevel, TouchesActor, HasSoundDelay, how_many, is_from_source, is_from_port}
use Rattle.sdf_level.specs.Links.{OfInner, EachInner}
use Rattle.sdf_level.specs.Balance.{IsBalanced}
use Rattle.sdf_level.specs.Firings.{firings, actors_of}
use Rattle.sdf_level.specs.Lists.{occurrences}
use Rattle.sdf_level.specs.Orders.{IsTurnOrder}
use Rattle.sdf_level.specs.declared.link.Link.{Link}
use Rattle.sdf_level.specs.declared.link.Tail.{Tail}
use Rattle.sdf_level.specs.declared.link.Head.{Head}
use Rattle.sdf_level.specs.declared.link.Tail.TheVariants as tail
use Rattle.sdf_level.specs.declared.link.Head.TheVariants as head
use Rattle.sdf_level.specs.declared.node.Node.{Node}
use Rattle.sdf_level.specs.declared.node.Node.TheVariants as node
use Rattle.sdf_level.specs.declared.turn.Turn.{Turn}
use Rattle.single_rate.specs.declared.part.Port.{Port}
use Rattle.single_rate.specs.declared.part.Part.{Part}
use Rattle.single_rate.specs.declared.wire.Wire.{Wire}
use Rattle.single_rate.specs.Names.{output_rate, tail_rate}
use Rattle.single_rate.specs.Wires.{pieces, into_forks, out_of_joins, all_pieces, cut_and_joined, firing_parts, delay_part, rounded_from, wires_at, wires_from, wires, total}
use Rattle.single_rate.specs.Expanded.{nodes, edges, init_nodes}
use Rattle.single_rate.specs.Tiers.{node_at}
use Rattle.single_rate.specs.Ports.{ports_from, UsesPorts}
use Rattle.single_rate.proofs.Unique.{same-self, and-left, and-right}
use Rattle.single_rate.proofs.Senders.{pieces-none}
use Rattle.single_rate.proofs.Given.{total-append, total-firings, total-delay}
use Rattle.single_rate.proofs.Readers.{at_port}
use Rattle.single_rate.proofs.Places.{In}
use Rattle.single_rate.proofs.Rising.{tail_parts, head_parts}
use Rattle.single_rate.proofs.AllNumbered.{edges-in}
use Rattle.single_rate.proofs.Once.{In-split, in-at, nodes-once, init-in, firing-within}
use Rattle.single_rate.proofs.PortCounts.{one, count-append, tails, passing, outgoing, all-tails}
use Rattle.single_rate.proofs.PortLinks.{Skips, round-tails}
use Rattle.single_rate.proofs.PortsAll.{from-is, occurrences-more}

abbrev some : ℕ → ℕ
some zero = 0
some (suc n) = 1

-- how many parts with tokens pass a test
abbrev using : (Port → Bool) → List Part → ℕ
using t [] = 0
using t (w ∷ ws) = (if t w.at then some w.size else 0) + using t ws

using-append : (t : Port → Bool) (xs ys : List Part) → using t (xs ++ ys) ≡ using t xs + using t ys
using-append t [] ys = omega arith
using-append t (x ∷ xs) ys = let e = using-append t xs ys in omega arith

some-most : (c : Bool) (s : ℕ) → (if c then some s else 0) ≤ one c
some-most true zero = omega arith
some-most true (suc s) = omega arith
some-most false s = omega arith

using-passing : (t : Port → Bool) (parts : List Part) → using t parts ≤ passing t parts
using-passing t [] = omega arith
using-passing t (w ∷ ws) = let s = some-most (t w.at) w.size in let later = using-passing t ws in omega arith

-- a range with places has a piece of readers that go as far
some-pieces : (a s : ℕ) (readers : List Part) → a + s ≤ total readers → some s ≤ pieces a (a + s) 0 readers
some-pieces a zero readers within = omega arith
some-pieces a (suc s) readers within = ⊎_elim
    (λ (lt : 0 < pieces a (a + suc s) 0 readers). lt)
    (λ (ge : pieces a (a + suc s) 0 readers ≤ 0). absurd (let z = pieces-none a (a + suc s) 0 readers (omega arith) in omega arith))
    (cases_lt 0 (pieces a (a + suc s) 0 readers))

choose : (c : Bool) (x y : ℕ) → x ≤ y → (if c then x else 0) ≤ (if c then y else 0)
choose true x y h = h
choose false x y h = omega arith

module _ (l : ℕ) (t : Port → Bool) (forks : (i p : ℕ) → t record { node = node.Fork l i; port = p } ≡ false) where
  merged-least : (readers : List Part) (a i : ℕ) (ws : List Part) → a + total ws ≤ total readers → using t ws ≤ outgoing l t readers a i ws + tails t (into_forks l readers a i ws)
  merged-least readers a i [] within = omega arith
  merged-least readers a i (w ∷ ws) within =
      let m : ℕ = pieces a (a + w.size) 0 readers in
      let later = merged-least readers (a + w.size) (i + 1) ws (omega arith) in
      ⊎_elim
      (λ (lt : 1 < m). let s = some-most (t w.at) w.size in rw (lt-ltb 1 m lt, forks i 0) (omega arith))
      (λ (ge : m ≤ 1). let s = choose (t w.at) (some w.size) m (some-pieces a w.size readers (omega arith)) in rw (le-ltb 1 m ge) (omega arith))
      (cases_lt 1 m)

  cut-least : ((j p : ℕ) → t record { node = node.Join l j; port = p } ≡ false) → (writers readers : List Part) → total writers ≤ total readers → using t writers ≤ tails t (cut_and_joined l writers readers)
  cut-least joins writers readers within =
      let forked : List Wire = into_forks l readers 0 0 writers in
      let all : List Wire = all_pieces l writers readers [] 0 0 writers in
      let joined : List Wire = out_of_joins l writers 0 0 readers in
      let x = count-append (λ w. w.tail) t (forked ++ all) joined in
      let y = count-append (λ w. w.tail) t forked all in
      let z = all-tails l t (λ i p. forks i p ∙ sym (forks i 0)) writers readers [] 0 0 writers in
      let m = merged-least readers 0 0 writers (omega arith) in
      omega arith

module _ (level : LevelView) (q : List ℕ) (l : ℕ) (t : Port → Bool) (skips : Skips t l) where
  cut-uses : (writers readers : List Part) → total writers ≤ total readers → using t writers ≤ tails t (cut_and_joined l writers readers)
  cut-uses writers readers within = cut-least l t (λ i p. (skips i p).0) (λ j p. (skips j p).1) writers readers within

  link-uses : (x : Tail) (h : Head) (d : ℕ) → TouchesActor x h → OfInner (IsBalanced q) x h d → using t (tail_parts level q l x h d) ≤ tails t (wires_at level q l x h d)
  link-uses (tail.Source s) (head.Sink u) d touches balanced = absurd touches
  link-uses (tail.Source s) (head.Port b j c) d touches balanced =
      let n : ℕ = slice_index q b in
      let rate : ℕ = slice_index level.sources s in
      let parts : List Part = tail_parts level q l (tail.Source s) (head.Port b j c) d in ⊎_elim
      (λ (e : n * c ≡ rate). let f = total-firings b j c 0 n in rw (eq-eqb (n * c) rate e) (cut-uses parts (firing_parts b j c 0 n) (omega arith)))
      (λ (f : n * c ≡ rate → ⊥). let s = some-most (t record { node = node.Source s; port = 0 }) rate in rw (ne_eqb (n * c) rate f) (omega arith))
      (cases_eq (n * c) rate)
  link-uses (tail.Port a p r) (head.Sink u) d touches balanced =
      let m : ℕ = slice_index q a in
      let rate : ℕ = slice_index level.sinks u in
      let parts : List Part = firing_parts a p r 0 m in
      let readers : List Part = head_parts level q l (tail.Port a p r) (head.Sink u) d in
      let last : List Wire = record { tail = record { node = node.Round l; port = 0 }; head = record { node = node.Sink u; port = 0 }; size = rate; place = m * r - rate } ∷ [] in ⊎_elim
      (λ (e : m * r ≡ rate). let f = total-firings a p r 0 m in rw (eq-eqb (m * r) rate e) (cut-uses parts readers (omega arith)))
      (λ (f : m * r ≡ rate → ⊥). let e = round-tails l a p r t 0 0 m in let g = count-append (λ w. w.tail) t (rounded_from l a p r 0 0 m) last in let u = using-passing t parts in rw (ne_eqb (m * r) rate f) (omega arith))
      (cases_eq (m * r) rate)
  link-uses (tail.Port a p r) (head.Port b j c) d touches balanced =
      let m : ℕ = slice_index q a in
      let n : ℕ = slice_index q b in
      let writers : List Part = delay_part (node.Init l) d ++ firing_parts a p r 0 m in
      let readers : List Part = firing_parts b j c 0 n ++ delay_part (node.End l) d in
      let w : total writers ≡ d + m * r = total-append (delay_part (node.Init l) d) (firing_parts a p r 0 m) ∙ rw (total-delay (node.Init l) d, total-firings a p r 0 m) refl in
      let x : total readers ≡ n * c + d = total-append (firing_parts b j c 0 n) (delay_part (node.End l) d) ∙ rw (total-delay (node.End l) d, total-firings b j c 0 n) refl in
      let same : m * r ≡ n * c = balanced in
      cut-uses writers readers (omega arith)

some-one : (r : ℕ) → 0 < r → some r ≡ 1
some-one zero h = absurd (omega arith)
some-one (suc r) h = refl

own-port : (n : Node) (p : ℕ) → at_port n p record { node = n; port = p } ≡ true
own-port n p = rw (same-self n, eq-eqb p p refl) refl

-- a firing with a rate
firing-uses : (a k p r turn m : ℕ) → 0 < r → turn ≤ k → k < turn + m → 0 < using (at_port (node.Firing a k) p) (firing_parts a p r turn m)
firing-uses a k p r turn zero has low high = absurd (omega arith)
firing-uses a k p r turn (suc m) has low high = ⊎_elim
    (λ (e : k ≡ turn). let P : ℕ → Type 0 = λ i. (if at_port (node.Firing a k) p record { node = node.Firing a i; port = p } then some r else 0) ≡ 1 in
    let own : P k = rw (own-port (node.Firing a k) p) (some-one r has) in let here : P turn = subst P e own in omega arith)
    (λ (f : k ≡ turn → ⊥). let later = firing-uses a k p r (turn + 1) m has (omega arith) (omega arith) in omega arith)
    (cases_eq k turn)

module _ (level : LevelView) (q : List ℕ) where
  -- at the link of a port with a rate
  port-uses : (a k p l : ℕ) (x : Tail) (h : Head) (d : ℕ) → k < slice_index q a → is_from_port a p record { tail = x; head = h; delay = d } ≡ true → 0 < tail_rate x → 0 < using (at_port (node.Firing a k) p) (tail_parts level q l x h d)
  port-uses a k p l (tail.Source s) h d within own has = absurd (cc)
  port-uses a k p l (tail.Port a' p' r) h d within own has = both h
    where
      is_a : a' ≡ a
      is_a = eqb-true a' a (and-left (a' == a) (p' == p) own)

      is_p : p' ≡ p
      is_p = eqb-true p' p (and-right (a' == a) (p' == p) own)

      firings-use : 0 < using (at_port (node.Firing a k) p) (firing_parts a' p' r 0 (slice_index q a'))
      firings-use = rw (is_a, is_p) (firing-uses a k p r 0 (slice_index q a) has (omega arith) (omega arith))

      both : (h : Head) → 0 < using (at_port (node.Firing a k) p) (tail_parts level q l (tail.Port a' p' r) h d)
      both (head.Sink u) = firings-use
      both (head.Port b j c) = let u = using-append (at_port (node.Firing a k) p) (delay_part (node.Init l) d) (firing_parts a' p' r 0 (slice_index q a')) in let f = firings-use in omega arith

  firing-used : (a k p l : ℕ) (links : List Link) → AllByRecursion (λ link. TouchesActor link.tail link.head) links → EachInner (IsBalanced q) links → k < slice_index q a → 0 < output_rate a p links → 0 < tails (at_port (node.Firing a k) p) (wires_from level q l links)
  firing-used a k p l [] touch balanced within has = absurd (omega arith)
  firing-used a k p l (link ∷ links) touch balanced within has =
      let t : Port → Bool = at_port (node.Firing a k) p in
      let all = count-append (λ w. w.tail) t (wires_at level q l link.tail link.head link.delay) (wires_from level q (l + 1) links) in ⊎_elim
      (λ (own : is_from_port a p link ≡ true). let h = rw own at has in
      let u = port-uses a k p l link.tail link.head link.delay within own h in
      let e = link-uses level q l t (λ i o. (refl, refl, refl, refl)) link.tail link.head link.delay touch.0 balanced.0 in omega arith)
      (λ (other : is_from_port a p link ≡ false). let h = rw other at has in let later = firing-used a k p (l + 1) links touch.1 balanced.1 within h in omega arith)
      (cases_Bool (is_from_port a p link))

  source-used : (s l : ℕ) (links : List Link) → AllByRecursion (λ link. TouchesActor link.tail link.head) links → EachInner (IsBalanced q) links → 0 < slice_index level.sources s → 0 < how_many (is_from_source s) links → 0 < tails (at_port (node.Source s) 0) (wires_from level q l links)
  source-used s l [] touch balanced has there = absurd (omega arith)
  source-used s l (link ∷ links) touch balanced has there =
      let t : Port → Bool = at_port (node.Source s) 0 in
      let all = count-append (λ w. w.tail) t (wires_at level q l link.tail link.head link.delay) (wires_from level q (l + 1) links) in ⊎_elim
      (λ (own : is_from_source s link ≡ true).
      let u = here link.tail link.head link.delay own in
      let e = link-uses level q l t (λ i o. (refl, refl, refl, refl)) link.tail link.head link.delay touch.0 balanced.0 in omega arith)
      (λ (other : is_from_source s link ≡ false). let h = rw other at there in let later = source-used s (l + 1) links touch.1 balanced.1 has (omega arith) in omega arith)
      (cases_Bool (is_from_source s link))
    where
      here : (x : Tail) (h : Head) (d : ℕ) → is_from_source s record { tail = x; head = h; delay = d } ≡ true → 0 < using (at_port (node.Source s) 0) (tail_parts level q l x h d)
      here (tail.Source s') h d own =
          let P : ℕ → Type 0 = λ i. 0 < using (at_port (node.Source s) 0) (record { at = record { node = node.Source i; port = 0 }; size = slice_index level.sources i } ∷ []) in
          let mine : P s = let o : (if at_port (node.Source s) 0 record { node = node.Source s; port = 0 } then some (slice_index level.sources s) else 0) ≡ 1 = rw (own-port (node.Source s) 0) (some-one (slice_index level.sources s) has) in omega arith in
          subst P (sym (eqb-true s' s own)) mine
      here (tail.Port a p r) h d own = absurd (cc)

  init-used : (l' l : ℕ) (links : List Link) → AllByRecursion (λ link. TouchesActor link.tail link.head) links → AllByRecursion (λ link. HasSoundDelay link.tail link.head link.delay) links → EachInner (IsBalanced q) links → In (node.Init l') (init_nodes l links) → 0 < tails (at_port (node.Init l') 0) (wires_from level q l links)
  init-used l' l [] touch sound balanced there = absurd there
  init-used l' l (link ∷ links) touch sound balanced there =
      let t : Port → Bool = at_port (node.Init l') 0 in
      let all = count-append (λ w. w.tail) t (wires_at level q l link.tail link.head link.delay) (wires_from level q (l + 1) links) in ⊎_elim
      (λ (i : In (node.Init l') (if link.delay == 0 then [] else node.Init l ∷ [])).
      let u = here link.tail link.head link.delay sound.0 i in
      let e = link-uses level q l t (λ i o. (refl, refl, refl, refl)) link.tail link.head link.delay touch.0 balanced.0 in omega arith)
      (λ (i : In (node.Init l') (init_nodes (l + 1) links)). let later = init-used l' (l + 1) links touch.1 sound.1 balanced.1 i in omega arith)
      (In-split (node.Init l') (if link.delay == 0 then [] else node.Init l ∷ []) (init_nodes (l + 1) links) there)
    where
      delayed : (d : ℕ) → In (node.Init l') (if d == 0 then [] else node.Init l ∷ []) → 0 < using (at_port (node.Init l') 0) (delay_part (node.Init l) d)
      delayed zero i = absurd i
      delayed (suc d) i = ⊎_elim
          (λ (e : node.Init l ≡ node.Init l').
          let P : Node → Type 0 = λ m. (if at_port (node.Init l') 0 record { node = m; port = 0 } then some (suc d) else 0) ≡ 1 in
          let mine : P (node.Init l') = rw (own-port (node.Init l') 0) refl in
          let own : P (node.Init l) = subst P (sym e) mine in omega arith)
          (λ (none : ⊥). absurd none)
          (rw (ne_eqb (suc d) 0 (λ e. omega arith)) at i)

      here : (x : Tail) (h : Head) (d : ℕ) → HasSoundDelay x h d → In (node.Init l') (if d == 0 then [] else node.Init l ∷ []) → 0 < using (at_port (node.Init l') 0) (tail_parts level q l x h d)
      here (tail.Source s) h d none i = absurd (let z = rw (eq-eqb d 0 none) at i in z)
      here (tail.Port a p r) (head.Sink u) d none i = absurd (let z = rw (eq-eqb d 0 none) at i in z)
      here (tail.Port a p r) (head.Port b j c) d sound i = let u = using-append (at_port (node.Init l') 0) (delay_part (node.Init l) d) (firing_parts a p r 0 (slice_index q a)) in let x = delayed d i in omega arith

  pub ports-used : (turns : List Turn) → IsLevel level → IsTurnOrder level q turns → EachInner (IsBalanced q) level.links → (n : ℕ) → n < length (nodes level q turns) → UsesPorts level (node_at (nodes level q turns) n) (ports_from (edges level q turns) n)
  ports-used turns sound order balanced n inside = go (node_at (nodes level q turns) n) refl
    where
      many : (m : Node) → node_at (nodes level q turns) n ≡ m → (p : ℕ) → occurrences p (ports_from (edges level q turns) n) ≡ tails (at_port m p) (wires_from level q 0 level.links)
      many m at p = ap (occurrences p) (from-is (nodes level q turns) n m at (nodes-once level q turns order n inside) (wires level q) (edges-in level q turns sound order)) ∙ occurrences-more (λ w. w.tail) m p (wires_from level q 0 level.links)

      there : (m : Node) → node_at (nodes level q turns) n ≡ m → In m (nodes level q turns)
      there m at = let P : Node → Type 0 = λ x. In x (nodes level q turns) in subst P at (in-at (nodes level q turns) n inside)

      go : (m : Node) → node_at (nodes level q turns) n ≡ m → UsesPorts level m (ports_from (edges level q turns) n)
      go (node.Source s) at = λ has.
          let below : s < length level.sources = ⊎_elim (λ (lt : s < length level.sources). lt) (λ (ge : length level.sources ≤ s). absurd (let z = get_or_past level.sources s 0 ge in omega arith)) (cases_lt s (length level.sources)) in
          let o = sound.sources_at_one s below in
          let u = source-used s 0 level.links sound.actors_between balanced has (omega arith) in
          let e = many (node.Source s) at 0 in omega arith
      go (node.Init l) at = let u = init-used l 0 level.links sound.actors_between sound.delays balanced (init-in level q turns order (node.Init l) (there (node.Init l) at) refl) in let e = many (node.Init l) at 0 in omega arith
      go (node.Firing a k) at = λ p has.
          let w : k < firings a (actors_of turns) = firing-within level q turns order (node.Firing a k) (there (node.Firing a k) at) refl in
          let c = order.order.admissible.counts a in
          let u = firing-used a k p 0 level.links sound.actors_between balanced (omega arith) has in
          let e = many (node.Firing a k) at p in omega arith
      go (node.End l) at = tt
      go (node.Sink t) at = tt
      go (node.Broadcast l) at = tt
      go (node.Fork l i) at = tt
      go (node.Join l j) at = tt
      go (node.Round l) at = tt
