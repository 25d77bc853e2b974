-- The ports of the nodes that copy, at the edges of one link.
use Rattle.std.proofs.Common.{◌≡◌, ℕ, zero, suc, ◌+◌, ◌-◌, ◌*◌, ◌<◌, ◌≤◌, Bool, true, false, ◌&&◌, ◌==◌, ⊎_elim, List, [], ◌∷◌, ◌++◌, slice_index, refl, ◌∙◌, arith}
use Rattle.std.proofs.lemmas.Bool.{cases_Bool, cases_eq, cases_lt, eq-eqb, ne_eqb, lt-ltb, le-ltb}
use Rattle.std.proofs.lemmas.List.{append-nil}
use Rattle.sdf_level.specs.View.{LevelView}
use Rattle.sdf_level.specs.declared.link.Tail.{Tail}
use Rattle.sdf_level.specs.declared.link.Head.{Head}
use Rattle.sdf_level.specs.declared.link.Tail.TheVariants as tail
use Rattle.sdf_level.specs.declared.link.Head.TheVariants as head
use Rattle.sdf_level.specs.declared.node.Node.{Node}
use Rattle.sdf_level.specs.declared.node.Node.TheVariants as node
use Rattle.single_rate.specs.declared.part.Port.{Port}
use Rattle.single_rate.specs.declared.part.Part.{Part}
use Rattle.single_rate.specs.declared.wire.Wire.{Wire}
use Rattle.single_rate.specs.Nodes.{kind, subject, same}
use Rattle.single_rate.specs.Ports.{up_from, AreCounted}
use Rattle.single_rate.specs.Wires.{pieces, into_forks, out_of_joins, cut_and_joined, firing_parts, delay_part, broadcast_to, rounded_from, wires_at}
use Rattle.single_rate.proofs.Copies.{Fails, Plain, and-false, same-plain, plain-fails}
use Rattle.single_rate.proofs.Readers.{at_port}
use Rattle.single_rate.proofs.Given.{Plain-append, Plain-firings, Plain-delay}
use Rattle.single_rate.proofs.Rising.{tail_parts, head_parts}
use Rattle.single_rate.proofs.PortCounts.{one, count-append, heads, tails, passing, passing-none, cut-heads, cut-tails, no-fork-heads, no-join-tails}
use Rattle.single_rate.proofs.PortOrders.{ports, ports-append, none-counted, counted, fork-ports, join-ports}
use Rattle.single_rate.proofs.PortLinks.{Skips, broadcast-heads, broadcast-tails, round-heads, round-tails, by_source, by_sink, link-heads, link-tails}
use Rattle.single_rate.proofs.PortNodes.{and-turned, and-true}

pub fails-at : (n : Node) (p : ℕ) → 5 ≤ kind n → (parts : List Part) → Plain parts → Fails (at_port n p) parts
fails-at n p copies [] plain = tt
fails-at n p copies (part ∷ parts) plain = ((rw (same-plain n part.at.node copies plain.0) refl), fails-at n p copies parts plain.1)

-- a Fork has one edge where edges enter it, and a Join one where they leave
fork-past : (l' i' p l : ℕ) (readers : List Part) (a i : ℕ) (ws : List Part) → i' < i → heads (at_port (node.Fork l' i') p) (into_forks l readers a i ws) ≡ 0
fork-past l' i' p l readers a i [] past = refl
fork-past l' i' p l readers a i (w ∷ ws) past = let later = fork-past l' i' p l readers (a + w.size) (i + 1) ws (omega arith) in ⊎_elim
    (λ (lt : 1 < pieces a (a + w.size) 0 readers). rw (lt-ltb 1 (pieces a (a + w.size) 0 readers) lt, ne_eqb i' i (λ e. omega arith), and-false (l' == l)) (omega arith))
    (λ (ge : pieces a (a + w.size) 0 readers ≤ 1). rw (le-ltb 1 (pieces a (a + w.size) 0 readers) ge) later)
    (cases_lt 1 (pieces a (a + w.size) 0 readers))

fork-once : (l' i' p l : ℕ) (readers : List Part) (a i : ℕ) (ws : List Part) → heads (at_port (node.Fork l' i') p) (into_forks l readers a i ws) ≤ one ((p == 0) && (l' == l))
fork-once l' i' p l readers a i [] = omega arith
fork-once l' i' p l readers a i (w ∷ ws) = let later = fork-once l' i' p l readers (a + w.size) (i + 1) ws in ⊎_elim
    (λ (lt : 1 < pieces a (a + w.size) 0 readers). ⊎_elim
    (λ (e : i' ≡ i). let past = fork-past l' i' p l readers (a + w.size) (i + 1) ws (omega arith) in rw (lt-ltb 1 (pieces a (a + w.size) 0 readers) lt, eq-eqb i' i e, and-true (l' == l), and-turned (l' == l) (p == 0)) (omega arith))
    (λ (n : i' ≡ i → ⊥). rw (lt-ltb 1 (pieces a (a + w.size) 0 readers) lt, ne_eqb i' i n, and-false (l' == l)) (omega arith))
    (cases_eq i' i))
    (λ (ge : pieces a (a + w.size) 0 readers ≤ 1). rw (le-ltb 1 (pieces a (a + w.size) 0 readers) ge) later)
    (cases_lt 1 (pieces a (a + w.size) 0 readers))

join-past : (l' i' p l : ℕ) (writers : List Part) (b j : ℕ) (rs : List Part) → i' < j → tails (at_port (node.Join l' i') p) (out_of_joins l writers b j rs) ≡ 0
join-past l' i' p l writers b j [] past = refl
join-past l' i' p l writers b j (r ∷ rs) past = let later = join-past l' i' p l writers (b + r.size) (j + 1) rs (omega arith) in ⊎_elim
    (λ (lt : 1 < pieces b (b + r.size) 0 writers). rw (lt-ltb 1 (pieces b (b + r.size) 0 writers) lt, ne_eqb i' j (λ e. omega arith), and-false (l' == l)) (omega arith))
    (λ (ge : pieces b (b + r.size) 0 writers ≤ 1). rw (le-ltb 1 (pieces b (b + r.size) 0 writers) ge) later)
    (cases_lt 1 (pieces b (b + r.size) 0 writers))

join-once : (l' i' p l : ℕ) (writers : List Part) (b j : ℕ) (rs : List Part) → tails (at_port (node.Join l' i') p) (out_of_joins l writers b j rs) ≤ one ((p == 0) && (l' == l))
join-once l' i' p l writers b j [] = omega arith
join-once l' i' p l writers b j (r ∷ rs) = let later = join-once l' i' p l writers (b + r.size) (j + 1) rs in ⊎_elim
    (λ (lt : 1 < pieces b (b + r.size) 0 writers). ⊎_elim
    (λ (e : i' ≡ j). let past = join-past l' i' p l writers (b + r.size) (j + 1) rs (omega arith) in rw (lt-ltb 1 (pieces b (b + r.size) 0 writers) lt, eq-eqb i' j e, and-true (l' == l), and-turned (l' == l) (p == 0)) (omega arith))
    (λ (n : i' ≡ j → ⊥). rw (lt-ltb 1 (pieces b (b + r.size) 0 writers) lt, ne_eqb i' j n, and-false (l' == l)) (omega arith))
    (cases_eq i' j))
    (λ (ge : pieces b (b + r.size) 0 writers ≤ 1). rw (le-ltb 1 (pieces b (b + r.size) 0 writers) ge) later)
    (cases_lt 1 (pieces b (b + r.size) 0 writers))

-- a node that copies has nothing at the edges of another link
skips-other : (n : Node) (l : ℕ) → (subject n ≡ l → ⊥) → Skips (λ p. same n p.node) l
skips-other n l other i p = let f = ne_eqb (subject n) l other in (rw (f, and-false (kind n == 6)) refl, rw (f, and-false (kind n == 7)) refl, rw (f, and-false (kind n == 5)) refl, rw (f, and-false (kind n == 8)) refl)

broadcast-ports : (t : Port → Bool) (l b j c k x n : ℕ) → ((i : ℕ) → t record { node = node.Broadcast l; port = i } ≡ true) → ports (λ w. w.tail) t (broadcast_to l b j c k x n) ≡ up_from k n
broadcast-ports t l b j c k x zero own = refl
broadcast-ports t l b j c k x (suc n) own = rw (own k, broadcast-ports t l b j c (k + 1) (x + c) n own) refl

round-ports : (t : Port → Bool) (l a o r k x m : ℕ) → ((i : ℕ) → t record { node = node.Round l; port = i } ≡ true) → ports (λ w. w.head) t (rounded_from l a o r k x m) ≡ up_from k m
round-ports t l a o r k x zero own = refl
round-ports t l a o r k x (suc m) own = rw (own k, round-ports t l a o r (k + 1) (x + r) m own) refl

module _ (level : LevelView) (q : List ℕ) (l : ℕ) where
  plain-heads : (x : Tail) (h : Head) (d : ℕ) → Plain (head_parts level q l x h d)
  plain-heads x (head.Sink t) d = (omega arith, tt)
  plain-heads (tail.Source s) (head.Port b j c) d = Plain-firings b j c 0 (slice_index q b)
  plain-heads (tail.Port a o r) (head.Port b j c) d = Plain-append (firing_parts b j c 0 (slice_index q b)) (delay_part (node.End l) d) (Plain-firings b j c 0 (slice_index q b)) (Plain-delay (node.End l) d (omega arith))

  plain-tails : (x : Tail) (h : Head) (d : ℕ) → Plain (tail_parts level q l x h d)
  plain-tails (tail.Source s) h d = (omega arith, tt)
  plain-tails (tail.Port a o r) (head.Sink t) d = Plain-firings a o r 0 (slice_index q a)
  plain-tails (tail.Port a o r) (head.Port b j c) d = Plain-append (delay_part (node.Init l) d) (firing_parts a o r 0 (slice_index q a)) (Plain-delay (node.Init l) d (omega arith)) (Plain-firings a o r 0 (slice_index q a))

  fails-node : (n : Node) → 5 ≤ kind n → (parts : List Part) → Plain parts → passing (λ p. same n p.node) parts ≡ 0
  fails-node n copies parts plain = passing-none (λ p. same n p.node) parts (plain-fails n copies parts plain)

  pub other-heads : (n : Node) → 5 ≤ kind n → (subject n ≡ l → ⊥) → (x : Tail) (h : Head) (d : ℕ) → heads (λ p. same n p.node) (wires_at level q l x h d) ≡ 0
  other-heads n copies other x h d = let b = link-heads level q l (λ p. same n p.node) (skips-other n l other) x h d in let f = fails-node n copies (head_parts level q l x h d) (plain-heads x h d) in omega arith

  pub other-tails : (n : Node) → 5 ≤ kind n → (subject n ≡ l → ⊥) → (x : Tail) (h : Head) (d : ℕ) → tails (λ p. same n p.node) (wires_at level q l x h d) ≡ 0
  other-tails n copies other x h d = let b = link-tails level q l (λ p. same n p.node) (skips-other n l other) x h d in let f = fails-node n copies (tail_parts level q l x h d) (plain-tails x h d) in omega arith

  -- what a link's edges have, they have in each of the ways in which a link is expanded
  by_case : (P : List Wire → Type 0) → P [] → ((writers readers : List Part) → Plain writers → Plain readers → P (cut_and_joined l writers readers)) →
      ((s rate b j c n : ℕ) → P (record { tail = record { node = node.Source s; port = 0 }; head = record { node = node.Broadcast l; port = 0 }; size = rate; place = 0 } ∷ broadcast_to l b j c 0 0 n)) →
      ((a o r m t rate place : ℕ) → P (rounded_from l a o r 0 0 m ++ record { tail = record { node = node.Round l; port = 0 }; head = record { node = node.Sink t; port = 0 }; size = rate; place = place } ∷ [])) →
      (x : Tail) (h : Head) (d : ℕ) → P (wires_at level q l x h d)
  by_case P none cut repeated kept (tail.Source s) (head.Sink t) d = none
  by_case P none cut repeated kept (tail.Source s) (head.Port b j c) d = by_source level q l P s b j c d
      (cut (tail_parts level q l (tail.Source s) (head.Port b j c) d) (firing_parts b j c 0 (slice_index q b)) (omega arith, tt) (Plain-firings b j c 0 (slice_index q b)))
      (repeated s (slice_index level.sources s) b j c (slice_index q b))
  by_case P none cut repeated kept (tail.Port a o r) (head.Sink t) d = by_sink level q l P a o r t d
      (cut (firing_parts a o r 0 (slice_index q a)) (head_parts level q l (tail.Port a o r) (head.Sink t) d) (Plain-firings a o r 0 (slice_index q a)) (omega arith, tt))
      (kept a o r (slice_index q a) t (slice_index level.sinks t) (slice_index q a * r - slice_index level.sinks t))
  by_case P none cut repeated kept (tail.Port a o r) (head.Port b j c) d = cut (tail_parts level q l (tail.Port a o r) (head.Port b j c) d) (head_parts level q l (tail.Port a o r) (head.Port b j c) d) (plain-tails (tail.Port a o r) (head.Port b j c) d) (plain-heads (tail.Port a o r) (head.Port b j c) d)

  pub fork-heads : (l' i' p : ℕ) (x : Tail) (h : Head) (d : ℕ) → heads (at_port (node.Fork l' i') p) (wires_at level q l x h d) ≤ one ((p == 0) && (l' == l))
  fork-heads l' i' p = let t : Port → Bool = at_port (node.Fork l' i') p in
      by_case (λ ws. heads t ws ≤ one ((p == 0) && (l' == l))) (omega arith)
      (λ writers readers of_writers of_readers. let c = cut-heads l t (λ j p. refl) writers readers in let f = fork-once l' i' p l readers 0 0 writers in let n = passing-none t readers (fails-at (node.Fork l' i') p (omega arith) readers of_readers) in omega arith)
      (λ s rate b j c n. let e = broadcast-heads l b j c t 0 0 n in let f = passing-none t (firing_parts b j c 0 n) (fails-at (node.Fork l' i') p (omega arith) (firing_parts b j c 0 n) (Plain-firings b j c 0 n)) in omega arith)
      (λ a o r m u rate place. let e = round-heads l a o r t (λ i. refl) 0 0 m in let f = count-append (λ w. w.head) t (rounded_from l a o r 0 0 m) (record { tail = record { node = node.Round l; port = 0 }; head = record { node = node.Sink u; port = 0 }; size = rate; place = place } ∷ []) in omega arith)

  pub broadcast-into : (l' p : ℕ) (x : Tail) (h : Head) (d : ℕ) → heads (at_port (node.Broadcast l') p) (wires_at level q l x h d) ≤ one ((p == 0) && (l' == l))
  broadcast-into l' p = let t : Port → Bool = at_port (node.Broadcast l') p in
      by_case (λ ws. heads t ws ≤ one ((p == 0) && (l' == l))) (omega arith)
      (λ writers readers of_writers of_readers. let c = cut-heads l t (λ j p. refl) writers readers in let f = no-fork-heads l t (λ i p. refl) readers 0 0 writers in let n = passing-none t readers (fails-at (node.Broadcast l') p (omega arith) readers of_readers) in omega arith)
      (λ s rate b j c n. let e = broadcast-heads l b j c t 0 0 n in let f = passing-none t (firing_parts b j c 0 n) (fails-at (node.Broadcast l') p (omega arith) (firing_parts b j c 0 n) (Plain-firings b j c 0 n)) in rw (and-true (l' == l), and-turned (l' == l) (p == 0)) (omega arith))
      (λ a o r m u rate place. let e = round-heads l a o r t (λ i. refl) 0 0 m in let f = count-append (λ w. w.head) t (rounded_from l a o r 0 0 m) (record { tail = record { node = node.Round l; port = 0 }; head = record { node = node.Sink u; port = 0 }; size = rate; place = place } ∷ []) in omega arith)

  pub join-tails : (l' i' p : ℕ) (x : Tail) (h : Head) (d : ℕ) → tails (at_port (node.Join l' i') p) (wires_at level q l x h d) ≤ one ((p == 0) && (l' == l))
  join-tails l' i' p = let t : Port → Bool = at_port (node.Join l' i') p in
      by_case (λ ws. tails t ws ≤ one ((p == 0) && (l' == l))) (omega arith)
      (λ writers readers of_writers of_readers. let c = cut-tails l t (λ i p. refl) writers readers in let f = join-once l' i' p l writers 0 0 readers in let n = passing-none t writers (fails-at (node.Join l' i') p (omega arith) writers of_writers) in omega arith)
      (λ s rate b j c n. let e = broadcast-tails l b j c t (λ i. refl) 0 0 n in omega arith)
      (λ a o r m u rate place. let e = round-tails l a o r t 0 0 m in let n = passing-none t (firing_parts a o r 0 m) (fails-at (node.Join l' i') p (omega arith) (firing_parts a o r 0 m) (Plain-firings a o r 0 m)) in
      let f = count-append (λ w. w.tail) t (rounded_from l a o r 0 0 m) (record { tail = record { node = node.Round l; port = 0 }; head = record { node = node.Sink u; port = 0 }; size = rate; place = place } ∷ []) in omega arith)

  pub round-out : (l' p : ℕ) (x : Tail) (h : Head) (d : ℕ) → tails (at_port (node.Round l') p) (wires_at level q l x h d) ≤ one ((p == 0) && (l' == l))
  round-out l' p = let t : Port → Bool = at_port (node.Round l') p in
      by_case (λ ws. tails t ws ≤ one ((p == 0) && (l' == l))) (omega arith)
      (λ writers readers of_writers of_readers. let c = cut-tails l t (λ i p. refl) writers readers in let f = no-join-tails l t (λ i p. refl) writers 0 0 readers in let n = passing-none t writers (fails-at (node.Round l') p (omega arith) writers of_writers) in omega arith)
      (λ s rate b j c n. let e = broadcast-tails l b j c t (λ i. refl) 0 0 n in omega arith)
      (λ a o r m u rate place. let e = round-tails l a o r t 0 0 m in let n = passing-none t (firing_parts a o r 0 m) (fails-at (node.Round l') p (omega arith) (firing_parts a o r 0 m) (Plain-firings a o r 0 m)) in
      let last : List Wire = record { tail = record { node = node.Round l; port = 0 }; head = record { node = node.Sink u; port = 0 }; size = rate; place = place } ∷ [] in
      let f = count-append (λ w. w.tail) t (rounded_from l a o r 0 0 m) last in
      let g : tails t last ≡ one ((p == 0) && (l' == l)) = rw (and-true (l' == l), and-turned (l' == l) (p == 0)) (omega arith) in omega arith)

  -- the ports that are counted
  pub fork-out : (l' i' : ℕ) (x : Tail) (h : Head) (d : ℕ) → AreCounted (ports (λ w. w.tail) (λ p. same (node.Fork l' i') p.node) (wires_at level q l x h d))
  fork-out l' i' = let t : Port → Bool = λ p. same (node.Fork l' i') p.node in
      by_case (λ ws. AreCounted (ports (λ w. w.tail) t ws)) refl
      (λ writers readers of_writers of_readers. fork-ports l l' i' writers readers of_writers)
      (λ s rate b j c n. rw (none-counted (λ w. w.tail) t (broadcast_to l b j c 0 0 n) (broadcast-tails l b j c t (λ i. refl) 0 0 n)) refl)
      (λ a o r m u rate place. rw (ports-append (λ w. w.tail) t (rounded_from l a o r 0 0 m) (record { tail = record { node = node.Round l; port = 0 }; head = record { node = node.Sink u; port = 0 }; size = rate; place = place } ∷ []), none-counted (λ w. w.tail) t (rounded_from l a o r 0 0 m) (round-tails l a o r t 0 0 m ∙ fails-node (node.Fork l' i') (omega arith) (firing_parts a o r 0 m) (Plain-firings a o r 0 m))) refl)

  pub join-into : (l' i' : ℕ) (x : Tail) (h : Head) (d : ℕ) → AreCounted (ports (λ w. w.head) (λ p. same (node.Join l' i') p.node) (wires_at level q l x h d))
  join-into l' i' = let t : Port → Bool = λ p. same (node.Join l' i') p.node in
      by_case (λ ws. AreCounted (ports (λ w. w.head) t ws)) refl
      (λ writers readers of_writers of_readers. join-ports l l' i' writers readers of_writers of_readers)
      (λ s rate b j c n. rw (none-counted (λ w. w.head) t (broadcast_to l b j c 0 0 n) (broadcast-heads l b j c t 0 0 n ∙ fails-node (node.Join l' i') (omega arith) (firing_parts b j c 0 n) (Plain-firings b j c 0 n))) refl)
      (λ a o r m u rate place. rw (ports-append (λ w. w.head) t (rounded_from l a o r 0 0 m) (record { tail = record { node = node.Round l; port = 0 }; head = record { node = node.Sink u; port = 0 }; size = rate; place = place } ∷ []), none-counted (λ w. w.head) t (rounded_from l a o r 0 0 m) (round-heads l a o r t (λ i. refl) 0 0 m)) refl)

  pub broadcast-out : (l' : ℕ) (x : Tail) (h : Head) (d : ℕ) → AreCounted (ports (λ w. w.tail) (λ p. same (node.Broadcast l') p.node) (wires_at level q l x h d))
  broadcast-out l' = let t : Port → Bool = λ p. same (node.Broadcast l') p.node in
      by_case (λ ws. AreCounted (ports (λ w. w.tail) t ws)) refl
      (λ writers readers of_writers of_readers. rw (none-counted (λ w. w.tail) t (cut_and_joined l writers readers) (let c = cut-tails l t (λ i p. refl) writers readers in let f = no-join-tails l t (λ i p. refl) writers 0 0 readers in let n = fails-node (node.Broadcast l') (omega arith) writers of_writers in omega arith)) refl)
      (λ s rate b j c n. ⊎_elim
      (λ (own : same (node.Broadcast l') (node.Broadcast l) ≡ true). counted (ports (λ w. w.tail) t (broadcast_to l b j c 0 0 n)) n (broadcast-ports t l b j c 0 0 n (λ i. own)))
      (λ (other : same (node.Broadcast l') (node.Broadcast l) ≡ false). rw (none-counted (λ w. w.tail) t (broadcast_to l b j c 0 0 n) (broadcast-tails l b j c t (λ i. other) 0 0 n)) refl)
      (cases_Bool (same (node.Broadcast l') (node.Broadcast l))))
      (λ a o r m u rate place. rw (ports-append (λ w. w.tail) t (rounded_from l a o r 0 0 m) (record { tail = record { node = node.Round l; port = 0 }; head = record { node = node.Sink u; port = 0 }; size = rate; place = place } ∷ []), none-counted (λ w. w.tail) t (rounded_from l a o r 0 0 m) (round-tails l a o r t 0 0 m ∙ fails-node (node.Broadcast l') (omega arith) (firing_parts a o r 0 m) (Plain-firings a o r 0 m))) refl)

  pub round-into : (l' : ℕ) (x : Tail) (h : Head) (d : ℕ) → AreCounted (ports (λ w. w.head) (λ p. same (node.Round l') p.node) (wires_at level q l x h d))
  round-into l' = let t : Port → Bool = λ p. same (node.Round l') p.node in
      by_case (λ ws. AreCounted (ports (λ w. w.head) t ws)) refl
      (λ writers readers of_writers of_readers. rw (none-counted (λ w. w.head) t (cut_and_joined l writers readers) (let c = cut-heads l t (λ j p. refl) writers readers in let f = no-fork-heads l t (λ i p. refl) readers 0 0 writers in let n = fails-node (node.Round l') (omega arith) readers of_readers in omega arith)) refl)
      (λ s rate b j c n. rw (none-counted (λ w. w.head) t (broadcast_to l b j c 0 0 n) (broadcast-heads l b j c t 0 0 n ∙ fails-node (node.Round l') (omega arith) (firing_parts b j c 0 n) (Plain-firings b j c 0 n))) refl)
      (λ a o r m u rate place.
      let rounds : List Wire = rounded_from l a o r 0 0 m in
      let last : List Wire = record { tail = record { node = node.Round l; port = 0 }; head = record { node = node.Sink u; port = 0 }; size = rate; place = place } ∷ [] in
      let all : ports (λ w. w.head) t (rounds ++ last) ≡ ports (λ w. w.head) t rounds = ports-append (λ w. w.head) t rounds last ∙ append-nil (ports (λ w. w.head) t rounds) in
      ⊎_elim
      (λ (own : same (node.Round l') (node.Round l) ≡ true). counted (ports (λ w. w.head) t (rounds ++ last)) m (all ∙ round-ports t l a o r 0 0 m (λ i. own)))
      (λ (other : same (node.Round l') (node.Round l) ≡ false). counted (ports (λ w. w.head) t (rounds ++ last)) 0 (all ∙ none-counted (λ w. w.head) t rounds (round-heads l a o r t (λ i. other) 0 0 m)))
      (cases_Bool (same (node.Round l') (node.Round l))))
