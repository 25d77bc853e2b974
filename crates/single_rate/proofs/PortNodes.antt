-- At how many edges of one link a node has a port.
use Rattle.std.proofs.Common.{◌≡◌, ℕ, zero, suc, ◌+◌, ◌≤◌, Bool, true, false, ◌&&◌, ◌==◌, ⊎_elim, List, [], ◌∷◌, slice_index, refl, sym, arith}
use Rattle.std.proofs.lemmas.Bool.{cases_eq, eq-eqb, ne_eqb}
use Rattle.sdf_level.specs.View.{LevelView}
use Rattle.sdf_level.specs.Invariants.{is_from_source, is_into_sink, is_from_port, is_into_port}
use Rattle.sdf_level.specs.declared.link.Tail.{Tail}
use Rattle.sdf_level.specs.declared.link.Head.{Head}
use Rattle.sdf_level.specs.declared.link.Tail.TheVariants as tail
use Rattle.sdf_level.specs.declared.link.Head.TheVariants as head
use Rattle.sdf_level.specs.declared.node.Node.{Node}
use Rattle.sdf_level.specs.declared.node.Node.TheVariants as node
use Rattle.single_rate.specs.Nodes.{same}
use Rattle.single_rate.specs.Wires.{firing_parts, delay_part}
use Rattle.single_rate.proofs.Copies.{and-false}
use Rattle.single_rate.proofs.Readers.{at_port}
use Rattle.single_rate.proofs.Given.{Fails-firings, Fails-past, turn_fails}
use Rattle.single_rate.proofs.Rising.{tail_parts, head_parts}
use Rattle.single_rate.proofs.PortCounts.{one, one-most, passing, passing-append, passing-none}

pub and-turned : (a b : Bool) → (a && b) ≡ (b && a)
and-turned true true = refl
and-turned true false = refl
and-turned false true = refl
and-turned false false = refl

pub and-true : (a : Bool) → (a && true) ≡ a
and-true true = refl
and-true false = refl

pub eq-turned : (a b : ℕ) → (a == b) ≡ (b == a)
eq-turned a b = ⊎_elim (λ (e : a ≡ b). rw (eq-eqb a b e, eq-eqb b a (sym e)) refl) (λ (n : a ≡ b → ⊥). rw (ne_eqb a b n, ne_eqb b a (λ e. n (sym e))) refl) (cases_eq a b)

-- a part at port 0
part-bound : (n m : Node) (p size : ℕ) → passing (at_port n p) (record { at = record { node = m; port = 0 }; size = size } ∷ []) ≡ one ((p == 0) && same n m)
part-bound n m p size = rw (and-turned (same n m) (p == 0)) (omega arith)

delay-bound : (n m : Node) (p d : ℕ) → passing (at_port n p) (delay_part m d) ≤ one ((p == 0) && same n m)
delay-bound n m p zero = omega arith
delay-bound n m p (suc d) = let e = part-bound n m p (suc d) in omega arith

-- the firings of an actor at a port
firings-once : (b k p j c turn n : ℕ) → passing (at_port (node.Firing b k) p) (firing_parts b j c turn n) ≤ 1
firings-once b k p j c turn zero = omega arith
firings-once b k p j c turn (suc n) = ⊎_elim
    (λ (e : k ≡ turn). let rest = passing-none (at_port (node.Firing b k) p) (firing_parts b j c (turn + 1) n) (Fails-past b k p b j c (turn + 1) n (omega arith)) in let o = one-most (at_port (node.Firing b k) p record { node = node.Firing b turn; port = j }) in omega arith)
    (λ (f : k ≡ turn → ⊥). let later = firings-once b k p j c (turn + 1) n in rw (turn_fails b k p b turn j f) (omega arith))
    (cases_eq k turn)

firings-none : (n : Node) (p a j c turn m : ℕ) → ((i : ℕ) → at_port n p record { node = node.Firing a i; port = j } ≡ false) → passing (at_port n p) (firing_parts a j c turn m) ≡ 0
firings-none n p a j c turn m other = passing-none (at_port n p) (firing_parts a j c turn m) (Fails-firings n p a j c turn m other)

firings-bound : (b' k p b j c n : ℕ) → passing (at_port (node.Firing b' k) p) (firing_parts b j c 0 n) ≤ one ((b == b') && (j == p))
firings-bound b' k p b j c n = ⊎_elim
    (λ (e : b ≡ b'). ⊎_elim
    (λ (f : j ≡ p). let once = firings-once b' k p j c 0 n in let P : ℕ → Type 0 = λ x. passing (at_port (node.Firing b' k) p) (firing_parts x j c 0 n) ≤ one ((x == b') && (j == p)) in let own : P b' = rw (eq-eqb b' b' refl, eq-eqb j p f) once in rw e own)
    (λ (g : j ≡ p → ⊥). let none = firings-none (node.Firing b' k) p b j c 0 n (λ i. rw (ne_eqb p j (λ h. g (sym h))) (and-false ((b' == b) && (k == i)))) in omega arith)
    (cases_eq j p))
    (λ (f : b ≡ b' → ⊥). let none = firings-none (node.Firing b' k) p b j c 0 n (λ i. rw (ne_eqb b' b (λ h. f (sym h))) refl) in omega arith)
    (cases_eq b b')

zero-one : (c : Bool) → one (c && false) ≡ 0
zero-one true = refl
zero-one false = refl

module _ (level : LevelView) (q : List ℕ) (l p : ℕ) where
  abbrev InTo : Node → Tail → Head → ℕ → ℕ
  InTo n x h d = passing (at_port n p) (head_parts level q l x h d)

  abbrev OutOf : Node → Tail → Head → ℕ → ℕ
  OutOf n x h d = passing (at_port n p) (tail_parts level q l x h d)

  -- where no firing is meant, the one reader or writer beside the firings
  into-plain : (n : Node) → ((a i j : ℕ) → at_port n p record { node = node.Firing a i; port = j } ≡ false) → (x : Tail) (b j c d : ℕ) → InTo n x (head.Port b j c) d ≤ one ((p == 0) && same n (node.End l))
  into-plain n other (tail.Source s) b j c d = let f = firings-none n p b j c 0 (slice_index q b) (λ i. other b i j) in omega arith
  into-plain n other (tail.Port a o r) b j c d = let f = firings-none n p b j c 0 (slice_index q b) (λ i. other b i j) in let e = delay-bound n (node.End l) p d in let s = passing-append (at_port n p) (firing_parts b j c 0 (slice_index q b)) (delay_part (node.End l) d) in omega arith

  pub into-end : (l' : ℕ) (x : Tail) (h : Head) (d : ℕ) → InTo (node.End l') x h d ≤ one ((p == 0) && same (node.End l') (node.End l))
  into-end l' x (head.Sink t) d = let e = part-bound (node.End l') (node.Sink t) p (slice_index level.sinks t) in let z = zero-one (p == 0) in omega arith
  into-end l' x (head.Port b j c) d = into-plain (node.End l') (λ a i j. refl) x b j c d

  pub into-sink : (t' : ℕ) (x : Tail) (h : Head) (d : ℕ) → InTo (node.Sink t') x h d ≤ one ((p == 0) && is_into_sink t' record { tail = x; head = h; delay = d })
  into-sink t' x (head.Sink t) d = let e = part-bound (node.Sink t') (node.Sink t) p (slice_index level.sinks t) in let s : one ((p == 0) && same (node.Sink t') (node.Sink t)) ≡ one ((p == 0) && (t == t')) = rw (and-true (t' == t), eq-turned t' t) refl in omega arith
  into-sink t' x (head.Port b j c) d = let e = into-plain (node.Sink t') (λ a i j. refl) x b j c d in let z = zero-one (p == 0) in omega arith

  pub into-source : (s' : ℕ) (x : Tail) (h : Head) (d : ℕ) → InTo (node.Source s') x h d ≡ 0
  into-source s' x (head.Sink t) d = let e = part-bound (node.Source s') (node.Sink t) p (slice_index level.sinks t) in let z = zero-one (p == 0) in omega arith
  into-source s' x (head.Port b j c) d = let e = into-plain (node.Source s') (λ a i j. refl) x b j c d in let z = zero-one (p == 0) in omega arith

  pub into-init : (l' : ℕ) (x : Tail) (h : Head) (d : ℕ) → InTo (node.Init l') x h d ≡ 0
  into-init l' x (head.Sink t) d = let e = part-bound (node.Init l') (node.Sink t) p (slice_index level.sinks t) in let z = zero-one (p == 0) in omega arith
  into-init l' x (head.Port b j c) d = let e = into-plain (node.Init l') (λ a i j. refl) x b j c d in let z = zero-one (p == 0) in omega arith

  pub into-firing : (b' k : ℕ) (x : Tail) (h : Head) (d : ℕ) → InTo (node.Firing b' k) x h d ≤ one (is_into_port b' p record { tail = x; head = h; delay = d })
  into-firing b' k x (head.Sink t) d = let e = part-bound (node.Firing b' k) (node.Sink t) p (slice_index level.sinks t) in let z = zero-one (p == 0) in omega arith
  into-firing b' k (tail.Source s) (head.Port b j c) d = firings-bound b' k p b j c (slice_index q b)
  into-firing b' k (tail.Port a o r) (head.Port b j c) d =
      let f = firings-bound b' k p b j c (slice_index q b) in
      let e = delay-bound (node.Firing b' k) (node.End l) p d in
      let z = zero-one (p == 0) in
      let s = passing-append (at_port (node.Firing b' k) p) (firing_parts b j c 0 (slice_index q b)) (delay_part (node.End l) d) in omega arith

  out-plain : (n : Node) → ((a i j : ℕ) → at_port n p record { node = node.Firing a i; port = j } ≡ false) → (a o r : ℕ) (h : Head) (d : ℕ) → OutOf n (tail.Port a o r) h d ≤ one ((p == 0) && same n (node.Init l))
  out-plain n other a o r (head.Sink t) d = let f = firings-none n p a o r 0 (slice_index q a) (λ i. other a i o) in omega arith
  out-plain n other a o r (head.Port b j c) d = let f = firings-none n p a o r 0 (slice_index q a) (λ i. other a i o) in let e = delay-bound n (node.Init l) p d in let s = passing-append (at_port n p) (delay_part (node.Init l) d) (firing_parts a o r 0 (slice_index q a)) in omega arith

  pub out-init : (l' : ℕ) (x : Tail) (h : Head) (d : ℕ) → OutOf (node.Init l') x h d ≤ one ((p == 0) && same (node.Init l') (node.Init l))
  out-init l' (tail.Source s) h d = let e = part-bound (node.Init l') (node.Source s) p (slice_index level.sources s) in let z = zero-one (p == 0) in omega arith
  out-init l' (tail.Port a o r) h d = out-plain (node.Init l') (λ a i j. refl) a o r h d

  pub out-source : (s' : ℕ) (x : Tail) (h : Head) (d : ℕ) → OutOf (node.Source s') x h d ≤ one ((p == 0) && is_from_source s' record { tail = x; head = h; delay = d })
  out-source s' (tail.Source s) h d = let e = part-bound (node.Source s') (node.Source s) p (slice_index level.sources s) in let t : one ((p == 0) && same (node.Source s') (node.Source s)) ≡ one ((p == 0) && (s == s')) = rw (and-true (s' == s), eq-turned s' s) refl in omega arith
  out-source s' (tail.Port a o r) h d = let e = out-plain (node.Source s') (λ a i j. refl) a o r h d in let z = zero-one (p == 0) in omega arith

  pub out-end : (l' : ℕ) (x : Tail) (h : Head) (d : ℕ) → OutOf (node.End l') x h d ≡ 0
  out-end l' (tail.Source s) h d = let e = part-bound (node.End l') (node.Source s) p (slice_index level.sources s) in let z = zero-one (p == 0) in omega arith
  out-end l' (tail.Port a o r) h d = let e = out-plain (node.End l') (λ a i j. refl) a o r h d in let z = zero-one (p == 0) in omega arith

  pub out-sink : (t : ℕ) (x : Tail) (h : Head) (d : ℕ) → OutOf (node.Sink t) x h d ≡ 0
  out-sink t (tail.Source s) h d = let e = part-bound (node.Sink t) (node.Source s) p (slice_index level.sources s) in let z = zero-one (p == 0) in omega arith
  out-sink t (tail.Port a o r) h d = let e = out-plain (node.Sink t) (λ a i j. refl) a o r h d in let z = zero-one (p == 0) in omega arith

  pub out-firing : (a' k : ℕ) (x : Tail) (h : Head) (d : ℕ) → OutOf (node.Firing a' k) x h d ≤ one (is_from_port a' p record { tail = x; head = h; delay = d })
  out-firing a' k (tail.Source s) h d = let e = part-bound (node.Firing a' k) (node.Source s) p (slice_index level.sources s) in let z = zero-one (p == 0) in omega arith
  out-firing a' k (tail.Port a o r) (head.Sink t) d = firings-bound a' k p a o r (slice_index q a)
  out-firing a' k (tail.Port a o r) (head.Port b j c) d =
      let f = firings-bound a' k p a o r (slice_index q a) in
      let e = delay-bound (node.Firing a' k) (node.Init l) p d in
      let z = zero-one (p == 0) in
      let s = passing-append (at_port (node.Firing a' k) p) (delay_part (node.Init l) d) (firing_parts a o r 0 (slice_index q a)) in omega arith
