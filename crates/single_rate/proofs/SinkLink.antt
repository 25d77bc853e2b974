-- A link into a sink.
use Rattle.std.proofs.Common.{◌≡◌, ℕ, ◌+◌, ◌-◌, ◌*◌, ◌<◌, ◌≤◌, true, false, ⊎_elim, List, [], ◌∷◌, ◌++◌, length, take, drop, slice_index_or, if◌then◌else◌, refl, ap, sym, ◌∙◌, arith}
use Rattle.std.proofs.lemmas.Bool.{cases_eq, eq-eqb, ne_eqb}
use Rattle.std.proofs.lemmas.List.{take_all, append-nil, length-drop}
use Rattle.sdf_level.specs.Interfaces.{last}
use Rattle.sdf_level.specs.Told.{sent}
use Rattle.sdf_level.specs.declared.node.Node.{Node}
use Rattle.sdf_level.specs.declared.node.Node.TheVariants as node
use Rattle.single_rate.specs.Nodes.{kind, same}
use Rattle.single_rate.specs.Wires.{firing_parts, cut_and_joined, rounded_from, into_sink, total}
use Rattle.single_rate.specs.declared.part.Part.{Part}
use Rattle.single_rate.specs.declared.wire.Wire.{Wire}
use Rattle.single_rate.specs.Flow.{Given, Sends}
use Rattle.single_rate.proofs.Spans.{span}
use Rattle.single_rate.proofs.Picked.{Every, Every-append, carried, picked, picked-append}
use Rattle.single_rate.proofs.Readers.{at_port, reader-gets}
use Rattle.single_rate.proofs.Senders.{writers-send, wires-within}
use Rattle.single_rate.proofs.Given.{total-firings, Plain-firings, sent-at}
use Rattle.single_rate.proofs.Parts.{sends_of, firings-send, length-line}
use Rattle.single_rate.proofs.Outer.{round-heads, round-heads-none, round-tails-none, round-every}
use Rattle.single_rate.proofs.Copied.{heads_of, tails_of, IsApart, IsCopied, Copied, cut_copied, copied-apart_broadcast}

module _ {T : Type 0} (given : Given T) (l a p r m t rate : ℕ) (start : List T) (empty : length start ≡ 0) (rates : (i : ℕ) → i < m → length (slice_index_or (given.made a i) p []) ≡ r) (enough : rate ≤ m * r) where
  abbrev line : List T
  line = start ++ sent (given.made a) p m

  abbrev writers : List Part
  writers = firing_parts a p r 0 m

  abbrev readers : List Part
  readers = record { at = record { node = node.Sink t; port = 0 }; size = rate } ∷ []

  abbrev final : Wire
  final = record { tail = record { node = node.Round l; port = 0 }; head = record { node = node.Sink t; port = 0 }; size = rate; place = m * r - rate }

  abbrev wires : List Wire
  wires = into_sink l a p r m t rate

  abbrev rounding : List Wire
  rounding = rounded_from l a p r 0 0 m ++ final ∷ []

  by_cases : (P : List Wire → Type 0) → (m * r ≡ rate → P (cut_and_joined l writers readers)) → ((m * r ≡ rate → ⊥) → P rounding) → P wires
  by_cases P whole others = ⊎_elim
      (λ (e : m * r ≡ rate). rw (eq-eqb (m * r) rate e) (whole e))
      (λ (f : m * r ≡ rate → ⊥). rw (ne_eqb (m * r) rate f) (others f))
      (cases_eq (m * r) rate)

  pub sink-line : length line ≡ m * r
  sink-line = let e = length-line (given.made a) start p r m 0 empty rates in omega arith

  same_total : m * r ≡ rate → total writers ≡ total readers
  same_total e = let f = total-firings a p r 0 m in omega arith

  pub sink-within : Every (λ w. w.place + w.size ≤ length line) wires
  sink-within = by_cases (Every (λ w. w.place + w.size ≤ length line))
      (λ e. let f : total writers ≡ length line = let g = sink-line in let h = total-firings a p r 0 m in omega arith in
      let P : ℕ → Type 0 = λ x. Every (λ w. w.place + w.size ≤ x) (cut_and_joined l writers readers) in
      let w : P (total writers) = wires-within line l (sends_of given) (λ i p x. tt) (λ i p x. tt) writers readers (same_total e) in rw f at w)
      (λ f. let g = sink-line in Every-append (λ w. w.place + w.size ≤ length line) (rounded_from l a p r 0 0 m) (final ∷ [])
      (round-every line l a p r (λ w. w.place + w.size ≤ length line) 0 0 m (λ i y h at. grind arith)) ((omega arith, tt)))

  pub sink-sends : Every (λ w. Sends given w.tail.node w.tail.port (carried line w)) wires
  sink-sends = by_cases (Every (λ w. Sends given w.tail.node w.tail.port (carried line w)))
      (λ e. writers-send line l (sends_of given) (λ i p x. tt) (λ i p x. tt) writers readers (firings-send given l a p r m 0 m 0 start rates (omega arith) (omega arith)) (same_total e))
      (λ f. Every-append (λ w. Sends given w.tail.node w.tail.port (carried line w)) (rounded_from l a p r 0 0 m) (final ∷ [])
      (round-every line l a p r (λ w. Sends given w.tail.node w.tail.port (carried line w)) 0 0 m (λ i y h at.
      let z : 0 + i ≡ i = omega arith in let e : (y + r) - y ≡ r = omega arith in
      let s : span line y (y + r) ≡ slice_index_or (given.made a i) p [] = sent-at (given.made a) start p r m i y h rates (omega arith) in
      rw z (rw e at s))) ((tt, tt)))

  rounding-heads : (n : Node) → 5 ≤ kind n → heads_of line n rounding ≡ (if same n (node.Round l) then span line 0 (0 + m * r) else [])
  rounding-heads n copies =
      let z : same n (node.Sink t) ≡ false = rw (ne_eqb (kind n) 4 (λ e. omega arith)) refl in
      picked-append line (λ w. same n w.head.node) (rounded_from l a p r 0 0 m) (final ∷ [])
      ∙ rw (z, round-heads line l a p r (λ n'. same n n') 0 0 m) (append-nil (if same n (node.Round l) then span line 0 (0 + m * r) else []))

  rounding-tails : (n : Node) → 5 ≤ kind n → tails_of line n rounding ≡ (if same n (node.Round l) then take rate (drop (m * r - rate) line) else [])
  rounding-tails n copies =
      picked-append line (λ w. same n w.tail.node) (rounded_from l a p r 0 0 m) (final ∷ [])
      ∙ rw (round-tails-none line l a p r (λ n'. same n n') 0 0 m (λ i. rw (ne_eqb (kind n) 2 (λ e. omega arith)) refl)) (append-nil (if same n (node.Round l) then take rate (drop (m * r - rate) line) else []))

  rounding-apart : (n : Node) → 5 ≤ kind n → same n (node.Round l) ≡ false → IsApart line n rounding
  rounding-apart n copies other = (rounding-heads n copies ∙ rw other refl, rounding-tails n copies ∙ rw other refl)

  kept : take rate (drop (m * r - rate) line) ≡ last rate line
  kept = let g = sink-line in let e : length line - rate ≡ m * r - rate = omega arith in rw e (take_all rate (drop (m * r - rate) line) (rw length-drop (omega arith)))

  rounding-copied : IsCopied line (node.Round l) rounding
  rounding-copied =
      let own : same (node.Round l) (node.Round l) ≡ true = rw (eq-eqb l l refl) refl in
      let outs : tails_of line (node.Round l) rounding ≡ last rate line = rounding-tails (node.Round l) (omega arith) ∙ rw own kept in
      let ins : heads_of line (node.Round l) rounding ≡ line = rounding-heads (node.Round l) (omega arith) ∙ (let z : (0 + m * r) - 0 ≡ m * r = omega arith in rw (own, z) (take_all (m * r) line (let g = sink-line in omega arith))) in
      let size : length (last rate line) ≡ rate = let g = sink-line in rw length-drop (omega arith) in
      rw (outs, ins, size) refl

  pub sink-copied : Copied line l wires
  sink-copied = by_cases (Copied line l)
      (λ e. cut_copied line l writers readers (Plain-firings a p r 0 m) ((omega arith, tt)) (same_total e))
      (λ f. record {
        forks = λ l' i. let x = rounding-apart (node.Fork l' i) (omega arith) refl in x.1 ∙ sym (x.0);
        joins = λ l' i. let x = rounding-apart (node.Join l' i) (omega arith) refl in x.1 ∙ sym (x.0);
        broadcast = copied-apart_broadcast line l rounding (rounding-apart (node.Broadcast l) (omega arith) refl);
        round = rounding-copied;
        broadcast_apart = λ l' other. rounding-apart (node.Broadcast l') (omega arith) refl;
        round_apart = λ l' other. rounding-apart (node.Round l') (omega arith) (rw (ne_eqb l' l other) refl);
      })

  -- what arrives at a plain node's port
  pub sink-reads : (n : Node) (port : ℕ) → kind n < 5 → picked line (λ w. at_port n port w.head) wires ≡ (if at_port n port record { node = node.Sink t; port = 0 } then last rate line else [])
  sink-reads n port plain = by_cases (λ ws. picked line (λ w. at_port n port w.head) ws ≡ (if at_port n port record { node = node.Sink t; port = 0 } then last rate line else []))
      (λ e. let g = sink-line in let z : (0 + rate) - 0 ≡ rate = omega arith in let y : length line - rate ≡ 0 = omega arith in
      reader-gets line l (at_port n port) (λ i p. rw (ne_eqb (kind n) 6 (λ e. omega arith)) refl) (λ i p. rw (ne_eqb (kind n) 7 (λ e. omega arith)) refl) writers readers (((λ holds. tt), tt)) (same_total e)
      ∙ append-nil (if at_port n port record { node = node.Sink t; port = 0 } then span line 0 (0 + rate) else [])
      ∙ ap (λ (x : List T). if at_port n port record { node = node.Sink t; port = 0 } then x else []) (rw (z, y) (take_all rate line (omega arith))))
      (λ f. picked-append line (λ w. at_port n port w.head) (rounded_from l a p r 0 0 m) (final ∷ [])
      ∙ rw (round-heads-none line l a p r (at_port n port) 0 0 m (λ i. rw (ne_eqb (kind n) 8 (λ e. omega arith)) refl)) (append-nil (if at_port n port record { node = node.Sink t; port = 0 } then take rate (drop (m * r - rate) line) else []))
      ∙ ap (λ (x : List T). if at_port n port record { node = node.Sink t; port = 0 } then x else []) kept)
