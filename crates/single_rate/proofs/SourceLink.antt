-- A link from a source.
use Rattle.std.proofs.Common.{◌≡◌, ℕ, ◌+◌, ◌-◌, ◌*◌, ◌<◌, ◌≤◌, true, false, ◌&&◌, ◌==◌, ⊎_elim, List, [], ◌∷◌, length, take, slice_index_or, if◌then◌else◌, refl, ap, sym, ◌∙◌, arith}
use Rattle.std.proofs.lemmas.Bool.{cases_eq, cases_lt, eq-eqb, ne_eqb}
use Rattle.std.proofs.lemmas.List.{take_all, append-nil}
use Rattle.sdf_level.specs.Interfaces.{repeated}
use Rattle.sdf_level.specs.declared.node.Node.{Node}
use Rattle.sdf_level.specs.declared.node.Node.TheVariants as node
use Rattle.single_rate.specs.Nodes.{kind, same}
use Rattle.single_rate.specs.Wires.{firing_parts, cut_and_joined, broadcast_to, from_source, total}
use Rattle.single_rate.specs.declared.part.Part.{Part}
use Rattle.single_rate.specs.declared.wire.Wire.{Wire}
use Rattle.single_rate.specs.Flow.{Given, Sends}
use Rattle.single_rate.proofs.Spans.{span}
use Rattle.single_rate.proofs.Picked.{Every, carried, picked}
use Rattle.single_rate.proofs.Copies.{Fails}
use Rattle.single_rate.proofs.Readers.{at_port, ranges, ranges-none, reader-gets, Single}
use Rattle.single_rate.proofs.Senders.{writers-send, wires-within}
use Rattle.single_rate.proofs.Given.{total-firings, Plain-firings, Fails-firings, Single-firings, Single-none}
use Rattle.single_rate.proofs.Parts.{sends_of, firing-ranges}
use Rattle.single_rate.proofs.Repeats.{length-repeated, repeated-first, repeated-window}
use Rattle.single_rate.proofs.Outer.{broadcast-tails, broadcast-heads, broadcast-every, broadcast-none}
use Rattle.single_rate.proofs.Copied.{heads_of, tails_of, IsApart, IsCopied, Copied, cut_copied, copied-apart_round}

module _ {T : Type 0} (given : Given T) (l s rate b j c n : ℕ) (long : length (slice_index_or given.sources s []) ≡ rate) (enough : rate ≤ n * c) (agree : rate ≡ 0 → c ≡ 0) where
  abbrev source : List T
  source = slice_index_or given.sources s []

  abbrev line : List T
  line = repeated source 0 (n * c)

  abbrev writers : List Part
  writers = record { at = record { node = node.Source s; port = 0 }; size = rate } ∷ []

  abbrev readers : List Part
  readers = firing_parts b j c 0 n

  abbrev first : Wire
  first = record { tail = record { node = node.Source s; port = 0 }; head = record { node = node.Broadcast l; port = 0 }; size = rate; place = 0 }

  abbrev wires : List Wire
  wires = from_source l s rate b j c n

  abbrev repeating : List Wire
  repeating = first ∷ broadcast_to l b j c 0 0 n

  by_cases : (P : List Wire → Type 0) → (n * c ≡ rate → P (cut_and_joined l writers readers)) → ((n * c ≡ rate → ⊥) → P repeating) → P wires
  by_cases P whole others = ⊎_elim
      (λ (e : n * c ≡ rate). rw (eq-eqb (n * c) rate e) (whole e))
      (λ (f : n * c ≡ rate → ⊥). rw (ne_eqb (n * c) rate f) (others f))
      (cases_eq (n * c) rate)

  pub source-line : length line ≡ n * c
  source-line = ⊎_elim
      (λ (some : 0 < length source). length-repeated source 0 (n * c) some)
      (λ (none : length source ≤ 0). let z : c ≡ 0 = agree (omega arith) in let e : n * c ≡ 0 = rw z (omega arith) in rw e refl)
      (cases_lt 0 (length source))

  same_total : n * c ≡ rate → total writers ≡ total readers
  same_total e = let f = total-firings b j c 0 n in omega arith

  pub source-within : Every (λ w. w.place + w.size ≤ length line) wires
  source-within = by_cases (Every (λ w. w.place + w.size ≤ length line))
      (λ e. let f : total writers ≡ length line = let g = source-line in omega arith in
      let P : ℕ → Type 0 = λ x. Every (λ w. w.place + w.size ≤ x) (cut_and_joined l writers readers) in
      let w : P (total writers) = wires-within line l (sends_of given) (λ i p x. tt) (λ i p x. tt) writers readers (same_total e) in rw f at w)
      (λ f. let g = source-line in (omega arith, broadcast-every line l b j c (λ w. w.place + w.size ≤ length line) 0 0 n (λ i y h. omega arith)))

  pub source-sends : Every (λ w. Sends given w.tail.node w.tail.port (carried line w)) wires
  source-sends = by_cases (Every (λ w. Sends given w.tail.node w.tail.port (carried line w)))
      (λ e. writers-send line l (sends_of given) (λ i p x. tt) (λ i p x. tt) writers readers ((let z : (0 + rate) - 0 ≡ rate = omega arith in rw z (repeated-first source rate (n * c) long enough), tt)) (same_total e))
      (λ f. (repeated-first source rate (n * c) long enough, broadcast-every line l b j c (λ w. Sends given w.tail.node w.tail.port (carried line w)) 0 0 n (λ i y h. tt)))

  repeating-heads : (m : Node) → 5 ≤ kind m → heads_of line m repeating ≡ (if same m (node.Broadcast l) then take rate line else [])
  repeating-heads m copies = rw (broadcast-none line l b j c (λ p. same m p.node) 0 0 n (λ i. rw (ne_eqb (kind m) 2 (λ e. omega arith)) refl)) (append-nil (if same m (node.Broadcast l) then take rate line else []))

  repeating-tails : (m : Node) → 5 ≤ kind m → tails_of line m repeating ≡ (if same m (node.Broadcast l) then span line 0 (0 + n * c) else [])
  repeating-tails m copies = let z : same m (node.Source s) ≡ false = rw (ne_eqb (kind m) 0 (λ e. omega arith)) refl in rw z (broadcast-tails line l b j c (λ m'. same m m') 0 0 n)

  repeating-apart : (m : Node) → 5 ≤ kind m → same m (node.Broadcast l) ≡ false → IsApart line m repeating
  repeating-apart m copies other = (repeating-heads m copies ∙ rw other refl, repeating-tails m copies ∙ rw other refl)

  repeating-copied : IsCopied line (node.Broadcast l) repeating
  repeating-copied =
      let own : same (node.Broadcast l) (node.Broadcast l) ≡ true = rw (eq-eqb l l refl) refl in
      let outs : tails_of line (node.Broadcast l) repeating ≡ line = repeating-tails (node.Broadcast l) (omega arith) ∙ (let z : (0 + n * c) - 0 ≡ n * c = omega arith in rw (own, z) (take_all (n * c) line (let g = source-line in omega arith))) in
      let ins : heads_of line (node.Broadcast l) repeating ≡ source = repeating-heads (node.Broadcast l) (omega arith) ∙ rw own (repeated-first source rate (n * c) long enough) in
      rw (outs, ins, source-line) refl

  pub source-copied : Copied line l wires
  source-copied = by_cases (Copied line l)
      (λ e. cut_copied line l writers readers ((omega arith, tt)) (Plain-firings b j c 0 n) (same_total e))
      (λ f. record {
        forks = λ l' i. let a = repeating-apart (node.Fork l' i) (omega arith) refl in a.1 ∙ sym (a.0);
        joins = λ l' i. let a = repeating-apart (node.Join l' i) (omega arith) refl in a.1 ∙ sym (a.0);
        broadcast = repeating-copied;
        round = copied-apart_round line l repeating (repeating-apart (node.Round l) (omega arith) refl);
        broadcast_apart = λ l' other. repeating-apart (node.Broadcast l') (omega arith) (rw (ne_eqb l' l other) refl);
        round_apart = λ l' other. repeating-apart (node.Round l') (omega arith) refl;
      })

  -- what arrives at a plain node is what the readers' ranges have
  source-reads : (m : Node) (port : ℕ) → kind m < 5 → Single (at_port m port) readers → picked line (λ w. at_port m port w.head) wires ≡ ranges line (at_port m port) 0 readers
  source-reads m port plain single = by_cases (λ ws. picked line (λ w. at_port m port w.head) ws ≡ ranges line (at_port m port) 0 readers)
      (λ e. reader-gets line l (at_port m port) (λ i p. rw (ne_eqb (kind m) 6 (λ e. omega arith)) refl) (λ i p. rw (ne_eqb (kind m) 7 (λ e. omega arith)) refl) writers readers single (same_total e))
      (λ f. let z : at_port m port first.head ≡ false = rw (ne_eqb (kind m) 5 (λ e. omega arith)) refl in rw z (broadcast-heads line l b j c (at_port m port) 0 0 n))

  pub source-firing : (b0 port k0 : ℕ) → (b ≡ b0 → k0 < n) → picked line (λ w. at_port (node.Firing b0 k0) port w.head) wires ≡ (if (b == b0) && (j == port) then repeated source (k0 * c) c else [])
  source-firing b0 port k0 within =
      source-reads (node.Firing b0 k0) port (omega arith) (rw append-nil at (Single-firings b0 k0 port b j c 0 n [] tt tt))
      ∙ firing-ranges line b0 port k0 b j c n within
      ∙ ⊎_elim
      (λ (e : b ≡ b0). ap (λ (x : List T). if (b == b0) && (j == port) then x else []) (window (within e)))
      (λ (f : b ≡ b0 → ⊥). rw (ne_eqb b b0 f) refl)
      (cases_eq b b0)
    where
      window : k0 < n → span line (k0 * c) (k0 * c + c) ≡ repeated source (k0 * c) c
      window h = ⊎_elim
          (λ (some : 0 < length source). let e : (k0 * c + c) - k0 * c ≡ c = omega arith in let f : 0 + k0 * c ≡ k0 * c = omega arith in rw e (repeated-window source 0 (k0 * c) c (n * c) some (grind arith) ∙ ap (λ i. repeated source i c) f))
          (λ (none : length source ≤ 0). let z : c ≡ 0 = agree (omega arith) in let e : (k0 * c + c) - k0 * c ≡ 0 = omega arith in rw e (ap (λ m. repeated source (k0 * c) m) (sym z)))
          (cases_lt 0 (length source))

  pub source-other : (m : Node) → kind m < 5 → ((i : ℕ) → same m (node.Firing b i) ≡ false) → picked line (λ w. at_port m 0 w.head) wires ≡ []
  source-other m plain other =
      let fails : Fails (at_port m 0) readers = Fails-firings m 0 b j c 0 n (λ i. rw (other i) refl) in
      source-reads m 0 plain (Single-none (at_port m 0) readers fails) ∙ ranges-none line (at_port m 0) 0 readers fails
