-- A link between two actors.
use Rattle.std.proofs.Common.{◌≡◌, ℕ, ◌+◌, ◌*◌, ◌<◌, ◌≤◌, Bool, ◌&&◌, ◌==◌, List, [], ◌++◌, length, drop, slice_index_or, if◌then◌else◌, refl, ◌∙◌, arith}
use Rattle.std.proofs.lemmas.List.{append-nil}
use Rattle.sdf_level.specs.Told.{sent}
use Rattle.sdf_level.specs.declared.node.Node.TheVariants as node
use Rattle.single_rate.specs.Wires.{firing_parts, delay_part, cut_and_joined, total}
use Rattle.single_rate.specs.declared.part.Port.{Port}
use Rattle.single_rate.specs.declared.part.Part.{Part}
use Rattle.single_rate.specs.Flow.{Given, Sends}
use Rattle.single_rate.proofs.Spans.{span}
use Rattle.single_rate.proofs.Picked.{Every, carried, picked}
use Rattle.single_rate.proofs.Copies.{Fails, Plain}
use Rattle.single_rate.proofs.Readers.{at_port, ranges, ranges-append, ranges-none, reader-gets}
use Rattle.single_rate.proofs.Senders.{writers-send, wires-within}
use Rattle.single_rate.proofs.Given.{total-append, total-firings, total-delay, Plain-append, Plain-firings, Plain-delay, Fails-append, Fails-firings, Fails-delay, Single-firings, Single-past, Single-none, Single-delay}
use Rattle.single_rate.proofs.Parts.{length-line, AllSend-append, sends_of, firings-send, delay-sends, firing-ranges, end-ranges}

module _ {T : Type 0} (given : Given T) (l a p r m b j c n d : ℕ) (start : List T) (is : slice_index_or given.delays l [] ≡ start) (long : length start ≡ d) (rates : (i : ℕ) → i < m → length (slice_index_or (given.made a i) p []) ≡ r) (balanced : m * r ≡ n * c) where
  abbrev pub writers : List Part
  writers = delay_part (node.Init l) d ++ firing_parts a p r 0 m

  abbrev pub readers : List Part
  readers = firing_parts b j c 0 n ++ delay_part (node.End l) d

  abbrev line : List T
  line = start ++ sent (given.made a) p m

  total-writers : total writers ≡ d + m * r
  total-writers = total-append (delay_part (node.Init l) d) (firing_parts a p r 0 m) ∙ rw (total-delay (node.Init l) d, total-firings a p r 0 m) refl

  pub same_total : total writers ≡ total readers
  same_total = let e : total readers ≡ n * c + d = total-append (firing_parts b j c 0 n) (delay_part (node.End l) d) ∙ rw (total-delay (node.End l) d, total-firings b j c 0 n) refl in let f = total-writers in omega arith

  long_line : length line ≡ d + m * r
  long_line = length-line (given.made a) start p r m d long rates

  pub inner-writers : Plain writers
  inner-writers = Plain-append (delay_part (node.Init l) d) (firing_parts a p r 0 m) (Plain-delay (node.Init l) d (omega arith)) (Plain-firings a p r 0 m)

  pub inner-readers : Plain readers
  inner-readers = Plain-append (firing_parts b j c 0 n) (delay_part (node.End l) d) (Plain-firings b j c 0 n) (Plain-delay (node.End l) d (omega arith))

  pub inner-within : Every (λ w. w.place + w.size ≤ length line) (cut_and_joined l writers readers)
  inner-within = let e : total writers ≡ length line = let f = total-writers in let g = long_line in omega arith in
      let P : ℕ → Type 0 = λ x. Every (λ w. w.place + w.size ≤ x) (cut_and_joined l writers readers) in
      let w : P (total writers) = wires-within line l (sends_of given) (λ i p x. tt) (λ i p x. tt) writers readers same_total in rw e at w

  pub inner-sends : Every (λ w. Sends given w.tail.node w.tail.port (carried line w)) (cut_and_joined l writers readers)
  inner-sends = writers-send line l (sends_of given) (λ i p x. tt) (λ i p x. tt) writers readers
      (AllSend-append line l (sends_of given) (λ i p x. tt) (λ i p x. tt) 0 (delay_part (node.Init l) d) (firing_parts a p r 0 m) (delay-sends given l d start (sent (given.made a) p m) long is)
      (let e : 0 + total (delay_part (node.Init l) d) ≡ length start + 0 * r = let f = total-delay (node.Init l) d in omega arith in firings-send given l a p r m 0 m (0 + total (delay_part (node.Init l) d)) start rates (omega arith) e))
      same_total

  pub inner-firing : (b0 port k0 : ℕ) → (b ≡ b0 → k0 < n) → picked line (λ w. at_port (node.Firing b0 k0) port w.head) (cut_and_joined l writers readers) ≡ (if (b == b0) && (j == port) then span line (k0 * c) (k0 * c + c) else [])
  inner-firing b0 port k0 within =
      let t : Port → Bool = at_port (node.Firing b0 k0) port in
      let ends : Fails t (delay_part (node.End l) d) = Fails-delay (node.Firing b0 k0) port (node.End l) d refl in
      reader-gets line l t (λ i p. refl) (λ i p. refl) writers readers (Single-firings b0 k0 port b j c 0 n (delay_part (node.End l) d) ends (Single-none t (delay_part (node.End l) d) ends)) same_total
      ∙ ranges-append line t 0 (firing_parts b j c 0 n) (delay_part (node.End l) d)
      ∙ rw (ranges-none line t (0 + total (firing_parts b j c 0 n)) (delay_part (node.End l) d) ends) (append-nil (ranges line t 0 (firing_parts b j c 0 n)))
      ∙ firing-ranges line b0 port k0 b j c n within

  pub inner-end : (l' : ℕ) → picked line (λ w. at_port (node.End l') 0 w.head) (cut_and_joined l writers readers) ≡ (if l' == l then drop (n * c) line else [])
  inner-end l' =
      let t : Port → Bool = at_port (node.End l') 0 in
      let fails : Fails t (firing_parts b j c 0 n) = Fails-firings (node.End l') 0 b j c 0 n (λ i. refl) in
      let e : 0 + total (firing_parts b j c 0 n) ≡ n * c = let f = total-firings b j c 0 n in omega arith in
      reader-gets line l t (λ i p. refl) (λ i p. refl) writers readers (Single-past t (firing_parts b j c 0 n) (delay_part (node.End l) d) fails (Single-delay t (node.End l) d)) same_total
      ∙ ranges-append line t 0 (firing_parts b j c 0 n) (delay_part (node.End l) d)
      ∙ rw (ranges-none line t 0 (firing_parts b j c 0 n) fails, e) (end-ranges line l' l d (n * c) (let f = long_line in omega arith))

  pub inner-sink : (s : ℕ) → picked line (λ w. at_port (node.Sink s) 0 w.head) (cut_and_joined l writers readers) ≡ []
  inner-sink s =
      let t : Port → Bool = at_port (node.Sink s) 0 in
      let fails : Fails t readers = Fails-append t (firing_parts b j c 0 n) (delay_part (node.End l) d) (Fails-firings (node.Sink s) 0 b j c 0 n (λ i. refl)) (Fails-delay (node.Sink s) 0 (node.End l) d refl) in
      reader-gets line l t (λ i p. refl) (λ i p. refl) writers readers (Single-none t readers fails) same_total ∙ ranges-none line t 0 readers fails
