-- The parts of the writers send what they are given, and those of the readers get their ranges.
use Rattle.std.proofs.Common.{◌≡◌, ℕ, zero, suc, ◌+◌, ◌-◌, ◌*◌, ◌<◌, Bool, true, false, ◌&&◌, ◌==◌, ⊎_elim, List, [], ◌∷◌, ◌++◌, length, take, drop, slice_index_or, if◌then◌else◌, refl, ap, sym, ◌∙◌, arith}
use Rattle.std.proofs.lemmas.Bool.{cases_eq, eq-eqb, ne_eqb}
use Rattle.std.proofs.lemmas.List.{append-nil, length-append, length-drop, take_all, take_at}
use Rattle.sdf_level.specs.Told.{sent}
use Rattle.sdf_level.proofs.Windows.{length-sent}
use Rattle.sdf_level.specs.declared.node.Node.TheVariants as node
use Rattle.single_rate.specs.Nodes.{same}
use Rattle.single_rate.specs.Wires.{firing_parts, delay_part, total}
use Rattle.single_rate.specs.declared.part.Port.{Port}
use Rattle.single_rate.specs.declared.part.Part.{Part}
use Rattle.single_rate.specs.Flow.{Given, Sends}
use Rattle.single_rate.proofs.Spans.{span}
use Rattle.single_rate.proofs.Copies.{and-false}
use Rattle.single_rate.proofs.Readers.{at_port, ranges, ranges-none}
use Rattle.single_rate.proofs.Senders.{AllSend}
use Rattle.single_rate.proofs.Given.{Fails-firings, ranges-firing, sent-at}

module _ {T : Type 0} where
  pub length-line : (own : ℕ → List (List T)) (start : List T) (p r m d : ℕ) → length start ≡ d → ((j : ℕ) → j < m → length (slice_index_or (own j) p []) ≡ r) → length (start ++ sent own p m) ≡ d + m * r
  length-line own start p r m d long rates = rw length-append (let s = length-sent own p r m rates in grind arith)

module _ {T : Type 0} (line : List T) (l : ℕ) (P : Port → List T → Type 0) (forks : (i p : ℕ) (x : List T) → P record { node = node.Fork l i; port = p } x) (joins : (j p : ℕ) (x : List T) → P record { node = node.Join l j; port = p } x) where
  pub AllSend-append : (x : ℕ) (xs ys : List Part) → AllSend line l P forks joins x xs → AllSend line l P forks joins (x + total xs) ys → AllSend line l P forks joins x (xs ++ ys)
  AllSend-append x [] ys p q = let e : x + 0 ≡ x = omega arith in rw e at q
  AllSend-append x (w ∷ xs) ys p q = let e : x + (w.size + total xs) ≡ (x + w.size) + total xs = omega arith in (p.0, AllSend-append (x + w.size) xs ys p.1 (rw e at q))

module _ {T : Type 0} (given : Given T) where
  abbrev pub sends_of : Port → List T → Type 0
  sends_of at tokens = Sends given at.node at.port tokens

  pub firings-send : (l a p r m k n x : ℕ) (start : List T) → ((j : ℕ) → j < m → length (slice_index_or (given.made a j) p []) ≡ r) → k + n ≡ m → x ≡ length start + k * r →
      AllSend (start ++ sent (given.made a) p m) l sends_of (λ i p x. tt) (λ i p x. tt) x (firing_parts a p r k n)
  firings-send l a p r m k zero x start rates all at = tt
  firings-send l a p r m k (suc n) x start rates all at = (sent-at (given.made a) start p r m k x (omega arith) rates at, firings-send l a p r m (k + 1) n (x + r) start rates (omega arith) (grind arith))

  pub delay-sends : (l d : ℕ) (start rest : List T) → length start ≡ d → slice_index_or given.delays l [] ≡ start → AllSend (start ++ rest) l sends_of (λ i p x. tt) (λ i p x. tt) 0 (delay_part (node.Init l) d)
  delay-sends l zero start rest long is = tt
  delay-sends l (suc d) start rest long is = let e : (0 + suc d) - 0 ≡ suc d = omega arith in (rw e (take_at start rest (suc d) long ∙ sym is), tt)

module _ {T : Type 0} (line : List T) where
  -- a firing's port
  pub firing-ranges : (b0 port k0 b j c n : ℕ) → (b ≡ b0 → k0 < n) → ranges line (at_port (node.Firing b0 k0) port) 0 (firing_parts b j c 0 n) ≡ (if (b == b0) && (j == port) then span line (k0 * c) (k0 * c + c) else [])
  firing-ranges b0 port k0 b j c n within = ⊎_elim
      (λ (e : b ≡ b0). ⊎_elim
      (λ (f : j ≡ port).
      let z : 0 + k0 * c ≡ k0 * c = omega arith in
      let goal : ranges line (at_port (node.Firing b k0) j) 0 (firing_parts b j c 0 n) ≡ span line (k0 * c) (k0 * c + c) = ranges-firing line b j c 0 n 0 k0 k0 (omega arith) (within e) ∙ ap (λ x. span line x (x + c)) z in
      rw (← e, ← f, eq-eqb b b refl, eq-eqb j j refl) goal)
      (λ (n1 : j ≡ port → ⊥). rw (ne_eqb j port n1, and-false (b == b0)) (ranges-none line (at_port (node.Firing b0 k0) port) 0 (firing_parts b j c 0 n) (Fails-firings (node.Firing b0 k0) port b j c 0 n (λ i. rw (ne_eqb port j (λ g. n1 (sym g))) (and-false (same (node.Firing b0 k0) (node.Firing b i)))))))
      (cases_eq j port))
      (λ (n2 : b ≡ b0 → ⊥). rw (ne_eqb b b0 n2) (ranges-none line (at_port (node.Firing b0 k0) port) 0 (firing_parts b j c 0 n) (Fails-firings (node.Firing b0 k0) port b j c 0 n (λ i. rw (ne_eqb b0 b (λ g. n2 (sym g))) refl))))
      (cases_eq b b0)

  -- the end of a delay
  pub end-ranges : (l' l d x : ℕ) → length line ≡ x + d → ranges line (at_port (node.End l') 0) x (delay_part (node.End l) d) ≡ (if l' == l then drop x line else [])
  end-ranges l' l zero x long = none (drop x line) (rw length-drop (omega arith)) (l' == l)
    where
      none : (y : List T) → length y ≡ 0 → (c : Bool) → [] ≡ (if c then y else [])
      none [] h true = refl
      none [] h false = refl
      none (a ∷ y) h c = absurd (omega arith)
  end-ranges l' l (suc d) x long = ⊎_elim
      (λ (e : l' ≡ l). let f : (x + suc d) - x ≡ suc d = omega arith in rw (eq-eqb l' l e, f) (append-nil (take (suc d) (drop x line)) ∙ take_all (suc d) (drop x line) (rw length-drop (omega arith))))
      (λ (n : l' ≡ l → ⊥). rw (ne_eqb l' l n) refl)
      (cases_eq l' l)
