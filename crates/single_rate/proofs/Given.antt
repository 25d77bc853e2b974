-- The line of a link after all firings, and the parts of its writers and readers on it.
use Rattle.std.proofs.Common.{◌≡◌, ℕ, zero, suc, ◌+◌, ◌-◌, ◌*◌, ◌%◌, ◌<◌, Bool, false, ◌==◌, ⊎_elim, List, [], ◌∷◌, ◌++◌, length, take, drop, slice_index_or, refl, ap, ◌∙◌, append_assoc, arith}
use Rattle.std.proofs.lemmas.Bool.{cases_eq, eq-eqb, ne_eqb}
use Rattle.std.proofs.lemmas.List.{append-nil, length-append, take_at}
use Rattle.sdf_level.specs.Interfaces.{repeat, repeated}
use Rattle.sdf_level.specs.Told.{sent}
use Rattle.sdf_level.proofs.Windows.{sent_more, length-sent}
use Rattle.sdf_level.specs.declared.node.Node.{Node}
use Rattle.sdf_level.specs.declared.node.Node.TheVariants as node
use Rattle.single_rate.specs.Nodes.{kind, same}
use Rattle.single_rate.specs.Wires.{firing_parts, delay_part, total}
use Rattle.single_rate.specs.declared.part.Port.{Port}
use Rattle.single_rate.specs.declared.part.Part.{Part}
use Rattle.single_rate.proofs.Spans.{span}
use Rattle.single_rate.proofs.Copies.{and-false, Fails, Plain}
use Rattle.single_rate.proofs.Readers.{Single, at_port, ranges, ranges-none}

pub total-append : (xs ys : List Part) → total (xs ++ ys) ≡ total xs + total ys
total-append [] ys = omega arith
total-append (x ∷ xs) ys = let e = total-append xs ys in omega arith

pub total-firings : (a p r k n : ℕ) → total (firing_parts a p r k n) ≡ n * r
total-firings a p r k zero = omega arith
total-firings a p r k (suc n) = let e = total-firings a p r (k + 1) n in grind arith

pub total-delay : (n : Node) (d : ℕ) → total (delay_part n d) ≡ d
total-delay n zero = refl
total-delay n (suc d) = omega arith

pub Plain-append : (xs ys : List Part) → Plain xs → Plain ys → Plain (xs ++ ys)
Plain-append [] ys p q = q
Plain-append (x ∷ xs) ys p q = (p.0, Plain-append xs ys p.1 q)

pub Plain-firings : (a p r k n : ℕ) → Plain (firing_parts a p r k n)
Plain-firings a p r k zero = tt
Plain-firings a p r k (suc n) = (omega arith, Plain-firings a p r (k + 1) n)

pub Plain-delay : (n : Node) (d : ℕ) → kind n < 5 → Plain (delay_part n d)
Plain-delay n zero h = tt
Plain-delay n (suc d) h = (h, tt)

pub Fails-append : (t : Port → Bool) (xs ys : List Part) → Fails t xs → Fails t ys → Fails t (xs ++ ys)
Fails-append t [] ys p q = q
Fails-append t (x ∷ xs) ys p q = (p.0, Fails-append t xs ys p.1 q)

-- a node that isn't a firing of this actor
pub Fails-firings : (n : Node) (port a p r k m : ℕ) → ((j : ℕ) → at_port n port record { node = node.Firing a j; port = p } ≡ false) → Fails (at_port n port) (firing_parts a p r k m)
Fails-firings n port a p r k zero other = tt
Fails-firings n port a p r k (suc m) other = (other k, Fails-firings n port a p r (k + 1) m other)

pub Fails-delay : (n : Node) (port : ℕ) (m : Node) (d : ℕ) → same n m ≡ false → Fails (at_port n port) (delay_part m d)
Fails-delay n port m zero h = tt
Fails-delay n port m (suc d) h = ((rw h refl), tt)

pub turn_fails : (b k port a j p : ℕ) → (k ≡ j → ⊥) → at_port (node.Firing b k) port record { node = node.Firing a j; port = p } ≡ false
turn_fails b k port a j p other = rw (ne_eqb k j other, and-false (b == a)) refl

pub Fails-past : (b i port a p r k m : ℕ) → i < k → Fails (at_port (node.Firing b i) port) (firing_parts a p r k m)
Fails-past b i port a p r k zero h = tt
Fails-past b i port a p r k (suc m) h = (turn_fails b i port a k p (λ e. omega arith), Fails-past b i port a p r (k + 1) m (omega arith))

-- each firing is one reader
pub Single-firings : (b i port a p r k m : ℕ) (rest : List Part) → Fails (at_port (node.Firing b i) port) rest → Single (at_port (node.Firing b i) port) rest → Single (at_port (node.Firing b i) port) (firing_parts a p r k m ++ rest)
Single-firings b i port a p r k zero rest fails single = single
Single-firings b i port a p r k (suc m) rest fails single = (
  (λ holds. ⊎_elim
      (λ (e : i ≡ k). Fails-append (at_port (node.Firing b i) port) (firing_parts a p r (k + 1) m) rest (Fails-past b i port a p r (k + 1) m (omega arith)) fails)
      (λ (other : i ≡ k → ⊥). let f = turn_fails b i port a k p other in absurd (cc))
      (cases_eq i k)),
  Single-firings b i port a p r (k + 1) m rest fails single,
)

pub Single-past : (t : Port → Bool) (xs rest : List Part) → Fails t xs → Single t rest → Single t (xs ++ rest)
Single-past t [] rest fails single = single
Single-past t (x ∷ xs) rest fails single = ((λ holds. let f = fails.0 in absurd (cc)), Single-past t xs rest fails.1 single)

pub Single-none : (t : Port → Bool) (xs : List Part) → Fails t xs → Single t xs
Single-none t [] fails = tt
Single-none t (x ∷ xs) fails = ((λ holds. fails.1), Single-none t xs fails.1)

pub Single-delay : (t : Port → Bool) (n : Node) (d : ℕ) → Single t (delay_part n d)
Single-delay t n zero = tt
Single-delay t n (suc d) = ((λ holds. tt), tt)

module _ {T : Type 0} where
  -- the range of one firing
  pub ranges-firing : (line : List T) (b j c k m x i turn : ℕ) → turn ≡ k + i → i < m → ranges line (at_port (node.Firing b turn) j) x (firing_parts b j c k m) ≡ span line (x + i * c) (x + i * c + c)
  ranges-firing line b j c k zero x i turn is h = absurd (omega arith)
  ranges-firing line b j c k (suc m) x zero turn is h =
      let z : x + 0 * c ≡ x = omega arith in
      rw (z, eq-eqb b b refl, eq-eqb turn k (omega arith), eq-eqb j j refl) (ap (λ (l : List T). span line x (x + c) ++ l) (ranges-none line (at_port (node.Firing b turn) j) (x + c) (firing_parts b j c (k + 1) m) (Fails-past b turn j b j c (k + 1) m (omega arith))) ∙ append-nil (span line x (x + c)))
  ranges-firing line b j c k (suc m) x (suc i) turn is h =
      let n : turn ≡ k → ⊥ = λ f. omega arith in
      let z : (x + c) + i * c ≡ x + suc i * c = grind arith in
      rw (turn_fails b turn j b k j n, ← z) (ranges-firing line b j c (k + 1) m (x + c) i turn (omega arith) (omega arith))

  take_middle : (x y z : List T) (n m : ℕ) → length x ≡ n → length y ≡ m → take m (drop n ((x ++ y) ++ z)) ≡ y
  take_middle [] y z n m e f = let zero_is : n ≡ 0 = omega arith in rw zero_is (take_at y z m f)
  take_middle (a ∷ x) y z zero m e f = absurd (omega arith)
  take_middle (a ∷ x) y z (suc n) m e f = take_middle x y z n m (omega arith) f

  -- what a firing made stands on its range
  pub sent-at : (own : ℕ → List (List T)) (start : List T) (p r m k x : ℕ) → k < m → ((j : ℕ) → j < m → length (slice_index_or (own j) p []) ≡ r) → x ≡ length start + k * r → span (start ++ sent own p m) x (x + r) ≡ slice_index_or (own k) p []
  sent-at own start p r m k x h rates at =
      let more = sent_more own p (suc k) (m - suc k) m (omega arith) in
      let long : length (start ++ sent own p k) ≡ x = rw length-append (let s = length-sent own p r k (λ j g. rates j (omega arith)) in grind arith) in
      let e : (x + r) - x ≡ r = omega arith in
      rw (e, more.1, ← append_assoc, ← append_assoc) (take_middle (start ++ sent own p k) (slice_index_or (own k) p []) more.0 x r long (rates k h))

  pub length-repeated : (t : List T) (i n : ℕ) → 0 < length t → length (repeated t i n) ≡ n
  length-repeated t i zero some = refl
  length-repeated t i (suc n) some = let one = length-repeat t i some in let more = length-repeated t (i + 1) n some in rw length-append (omega arith)
    where
      length-first : (m : ℕ) (xs : List T) → m < length xs → length (take 1 (drop m xs)) ≡ 1
      length-first m [] h = absurd (omega arith)
      length-first zero (x ∷ xs) h = refl
      length-first (suc m) (x ∷ xs) h = length-first m xs (omega arith)

      length-repeat : (t : List T) (i : ℕ) → 0 < length t → length (repeat t i) ≡ 1
      length-repeat t i some = length-first (i % length t) t (omega arith)
