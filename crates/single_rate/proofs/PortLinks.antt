-- The ports at which the edges of one link begin and end.
use Rattle.std.proofs.Common.{◌≡◌, ℕ, zero, suc, ◌+◌, ◌-◌, ◌*◌, ◌≤◌, Bool, false, ⊎_elim, List, [], ◌∷◌, ◌++◌, slice_index, refl, arith}
use Rattle.std.proofs.lemmas.Bool.{cases_eq, eq-eqb, ne_eqb}
use Rattle.sdf_level.specs.View.{LevelView}
use Rattle.sdf_level.specs.declared.link.Tail.{Tail}
use Rattle.sdf_level.specs.declared.link.Head.{Head}
use Rattle.sdf_level.specs.declared.link.Tail.TheVariants as tail
use Rattle.sdf_level.specs.declared.link.Head.TheVariants as head
use Rattle.sdf_level.specs.declared.node.Node.TheVariants as node
use Rattle.single_rate.specs.declared.part.Port.{Port}
use Rattle.single_rate.specs.declared.part.Part.{Part}
use Rattle.single_rate.specs.declared.wire.Wire.{Wire}
use Rattle.single_rate.specs.Wires.{cut_and_joined, firing_parts, broadcast_to, rounded_from, wires_at}
use Rattle.single_rate.proofs.Rising.{tail_parts, head_parts}
use Rattle.single_rate.proofs.PortCounts.{count-append, heads, tails, passing, cut-heads, cut-tails, no-fork-heads, no-join-tails}

-- a test that the nodes of link l which copy fail
abbrev pub Skips : (Port → Bool) → ℕ → Type 0
Skips t l = (i p : ℕ) → (t record { node = node.Fork l i; port = p } ≡ false) × (t record { node = node.Join l i; port = p } ≡ false) × (t record { node = node.Broadcast l; port = p } ≡ false) × (t record { node = node.Round l; port = p } ≡ false)

module _ (l a p r : ℕ) (t : Port → Bool) where
  pub broadcast-heads : (k x n : ℕ) → heads t (broadcast_to l a p r k x n) ≡ passing t (firing_parts a p r k n)
  broadcast-heads k x zero = refl
  broadcast-heads k x (suc n) = let e = broadcast-heads (k + 1) (x + r) n in omega arith

  pub broadcast-tails : ((i : ℕ) → t record { node = node.Broadcast l; port = i } ≡ false) → (k x n : ℕ) → tails t (broadcast_to l a p r k x n) ≡ 0
  broadcast-tails fails k x zero = refl
  broadcast-tails fails k x (suc n) = let e = broadcast-tails fails (k + 1) (x + r) n in rw (fails k) (omega arith)

  pub round-heads : ((i : ℕ) → t record { node = node.Round l; port = i } ≡ false) → (k x n : ℕ) → heads t (rounded_from l a p r k x n) ≡ 0
  round-heads fails k x zero = refl
  round-heads fails k x (suc n) = let e = round-heads fails (k + 1) (x + r) n in rw (fails k) (omega arith)

  pub round-tails : (k x n : ℕ) → tails t (rounded_from l a p r k x n) ≡ passing t (firing_parts a p r k n)
  round-tails k x zero = refl
  round-tails k x (suc n) = let e = round-tails (k + 1) (x + r) n in omega arith

module _ (level : LevelView) (q : List ℕ) (l : ℕ) where
  source_part : ℕ → List Part
  source_part s = record { at = record { node = node.Source s; port = 0 }; size = slice_index level.sources s } ∷ []

  -- the edges of a link as they are in each case
  pub by_source : (P : List Wire → Type 0) (s b j c d : ℕ) → P (cut_and_joined l (record { at = record { node = node.Source s; port = 0 }; size = slice_index level.sources s } ∷ []) (firing_parts b j c 0 (slice_index q b))) →
      P (record { tail = record { node = node.Source s; port = 0 }; head = record { node = node.Broadcast l; port = 0 }; size = slice_index level.sources s; place = 0 } ∷ broadcast_to l b j c 0 0 (slice_index q b)) → P (wires_at level q l (tail.Source s) (head.Port b j c) d)
  by_source P s b j c d cut repeated = ⊎_elim
      (λ (e : slice_index q b * c ≡ slice_index level.sources s). rw (eq-eqb (slice_index q b * c) (slice_index level.sources s) e) cut)
      (λ (f : slice_index q b * c ≡ slice_index level.sources s → ⊥). rw (ne_eqb (slice_index q b * c) (slice_index level.sources s) f) repeated)
      (cases_eq (slice_index q b * c) (slice_index level.sources s))

  pub by_sink : (P : List Wire → Type 0) (a p r t d : ℕ) → P (cut_and_joined l (firing_parts a p r 0 (slice_index q a)) (record { at = record { node = node.Sink t; port = 0 }; size = slice_index level.sinks t } ∷ [])) →
      P (rounded_from l a p r 0 0 (slice_index q a) ++ record { tail = record { node = node.Round l; port = 0 }; head = record { node = node.Sink t; port = 0 }; size = slice_index level.sinks t; place = slice_index q a * r - slice_index level.sinks t } ∷ []) → P (wires_at level q l (tail.Port a p r) (head.Sink t) d)
  by_sink P a p r t d cut kept = ⊎_elim
      (λ (e : slice_index q a * r ≡ slice_index level.sinks t). rw (eq-eqb (slice_index q a * r) (slice_index level.sinks t) e) cut)
      (λ (f : slice_index q a * r ≡ slice_index level.sinks t → ⊥). rw (ne_eqb (slice_index q a * r) (slice_index level.sinks t) f) kept)
      (cases_eq (slice_index q a * r) (slice_index level.sinks t))

  module _ (t : Port → Bool) (skips : Skips t l) where
    cut-in : (writers readers : List Part) → heads t (cut_and_joined l writers readers) ≤ passing t readers
    cut-in writers readers = let c = cut-heads l t (λ j p. (skips j p).1) writers readers in let n = no-fork-heads l t (λ i p. (skips i p).0) readers 0 0 writers in omega arith

    cut-out : (writers readers : List Part) → tails t (cut_and_joined l writers readers) ≤ passing t writers
    cut-out writers readers = let c = cut-tails l t (λ i p. (skips i p).0) writers readers in let n = no-join-tails l t (λ j p. (skips j p).1) writers 0 0 readers in omega arith

    -- each reader has one edge at most, and each writer too
    pub link-heads : (x : Tail) (h : Head) (d : ℕ) → heads t (wires_at level q l x h d) ≤ passing t (head_parts level q l x h d)
    link-heads (tail.Source s) (head.Sink u) d = omega arith
    link-heads (tail.Source s) (head.Port b j c) d = by_source (λ ws. heads t ws ≤ passing t (firing_parts b j c 0 (slice_index q b))) s b j c d
        (cut-in (record { at = record { node = node.Source s; port = 0 }; size = slice_index level.sources s } ∷ []) (firing_parts b j c 0 (slice_index q b)))
        (let e = broadcast-heads l b j c t 0 0 (slice_index q b) in rw ((skips 0 0).2) (omega arith))
    link-heads (tail.Port a p r) (head.Sink u) d = by_sink (λ ws. heads t ws ≤ passing t (head_parts level q l (tail.Port a p r) (head.Sink u) d)) a p r u d
        (cut-in (firing_parts a p r 0 (slice_index q a)) (head_parts level q l (tail.Port a p r) (head.Sink u) d))
        (let e = round-heads l a p r t (λ i. (skips 0 i).3) 0 0 (slice_index q a) in
        let f = count-append (λ w. w.head) t (rounded_from l a p r 0 0 (slice_index q a)) (record { tail = record { node = node.Round l; port = 0 }; head = record { node = node.Sink u; port = 0 }; size = slice_index level.sinks u; place = slice_index q a * r - slice_index level.sinks u } ∷ []) in omega arith)
    link-heads (tail.Port a p r) (head.Port b j c) d = cut-in (tail_parts level q l (tail.Port a p r) (head.Port b j c) d) (head_parts level q l (tail.Port a p r) (head.Port b j c) d)

    pub link-tails : (x : Tail) (h : Head) (d : ℕ) → tails t (wires_at level q l x h d) ≤ passing t (tail_parts level q l x h d)
    link-tails (tail.Source s) (head.Sink u) d = omega arith
    link-tails (tail.Source s) (head.Port b j c) d = by_source (λ ws. tails t ws ≤ passing t (tail_parts level q l (tail.Source s) (head.Port b j c) d)) s b j c d
        (cut-out (tail_parts level q l (tail.Source s) (head.Port b j c) d) (firing_parts b j c 0 (slice_index q b)))
        (let e = broadcast-tails l b j c t (λ i. (skips 0 i).2) 0 0 (slice_index q b) in omega arith)
    link-tails (tail.Port a p r) (head.Sink u) d = by_sink (λ ws. tails t ws ≤ passing t (firing_parts a p r 0 (slice_index q a))) a p r u d
        (cut-out (firing_parts a p r 0 (slice_index q a)) (head_parts level q l (tail.Port a p r) (head.Sink u) d))
        (let e = round-tails l a p r t 0 0 (slice_index q a) in
        let f = count-append (λ w. w.tail) t (rounded_from l a p r 0 0 (slice_index q a)) (record { tail = record { node = node.Round l; port = 0 }; head = record { node = node.Sink u; port = 0 }; size = slice_index level.sinks u; place = slice_index q a * r - slice_index level.sinks u } ∷ []) in
        let g = rw ((skips 0 0).3) at f in omega arith)
    link-tails (tail.Port a p r) (head.Port b j c) d = cut-out (tail_parts level q l (tail.Port a p r) (head.Port b j c) d) (head_parts level q l (tail.Port a p r) (head.Port b j c) d)
