-- The pieces of a writer from the reader where the one before it ended.
use Rattle.std.proofs.Common.{◌≡◌, ℕ, zero, suc, ◌+◌, ◌<◌, ◌≤◌, List, [], ◌∷◌, ◌++◌, length, take, drop, slice_index, refl, ap, sym, ◌∙◌, append_assoc, arith}
use Rattle.std.proofs.lemmas.Bool.{eq-eqb}
use Rattle.std.proofs.lemmas.List.{take_more}
use Rattle.sdf_level.specs.declared.node.Node.TheVariants as node
use Rattle.single_rate.specs.declared.part.Port.{Port}
use Rattle.single_rate.specs.declared.part.Part.{Part}
use Rattle.single_rate.specs.declared.wire.Wire.{Wire}
use Rattle.single_rate.proofs.Writers.{writer_of}
use Rattle.single_rate.specs.Wires.{common, one_piece, pieces, piece, piece_counts, end_at, pieces_of, total}
use Rattle.single_rate.specs.Cursors.{part_at, size_at}
use Rattle.single_rate.proofs.Skips.{no_part}

one-turned : (a e b f : ℕ) → one_piece a e b f ≡ one_piece b f a e
one-turned a e b f = let c : common a e b f ≡ common b f a e = omega arith in rw c refl

pieces-snoc : (b f x : ℕ) (xs : List Part) (w : Part) → pieces b f x (xs ++ w ∷ []) ≡ pieces b f x xs + one_piece b f (x + total xs) (x + total xs + w.size)
pieces-snoc b f x [] w = let z : x + 0 ≡ x = omega arith in rw z (omega arith)
pieces-snoc b f x (r ∷ xs) w = let s : (x + r.size) + total xs ≡ x + (r.size + total xs) = omega arith in rw (pieces-snoc b f (x + r.size) xs w, s) (omega arith)

-- a reader's pieces with one writer more
pub met-more : (writers : List Part) (i a b f : ℕ) → i < length writers → a ≡ total (take i writers) → pieces b f 0 (take (i + 1) writers) ≡ pieces b f 0 (take i writers) + one_piece a (a + size_at writers i) b f
met-more writers i a b f h at =
    let z : 0 + total (take i writers) ≡ a = omega arith in
    rw (take_more writers i no_part h, pieces-snoc b f 0 (take i writers) (part_at writers i), z, one-turned a (a + size_at writers i) b f) refl

-- none with writers that ended before it
pub met-none : (b f x : ℕ) (xs : List Part) → x + total xs ≤ b → pieces b f x xs ≡ 0
met-none b f x [] h = refl
met-none b f x (r ∷ xs) h =
    let none : common b f x (x + r.size) ≡ 0 = omega arith in
    rw (eq-eqb (common b f x (x + r.size)) 0 none, met-none b f (x + r.size) xs (omega arith)) refl

pub count-at : (b n : ℕ) (readers writers : List Part) → n < length readers → slice_index (piece_counts b readers writers) n ≡ pieces (b + total (take n readers)) (b + total (take n readers) + size_at readers n) 0 writers
count-at b n [] writers h = absurd (omega arith)
count-at b zero (r ∷ rs) writers h = let z : b + 0 ≡ b = omega arith in rw z refl
count-at b (suc n) (r ∷ rs) writers h = let s : b + (r.size + total (take n rs)) ≡ (b + r.size) + total (take n rs) = omega arith in rw s (count-at (b + r.size) n rs writers (omega arith))

pub counts-length : (b : ℕ) (parts others : List Part) → length (piece_counts b parts others) ≡ length parts
counts-length b [] others = refl
counts-length b (r ∷ rs) others = let l = counts-length (b + r.size) rs others in omega arith

module _ (l : ℕ) (writers before : List Part) (i : ℕ) (writer : Part) (many a e : ℕ) where
  row-skip : (b j k n : ℕ) (rs : List Part) → b + total (take n rs) ≤ a → pieces_of (writer_of l writers before i writer many a e) b j k rs ≡ pieces_of (writer_of l writers before i writer many a e) (b + total (take n rs)) (j + n) k (drop n rs)
  row-skip b j k zero rs h = let z : b + 0 ≡ b = omega arith in let y : j + 0 ≡ j = omega arith in rw (z, y) refl
  row-skip b j k (suc n) [] h = refl
  row-skip b j k (suc n) (r ∷ rs) h =
      let none : common a e b (b + r.size) ≡ 0 = omega arith in
      let s : (b + r.size) + total (take n rs) ≡ b + (r.size + total (take n rs)) = omega arith in
      let t : (j + 1) + n ≡ j + suc n = omega arith in
      let u : k + 0 ≡ k = omega arith in
      rw (eq-eqb (common a e b (b + r.size)) 0 none, u, ← s, ← t) (row-skip (b + r.size) (j + 1) k n rs (omega arith))

  pub row-past : (b j k : ℕ) (rs : List Part) → e ≤ b → pieces_of (writer_of l writers before i writer many a e) b j k rs ≡ []
  row-past b j k [] h = refl
  row-past b j k (r ∷ rs) h =
      let none : common a e b (b + r.size) ≡ 0 = omega arith in
      let u : k + 0 ≡ k = omega arith in
      rw (eq-eqb (common a e b (b + r.size)) 0 none, u) (row-past (b + r.size) (j + 1) k rs (omega arith))

  pub row-step : (b j k n : ℕ) (rs : List Part) → n < length rs → pieces_of (writer_of l writers before i writer many a e) b j k (drop n rs)
      ≡ piece (end_at (node.Fork l i) many k writer.at) (end_at (node.Join l j) (pieces b (b + size_at rs n) 0 writers) (pieces b (b + size_at rs n) 0 before) (part_at rs n).at) a e b (b + size_at rs n)
      ++ pieces_of (writer_of l writers before i writer many a e) (b + size_at rs n) (j + 1) (k + one_piece a e b (b + size_at rs n)) (drop (n + 1) rs)
  row-step b j k n [] h = absurd (omega arith)
  row-step b j k zero (r ∷ rs) h = refl
  row-step b j k (suc n) (r ∷ rs) h = let s : suc n + 1 ≡ suc (n + 1) = omega arith in rw s (row-step b j k n rs (omega arith))

  pub row-cursor : (n start : ℕ) (rs : List Part) → start ≡ total (take n rs) → start ≤ a → pieces_of (writer_of l writers before i writer many a e) start n 0 (drop n rs) ≡ pieces_of (writer_of l writers before i writer many a e) 0 0 0 rs
  row-cursor n start rs at h = let z : 0 + total (take n rs) ≡ start = omega arith in let y : 0 + n ≡ n = omega arith in let s = row-skip 0 0 0 n rs (omega arith) in sym (rw (z, y) at s)

  -- one piece more, at its ports
  pub row-pushed : (b n k m met : ℕ) (rs : List Part) (counts : List ℕ) (old new all : List Wire) (t h : Port) → n < length rs → b ≡ total (take n rs) → counts ≡ piece_counts 0 rs writers → met ≡ pieces b (b + size_at rs n) 0 before →
      t ≡ end_at (node.Fork l i) many k writer.at → h ≡ end_at (node.Join l n) (slice_index counts n) met (part_at rs n).at → new ≡ old ++ piece t h a e b (b + size_at rs n) →
      old ++ pieces_of (writer_of l writers before i writer many a e) b n k (drop n rs) ≡ all → new ++ pieces_of (writer_of l writers before i writer many a e) (b + size_at rs n) (n + 1) (k + one_piece a e b (b + size_at rs n)) (drop (n + 1) rs) ≡ all
  row-pushed b n k m met rs counts old new all t h inside at is_counts is_met is_t is_h is_new before_all =
      let f : ℕ = b + size_at rs n in
      let rest : List Wire = pieces_of (writer_of l writers before i writer many a e) f (n + 1) (k + one_piece a e b f) (drop (n + 1) rs) in
      let z : 0 + total (take n rs) ≡ b = omega arith in
      let m_is : slice_index counts n ≡ pieces b f 0 writers = ap (λ (c : List ℕ). slice_index c n) is_counts ∙ count-at 0 n rs writers inside ∙ ap (λ x. pieces x (x + size_at rs n) 0 writers) z in
      let h_is : h ≡ end_at (node.Join l n) (pieces b f 0 writers) (pieces b f 0 before) (part_at rs n).at = is_h ∙ rw (m_is, is_met) refl in
      let step = row-step b n k n rs inside in
      ap (λ (x : List Wire). x ++ rest) is_new
      ∙ append_assoc old (piece t h a e b f) rest
      ∙ ap (λ (x : List Wire). old ++ (x ++ rest)) (ap (λ (x : Port). piece x h a e b f) is_t ∙ ap (λ (x : Port). piece (end_at (node.Fork l i) many k writer.at) x a e b f) h_is)
      ∙ ap (λ (x : List Wire). old ++ x) (sym step)
      ∙ before_all
