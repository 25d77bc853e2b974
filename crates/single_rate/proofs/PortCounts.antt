-- How many edges of a link begin or end at a port.
use Rattle.std.proofs.Common.{◌≡◌, ℕ, ◌+◌, ◌<◌, ◌≤◌, max, Bool, true, false, ◌==◌, ⊎_elim, List, [], ◌∷◌, ◌++◌, if◌then◌else◌, refl, sym, ◌∙◌, arith}
use Rattle.std.proofs.lemmas.Bool.{cases_eq, cases_lt, eq-eqb, ne_eqb, lt-ltb, le-ltb}
use Rattle.sdf_level.specs.declared.node.Node.TheVariants as node
use Rattle.single_rate.specs.declared.part.Port.{Port}
use Rattle.single_rate.specs.declared.part.Part.{Part}
use Rattle.single_rate.specs.declared.wire.Wire.{Wire}
use Rattle.single_rate.specs.Wires.{common, piece, pieces, end_at, into_forks, out_of_joins, pieces_of, all_pieces, cut_and_joined}
use Rattle.single_rate.proofs.Writers.{writer_of}
use Rattle.single_rate.proofs.Picked.{if-same}
use Rattle.single_rate.proofs.Rows.{Blind, blind-end}
use Rattle.single_rate.proofs.Copies.{Fails}

abbrev pub one : Bool → ℕ
one c = if c then 1 else 0

pub one-most : (c : Bool) → one c ≤ 1
one-most true = omega arith
one-most false = omega arith

-- how many edges have an end that passes a test
abbrev pub count : (Wire → Port) → (Port → Bool) → List Wire → ℕ
count end t [] = 0
count end t (w ∷ ws) = one (t (end w)) + count end t ws

pub count-append : (end : Wire → Port) (t : Port → Bool) (xs ys : List Wire) → count end t (xs ++ ys) ≡ count end t xs + count end t ys
count-append end t [] ys = omega arith
count-append end t (w ∷ xs) ys = let e = count-append end t xs ys in omega arith

-- how many parts pass it
abbrev pub passing : (Port → Bool) → List Part → ℕ
passing t [] = 0
passing t (part ∷ parts) = one (t part.at) + passing t parts

pub passing-append : (t : Port → Bool) (xs ys : List Part) → passing t (xs ++ ys) ≡ passing t xs + passing t ys
passing-append t [] ys = omega arith
passing-append t (x ∷ xs) ys = let e = passing-append t xs ys in omega arith

pub passing-none : (t : Port → Bool) (parts : List Part) → Fails t parts → passing t parts ≡ 0
passing-none t [] fails = refl
passing-none t (part ∷ parts) fails = let e = passing-none t parts fails.1 in rw (fails.0) (omega arith)

count-piece : (end : Wire → Port) (t : Port → Bool) (c : Bool) (from to : Port) (a e b f : ℕ) → t (end record { tail = from; head = to; size = common a e b f; place = max a b }) ≡ c → count end t (piece from to a e b f) ≡ (if common a e b f == 0 then 0 else one c)
count-piece end t c from to a e b f is = ⊎_elim
    (λ (none : common a e b f ≡ 0). rw (eq-eqb (common a e b f) 0 none) refl)
    (λ (some : common a e b f ≡ 0 → ⊥). rw (ne_eqb (common a e b f) 0 some, is) (omega arith))
    (cases_eq (common a e b f) 0)

abbrev pub heads : (Port → Bool) → List Wire → ℕ
heads t ws = count (λ w. w.head) t ws

abbrev pub tails : (Port → Bool) → List Wire → ℕ
tails t ws = count (λ w. w.tail) t ws

module _ (l : ℕ) where
  -- the pieces of the readers that pass a test, with the writers from a place on
  abbrev pub column : (Port → Bool) → List Part → ℕ → ℕ → ℕ → List Part → List Part → ℕ
  column t writers a b j more [] = 0
  column t writers a b j more (r ∷ rs) = (if t (end_at (node.Join l j) (pieces b (b + r.size) 0 writers) 0 r.at) then pieces b (b + r.size) a more else 0) + column t writers a (b + r.size) (j + 1) more rs

  column-none : (t : Port → Bool) (writers : List Part) (a b j : ℕ) (rs : List Part) → column t writers a b j [] rs ≡ 0
  column-none t writers a b j [] = refl
  column-none t writers a b j (r ∷ rs) = let e = column-none t writers a (b + r.size) (j + 1) rs in let i = if-same {A = ℕ} (t (end_at (node.Join l j) (pieces b (b + r.size) 0 writers) 0 r.at)) 0 in omega arith

  one-more : (c d : Bool) (x : ℕ) → (if d then 0 else one c) + (if c then x else 0) ≡ (if c then (if d then 0 else 1) + x else 0)
  one-more true true x = refl
  one-more true false x = refl
  one-more false true x = refl
  one-more false false x = refl

  row-heads : (t : Port → Bool) → ((j : ℕ) → Blind t (node.Join l j)) → (i : ℕ) (writers before : List Part) (w : Part) (many a b j k : ℕ) (more rs : List Part) →
      heads t (pieces_of (writer_of l writers before i w many a (a + w.size)) b j k rs) + column t writers (a + w.size) b j more rs ≡ column t writers a b j (w ∷ more) rs
  row-heads t blind i writers before w many a b j k more [] = refl
  row-heads t blind i writers before w many a b j k more (r ∷ rs) =
      let e : ℕ = a + w.size in
      let f : ℕ = b + r.size in
      let m : ℕ = pieces b f 0 writers in
      let p : ℕ = pieces b f 0 before in
      let c : Bool = t (end_at (node.Join l j) m 0 r.at) in
      let from : Port = end_at (node.Fork l i) many k w.at in
      let to : Port = end_at (node.Join l j) m p r.at in
      let k' : ℕ = k + (if common a e b f == 0 then 0 else 1) in
      let here = count-piece (λ w. w.head) t c from to a e b f (blind-end t (node.Join l j) m p r.at (blind j)) in
      let later = row-heads t blind i writers before w many a f (j + 1) k' more rs in
      let all = count-append (λ w. w.head) t (piece from to a e b f) (pieces_of (writer_of l writers before i w many a e) f (j + 1) k' rs) in
      let turned : common b f a e ≡ common a e b f = omega arith in
      let step : (if common a e b f == 0 then 0 else one c) + (if c then pieces b f e more else 0) ≡ (if c then (if common b f a e == 0 then 0 else 1) + pieces b f e more else 0) = rw turned (one-more c (common a e b f == 0) (pieces b f e more)) in
      omega arith

  pub all-heads : (t : Port → Bool) → ((j : ℕ) → Blind t (node.Join l j)) → (writers readers before : List Part) (a i : ℕ) (more : List Part) → heads t (all_pieces l writers readers before a i more) ≡ column t writers a 0 0 more readers
  all-heads t blind writers readers before a i [] = sym (column-none t writers a 0 0 readers)
  all-heads t blind writers readers before a i (w ∷ more) =
      let e : ℕ = a + w.size in
      let m : ℕ = pieces a e 0 readers in
      let row = row-heads t blind i writers before w m a 0 0 0 more readers in
      let later = all-heads t blind writers readers (before ++ w ∷ []) e (i + 1) more in
      let all = count-append (λ w. w.head) t (pieces_of (writer_of l writers before i w m a e) 0 0 0 readers) (all_pieces l writers readers (before ++ w ∷ []) e (i + 1) more) in
      omega arith

  module _ (t : Port → Bool) (joins : (j p : ℕ) → t record { node = node.Join l j; port = p } ≡ false) where
    merged-heads : (writers : List Part) (b j : ℕ) (rs : List Part) → column t writers 0 b j writers rs + heads t (out_of_joins l writers b j rs) ≤ passing t rs
    merged-heads writers b j [] = omega arith
    merged-heads writers b j (r ∷ rs) =
        let f : ℕ = b + r.size in
        let m : ℕ = pieces b f 0 writers in
        let later = merged-heads writers f (j + 1) rs in
        ⊎_elim
        (λ (lt : 1 < m). rw (lt-ltb 1 m lt, joins j 0) (omega arith))
        (λ (ge : m ≤ 1). let at = at-most (t r.at) m ge in rw (le-ltb 1 m ge) (omega arith))
        (cases_lt 1 m)
      where
        at-most : (c : Bool) (m : ℕ) → m ≤ 1 → (if c then m else 0) ≤ one c
        at-most true m h = h
        at-most false m h = omega arith

    -- the edges of a link that end at a port are those into Forks, and one for each reader at most
    pub cut-heads : (writers readers : List Part) → heads t (cut_and_joined l writers readers) ≤ heads t (into_forks l readers 0 0 writers) + passing t readers
    cut-heads writers readers =
        let forks : List Wire = into_forks l readers 0 0 writers in
        let all : List Wire = all_pieces l writers readers [] 0 0 writers in
        let joined : List Wire = out_of_joins l writers 0 0 readers in
        let x = count-append (λ w. w.head) t (forks ++ all) joined in
        let y = count-append (λ w. w.head) t forks all in
        let z = all-heads t (λ j p. joins j p ∙ sym (joins j 0)) writers readers [] 0 0 writers in
        let m = merged-heads writers 0 0 readers in
        omega arith

  pub no-fork-heads : (t : Port → Bool) → ((i p : ℕ) → t record { node = node.Fork l i; port = p } ≡ false) → (readers : List Part) (a i : ℕ) (ws : List Part) → heads t (into_forks l readers a i ws) ≡ 0
  no-fork-heads t forks readers a i [] = refl
  no-fork-heads t forks readers a i (w ∷ ws) =
      let later = no-fork-heads t forks readers (a + w.size) (i + 1) ws in ⊎_elim
      (λ (lt : 1 < pieces a (a + w.size) 0 readers). rw (lt-ltb 1 (pieces a (a + w.size) 0 readers) lt, forks i 0) (omega arith))
      (λ (ge : pieces a (a + w.size) 0 readers ≤ 1). rw (le-ltb 1 (pieces a (a + w.size) 0 readers) ge) later)
      (cases_lt 1 (pieces a (a + w.size) 0 readers))

  -- the edges of a row leave one node
  pub row-tails : (t : Port → Bool) (i : ℕ) → Blind t (node.Fork l i) → (writers before : List Part) (w : Part) (many a e b j k : ℕ) (rs : List Part) →
      tails t (pieces_of (writer_of l writers before i w many a e) b j k rs) ≡ (if t (end_at (node.Fork l i) many 0 w.at) then pieces a e b rs else 0)
  row-tails t i blind writers before w many a e b j k [] = sym (if-same {A = ℕ} (t (end_at (node.Fork l i) many 0 w.at)) 0)
  row-tails t i blind writers before w many a e b j k (r ∷ rs) =
      let f : ℕ = b + r.size in
      let c : Bool = t (end_at (node.Fork l i) many 0 w.at) in
      let from : Port = end_at (node.Fork l i) many k w.at in
      let to : Port = end_at (node.Join l j) (pieces b f 0 writers) (pieces b f 0 before) r.at in
      let k' : ℕ = k + (if common a e b f == 0 then 0 else 1) in
      let here = count-piece (λ w. w.tail) t c from to a e b f (blind-end t (node.Fork l i) many k w.at blind) in
      let later = row-tails t i blind writers before w many a e f (j + 1) k' rs in
      let all = count-append (λ w. w.tail) t (piece from to a e b f) (pieces_of (writer_of l writers before i w many a e) f (j + 1) k' rs) in
      let step = one-more c (common a e b f == 0) (pieces a e f rs) in
      omega arith

  abbrev pub outgoing : (Port → Bool) → List Part → ℕ → ℕ → List Part → ℕ
  outgoing t readers a i [] = 0
  outgoing t readers a i (w ∷ ws) = (if t (end_at (node.Fork l i) (pieces a (a + w.size) 0 readers) 0 w.at) then pieces a (a + w.size) 0 readers else 0) + outgoing t readers (a + w.size) (i + 1) ws

  pub all-tails : (t : Port → Bool) → ((i : ℕ) → Blind t (node.Fork l i)) → (writers readers before : List Part) (a i : ℕ) (more : List Part) → tails t (all_pieces l writers readers before a i more) ≡ outgoing t readers a i more
  all-tails t blind writers readers before a i [] = refl
  all-tails t blind writers readers before a i (w ∷ more) =
      let e : ℕ = a + w.size in
      let m : ℕ = pieces a e 0 readers in
      let row = row-tails t i (blind i) writers before w m a e 0 0 0 readers in
      let later = all-tails t blind writers readers (before ++ w ∷ []) e (i + 1) more in
      let all = count-append (λ w. w.tail) t (pieces_of (writer_of l writers before i w m a e) 0 0 0 readers) (all_pieces l writers readers (before ++ w ∷ []) e (i + 1) more) in
      omega arith

  module _ (t : Port → Bool) (forks : (i p : ℕ) → t record { node = node.Fork l i; port = p } ≡ false) where
    merged-tails : (readers : List Part) (a i : ℕ) (ws : List Part) → outgoing t readers a i ws + tails t (into_forks l readers a i ws) ≤ passing t ws
    merged-tails readers a i [] = omega arith
    merged-tails readers a i (w ∷ ws) =
        let m : ℕ = pieces a (a + w.size) 0 readers in
        let later = merged-tails readers (a + w.size) (i + 1) ws in
        ⊎_elim
        (λ (lt : 1 < m). rw (lt-ltb 1 m lt, forks i 0) (omega arith))
        (λ (ge : m ≤ 1). let at = at-most (t w.at) m ge in rw (le-ltb 1 m ge) (omega arith))
        (cases_lt 1 m)
      where
        at-most : (c : Bool) (m : ℕ) → m ≤ 1 → (if c then m else 0) ≤ one c
        at-most true m h = h
        at-most false m h = omega arith

    -- the edges of a link that begin at a port are those out of Joins, and one for each writer at most
    pub cut-tails : (writers readers : List Part) → tails t (cut_and_joined l writers readers) ≤ tails t (out_of_joins l writers 0 0 readers) + passing t writers
    cut-tails writers readers =
        let forked : List Wire = into_forks l readers 0 0 writers in
        let all : List Wire = all_pieces l writers readers [] 0 0 writers in
        let joins : List Wire = out_of_joins l writers 0 0 readers in
        let x = count-append (λ w. w.tail) t (forked ++ all) joins in
        let y = count-append (λ w. w.tail) t forked all in
        let z = all-tails t (λ i p. forks i p ∙ sym (forks i 0)) writers readers [] 0 0 writers in
        let m = merged-tails readers 0 0 writers in
        omega arith

  pub no-join-tails : (t : Port → Bool) → ((j p : ℕ) → t record { node = node.Join l j; port = p } ≡ false) → (writers : List Part) (b j : ℕ) (rs : List Part) → tails t (out_of_joins l writers b j rs) ≡ 0
  no-join-tails t joins writers b j [] = refl
  no-join-tails t joins writers b j (r ∷ rs) =
      let later = no-join-tails t joins writers (b + r.size) (j + 1) rs in ⊎_elim
      (λ (lt : 1 < pieces b (b + r.size) 0 writers). rw (lt-ltb 1 (pieces b (b + r.size) 0 writers) lt, joins j 0) (omega arith))
      (λ (ge : pieces b (b + r.size) 0 writers ≤ 1). rw (le-ltb 1 (pieces b (b + r.size) 0 writers) ge) later)
      (cases_lt 1 (pieces b (b + r.size) 0 writers))
