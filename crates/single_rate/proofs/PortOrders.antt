-- The ports of a Fork where its edges leave it, and of a Join where they enter, are counted in the order of the edges.
use Rattle.std.proofs.Common.{◌≡◌, ℕ, zero, suc, ◌+◌, ◌<◌, ◌≤◌, max, Bool, true, false, ◌==◌, ⊎_elim, ◌⊎◌, inl, inr, List, [], ◌∷◌, ◌++◌, length, if◌then◌else◌, refl, ap, sym, ◌∙◌, append_assoc, arith}
use Rattle.std.proofs.lemmas.Bool.{cases_Bool, cases_eq, cases_lt, eq-eqb, ne_eqb, lt-ltb, le-ltb}
use Rattle.std.proofs.lemmas.List.{append-nil, length-append}
use Rattle.sdf_level.specs.declared.node.Node.TheVariants as node
use Rattle.single_rate.specs.declared.part.Port.{Port}
use Rattle.single_rate.specs.declared.part.Part.{Part}
use Rattle.single_rate.specs.declared.wire.Wire.{Wire}
use Rattle.single_rate.specs.Nodes.{kind, turn_of, same}
use Rattle.single_rate.specs.Ports.{up_from, AreCounted}
use Rattle.single_rate.specs.Wires.{common, piece, pieces, end_at, into_forks, out_of_joins, pieces_of, all_pieces, cut_and_joined, total}
use Rattle.single_rate.proofs.Writers.{writer_of}
use Rattle.single_rate.proofs.Given.{total-append}
use Rattle.single_rate.proofs.Unique.{same-node}
use Rattle.single_rate.proofs.Rows.{blind-end}
use Rattle.single_rate.proofs.Copies.{Fails, Plain, and-false, same-plain, plain-fails}
use Rattle.single_rate.proofs.PortCounts.{one, count, heads, tails, no-fork-heads, no-join-tails, outgoing, row-tails, all-tails}

-- the ports of the ends that pass a test
abbrev pub ports : (Wire → Port) → (Port → Bool) → List Wire → List ℕ
ports end t [] = []
ports end t (w ∷ ws) = (if t (end w) then (end w).port ∷ [] else []) ++ ports end t ws

pub ports-append : (end : Wire → Port) (t : Port → Bool) (xs ys : List Wire) → ports end t (xs ++ ys) ≡ ports end t xs ++ ports end t ys
ports-append end t [] ys = refl
ports-append end t (w ∷ xs) ys = rw (ports-append end t xs ys) (sym (append_assoc (if t (end w) then (end w).port ∷ [] else []) (ports end t xs) (ports end t ys)))

pub length-ports : (end : Wire → Port) (t : Port → Bool) (ws : List Wire) → length (ports end t ws) ≡ count end t ws
length-ports end t [] = refl
length-ports end t (w ∷ ws) = rw length-append (let e = length-ports end t ws in let f = one-length (t (end w)) (end w).port in omega arith)
  where
    one-length : (c : Bool) (p : ℕ) → length (if c then p ∷ [] else []) ≡ one c
    one-length true p = refl
    one-length false p = refl

pub none-counted : (end : Wire → Port) (t : Port → Bool) (ws : List Wire) → count end t ws ≡ 0 → ports end t ws ≡ []
none-counted end t ws none = empty (ports end t ws) (length-ports end t ws ∙ none)
  where
    empty : (xs : List ℕ) → length xs ≡ 0 → xs ≡ []
    empty [] e = refl
    empty (x ∷ xs) e = absurd (omega arith)

length-up : (k n : ℕ) → length (up_from k n) ≡ n
length-up k zero = refl
length-up k (suc n) = let e = length-up (k + 1) n in omega arith

pub counted : (list : List ℕ) (n : ℕ) → list ≡ up_from 0 n → AreCounted list
counted list n is = let e : length list ≡ n = ap length is ∙ length-up 0 n in rw (e) is

port-piece : (end : Wire → Port) (t : Port → Bool) (p : ℕ) (from to : Port) (a e b f : ℕ) → t (end record { tail = from; head = to; size = common a e b f; place = max a b }) ≡ true → (end record { tail = from; head = to; size = common a e b f; place = max a b }).port ≡ p →
    ports end t (piece from to a e b f) ≡ (if common a e b f == 0 then [] else p ∷ [])
port-piece end t p from to a e b f passes is = ⊎_elim
    (λ (none : common a e b f ≡ 0). rw (eq-eqb (common a e b f) 0 none) refl)
    (λ (some : common a e b f ≡ 0 → ⊥). rw (ne_eqb (common a e b f) 0 some, passes, is) refl)
    (cases_eq (common a e b f) 0)

no-port-piece : (end : Wire → Port) (t : Port → Bool) (from to : Port) (a e b f : ℕ) → t (end record { tail = from; head = to; size = common a e b f; place = max a b }) ≡ false → ports end t (piece from to a e b f) ≡ []
no-port-piece end t from to a e b f fails = ⊎_elim
    (λ (none : common a e b f ≡ 0). rw (eq-eqb (common a e b f) 0 none) refl)
    (λ (some : common a e b f ≡ 0 → ⊥). rw (ne_eqb (common a e b f) 0 some, fails) refl)
    (cases_eq (common a e b f) 0)

one-up : (c : Bool) (k n : ℕ) → (if c then [] else k ∷ []) ++ up_from (k + (if c then 0 else 1)) n ≡ up_from k ((if c then 0 else 1) + n)
one-up true k n = let e : k + 0 ≡ k = omega arith in let f : 0 + n ≡ n = omega arith in rw (e, f) refl
one-up false k n = let f : 1 + n ≡ suc n = omega arith in rw f refl

module _ (l l' i' : ℕ) where
  abbrev is_fork : Port → Bool
  is_fork p = same (node.Fork l' i') p.node

  abbrev is_join : Port → Bool
  is_join p = same (node.Join l' i') p.node

  -- the pieces out of a Fork
  fork-row : (i : ℕ) → is_fork record { node = node.Fork l i; port = 0 } ≡ true → (writers before : List Part) (w : Part) (many a e b j k : ℕ) (rs : List Part) → 1 < many →
      ports (λ w. w.tail) is_fork (pieces_of (writer_of l writers before i w many a e) b j k rs) ≡ up_from k (pieces a e b rs)
  fork-row i own writers before w many a e b j k [] lt = refl
  fork-row i own writers before w many a e b j k (r ∷ rs) lt =
      let f : ℕ = b + r.size in
      let from : Port = record { node = node.Fork l i; port = k } in
      let to : Port = end_at (node.Join l j) (pieces b f 0 writers) (pieces b f 0 before) r.at in
      let d : ℕ = if common a e b f == 0 then 0 else 1 in
      let rest = pieces_of (writer_of l writers before i w many a e) f (j + 1) (k + d) rs in
      let here = port-piece (λ w. w.tail) is_fork k from to a e b f own refl in
      let later = fork-row i own writers before w many a e f (j + 1) (k + d) rs lt in
      let all : ports (λ w. w.tail) is_fork (piece from to a e b f ++ rest) ≡ up_from k (d + pieces a e f rs) =
      ports-append (λ w. w.tail) is_fork (piece from to a e b f) rest ∙ rw (here, later) (one-up (common a e b f == 0) k (pieces a e f rs)) in
      rw (lt-ltb 1 many lt) all

  fork-passed : (readers : List Part) (a i : ℕ) (ws : List Part) → i' < i → Plain ws → outgoing l is_fork readers a i ws ≡ 0
  fork-passed readers a i [] past plain = refl
  fork-passed readers a i (w ∷ ws) past plain = let later = fork-passed readers (a + w.size) (i + 1) ws (omega arith) plain.1 in
      ⊎_elim
      (λ (lt : 1 < pieces a (a + w.size) 0 readers). rw (lt-ltb 1 (pieces a (a + w.size) 0 readers) lt, ne_eqb i' i (λ e. omega arith), and-false (l' == l)) (omega arith))
      (λ (ge : pieces a (a + w.size) 0 readers ≤ 1). rw (le-ltb 1 (pieces a (a + w.size) 0 readers) ge, same-plain (node.Fork l' i') w.at.node (omega arith) plain.0) (omega arith))
      (cases_lt 1 (pieces a (a + w.size) 0 readers))

  fork-own : (i many : ℕ) (at : Port) → kind at.node < 5 → is_fork (end_at (node.Fork l i) many 0 at) ≡ true → (1 < many) × (is_fork record { node = node.Fork l i; port = 0 } ≡ true) × (i' ≡ i)
  fork-own i many at plain own = ⊎_elim
      (λ (lt : 1 < many). let e = rw (lt-ltb 1 many lt) at own in (lt, e, ap turn_of (same-node (node.Fork l' i') (node.Fork l i) e)))
      (λ (ge : many ≤ 1). absurd (let e = rw (le-ltb 1 many ge) at own in let f = same-plain (node.Fork l' i') at.node (omega arith) plain in cc))
      (cases_lt 1 many)

  abbrev HasForkPorts : List Part → List Part → List Part → ℕ → ℕ → List Part → Type 0
  HasForkPorts writers readers before a i more = (n : ℕ) × (ports (λ w. w.tail) is_fork (all_pieces l writers readers before a i more) ≡ up_from 0 n)

  fork-more : (writers readers before : List Part) (a i : ℕ) (w : Part) (more : List Part) → kind w.at.node < 5 → Plain more → HasForkPorts writers readers (before ++ w ∷ []) (a + w.size) (i + 1) more → HasForkPorts writers readers before a i (w ∷ more)
  fork-more writers readers before a i w more own plain later =
      let e : ℕ = a + w.size in
      let m : ℕ = pieces a e 0 readers in
      let row : List Wire = pieces_of (writer_of l writers before i w m a e) 0 0 0 readers in
      let rest : List Wire = all_pieces l writers readers (before ++ w ∷ []) e (i + 1) more in
      let both = ports-append (λ w. w.tail) is_fork row rest in
      ⊎_elim
      (λ (passes : is_fork (end_at (node.Fork l i) m 0 w.at) ≡ true).
      let is = fork-own i m w.at own passes in
      let here = fork-row i is.1 writers before w m a e 0 0 0 readers is.0 in
      let none = none-counted (λ w. w.tail) is_fork rest (all-tails l is_fork (λ j p. refl) writers readers (before ++ w ∷ []) e (i + 1) more ∙ fork-passed readers e (i + 1) more (let g = is.2 in omega arith) plain) in
      let n : HasForkPorts writers readers before a i (w ∷ more) = (m, both ∙ rw (here, none) (append-nil (up_from 0 m))) in n)
      (λ (fails : is_fork (end_at (node.Fork l i) m 0 w.at) ≡ false).
      let here = none-counted (λ w. w.tail) is_fork row (row-tails l is_fork i (λ p. refl) writers before w m a e 0 0 0 readers ∙ rw fails refl) in
      let n : HasForkPorts writers readers before a i (w ∷ more) = (later.0, both ∙ rw here (later.1)) in n)
      (cases_Bool (is_fork (end_at (node.Fork l i) m 0 w.at)))

  fork-pieces : (writers readers before : List Part) (a i : ℕ) (more : List Part) → Plain more → HasForkPorts writers readers before a i more
  fork-pieces writers readers before a i [] plain = (0, refl)
  fork-pieces writers readers before a i (w ∷ more) plain = fork-more writers readers before a i w more plain.0 plain.1 (fork-pieces writers readers (before ++ w ∷ []) (a + w.size) (i + 1) more plain.1)

  no-writer-tails : (t : Port → Bool) (readers : List Part) (a i : ℕ) (ws : List Part) → Fails t ws → tails t (into_forks l readers a i ws) ≡ 0
  no-writer-tails t readers a i [] fails = refl
  no-writer-tails t readers a i (w ∷ ws) fails = let later = no-writer-tails t readers (a + w.size) (i + 1) ws fails.1 in ⊎_elim
      (λ (lt : 1 < pieces a (a + w.size) 0 readers). rw (lt-ltb 1 (pieces a (a + w.size) 0 readers) lt, fails.0) (omega arith))
      (λ (ge : pieces a (a + w.size) 0 readers ≤ 1). rw (le-ltb 1 (pieces a (a + w.size) 0 readers) ge) later)
      (cases_lt 1 (pieces a (a + w.size) 0 readers))

  no-reader-heads : (t : Port → Bool) (writers : List Part) (b j : ℕ) (rs : List Part) → Fails t rs → heads t (out_of_joins l writers b j rs) ≡ 0
  no-reader-heads t writers b j [] fails = refl
  no-reader-heads t writers b j (r ∷ rs) fails = let later = no-reader-heads t writers (b + r.size) (j + 1) rs fails.1 in ⊎_elim
      (λ (lt : 1 < pieces b (b + r.size) 0 writers). rw (lt-ltb 1 (pieces b (b + r.size) 0 writers) lt, fails.0) (omega arith))
      (λ (ge : pieces b (b + r.size) 0 writers ≤ 1). rw (le-ltb 1 (pieces b (b + r.size) 0 writers) ge) later)
      (cases_lt 1 (pieces b (b + r.size) 0 writers))

  three : (end : Wire → Port) (t : Port → Bool) (xs ys zs : List Wire) → ports end t xs ≡ [] → ports end t zs ≡ [] → ports end t (xs ++ ys ++ zs) ≡ ports end t ys
  three end t xs ys zs first last = ports-append end t (xs ++ ys) zs ∙ rw (ports-append end t xs ys, first, last) (append-nil (ports end t ys))

  pub fork-ports : (writers readers : List Part) → Plain writers → AreCounted (ports (λ w. w.tail) is_fork (cut_and_joined l writers readers))
  fork-ports writers readers plain =
      let end : Wire → Port = λ w. w.tail in
      let all = fork-pieces writers readers [] 0 0 writers plain in
      let forks = none-counted end is_fork (into_forks l readers 0 0 writers) (no-writer-tails is_fork readers 0 0 writers (plain-fails (node.Fork l' i') (omega arith) writers plain)) in
      let joins = none-counted end is_fork (out_of_joins l writers 0 0 readers) (no-join-tails l is_fork (λ j p. refl) writers 0 0 readers) in
      counted (ports end is_fork (cut_and_joined l writers readers)) all.0 (three end is_fork (into_forks l readers 0 0 writers) (all_pieces l writers readers [] 0 0 writers) (out_of_joins l writers 0 0 readers) forks joins ∙ all.1)

  -- the pieces into a Join
  join-own : (j many : ℕ) (at : Port) → kind at.node < 5 → is_join (end_at (node.Join l j) many 0 at) ≡ true → (1 < many) × (is_join record { node = node.Join l j; port = 0 } ≡ true) × (i' ≡ j)
  join-own j many at plain own = ⊎_elim
      (λ (lt : 1 < many). let e = rw (lt-ltb 1 many lt) at own in (lt, e, ap turn_of (same-node (node.Join l' i') (node.Join l j) e)))
      (λ (ge : many ≤ 1). absurd (let e = rw (le-ltb 1 many ge) at own in let f = same-plain (node.Join l' i') at.node (omega arith) plain in cc))
      (cases_lt 1 many)

  join-other : (j many p : ℕ) (at : Port) → kind at.node < 5 → (i' ≡ j → ⊥) → is_join (end_at (node.Join l j) many p at) ≡ false
  join-other j many p at plain other = ⊎_elim
      (λ (lt : 1 < many). rw (lt-ltb 1 many lt, ne_eqb i' j other) (and-false (l' == l)))
      (λ (ge : many ≤ 1). rw (le-ltb 1 many ge) (same-plain (node.Join l' i') at.node (omega arith) plain))
      (cases_lt 1 many)

  join-passed : (i : ℕ) (writers before : List Part) (w : Part) (many a e b j k : ℕ) (rs : List Part) → i' < j → Plain rs → ports (λ w. w.head) is_join (pieces_of (writer_of l writers before i w many a e) b j k rs) ≡ []
  join-passed i writers before w many a e b j k [] past plain = refl
  join-passed i writers before w many a e b j k (r ∷ rs) past plain =
      let f : ℕ = b + r.size in
      let from : Port = end_at (node.Fork l i) many k w.at in
      let to : Port = end_at (node.Join l j) (pieces b f 0 writers) (pieces b f 0 before) r.at in
      let k' : ℕ = k + (if common a e b f == 0 then 0 else 1) in
      let rest = pieces_of (writer_of l writers before i w many a e) f (j + 1) k' rs in
      ports-append (λ w. w.head) is_join (piece from to a e b f) rest
      ∙ rw (no-port-piece (λ w. w.head) is_join from to a e b f (join-other j (pieces b f 0 writers) (pieces b f 0 before) r.at plain.0 (λ e. omega arith)), join-passed i writers before w many a e f (j + 1) k' rs (omega arith) plain.1) refl

  -- in each row the Join has a port, if the row's range and that of its reader have a place in common
  abbrev RowPort : List Part → ℕ → ℕ → List Part → ℕ → ℕ → Type 0
  RowPort writers b j rs B F = (i : ℕ) (before : List Part) (w : Part) (many a e k : ℕ) → ports (λ w. w.head) is_join (pieces_of (writer_of l writers before i w many a e) b j k rs) ≡ (if common a e B F == 0 then [] else pieces B F 0 before ∷ [])

  join-row : (writers : List Part) (b j : ℕ) (rs : List Part) → Plain rs → (B : ℕ) × (F : ℕ) × RowPort writers b j rs B F
  join-row writers b j [] plain = (0, 0, λ i before w many a e k. let z : common a e 0 0 ≡ 0 = omega arith in rw (eq-eqb (common a e 0 0) 0 z) refl)
  join-row writers b j (r ∷ rs) plain = more (cases_Bool (is_join (end_at (node.Join l j) (pieces b (b + r.size) 0 writers) 0 r.at))) (join-row writers (b + r.size) (j + 1) rs plain.1)
    where
      more : (is_join (end_at (node.Join l j) (pieces b (b + r.size) 0 writers) 0 r.at) ≡ true) ⊎ (is_join (end_at (node.Join l j) (pieces b (b + r.size) 0 writers) 0 r.at) ≡ false) →
          (B : ℕ) × (F : ℕ) × RowPort writers (b + r.size) (j + 1) rs B F → (B : ℕ) × (F : ℕ) × RowPort writers b j (r ∷ rs) B F
      more (inl own) later = (
        b,
        b + r.size,
        λ i before w many a e k.
            let f : ℕ = b + r.size in
            let is = join-own j (pieces b f 0 writers) r.at plain.0 own in
            let from : Port = end_at (node.Fork l i) many k w.at in
            let to : Port = record { node = node.Join l j; port = pieces b f 0 before } in
            let k' : ℕ = k + (if common a e b f == 0 then 0 else 1) in
            let rest = pieces_of (writer_of l writers before i w many a e) f (j + 1) k' rs in
            let all : ports (λ w. w.head) is_join (piece from to a e b f ++ rest) ≡ (if common a e b f == 0 then [] else pieces b f 0 before ∷ []) =
            ports-append (λ w. w.head) is_join (piece from to a e b f) rest
            ∙ rw (port-piece (λ w. w.head) is_join (pieces b f 0 before) from to a e b f is.1 refl, join-passed i writers before w many a e f (j + 1) k' rs (let g = is.2 in omega arith) plain.1) (append-nil (if common a e b f == 0 then [] else pieces b f 0 before ∷ [])) in
            rw (lt-ltb 1 (pieces b f 0 writers) is.0) all,
      )
      more (inr fails) later = (
        later.0,
        later.1,
        λ i before w many a e k.
            let f : ℕ = b + r.size in
            let from : Port = end_at (node.Fork l i) many k w.at in
            let to : Port = end_at (node.Join l j) (pieces b f 0 writers) (pieces b f 0 before) r.at in
            let k' : ℕ = k + (if common a e b f == 0 then 0 else 1) in
            let rest = pieces_of (writer_of l writers before i w many a e) f (j + 1) k' rs in
            ports-append (λ w. w.head) is_join (piece from to a e b f) rest
            ∙ rw (no-port-piece (λ w. w.head) is_join from to a e b f (blind-end is_join (node.Join l j) (pieces b f 0 writers) (pieces b f 0 before) r.at (λ p. refl) ∙ fails)) (later.2 i before w many a e k'),
      )

  pieces-snoc : (B F x : ℕ) (before : List Part) (w : Part) → pieces B F x (before ++ w ∷ []) ≡ pieces B F x before + (if common B F (x + total before) (x + total before + w.size) == 0 then 0 else 1)
  pieces-snoc B F x [] w = let e : x + 0 ≡ x = omega arith in rw e (omega arith)
  pieces-snoc B F x (v ∷ before) w = let e : x + (v.size + total before) ≡ (x + v.size) + total before = omega arith in let later = pieces-snoc B F (x + v.size) before w in rw e (omega arith)

  join-pieces : (writers readers before : List Part) (a i B F : ℕ) (more : List Part) → RowPort writers 0 0 readers B F → a ≡ total before → ports (λ w. w.head) is_join (all_pieces l writers readers before a i more) ≡ up_from (pieces B F 0 before) (pieces B F a more)
  join-pieces writers readers before a i B F [] row at = refl
  join-pieces writers readers before a i B F (w ∷ more) row at =
      let e : ℕ = a + w.size in
      let m : ℕ = pieces a e 0 readers in
      let turned : common a e B F ≡ common B F a e = omega arith in
      let d : ℕ = if common B F a e == 0 then 0 else 1 in
      let later = join-pieces writers readers (before ++ w ∷ []) e (i + 1) B F more row (let t = total-append before (w ∷ []) in omega arith) in
      let snoc : pieces B F 0 (before ++ w ∷ []) ≡ pieces B F 0 before + d = pieces-snoc B F 0 before w ∙ (let z : 0 + total before ≡ a = omega arith in rw z refl) in
      ports-append (λ w. w.head) is_join (pieces_of (writer_of l writers before i w m a e) 0 0 0 readers) (all_pieces l writers readers (before ++ w ∷ []) e (i + 1) more)
      ∙ rw (row i before w m a e 0, later, snoc, turned) (one-up (common B F a e == 0) (pieces B F 0 before) (pieces B F e more))

  pub join-ports : (writers readers : List Part) → Plain writers → Plain readers → AreCounted (ports (λ w. w.head) is_join (cut_and_joined l writers readers))
  join-ports writers readers of_writers of_readers =
      let end : Wire → Port = λ w. w.head in
      let row = join-row writers 0 0 readers of_readers in
      let all = join-pieces writers readers [] 0 0 row.0 row.1 writers row.2 refl in
      let forks = none-counted end is_join (into_forks l readers 0 0 writers) (no-fork-heads l is_join (λ i p. refl) readers 0 0 writers) in
      let joins = none-counted end is_join (out_of_joins l writers 0 0 readers) (no-reader-heads is_join writers 0 0 readers (plain-fails (node.Join l' i') (omega arith) readers of_readers)) in
      counted (ports end is_join (cut_and_joined l writers readers)) (pieces row.0 row.1 0 writers) (three end is_join (into_forks l readers 0 0 writers) (all_pieces l writers readers [] 0 0 writers) (out_of_joins l writers 0 0 readers) forks joins ∙ all)
