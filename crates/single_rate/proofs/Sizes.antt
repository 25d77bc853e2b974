-- The sizes of a graph's edges: each has tokens, and all together at most three times those of the level.
use Rattle.std.proofs.Common.{◌≡◌, ℕ, zero, suc, ◌+◌, ◌-◌, ◌*◌, ◌<◌, ◌≤◌, ◌==◌, max, ⊎_elim, List, [], ◌∷◌, ◌++◌, map, length, slice_index, if◌then◌else◌, refl, ◌∙◌, sym, arith}
use Rattle.std.specs.List.{All}
use Rattle.std.proofs.lemmas.Bool.{cases_eq, cases_lt, eq-eqb, ne_eqb, lt-ltb, le-ltb}
use Rattle.sdf_level.specs.View.{LevelView}
use Rattle.sdf_level.specs.Links.{OfInner, OfOuter, EachInner, EachOuter}
use Rattle.sdf_level.specs.Balance.{IsBalanced}
use Rattle.sdf_level.specs.Repetition.{AgreesOnZero}
use Rattle.sdf_level.specs.Limits.{moved, tokens_of}
use Rattle.sdf_level.specs.Laws.{Reaches}
use Rattle.sdf_level.specs.declared.link.Link.{Link}
use Rattle.sdf_level.specs.declared.link.Tail.{Tail}
use Rattle.sdf_level.specs.declared.link.Head.{Head}
use Rattle.sdf_level.specs.declared.link.Tail.TheVariants as tail
use Rattle.sdf_level.specs.declared.link.Head.TheVariants as head
use Rattle.sdf_level.specs.declared.node.Node.{Node}
use Rattle.sdf_level.specs.declared.node.Node.TheVariants as node
use Rattle.single_rate.specs.declared.part.Port.{Port}
use Rattle.single_rate.specs.declared.part.Part.{Part}
use Rattle.single_rate.specs.declared.wire.Wire.{Wire}
use Rattle.single_rate.proofs.Writers.{writer_of}
use Rattle.single_rate.specs.Wires.{total, common, piece, pieces, end_at, into_forks, out_of_joins, pieces_of, all_pieces, cut_and_joined, firing_parts, delay_part, broadcast_to, rounded_from, wires_at, wires_from}
use Rattle.single_rate.specs.Expanded.{edge_of}
use Rattle.single_rate.specs.Sizes.{space, HasTokens}
use Rattle.single_rate.proofs.Picked.{Every, Every-append}
use Rattle.single_rate.proofs.Given.{total-append, total-firings, total-delay}

abbrev tokens_on : List Wire → ℕ
tokens_on [] = 0
tokens_on (w ∷ ws) = w.size + tokens_on ws

on-append : (xs ys : List Wire) → tokens_on (xs ++ ys) ≡ tokens_on xs + tokens_on ys
on-append [] ys = omega arith
on-append (w ∷ xs) ys = let e = on-append xs ys in omega arith

abbrev HasSome : Wire → Type 0
HasSome w = 1 ≤ w.size

-- a range without places has no piece
no-pieces : (a e b : ℕ) (parts : List Part) → e ≤ a → pieces a e b parts ≡ 0
no-pieces a e b [] none = refl
no-pieces a e b (p ∷ parts) none = let z : common a e b (b + p.size) ≡ 0 = omega arith in let n = no-pieces a e (b + p.size) parts none in rw (eq-eqb (common a e b (b + p.size)) 0 z) (omega arith)

part-some : (a s b : ℕ) (parts : List Part) → 1 < pieces a (a + s) b parts → 1 ≤ s
part-some a zero b parts many = let z = no-pieces a (a + 0) b parts (omega arith) in absurd (omega arith)
part-some a (suc s) b parts many = omega arith

forks-some : (l : ℕ) (readers : List Part) (a i : ℕ) (ws : List Part) → Every HasSome (into_forks l readers a i ws) × (tokens_on (into_forks l readers a i ws) ≤ total ws)
forks-some l readers a i [] = (tt, omega arith)
forks-some l readers a i (w ∷ ws) = let later = forks-some l readers (a + w.size) (i + 1) ws in ⊎_elim
    (λ (lt : 1 < pieces a (a + w.size) 0 readers). rw (lt-ltb 1 (pieces a (a + w.size) 0 readers) lt) ((part-some a w.size 0 readers lt, later.0), omega arith))
    (λ (ge : pieces a (a + w.size) 0 readers ≤ 1). rw (le-ltb 1 (pieces a (a + w.size) 0 readers) ge) (later.0, omega arith))
    (cases_lt 1 (pieces a (a + w.size) 0 readers))

joins-some : (l : ℕ) (writers : List Part) (b j : ℕ) (rs : List Part) → Every HasSome (out_of_joins l writers b j rs) × (tokens_on (out_of_joins l writers b j rs) ≤ total rs)
joins-some l writers b j [] = (tt, omega arith)
joins-some l writers b j (r ∷ rs) = let later = joins-some l writers (b + r.size) (j + 1) rs in ⊎_elim
    (λ (lt : 1 < pieces b (b + r.size) 0 writers). rw (lt-ltb 1 (pieces b (b + r.size) 0 writers) lt) ((part-some b r.size 0 writers lt, later.0), omega arith))
    (λ (ge : pieces b (b + r.size) 0 writers ≤ 1). rw (le-ltb 1 (pieces b (b + r.size) 0 writers) ge) (later.0, omega arith))
    (cases_lt 1 (pieces b (b + r.size) 0 writers))

piece-some : (t h : Port) (a e b f : ℕ) → Every HasSome (piece t h a e b f) × (tokens_on (piece t h a e b f) ≡ common a e b f)
piece-some t h a e b f = ⊎_elim
    (λ (z : common a e b f ≡ 0). rw (eq-eqb (common a e b f) 0 z) (tt, sym z))
    (λ (n : common a e b f ≡ 0 → ⊥). rw (ne_eqb (common a e b f) 0 n) (((let m : 1 ≤ common a e b f = ⊎_elim (λ (lt : 0 < common a e b f). lt) (λ (ge : common a e b f ≤ 0). absurd (n (omega arith))) (cases_lt 0 (common a e b f)) in m), tt), omega arith))
    (cases_eq (common a e b f) 0)

row-some : (l : ℕ) (writers before : List Part) (i : ℕ) (w : Part) (many a e b j k : ℕ) (rs : List Part) → a ≤ e →
    Every HasSome (pieces_of (writer_of l writers before i w many a e) b j k rs) × (tokens_on (pieces_of (writer_of l writers before i w many a e) b j k rs) ≤ e - max a b)
row-some l writers before i w many a e b j k [] fits = (tt, omega arith)
row-some l writers before i w many a e b j k (r ∷ rs) fits =
    let f : ℕ = b + r.size in
    let t : Port = end_at (node.Fork l i) many k w.at in
    let h : Port = end_at (node.Join l j) (pieces b f 0 writers) (pieces b f 0 before) r.at in
    let k' : ℕ = k + (if common a e b f == 0 then 0 else 1) in
    let here = piece-some t h a e b f in
    let later = row-some l writers before i w many a e f (j + 1) k' rs fits in
    let sum = on-append (piece t h a e b f) (pieces_of (writer_of l writers before i w many a e) f (j + 1) k' rs) in
    let split : common a e b f + (e - max a f) ≤ e - max a b = omega arith in
    (Every-append HasSome (piece t h a e b f) (pieces_of (writer_of l writers before i w many a e) f (j + 1) k' rs) here.0 later.0, omega arith)

pieces-some : (l : ℕ) (writers readers before : List Part) (a i : ℕ) (more : List Part) → Every HasSome (all_pieces l writers readers before a i more) × (tokens_on (all_pieces l writers readers before a i more) ≤ total more)
pieces-some l writers readers before a i [] = (tt, omega arith)
pieces-some l writers readers before a i (w ∷ more) =
    let e : ℕ = a + w.size in
    let row : List Wire = pieces_of (writer_of l writers before i w (pieces a e 0 readers) a e) 0 0 0 readers in
    let rest : List Wire = all_pieces l writers readers (before ++ w ∷ []) e (i + 1) more in
    let here = row-some l writers before i w (pieces a e 0 readers) a e 0 0 0 readers (omega arith) in
    let later = pieces-some l writers readers (before ++ w ∷ []) e (i + 1) more in
    let sum = on-append row rest in
    let own : e - max a 0 ≡ w.size = omega arith in
    (Every-append HasSome row rest here.0 later.0, omega arith)

cut-some : (l : ℕ) (writers readers : List Part) → Every HasSome (cut_and_joined l writers readers) × (tokens_on (cut_and_joined l writers readers) ≤ total writers + total writers + total readers)
cut-some l writers readers =
    let forks : List Wire = into_forks l readers 0 0 writers in
    let all : List Wire = all_pieces l writers readers [] 0 0 writers in
    let joins : List Wire = out_of_joins l writers 0 0 readers in
    let f = forks-some l readers 0 0 writers in let p = pieces-some l writers readers [] 0 0 writers in let j = joins-some l writers 0 0 readers in
    let s = on-append (forks ++ all) joins in let t = on-append forks all in
    (Every-append HasSome (forks ++ all) joins (Every-append HasSome forks all f.0 p.0) j.0, omega arith)

broadcast-some : (l b j c k from n : ℕ) → 1 ≤ c → Every HasSome (broadcast_to l b j c k from n) × (tokens_on (broadcast_to l b j c k from n) ≡ n * c)
broadcast-some l b j c k from zero some = (tt, omega arith)
broadcast-some l b j c k from (suc n) some = let later = broadcast-some l b j c (k + 1) (from + c) n some in ((some, later.0), (let e = later.1 in grind arith))

round-some : (l a p r k from n : ℕ) → 1 ≤ r → Every HasSome (rounded_from l a p r k from n) × (tokens_on (rounded_from l a p r k from n) ≡ n * r)
round-some l a p r k from zero some = (tt, omega arith)
round-some l a p r k from (suc n) some = let later = round-some l a p r (k + 1) (from + r) n some in ((some, later.0), (let e = later.1 in grind arith))

-- where they differ, both rates are at least 1
some-rates : (n c rate : ℕ) → (n * c ≡ rate → ⊥) → (rate ≡ 0 → c ≡ 0) → (c ≡ 0 → rate ≡ 0) → (1 ≤ c) × (1 ≤ rate)
some-rates n zero rate differ f g = absurd (differ (let r = g refl in let z : n * 0 ≡ 0 = omega arith in omega arith))
some-rates n (suc c) zero differ f g = absurd (let c = f refl in omega arith)
some-rates n (suc c) (suc rate) differ f g = (omega arith, omega arith)

module _ (level : LevelView) (q : List ℕ) where
  link-some : (l : ℕ) (t : Tail) (h : Head) (d : ℕ) → OfInner (IsBalanced q) t h d → OfOuter (Reaches q) level t h → OfOuter AgreesOnZero level t h →
      Every HasSome (wires_at level q l t h d) × (tokens_on (wires_at level q l t h d) ≤ 3 * (moved q t h + d))
  link-some l (tail.Source s) (head.Sink t) d balanced reaches agrees = (tt, omega arith)
  link-some l (tail.Source s) (head.Port b j c) d balanced reaches agrees =
      let n : ℕ = slice_index q b in
      let rate : ℕ = slice_index level.sources s in
      let writers : List Part = record { at = record { node = node.Source s; port = 0 }; size = rate } ∷ [] in
      ⊎_elim
      (λ (e : n * c ≡ rate). let all = cut-some l writers (firing_parts b j c 0 n) in let f = total-firings b j c 0 n in rw (eq-eqb (n * c) rate e) (all.0, omega arith))
      (λ (f : n * c ≡ rate → ⊥).
      let some = some-rates n c rate f agrees.0 agrees.1 in
      let out = broadcast-some l b j c 0 0 n some.0 in
      rw (ne_eqb (n * c) rate f) ((some.1, out.0), omega arith))
      (cases_eq (n * c) rate)
  link-some l (tail.Port a p r) (head.Sink t) d balanced reaches agrees =
      let m : ℕ = slice_index q a in
      let rate : ℕ = slice_index level.sinks t in
      let readers : List Part = record { at = record { node = node.Sink t; port = 0 }; size = rate } ∷ [] in
      let last : Wire = record { tail = record { node = node.Round l; port = 0 }; head = record { node = node.Sink t; port = 0 }; size = rate; place = m * r - rate } in
      ⊎_elim
      (λ (e : m * r ≡ rate). let all = cut-some l (firing_parts a p r 0 m) readers in let f = total-firings a p r 0 m in rw (eq-eqb (m * r) rate e) (all.0, omega arith))
      (λ (f : m * r ≡ rate → ⊥).
      let some = some-rates m r rate f agrees.0 agrees.1 in
      let into = round-some l a p r 0 0 m some.0 in
      let sum = on-append (rounded_from l a p r 0 0 m) (last ∷ []) in
      rw (ne_eqb (m * r) rate f) (Every-append HasSome (rounded_from l a p r 0 0 m) (last ∷ []) into.0 (some.1, tt), omega arith))
      (cases_eq (m * r) rate)
  link-some l (tail.Port a p r) (head.Port b j c) d balanced reaches agrees =
      let m : ℕ = slice_index q a in
      let n : ℕ = slice_index q b in
      let writers : List Part = delay_part (node.Init l) d ++ firing_parts a p r 0 m in
      let readers : List Part = firing_parts b j c 0 n ++ delay_part (node.End l) d in
      let all = cut-some l writers readers in
      let w : total writers ≡ d + m * r = total-append (delay_part (node.Init l) d) (firing_parts a p r 0 m) ∙ rw (total-delay (node.Init l) d, total-firings a p r 0 m) refl in
      let x : total readers ≡ n * c + d = total-append (firing_parts b j c 0 n) (delay_part (node.End l) d) ∙ rw (total-delay (node.End l) d, total-firings b j c 0 n) refl in
      (all.0, omega arith)

  pub wires-some : (l : ℕ) (links : List Link) → EachInner (IsBalanced q) links → EachOuter (Reaches q) level links → EachOuter AgreesOnZero level links → Every HasSome (wires_from level q l links) × (tokens_on (wires_from level q l links) ≤ 3 * tokens_of q links)
  wires-some l [] balanced reaches agrees = (tt, omega arith)
  wires-some l (link ∷ links) balanced reaches agrees =
      let here = link-some l link.tail link.head link.delay balanced.0 reaches.0 agrees.0 in
      let later = wires-some (l + 1) links balanced.1 reaches.1 agrees.1 in
      let sum = on-append (wires_at level q l link.tail link.head link.delay) (wires_from level q (l + 1) links) in
      (Every-append HasSome (wires_at level q l link.tail link.head link.delay) (wires_from level q (l + 1) links) here.0 later.0, omega arith)

module _ (list : List Node) where
  pub edges-space : (ws : List Wire) → space (map (edge_of list) ws) ≡ tokens_on ws
  edges-space [] = refl
  edges-space (w ∷ ws) = let e = edges-space ws in omega arith

  pub edges-some : (ws : List Wire) → Every HasSome ws → All HasTokens (map (edge_of list) ws)
  edges-some [] some i d inside = absurd (omega arith)
  edges-some (w ∷ ws) some zero d inside = some.0
  edges-some (w ∷ ws) some (suc i) d inside = edges-some ws some.1 i d (omega arith)

  pub edges-fewer : (ws : List Wire) → Every HasSome ws → length (map (edge_of list) ws) ≤ tokens_on ws
  edges-fewer [] some = omega arith
  edges-fewer (w ∷ ws) some = let e = edges-fewer ws some.1 in let o = some.0 in omega arith
