-- How long the lists are that are made of a level, at most.
use Rattle.std.proofs.Common.{◌≡◌, ℕ, zero, suc, ◌+◌, ◌*◌, ◌<◌, ◌≤◌, ◌==◌, Bool, true, false, if◌then◌else◌, List, [], ◌∷◌, ◌++◌, length, map, slice_index, refl, ap, ◌∙◌, ⊎_elim, arith, length-append, nat_lt}
use Rattle.std.specs.List.{filter, sum}
use Rattle.std.proofs.lemmas.Bool.{cases_lt, eq-eqb}
use Rattle.std.proofs.lemmas.List.{length-map}
use Rattle.std.proofs.lemmas.List.Sums.{get_or-le-sum_by, sum_by-cons}
use Rattle.std.proofs.Math.Dec.{eqb-suc-suc, eqb-suc-zero, eqb-zero-suc}
use Rattle.std.proofs.Math.ListN.{get_or-eq_default}
use Rattle.sdf_level.specs.Lists.{occurrences}
use Rattle.sdf_level.specs.View.{LevelView}
use Rattle.sdf_level.specs.declared.link.Head.{Head}
use Rattle.sdf_level.specs.declared.link.Head.TheVariants as head
use Rattle.sdf_level.specs.declared.link.Link.{Link}
use Rattle.sdf_level.specs.declared.link.Tail.{Tail}
use Rattle.sdf_level.specs.declared.link.Tail.TheVariants as tail
use Rattle.sdf_level.specs.declared.node.Node.{Node}
use Rattle.sdf_level.specs.declared.node.Node.TheVariants as node
use Rattle.sdf_level.specs.declared.turn.Turn.{Turn}
use Rattle.single_rate.specs.Expanded.{copies_at, copies_from, end_nodes, firing_nodes, forks_and_joins, init_nodes, nodes, sink_nodes, source_nodes}
use Rattle.single_rate.specs.Wires.{delay_part, firing_parts, into_forks, out_of_joins, pieces}
use Rattle.single_rate.specs.declared.part.Part.{Part}
use Rattle.single_rate.specs.declared.wire.Wire.{Wire}

pub either_long : {X : Type 0} (b : Bool) (xs ys : List X) (n : ℕ) → length xs ≤ n → length ys ≤ n → length (if b then xs else ys) ≤ n
either_long true xs ys n one other = one
either_long false xs ys n one other = other

pub filter_long : {X : Type 0} (test : X → Bool) (xs : List X) → length (filter test xs) ≤ length xs
filter_long test [] = omega arith
filter_long test (x ∷ xs) = let rest = filter_long test xs in either_long (test x) (x ∷ filter test xs) (filter test xs) (suc (length xs)) (omega arith) (omega arith)

-- ---- sums

pub each_below_sum : (q : List ℕ) (a : ℕ) → slice_index q a ≤ sum q
each_below_sum q a =
    ⊎_elim
    (λ (lt : a < length q). get_or-le-sum_by (λ x. x) q a 0 lt)
    (λ (ge : length q ≤ a). let e = get_or-eq_default q 0 ge in omega arith)
    (cases_lt a (length q))

abbrev lower : List ℕ → List ℕ
lower [] = []
lower (zero ∷ xs) = lower xs
lower (suc n ∷ xs) = n ∷ lower xs

lower_less : (xs : List ℕ) → length xs ≡ occurrences 0 xs + length (lower xs)
lower_less [] = omega arith
lower_less (zero ∷ xs) = let rest = lower_less xs in omega arith
lower_less (suc n ∷ xs) = let rest = lower_less xs in rw (eqb-suc-zero n) (omega arith)

lower_has : (a : ℕ) (xs : List ℕ) → occurrences a (lower xs) ≡ occurrences (suc a) xs
lower_has a [] = refl
lower_has a (zero ∷ xs) = rw (eqb-zero-suc a) (lower_has a xs ∙ omega arith)
lower_has a (suc n ∷ xs) = rw (eqb-suc-suc n a) (ap (λ k. (if n == a then 1 else 0) + k) (lower_has a xs))

none_long : (xs : List ℕ) → ((a : ℕ) → occurrences a xs ≤ 0) → length xs ≤ 0
none_long [] none = omega arith
none_long (x ∷ xs) none = let h = rw (eq-eqb x x refl) at (none x) in absurd (omega arith)

-- a list in which each number stands at most as often as this says
pub as_long : (q xs : List ℕ) → ((a : ℕ) → occurrences a xs ≤ slice_index q a) → length xs ≤ sum q
as_long [] xs few = none_long xs few
as_long (c ∷ q) xs few =
    let rest = as_long q (lower xs) (λ a. let e = lower_has a xs in let h = few (suc a) in omega arith) in
    let all = lower_less xs in
    let first = few 0 in
    let s = sum_by-cons (λ (x : ℕ). x) c q in
    omega arith

-- ---- nodes

sources_long : (s : ℕ) (rates : List ℕ) → length (source_nodes s rates) ≡ length rates
sources_long s [] = refl
sources_long s (rate ∷ rates) = ap suc (sources_long (s + 1) rates)

sinks_long : (t : ℕ) (rates : List ℕ) → length (sink_nodes t rates) ≡ length rates
sinks_long t [] = refl
sinks_long t (rate ∷ rates) = ap suc (sinks_long (t + 1) rates)

more_long : {X : Type 0} (xs ys : List X) (m n : ℕ) → length xs ≤ m → length ys ≤ n → length (xs ++ ys) ≤ m + n
more_long xs ys m n one other = let e = length-append xs ys in omega arith

inits_long : (l : ℕ) (links : List Link) → length (init_nodes l links) ≤ length links
inits_long l [] = omega arith
inits_long l (link ∷ links) =
    let rest = inits_long (l + 1) links in
    let all = more_long (if link.delay == 0 then [] else node.Init l ∷ []) (init_nodes (l + 1) links) 1 (length links) (either_long (link.delay == 0) [] (node.Init l ∷ []) 1 (omega arith) (omega arith)) rest in
    omega arith

ends_long : (l : ℕ) (links : List Link) → length (end_nodes l links) ≤ length links
ends_long l [] = omega arith
ends_long l (link ∷ links) =
    let rest = ends_long (l + 1) links in
    let all = more_long (if link.delay == 0 then [] else node.End l ∷ []) (end_nodes (l + 1) links) 1 (length links) (either_long (link.delay == 0) [] (node.End l ∷ []) 1 (omega arith) (omega arith)) rest in
    omega arith

forks_long : (l : ℕ) (readers : List Part) (place turn : ℕ) (writers : List Part) → length (into_forks l readers place turn writers) ≤ length writers
forks_long l readers place turn [] = omega arith
forks_long l readers place turn (w ∷ writers) =
    let rest = forks_long l readers (place + w.size) (turn + 1) writers in
    let one : Wire = record { tail = w.at; head = record { node = node.Fork l turn; port = 0 }; size = w.size; place = place } in
    let all = more_long (if nat_lt 1 (pieces place (place + w.size) 0 readers) then one ∷ [] else []) (into_forks l readers (place + w.size) (turn + 1) writers) 1 (length writers) (either_long (nat_lt 1 (pieces place (place + w.size) 0 readers)) (one ∷ []) [] 1 (omega arith) (omega arith)) rest in
    omega arith

joins_long : (l : ℕ) (writers : List Part) (place turn : ℕ) (readers : List Part) → length (out_of_joins l writers place turn readers) ≤ length readers
joins_long l writers place turn [] = omega arith
joins_long l writers place turn (r ∷ readers) =
    let rest = joins_long l writers (place + r.size) (turn + 1) readers in
    let one : Wire = record { tail = record { node = node.Join l turn; port = 0 }; head = r.at; size = r.size; place = place } in
    let all = more_long (if nat_lt 1 (pieces place (place + r.size) 0 writers) then one ∷ [] else []) (out_of_joins l writers (place + r.size) (turn + 1) readers) 1 (length readers) (either_long (nat_lt 1 (pieces place (place + r.size) 0 writers)) (one ∷ []) [] 1 (omega arith) (omega arith)) rest in
    omega arith

copiers_long : (l : ℕ) (writers readers : List Part) (m n : ℕ) → length writers ≤ m → length readers ≤ n → length (forks_and_joins l writers readers) ≤ m + n
copiers_long l writers readers m n one other =
    let f = forks_long l readers 0 0 writers in
    let j = joins_long l writers 0 0 readers in
    let a = length-map (into_forks l readers 0 0 writers) (λ (w : Wire). w.head.node) in
    let b = length-map (out_of_joins l writers 0 0 readers) (λ (w : Wire). w.tail.node) in
    more_long (map (λ (w : Wire). w.head.node) (into_forks l readers 0 0 writers)) (map (λ (w : Wire). w.tail.node) (out_of_joins l writers 0 0 readers)) m n (omega arith) (omega arith)

parts_long : (a p r turn n : ℕ) → length (firing_parts a p r turn n) ≡ n
parts_long a p r turn zero = refl
parts_long a p r turn (suc n) = ap suc (parts_long a p r (turn + 1) n)

delay_long : (n : Node) (d : ℕ) → length (delay_part n d) ≤ 1
delay_long n zero = omega arith
delay_long n (suc d) = omega arith

module _ (level : LevelView) (q : List ℕ) (k : ℕ) (few : (a : ℕ) → slice_index q a ≤ k) where
  link_long : (l : ℕ) (t : Tail) (h : Head) (d : ℕ) → length (copies_at level q l t h d) ≤ 2 * k + 2
  link_long l (tail.Source s) (head.Sink t) d = omega arith
  link_long l (tail.Source s) (head.Port b j c) d =
      let n = few b in
      let p = parts_long b j c 0 (slice_index q b) in
      let one : Part = record { at = record { node = node.Source s; port = 0 }; size = slice_index level.sources s } in
      let all = copiers_long l (one ∷ []) (firing_parts b j c 0 (slice_index q b)) 1 k (omega arith) (omega arith) in
      either_long (slice_index q b * c == slice_index level.sources s) (forks_and_joins l (one ∷ []) (firing_parts b j c 0 (slice_index q b))) (node.Broadcast l ∷ []) (2 * k + 2) (omega arith) (omega arith)
  link_long l (tail.Port a p r) (head.Sink t) d =
      let n = few a in
      let m = parts_long a p r 0 (slice_index q a) in
      let one : Part = record { at = record { node = node.Sink t; port = 0 }; size = slice_index level.sinks t } in
      let all = copiers_long l (firing_parts a p r 0 (slice_index q a)) (one ∷ []) k 1 (omega arith) (omega arith) in
      either_long (slice_index q a * r == slice_index level.sinks t) (forks_and_joins l (firing_parts a p r 0 (slice_index q a)) (one ∷ [])) (node.Round l ∷ []) (2 * k + 2) (omega arith) (omega arith)
  link_long l (tail.Port a p r) (head.Port b j c) d =
      let m = few a in
      let n = few b in
      let x = parts_long a p r 0 (slice_index q a) in
      let y = parts_long b j c 0 (slice_index q b) in
      let all = copiers_long l (delay_part (node.Init l) d ++ firing_parts a p r 0 (slice_index q a)) (firing_parts b j c 0 (slice_index q b) ++ delay_part (node.End l) d) (1 + k) (k + 1)
      (more_long (delay_part (node.Init l) d) (firing_parts a p r 0 (slice_index q a)) 1 k (delay_long (node.Init l) d) (omega arith))
      (more_long (firing_parts b j c 0 (slice_index q b)) (delay_part (node.End l) d) k 1 (omega arith) (delay_long (node.End l) d)) in
      omega arith

  copies_long : (l : ℕ) (links : List Link) → length (copies_from level q l links) ≤ length links * (2 * k + 2)
  copies_long l [] = omega arith
  copies_long l (link ∷ links) =
      let rest = copies_long (l + 1) links in
      let all = more_long (copies_at level q l link.tail link.head link.delay) (copies_from level q (l + 1) links) (2 * k + 2) (length links * (2 * k + 2)) (link_long l link.tail link.head link.delay) rest in
      let e : suc (length links) * (2 * k + 2) ≡ (2 * k + 2) + length links * (2 * k + 2) = grind arith in
      omega arith

  pub nodes_long : (turns : List Turn) → length turns ≤ k → length (nodes level q turns) ≤ length level.sources + length level.links + k + length level.links * (2 * k + 2) + length level.links + length level.sinks
  nodes_long turns short =
      let s = sources_long 0 level.sources in
      let t = sinks_long 0 level.sinks in
      let f = length-map turns (λ (t : Turn). node.Firing t.actor t.turn) in
      let first = more_long (source_nodes 0 level.sources) (init_nodes 0 level.links) (length level.sources) (length level.links) (omega arith) (inits_long 0 level.links) in
      let second = more_long (source_nodes 0 level.sources ++ init_nodes 0 level.links) (firing_nodes turns) _ k first (omega arith) in
      let third = more_long (source_nodes 0 level.sources ++ init_nodes 0 level.links ++ firing_nodes turns) (copies_from level q 0 level.links) _ _ second (copies_long 0 level.links) in
      let fourth = more_long (source_nodes 0 level.sources ++ init_nodes 0 level.links ++ firing_nodes turns ++ copies_from level q 0 level.links) (end_nodes 0 level.links) _ _ third (ends_long 0 level.links) in
      more_long (source_nodes 0 level.sources ++ init_nodes 0 level.links ++ firing_nodes turns ++ copies_from level q 0 level.links ++ end_nodes 0 level.links) (sink_nodes 0 level.sinks) _ _ fourth (omega arith)
