-- Each node stands once in the list of a graph's nodes.
use Rattle.std.proofs.Common.{◌≡◌, ℕ, zero, suc, ◌+◌, ◌*◌, ◌<◌, ◌≤◌, true, false, ◌==◌, ⊎_elim, ◌⊎◌, inl, inr, List, [], ◌∷◌, ◌++◌, map, length, slice_index, if◌then◌else◌, refl, ap, sym, ◌∙◌, subst, append_assoc, Bool, arith}
use Rattle.std.proofs.lemmas.Bool.{cases_Bool, cases_lt, lt-ltb, le-ltb}
use Rattle.sdf_level.specs.View.{LevelView}
use Rattle.sdf_level.specs.Firings.{firings, turns_after, actors_of}
use Rattle.sdf_level.specs.Orders.{IsTurnOrder}
use Rattle.sdf_level.specs.declared.link.Link.{Link}
use Rattle.sdf_level.specs.declared.link.Tail.{Tail}
use Rattle.sdf_level.specs.declared.link.Head.{Head}
use Rattle.sdf_level.specs.declared.link.Tail.TheVariants as tail
use Rattle.sdf_level.specs.declared.link.Head.TheVariants as head
use Rattle.sdf_level.specs.declared.node.Node.{Node}
use Rattle.sdf_level.specs.declared.node.Node.TheVariants as node
use Rattle.sdf_level.specs.declared.turn.Turn.{Turn}
use Rattle.sdf_level.proofs.FiringLists.{firings-own, firings-moved, firings-snoc_own, firings-snoc_more}
use Rattle.single_rate.specs.declared.part.Part.{Part}
use Rattle.single_rate.specs.Nodes.{kind, subject, turn_of, same}
use Rattle.single_rate.specs.Wires.{pieces, into_forks, out_of_joins, firing_parts, delay_part}
use Rattle.single_rate.specs.Expanded.{source_nodes, sink_nodes, init_nodes, end_nodes, firing_nodes, forks_and_joins, copies_at, copies_from, nodes, place_of}
use Rattle.single_rate.specs.Tiers.{node_at}
use Rattle.single_rate.proofs.Places.{In}
use Rattle.single_rate.proofs.Unique.{same-node, same-self}

abbrev Distinct : List Node → Type 0
Distinct [] = Unit {0}
Distinct (m ∷ ms) = (In m ms → ⊥) × Distinct ms

pub in-at : (list : List Node) (i : ℕ) → i < length list → In (node_at list i) list
in-at [] i h = absurd (omega arith)
in-at (m ∷ ms) zero h = inl refl
in-at (m ∷ ms) (suc i) h = inr (in-at ms i (omega arith))

place-once : (list : List Node) (i : ℕ) → Distinct list → i < length list → place_of list (node_at list i) ≡ i
place-once [] i distinct h = absurd (omega arith)
place-once (m ∷ ms) zero distinct h = rw (same-self m) refl
place-once (m ∷ ms) (suc i) distinct h = ⊎_elim
    (λ (e : same (node_at ms i) m ≡ true). absurd (distinct.0 (let P : Node → Type 0 = λ x. In x ms in subst P (same-node (node_at ms i) m e) (in-at ms i (omega arith)))))
    (λ (e : same (node_at ms i) m ≡ false). let later = place-once ms i distinct.1 (omega arith) in rw e (omega arith))
    (cases_Bool (same (node_at ms i) m))

pub In-split : (n : Node) (xs ys : List Node) → In n (xs ++ ys) → In n xs ⊎ In n ys
In-split n [] ys i = inr i
In-split n (x ∷ xs) ys (inl e) = inl (inl e)
In-split n (x ∷ xs) ys (inr i) = ⊎_elim (λ (l : In n xs). inl (inr l)) (λ (r : In n ys). inr r) (In-split n xs ys i)

Distinct-append : (xs ys : List Node) → Distinct xs → Distinct ys → ((n : Node) → In n xs → In n ys → ⊥) → Distinct (xs ++ ys)
Distinct-append [] ys of_xs of_ys apart = of_ys
Distinct-append (x ∷ xs) ys of_xs of_ys apart = (
  (λ i. ⊎_elim (λ (l : In x xs). of_xs.0 l) (λ (r : In x ys). apart x (inl refl) r) (In-split x xs ys i)),
  Distinct-append xs ys of_xs.1 of_ys (λ n i j. apart n (inr i) j),
)

-- of a kind, and no earlier than this in the row of that kind
abbrev IsFrom : ℕ → ℕ → Node → Type 0
IsFrom k s n = (kind n ≡ k) × (s ≤ subject n)

source-is : (n : Node) (s : ℕ) (rates : List ℕ) → In n (source_nodes s rates) → IsFrom 0 s n
source-is n s [] i = absurd i
source-is n s (r ∷ rates) (inl e) = subst (IsFrom 0 s) e (refl, omega arith)
source-is n s (r ∷ rates) (inr i) = let later = source-is n (s + 1) rates i in (later.0, omega arith)

sources-distinct : (s : ℕ) (rates : List ℕ) → Distinct (source_nodes s rates)
sources-distinct s [] = tt
sources-distinct s (r ∷ rates) = ((λ i. let later = source-is (node.Source s) (s + 1) rates i in absurd (omega arith)), sources-distinct (s + 1) rates)

sink-is : (n : Node) (t : ℕ) (rates : List ℕ) → In n (sink_nodes t rates) → IsFrom 4 t n
sink-is n t [] i = absurd i
sink-is n t (r ∷ rates) (inl e) = subst (IsFrom 4 t) e (refl, omega arith)
sink-is n t (r ∷ rates) (inr i) = let later = sink-is n (t + 1) rates i in (later.0, omega arith)

sinks-distinct : (t : ℕ) (rates : List ℕ) → Distinct (sink_nodes t rates)
sinks-distinct t [] = tt
sinks-distinct t (r ∷ rates) = ((λ i. let later = sink-is (node.Sink t) (t + 1) rates i in absurd (omega arith)), sinks-distinct (t + 1) rates)

in-one : (c : Bool) (x n : Node) → In n (if c then [] else x ∷ []) → x ≡ n
in-one true x n i = absurd i
in-one false x n (inl e) = e
in-one false x n (inr i) = absurd i

distinct-one : (c : Bool) (x : Node) → Distinct (if c then [] else x ∷ [])
distinct-one true x = tt
distinct-one false x = ((λ i. i), tt)

init-is : (n : Node) (l : ℕ) (links : List Link) → In n (init_nodes l links) → IsFrom 1 l n
init-is n l [] i = absurd i
init-is n l (link ∷ links) i = ⊎_elim
    (λ (here : In n (if link.delay == 0 then [] else node.Init l ∷ [])). subst (IsFrom 1 l) (in-one (link.delay == 0) (node.Init l) n here) (refl, omega arith))
    (λ (there : In n (init_nodes (l + 1) links)). let later = init-is n (l + 1) links there in (later.0, omega arith))
    (In-split n (if link.delay == 0 then [] else node.Init l ∷ []) (init_nodes (l + 1) links) i)

inits-distinct : (l : ℕ) (links : List Link) → Distinct (init_nodes l links)
inits-distinct l [] = tt
inits-distinct l (link ∷ links) = Distinct-append (if link.delay == 0 then [] else node.Init l ∷ []) (init_nodes (l + 1) links) (distinct-one (link.delay == 0) (node.Init l)) (inits-distinct (l + 1) links)
    (λ n i j. let later = init-is n (l + 1) links j in let S : Node → Type 0 = λ x. subject x ≤ l in let own : S n = subst S (in-one (link.delay == 0) (node.Init l) n i) (omega arith) in absurd (omega arith))

end-is : (n : Node) (l : ℕ) (links : List Link) → In n (end_nodes l links) → IsFrom 3 l n
end-is n l [] i = absurd i
end-is n l (link ∷ links) i = ⊎_elim
    (λ (here : In n (if link.delay == 0 then [] else node.End l ∷ [])). subst (IsFrom 3 l) (in-one (link.delay == 0) (node.End l) n here) (refl, omega arith))
    (λ (there : In n (end_nodes (l + 1) links)). let later = end-is n (l + 1) links there in (later.0, omega arith))
    (In-split n (if link.delay == 0 then [] else node.End l ∷ []) (end_nodes (l + 1) links) i)

ends-distinct : (l : ℕ) (links : List Link) → Distinct (end_nodes l links)
ends-distinct l [] = tt
ends-distinct l (link ∷ links) = Distinct-append (if link.delay == 0 then [] else node.End l ∷ []) (end_nodes (l + 1) links) (distinct-one (link.delay == 0) (node.End l)) (ends-distinct (l + 1) links)
    (λ n i j. let later = end-is n (l + 1) links j in let S : Node → Type 0 = λ x. subject x ≤ l in let own : S n = subst S (in-one (link.delay == 0) (node.End l) n i) (omega arith) in absurd (omega arith))

-- a firing after those before it
abbrev IsAfter : List ℕ → Node → Type 0
IsAfter before n = (kind n ≡ 2) × (firings (subject n) before ≤ turn_of n)

firing-is : (n : Node) (before rest : List ℕ) → In n (firing_nodes (turns_after before rest)) → IsAfter before n
firing-is n before [] i = absurd i
firing-is n before (b ∷ rest) (inl e) = subst (IsAfter before) e (refl, omega arith)
firing-is n before (b ∷ rest) (inr i) = let later = firing-is n (before ++ b ∷ []) rest i in let more = firings-snoc_more (subject n) b before in (later.0, omega arith)

firings-distinct : (before rest : List ℕ) → Distinct (firing_nodes (turns_after before rest))
firings-distinct before [] = tt
firings-distinct before (b ∷ rest) = (
  (λ i. let later = firing-is (node.Firing b (firings b before)) (before ++ b ∷ []) rest i in let own = firings-snoc_own b before in absurd (omega arith)),
  firings-distinct (before ++ b ∷ []) rest,
)

firing-below : (n : Node) (before rest : List ℕ) → In n (firing_nodes (turns_after before rest)) → turn_of n < firings (subject n) before + firings (subject n) rest
firing-below n before [] i = absurd i
firing-below n before (b ∷ rest) (inl e) =
    let P : Node → Type 0 = λ x. turn_of x < firings (subject x) before + firings (subject x) (b ∷ rest) in
    let own : P (node.Firing b (firings b before)) = let o = firings-own b rest in omega arith in subst P e own
firing-below n before (b ∷ rest) (inr i) = let later = firing-below n (before ++ b ∷ []) rest i in let m = firings-moved (subject n) b before rest in omega arith

-- a Fork or a Join of this link, no earlier than this
abbrev IsCopier : ℕ → ℕ → ℕ → Node → Type 0
IsCopier k l i n = (kind n ≡ k) × (subject n ≡ l) × (i ≤ turn_of n)

fork-is : (n : Node) (l : ℕ) (readers : List Part) (a i : ℕ) (ws : List Part) → In n (map (λ w. w.head.node) (into_forks l readers a i ws)) → IsCopier 6 l i n
fork-is n l readers a i [] there = absurd there
fork-is n l readers a i (w ∷ ws) there = ⊎_elim
    (λ (lt : 1 < pieces a (a + w.size) 0 readers). ⊎_elim
    (λ (e : node.Fork l i ≡ n). subst (IsCopier 6 l i) e (refl, refl, omega arith))
    (λ (more : In n (map (λ w. w.head.node) (into_forks l readers (a + w.size) (i + 1) ws))). let later = fork-is n l readers (a + w.size) (i + 1) ws more in (later.0, later.1, omega arith))
    (rw (lt-ltb 1 (pieces a (a + w.size) 0 readers) lt) at there))
    (λ (ge : pieces a (a + w.size) 0 readers ≤ 1). let later = fork-is n l readers (a + w.size) (i + 1) ws (rw (le-ltb 1 (pieces a (a + w.size) 0 readers) ge) at there) in (later.0, later.1, omega arith))
    (cases_lt 1 (pieces a (a + w.size) 0 readers))

forks-distinct : (l : ℕ) (readers : List Part) (a i : ℕ) (ws : List Part) → Distinct (map (λ w. w.head.node) (into_forks l readers a i ws))
forks-distinct l readers a i [] = tt
forks-distinct l readers a i (w ∷ ws) = let later = forks-distinct l readers (a + w.size) (i + 1) ws in ⊎_elim
    (λ (lt : 1 < pieces a (a + w.size) 0 readers). rw (lt-ltb 1 (pieces a (a + w.size) 0 readers) lt) ((λ j. let past = fork-is (node.Fork l i) l readers (a + w.size) (i + 1) ws j in absurd (omega arith)), later))
    (λ (ge : pieces a (a + w.size) 0 readers ≤ 1). rw (le-ltb 1 (pieces a (a + w.size) 0 readers) ge) later)
    (cases_lt 1 (pieces a (a + w.size) 0 readers))

join-is : (n : Node) (l : ℕ) (writers : List Part) (b j : ℕ) (rs : List Part) → In n (map (λ w. w.tail.node) (out_of_joins l writers b j rs)) → IsCopier 7 l j n
join-is n l writers b j [] there = absurd there
join-is n l writers b j (r ∷ rs) there = ⊎_elim
    (λ (lt : 1 < pieces b (b + r.size) 0 writers). ⊎_elim
    (λ (e : node.Join l j ≡ n). subst (IsCopier 7 l j) e (refl, refl, omega arith))
    (λ (more : In n (map (λ w. w.tail.node) (out_of_joins l writers (b + r.size) (j + 1) rs))). let later = join-is n l writers (b + r.size) (j + 1) rs more in (later.0, later.1, omega arith))
    (rw (lt-ltb 1 (pieces b (b + r.size) 0 writers) lt) at there))
    (λ (ge : pieces b (b + r.size) 0 writers ≤ 1). let later = join-is n l writers (b + r.size) (j + 1) rs (rw (le-ltb 1 (pieces b (b + r.size) 0 writers) ge) at there) in (later.0, later.1, omega arith))
    (cases_lt 1 (pieces b (b + r.size) 0 writers))

joins-distinct : (l : ℕ) (writers : List Part) (b j : ℕ) (rs : List Part) → Distinct (map (λ w. w.tail.node) (out_of_joins l writers b j rs))
joins-distinct l writers b j [] = tt
joins-distinct l writers b j (r ∷ rs) = let later = joins-distinct l writers (b + r.size) (j + 1) rs in ⊎_elim
    (λ (lt : 1 < pieces b (b + r.size) 0 writers). rw (lt-ltb 1 (pieces b (b + r.size) 0 writers) lt) ((λ i. let past = join-is (node.Join l j) l writers (b + r.size) (j + 1) rs i in absurd (omega arith)), later))
    (λ (ge : pieces b (b + r.size) 0 writers ≤ 1). rw (le-ltb 1 (pieces b (b + r.size) 0 writers) ge) later)
    (cases_lt 1 (pieces b (b + r.size) 0 writers))

-- a node that copies, of this link
abbrev IsOfLink : ℕ → Node → Type 0
IsOfLink l n = (5 ≤ kind n) × (subject n ≡ l)

-- the nodes of one link that copy
abbrev AreCopies : ℕ → List Node → Type 0
AreCopies l list = Distinct list × ((n : Node) → In n list → IsOfLink l n)

both-copies : (l : ℕ) (writers readers : List Part) → AreCopies l (forks_and_joins l writers readers)
both-copies l writers readers = (
  Distinct-append (map (λ w. w.head.node) (into_forks l readers 0 0 writers)) (map (λ w. w.tail.node) (out_of_joins l writers 0 0 readers)) (forks-distinct l readers 0 0 writers) (joins-distinct l writers 0 0 readers)
      (λ n i j. let f = fork-is n l readers 0 0 writers i in let g = join-is n l writers 0 0 readers j in absurd (omega arith)),
  λ n i. ⊎_elim
      (λ (f : In n (map (λ w. w.head.node) (into_forks l readers 0 0 writers))). let is = fork-is n l readers 0 0 writers f in (omega arith, is.1))
      (λ (g : In n (map (λ w. w.tail.node) (out_of_joins l writers 0 0 readers))). let is = join-is n l writers 0 0 readers g in (omega arith, is.1))
      (In-split n (map (λ w. w.head.node) (into_forks l readers 0 0 writers)) (map (λ w. w.tail.node) (out_of_joins l writers 0 0 readers)) i),
)

one-copy : (l : ℕ) (m : Node) → IsOfLink l m → AreCopies l (m ∷ [])
one-copy l m is = (((λ i. i), tt), λ n i. ⊎_elim (λ (e : m ≡ n). subst (IsOfLink l) e is) (λ (none : ⊥). absurd none) i)

module _ (level : LevelView) (q : List ℕ) where
  link-copies : (l : ℕ) (t : Tail) (h : Head) (d : ℕ) → AreCopies l (copies_at level q l t h d)
  link-copies l (tail.Source s) (head.Sink t) d = (tt, λ n i. absurd i)
  link-copies l (tail.Source s) (head.Port b j c) d = go (cases_Bool (slice_index q b * c == slice_index level.sources s))
    where
      go : (slice_index q b * c == slice_index level.sources s) ≡ true ⊎ (slice_index q b * c == slice_index level.sources s) ≡ false → AreCopies l (copies_at level q l (tail.Source s) (head.Port b j c) d)
      go (inl e) = rw e (both-copies l (record { at = record { node = node.Source s; port = 0 }; size = slice_index level.sources s } ∷ []) (firing_parts b j c 0 (slice_index q b)))
      go (inr e) = rw e (one-copy l (node.Broadcast l) (omega arith, refl))
  link-copies l (tail.Port a p r) (head.Sink t) d = go (cases_Bool (slice_index q a * r == slice_index level.sinks t))
    where
      go : (slice_index q a * r == slice_index level.sinks t) ≡ true ⊎ (slice_index q a * r == slice_index level.sinks t) ≡ false → AreCopies l (copies_at level q l (tail.Port a p r) (head.Sink t) d)
      go (inl e) = rw e (both-copies l (firing_parts a p r 0 (slice_index q a)) (record { at = record { node = node.Sink t; port = 0 }; size = slice_index level.sinks t } ∷ []))
      go (inr e) = rw e (one-copy l (node.Round l) (omega arith, refl))
  link-copies l (tail.Port a p r) (head.Port b j c) d = both-copies l (delay_part (node.Init l) d ++ firing_parts a p r 0 (slice_index q a)) (firing_parts b j c 0 (slice_index q b) ++ delay_part (node.End l) d)

  copy-is : (n : Node) (l : ℕ) (links : List Link) → In n (copies_from level q l links) → (5 ≤ kind n) × (l ≤ subject n)
  copy-is n l [] i = absurd i
  copy-is n l (link ∷ links) i = ⊎_elim
      (λ (here : In n (copies_at level q l link.tail link.head link.delay)). let is = (link-copies l link.tail link.head link.delay).1 n here in (is.0, omega arith))
      (λ (there : In n (copies_from level q (l + 1) links)). let later = copy-is n (l + 1) links there in (later.0, omega arith))
      (In-split n (copies_at level q l link.tail link.head link.delay) (copies_from level q (l + 1) links) i)

  copies-distinct : (l : ℕ) (links : List Link) → Distinct (copies_from level q l links)
  copies-distinct l [] = tt
  copies-distinct l (link ∷ links) = let here = link-copies l link.tail link.head link.delay in
      Distinct-append (copies_at level q l link.tail link.head link.delay) (copies_from level q (l + 1) links) here.0 (copies-distinct (l + 1) links)
      (λ n i j. let is = here.1 n i in let later = copy-is n (l + 1) links j in absurd (omega arith))

  -- what stands before the firings, and what after them
  abbrev pub first_nodes : List Node
  first_nodes = source_nodes 0 level.sources ++ init_nodes 0 level.links

  abbrev pub last_nodes : List Node
  last_nodes = copies_from level q 0 level.links ++ (end_nodes 0 level.links ++ sink_nodes 0 level.sinks)

  pub first-kinds : (n : Node) → In n first_nodes → kind n < 2
  first-kinds n i = ⊎_elim
      (λ (s : In n (source_nodes 0 level.sources)). let is = source-is n 0 level.sources s in omega arith)
      (λ (t : In n (init_nodes 0 level.links)). let is = init-is n 0 level.links t in omega arith)
      (In-split n (source_nodes 0 level.sources) (init_nodes 0 level.links) i)

  end-kinds : (n : Node) → In n (end_nodes 0 level.links ++ sink_nodes 0 level.sinks) → (3 ≤ kind n) × (kind n < 5)
  end-kinds n i = ⊎_elim
      (λ (s : In n (end_nodes 0 level.links)). let is = end-is n 0 level.links s in (omega arith, omega arith))
      (λ (t : In n (sink_nodes 0 level.sinks)). let is = sink-is n 0 level.sinks t in (omega arith, omega arith))
      (In-split n (end_nodes 0 level.links) (sink_nodes 0 level.sinks) i)

  pub last-kinds : (n : Node) → In n last_nodes → 2 < kind n
  last-kinds n i = ⊎_elim
      (λ (s : In n (copies_from level q 0 level.links)). let is = copy-is n 0 level.links s in omega arith)
      (λ (t : In n (end_nodes 0 level.links ++ sink_nodes 0 level.sinks)). let is = end-kinds n t in omega arith)
      (In-split n (copies_from level q 0 level.links) (end_nodes 0 level.links ++ sink_nodes 0 level.sinks) i)

  last-distinct : Distinct last_nodes
  last-distinct = Distinct-append (copies_from level q 0 level.links) (end_nodes 0 level.links ++ sink_nodes 0 level.sinks) (copies-distinct 0 level.links)
      (Distinct-append (end_nodes 0 level.links) (sink_nodes 0 level.sinks) (ends-distinct 0 level.links) (sinks-distinct 0 level.sinks) (λ n i j. let e = end-is n 0 level.links i in let s = sink-is n 0 level.sinks j in absurd (omega arith)))
      (λ n i j. let c = copy-is n 0 level.links i in let e = end-kinds n j in absurd (omega arith))

  regroup : (a b c d e f : List Node) → a ++ b ++ c ++ d ++ e ++ f ≡ (a ++ b) ++ (c ++ (d ++ (e ++ f)))
  regroup a b c d e f = simp append_assoc

  pub nodes-parts : (turns : List Turn) → IsTurnOrder level q turns → nodes level q turns ≡ first_nodes ++ (firing_nodes (turns_after [] (actors_of turns)) ++ last_nodes)
  nodes-parts turns order = ap (λ (t : List Turn). nodes level q t) order.numbered ∙ regroup (source_nodes 0 level.sources) (init_nodes 0 level.links) (firing_nodes (turns_after [] (actors_of turns))) (copies_from level q 0 level.links) (end_nodes 0 level.links) (sink_nodes 0 level.sinks)

  all-distinct : (list : List ℕ) → Distinct (first_nodes ++ (firing_nodes (turns_after [] list) ++ last_nodes))
  all-distinct list = Distinct-append first_nodes (firing_nodes (turns_after [] list) ++ last_nodes)
      (Distinct-append (source_nodes 0 level.sources) (init_nodes 0 level.links) (sources-distinct 0 level.sources) (inits-distinct 0 level.links) (λ n i j. let s = source-is n 0 level.sources i in let t = init-is n 0 level.links j in absurd (omega arith)))
      (Distinct-append (firing_nodes (turns_after [] list)) last_nodes (firings-distinct [] list) last-distinct (λ n i j. let f = firing-is n [] list i in let k = last-kinds n j in absurd (omega arith)))
      (λ n i j. let k = first-kinds n i in ⊎_elim
      (λ (f : In n (firing_nodes (turns_after [] list))). let is = firing-is n [] list f in absurd (omega arith))
      (λ (l : In n last_nodes). let is = last-kinds n l in absurd (omega arith))
      (In-split n (firing_nodes (turns_after [] list)) last_nodes j))

  pub nodes-once : (turns : List Turn) → IsTurnOrder level q turns → (i : ℕ) → i < length (nodes level q turns) → place_of (nodes level q turns) (node_at (nodes level q turns) i) ≡ i
  nodes-once turns order i h =
      let P : List Node → Type 0 = λ l. Distinct l in
      place-once (nodes level q turns) i (subst P (sym (nodes-parts turns order)) (all-distinct (actors_of turns))) h

  -- where a node stands, by its kind
  module _ (turns : List Turn) (order : IsTurnOrder level q turns) (m : Node) (there : In m (nodes level q turns)) where
    parts-in : In m first_nodes ⊎ In m (firing_nodes (turns_after [] (actors_of turns)) ++ last_nodes)
    parts-in = let P : List Node → Type 0 = λ l. In m l in In-split m first_nodes (firing_nodes (turns_after [] (actors_of turns)) ++ last_nodes) (subst P (nodes-parts turns order) there)

    pub init-in : kind m ≡ 1 → In m (init_nodes 0 level.links)
    init-in is = ⊎_elim
        (λ (i : In m first_nodes). ⊎_elim
        (λ (s : In m (source_nodes 0 level.sources)). let k = source-is m 0 level.sources s in absurd (omega arith))
        (λ (t : In m (init_nodes 0 level.links)). t)
        (In-split m (source_nodes 0 level.sources) (init_nodes 0 level.links) i))
        (λ (j : In m (firing_nodes (turns_after [] (actors_of turns)) ++ last_nodes)). ⊎_elim
        (λ (f : In m (firing_nodes (turns_after [] (actors_of turns)))). let k = firing-is m [] (actors_of turns) f in absurd (omega arith))
        (λ (l : In m last_nodes). let k = last-kinds m l in absurd (omega arith))
        (In-split m (firing_nodes (turns_after [] (actors_of turns))) last_nodes j))
        parts-in

    pub firing-within : kind m ≡ 2 → turn_of m < firings (subject m) (actors_of turns)
    firing-within is = ⊎_elim
        (λ (i : In m first_nodes). let k = first-kinds m i in absurd (omega arith))
        (λ (j : In m (firing_nodes (turns_after [] (actors_of turns)) ++ last_nodes)). ⊎_elim
        (λ (f : In m (firing_nodes (turns_after [] (actors_of turns)))). let b = firing-below m [] (actors_of turns) f in omega arith)
        (λ (l : In m last_nodes). let k = last-kinds m l in absurd (omega arith))
        (In-split m (firing_nodes (turns_after [] (actors_of turns))) last_nodes j))
        parts-in

    pub copies-in : 5 ≤ kind m → In m (copies_from level q 0 level.links)
    copies-in copies = ⊎_elim
        (λ (i : In m first_nodes). let k = first-kinds m i in absurd (omega arith))
        (λ (j : In m (firing_nodes (turns_after [] (actors_of turns)) ++ last_nodes)). ⊎_elim
        (λ (f : In m (firing_nodes (turns_after [] (actors_of turns)))). let k = firing-is m [] (actors_of turns) f in absurd (omega arith))
        (λ (l : In m last_nodes). ⊎_elim
        (λ (c : In m (copies_from level q 0 level.links)). c)
        (λ (e : In m (end_nodes 0 level.links ++ sink_nodes 0 level.sinks)). let x = end-kinds m e in absurd (omega arith))
        (In-split m (copies_from level q 0 level.links) (end_nodes 0 level.links ++ sink_nodes 0 level.sinks) l))
        (In-split m (firing_nodes (turns_after [] (actors_of turns))) last_nodes j))
        parts-in
