-- Within the limits there are few firings and few nodes.
use Rattle.std.proofs.Common.{◌≡◌, ℕ, zero, suc, ◌+◌, ◌-◌, ◌*◌, ◌<◌, ◌≤◌, Bool, true, false, ◌==◌, ⊎_elim, ◌⊎◌, inl, inr, List, [], ◌∷◌, ◌++◌, length, set, slice_index, if◌then◌else◌, refl, sym, ◌∙◌, nat_lt, arith}
use Rattle.std.specs.List.{sum}
use Rattle.std.proofs.lemmas.Bool.{cases_Bool, cases_eq, cases_lt, ne_eqb}
use Rattle.std.proofs.lemmas.List.{length-append, length-map, get_or-set_same, get_or-set_other, get_or_past}
use Rattle.std.proofs.lemmas.List.Sums.{sum_by-set}
use Rattle.sdf_level.specs.View.{LevelView}
use Rattle.sdf_level.specs.Invariants.{how_many, is_from_source, is_into_sink, IsLevel}
use Rattle.sdf_level.specs.Firings.{firings, actors_of}
use Rattle.sdf_level.specs.Orders.{IsTurnOrder}
use Rattle.sdf_level.specs.Limits.{tail_count, head_count, links_of, IsWithinLimits}
use Rattle.sdf_level.specs.declared.link.Link.{Link}
use Rattle.sdf_level.specs.declared.link.Tail.{Tail}
use Rattle.sdf_level.specs.declared.link.Head.{Head}
use Rattle.sdf_level.specs.declared.link.Tail.TheVariants as tail
use Rattle.sdf_level.specs.declared.link.Head.TheVariants as head
use Rattle.sdf_level.specs.declared.node.Node.{Node}
use Rattle.sdf_level.specs.declared.node.Node.TheVariants as node
use Rattle.sdf_level.specs.declared.turn.Turn.{Turn}
use Rattle.sdf_level.proofs.FiringLists.{firings-own, firings-of_other}
use Rattle.single_rate.specs.declared.part.Part.{Part}
use Rattle.single_rate.specs.declared.wire.Wire.{Wire}
use Rattle.single_rate.specs.Wires.{pieces, into_forks, out_of_joins, firing_parts, delay_part}
use Rattle.single_rate.proofs.Snocs.{firings-length, delay-length}
use Rattle.single_rate.specs.Expanded.{source_nodes, sink_nodes, init_nodes, end_nodes, firing_nodes, forks_and_joins, copies_at, copies_from, nodes}

-- no list is longer than the sum of its counts
pub length-within : (q list : List ℕ) → ((a : ℕ) → firings a list ≤ slice_index q a) → length list ≤ sum q
length-within q [] within = omega arith
length-within q (b ∷ rest) within =
    let own = firings-own b rest in
    let here = within b in
    let there : b < length q = ⊎_elim
    (λ (lt : b < length q). lt)
    (λ (ge : length q ≤ b). let none : slice_index q b ≡ 0 = get_or_past q b 0 ge in absurd (omega arith))
    (cases_lt b (length q)) in
    let less : List ℕ = set q b (slice_index q b - 1) in
    let rest_within : (a : ℕ) → firings a rest ≤ slice_index less a = λ a. ⊎_elim
    (λ (e : a ≡ b). let s : slice_index less b ≡ slice_index q b - 1 = get_or-set_same q b (slice_index q b - 1) 0 there in rw (e, s) (omega arith))
    (λ (n : a ≡ b → ⊥). let s : slice_index less a ≡ slice_index q a = get_or-set_other q b a (slice_index q b - 1) 0 n in let o = firings-of_other a b rest (λ e. n (sym e)) in let w = within a in rw s (omega arith))
    (cases_eq a b) in
    let later = length-within less rest rest_within in
    let all : sum less + slice_index q b ≡ sum q + (slice_index q b - 1) = sum_by-set (λ (x : ℕ). x) q b (slice_index q b - 1) 0 there in
    omega arith

module _ (test : ℕ → Link → Bool) (only : (link : Link) (s t : ℕ) → test s link ≡ true → test t link ≡ true → s ≡ t) where
  abbrev one : Bool → ℕ
  one c = if c then 1 else 0

  -- how many of the first n tests a link meets, and how often links do in all
  abbrev met : ℕ → Link → ℕ
  met zero link = 0
  met (suc n) link = met n link + one (test n link)

  abbrev all_met : ℕ → List Link → ℕ
  all_met zero links = 0
  all_met (suc n) links = all_met n links + how_many (test n) links

  met-none : (n : ℕ) (link : Link) → ((s : ℕ) → s < n → test s link ≡ false) → met n link ≡ 0
  met-none zero link none = refl
  met-none (suc n) link none = let m = met-none n link (λ s h. none s (omega arith)) in rw (none n (omega arith)) (omega arith)

  met-once : (n : ℕ) (link : Link) → met n link ≤ 1
  met-once zero link = omega arith
  met-once (suc n) link = go (cases_Bool (test n link)) (met-once n link)
    where
      other : test n link ≡ true → (s : ℕ) → s < n → test s link ≡ false
      other e s h = ⊎_elim (λ (t : test s link ≡ true). let same = only link s n t e in absurd (omega arith)) (λ (f : test s link ≡ false). f) (cases_Bool (test s link))

      go : (test n link ≡ true) ⊎ (test n link ≡ false) → met n link ≤ 1 → met n link + one (test n link) ≤ 1
      go (inl e) before = let m = met-none n link (other e) in rw e (omega arith)
      go (inr e) before = rw e (omega arith)

  met-more : (n : ℕ) (link : Link) (links : List Link) → all_met n (link ∷ links) ≡ met n link + all_met n links
  met-more zero link links = refl
  met-more (suc n) link links = let m = met-more n link links in omega arith

  none-met : (n : ℕ) → all_met n [] ≡ 0
  none-met zero = refl
  none-met (suc n) = let m = none-met n in omega arith

  met-within : (n : ℕ) (links : List Link) → all_met n links ≤ length links
  met-within n [] = let m = none-met n in omega arith
  met-within n (link ∷ links) = let m = met-more n link links in let o = met-once n link in let w = met-within n links in omega arith

  each-met : (n : ℕ) (links : List Link) → ((s : ℕ) → s < n → how_many (test s) links ≡ 1) → all_met n links ≡ n
  each-met zero links each = refl
  each-met (suc n) links each = let m = each-met n links (λ s h. each s (omega arith)) in let h = each n (omega arith) in omega arith

  -- where each of n tests is met by a link, and no link meets two, there are n links
  pub links-enough : (n : ℕ) (links : List Link) → ((s : ℕ) → s < n → how_many (test s) links ≡ 1) → n ≤ length links
  links-enough n links each = let m = each-met n links each in let w = met-within n links in omega arith

  -- the links that meet a test are of those that meet this one
  module _ (of : Link → Bool) (is_of : (link : Link) (s : ℕ) → test s link ≡ true → of link ≡ true) where
    met-of : (n : ℕ) (link : Link) → met n link ≤ one (of link)
    met-of n link = ⊎_elim
        (λ (e : of link ≡ true). let o = met-once n link in rw e o)
        (λ (e : of link ≡ false). let none = met-none n link (λ s h. ⊎_elim (λ (t : test s link ≡ true). absurd (let f = is_of link s t in cc)) (λ (f : test s link ≡ false). f) (cases_Bool (test s link))) in omega arith)
        (cases_Bool (of link))

    all-of : (n : ℕ) (links : List Link) → all_met n links ≤ how_many of links
    all-of n [] = let m = none-met n in omega arith
    all-of n (link ∷ links) = let m = met-more n link links in let o = met-of n link in let w = all-of n links in omega arith

    counted : (links : List Link) → ((s : ℕ) → 0 < how_many (test (s + 1)) links → 0 < how_many (test s) links) → (n : ℕ) → 0 < how_many (test n) links → n < all_met (suc n) links
    counted links gapless zero there = omega arith
    counted links gapless (suc n) there = let e : suc n ≡ n + 1 = omega arith in let c = counted links gapless n (gapless n (rw e at there)) in omega arith

    -- where a test without a gap before it is met, its number is below the count of them
    pub number-below : (links : List Link) → ((s : ℕ) → 0 < how_many (test (s + 1)) links → 0 < how_many (test s) links) → (n : ℕ) → 0 < how_many (test n) links → n < how_many of links
    number-below links gapless n there = let c = counted links gapless n there in let a = all-of (suc n) links in omega arith

equal : (t s : ℕ) → (t == s) ≡ true → t ≡ s
equal t s h = ⊎_elim (λ (e : t ≡ s). e) (λ (n : t ≡ s → ⊥). absurd (let f = ne_eqb t s n in cc)) (cases_eq t s)

one-source : (link : Link) (s t : ℕ) → is_from_source s link ≡ true → is_from_source t link ≡ true → s ≡ t
one-source link s t e f = go link.tail e f
  where
    go : (x : Tail) → (elim x [ tail.Source u ↦ u == s | tail.Port a p r ↦ false ]) ≡ true → (elim x [ tail.Source u ↦ u == t | tail.Port a p r ↦ false ]) ≡ true → s ≡ t
    go (tail.Source u) e f = sym (equal u s e) ∙ equal u t f
    go (tail.Port a p r) e f = absurd (cc)

one-sink : (link : Link) (s t : ℕ) → is_into_sink s link ≡ true → is_into_sink t link ≡ true → s ≡ t
one-sink link s t e f = go link.head e f
  where
    go : (x : Head) → (elim x [ head.Sink u ↦ u == s | head.Port a p r ↦ false ]) ≡ true → (elim x [ head.Sink u ↦ u == t | head.Port a p r ↦ false ]) ≡ true → s ≡ t
    go (head.Sink u) e f = sym (equal u s e) ∙ equal u t f
    go (head.Port b j c) e f = absurd (cc)

source-count : (s : ℕ) (rates : List ℕ) → length (source_nodes s rates) ≡ length rates
source-count s [] = refl
source-count s (r ∷ rates) = let e = source-count (s + 1) rates in omega arith

sink-count : (t : ℕ) (rates : List ℕ) → length (sink_nodes t rates) ≡ length rates
sink-count t [] = refl
sink-count t (r ∷ rates) = let e = sink-count (t + 1) rates in omega arith

if-one : (c : Bool) (n : Node) → length (if c then [] else n ∷ []) ≤ 1
if-one true n = omega arith
if-one false n = omega arith

init-count : (l : ℕ) (links : List Link) → length (init_nodes l links) ≤ length links
init-count l [] = omega arith
init-count l (link ∷ links) = let e = init-count (l + 1) links in let o = if-one (link.delay == 0) (node.Init l) in rw length-append (omega arith)

end-count : (l : ℕ) (links : List Link) → length (end_nodes l links) ≤ length links
end-count l [] = omega arith
end-count l (link ∷ links) = let e = end-count (l + 1) links in let o = if-one (link.delay == 0) (node.End l) in rw length-append (omega arith)

one-wire : (c : Bool) (w : Wire) → length (if c then w ∷ [] else []) ≤ 1
one-wire true w = omega arith
one-wire false w = omega arith

fork-count : (l : ℕ) (readers : List Part) (a i : ℕ) (writers : List Part) → length (into_forks l readers a i writers) ≤ length writers
fork-count l readers a i [] = omega arith
fork-count l readers a i (w ∷ writers) =
    let e = fork-count l readers (a + w.size) (i + 1) writers in
    let o = one-wire (nat_lt 1 (pieces a (a + w.size) 0 readers)) record { tail = w.at; head = record { node = node.Fork l i; port = 0 }; size = w.size; place = a } in
    rw length-append (omega arith)

join-count : (l : ℕ) (writers : List Part) (b j : ℕ) (readers : List Part) → length (out_of_joins l writers b j readers) ≤ length readers
join-count l writers b j [] = omega arith
join-count l writers b j (r ∷ readers) =
    let e = join-count l writers (b + r.size) (j + 1) readers in
    let o = one-wire (nat_lt 1 (pieces b (b + r.size) 0 writers)) record { tail = record { node = node.Join l j; port = 0 }; head = r.at; size = r.size; place = b } in
    rw length-append (omega arith)

copy-count : (l : ℕ) (writers readers : List Part) → length (forks_and_joins l writers readers) ≤ length writers + length readers
copy-count l writers readers = let f = fork-count l readers 0 0 writers in let j = join-count l writers 0 0 readers in rw (length-append, length-map, length-map) (omega arith)

module _ (level : LevelView) (q : List ℕ) where
  one-link : (l : ℕ) (t : Tail) (h : Head) (d : ℕ) → length (copies_at level q l t h d) ≤ tail_count q t + head_count q h + 2
  one-link l (tail.Source s) (head.Sink t) d = omega arith
  one-link l (tail.Source s) (head.Port b j c) d = go (cases_Bool (slice_index q b * c == slice_index level.sources s))
    where
      writers : List Part
      writers = record { at = record { node = node.Source s; port = 0 }; size = slice_index level.sources s } ∷ []

      go : (slice_index q b * c == slice_index level.sources s) ≡ true ⊎ (slice_index q b * c == slice_index level.sources s) ≡ false → length (copies_at level q l (tail.Source s) (head.Port b j c) d) ≤ 1 + slice_index q b + 2
      go (inl e) = let n = copy-count l writers (firing_parts b j c 0 (slice_index q b)) in let p = firings-length b j c 0 (slice_index q b) in rw e (omega arith)
      go (inr e) = rw e (omega arith)
  one-link l (tail.Port a p r) (head.Sink t) d = go (cases_Bool (slice_index q a * r == slice_index level.sinks t))
    where
      readers : List Part
      readers = record { at = record { node = node.Sink t; port = 0 }; size = slice_index level.sinks t } ∷ []

      go : (slice_index q a * r == slice_index level.sinks t) ≡ true ⊎ (slice_index q a * r == slice_index level.sinks t) ≡ false → length (copies_at level q l (tail.Port a p r) (head.Sink t) d) ≤ slice_index q a + 1 + 2
      go (inl e) = let n = copy-count l (firing_parts a p r 0 (slice_index q a)) readers in let m = firings-length a p r 0 (slice_index q a) in rw e (omega arith)
      go (inr e) = rw e (omega arith)
  one-link l (tail.Port a p r) (head.Port b j c) d =
      let n = copy-count l (delay_part (node.Init l) d ++ firing_parts a p r 0 (slice_index q a)) (firing_parts b j c 0 (slice_index q b) ++ delay_part (node.End l) d) in
      let w = length-append (delay_part (node.Init l) d) (firing_parts a p r 0 (slice_index q a)) in
      let r' = length-append (firing_parts b j c 0 (slice_index q b)) (delay_part (node.End l) d) in
      let x = firings-length a p r 0 (slice_index q a) in let y = firings-length b j c 0 (slice_index q b) in
      let i = delay-length (node.Init l) d in let e = delay-length (node.End l) d in
      omega arith

  all-links : (l : ℕ) (links : List Link) → (length (copies_from level q l links) ≤ links_of q links) × (length links ≤ links_of q links)
  all-links l [] = (omega arith, omega arith)
  all-links l (link ∷ links) = let o = one-link l link.tail link.head link.delay in let a = all-links (l + 1) links in (rw length-append (omega arith), omega arith)

  pub few-turns : (turns : List Turn) → IsTurnOrder level q turns → IsWithinLimits level q → length turns ≤ 2048
  few-turns turns order limits =
      let w = length-within q (actors_of turns) (λ a. let c = order.order.admissible.counts a in omega arith) in
      let l : length (actors_of turns) ≡ length turns = length-map turns (λ (t : Turn). t.actor) in
      let f = limits.firings in
      omega arith

  pub few-nodes : (turns : List Turn) → IsLevel level → IsTurnOrder level q turns → IsWithinLimits level q → length (nodes level q turns) ≤ 43008
  few-nodes turns sound order limits =
      let s = links-enough is_from_source one-source (length level.sources) level.links sound.sources_at_one in
      let t = links-enough is_into_sink one-sink (length level.sinks) level.links sound.sinks_at_one in
      let c = all-links 0 level.links in
      let f = few-turns turns order limits in
      let w = limits.links in
      let sc = source-count 0 level.sources in let tc = sink-count 0 level.sinks in let ic = init-count 0 level.links in let ec = end-count 0 level.links in
      let fc : length (firing_nodes turns) ≡ length turns = length-map turns (λ (x : Turn). node.Firing x.actor x.turn) in
      rw (length-append, length-append, length-append, length-append, length-append) (omega arith)
