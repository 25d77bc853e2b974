-- Links whose sources, sinks and ports are numbered in their order are those of a level.
use Rattle.std.proofs.Common.{◌≡◌, ◌≢◌, ℕ, ◌+◌, ◌<◌, ◌≤◌, ◌^◌, ⊎_elim, Bool, true, false, ◌==◌, ◌&&◌, if◌then◌else◌, List, [], ◌∷◌, ◌++◌, length, set, slice_index, replicate, refl, sym, ◌∙◌, arith, All}
use Rattle.std.proofs.lemmas.Bool.{cases_eq, cases_lt, eq-eqb, ne_eqb}
use Rattle.std.proofs.lemmas.List.{get_or-set_same, get_or-set_other, length-append, get_or-replicate, get_or_past, length-replicate}
use Rattle.std.proofs.lemmas.List.Elements.{All-head, All-tail}
use Rattle.std.specs.List.{AllByRecursion}
use Rattle.sdf_level.specs.declared.TheConstants.{RATE_LIMIT}
use Rattle.sdf_level.specs.declared.link.Link.{Link}
use Rattle.sdf_level.specs.declared.link.Tail.{Tail}
use Rattle.sdf_level.specs.declared.link.Head.{Head}
use Rattle.sdf_level.specs.declared.link.Tail.TheVariants as tail
use Rattle.sdf_level.specs.declared.link.Head.TheVariants as head
use Rattle.sdf_level.specs.View.{LevelView}
use Rattle.sdf_level.specs.Invariants.{TailIsThere, HeadIsThere, TouchesActor, HasSoundDelay, HasTailRateWithin, HasHeadRateWithin, how_many, is_from_source, is_into_sink, is_from_port, is_into_port, IsLevel}
use Rattle.case_rows.specs.Numbering.{NextTail, NextHead, AreSoundEnds, IsSoundIn}

-- the ports of an actor are taken once each up to its count, and no others
pub record AreTaken (test : ℕ → ℕ → Link → Bool) (links : List Link) (counts : List ℕ) : Type 0 where
  pub below : (a p : ℕ) → p < slice_index counts a → how_many (test a p) links ≡ 1
  pub past : (a p : ℕ) → slice_index counts a ≤ p → how_many (test a p) links ≡ 0

-- the numbers up to a count are taken once each, and no others
pub record AreTakenTo (test : ℕ → Link → Bool) (links : List Link) (count : ℕ) : Type 0 where
  pub below : (s : ℕ) → s < count → how_many (test s) links ≡ 1
  pub past : (s : ℕ) → count ≤ s → how_many (test s) links ≡ 0

pub record AreNumbered (links : List Link) (sources sinks outputs inputs : List ℕ) : Type 0 where
  pub from : AreTaken is_from_port links outputs
  pub into : AreTaken is_into_port links inputs
  pub from_each : AreTakenTo is_from_source links (length sources)
  pub into_each : AreTakenTo is_into_sink links (length sinks)

how_many-snoc : (test : Link → Bool) (links : List Link) (link : Link) → how_many test (links ++ link ∷ []) ≡ how_many test links + (if test link then 1 else 0)
how_many-snoc test [] link = omega arith
how_many-snoc test (l ∷ links) link = let e = how_many-snoc test links link in omega arith

abbrev one_if : Bool → ℕ
one_if b = if b then 1 else 0

if_false : (b : Bool) → b ≡ false → one_if b ≡ 0
if_false b e = rw e refl

if_true : (b : Bool) → b ≡ true → one_if b ≡ 1
if_true b e = rw e refl

-- a link that meets no test
kept : (test : ℕ → ℕ → Link → Bool) (links : List Link) (counts : List ℕ) (link : Link) → ((a p : ℕ) → test a p link ≡ false) → AreTaken test links counts → AreTaken test (links ++ link ∷ []) counts
kept test links counts link never taken = record {
  below = λ a p h. let e = how_many-snoc (test a p) links link in let z = if_false (test a p link) (never a p) in let k = taken.below a p h in omega arith;
  past = λ a p h. let e = how_many-snoc (test a p) links link in let z = if_false (test a p link) (never a p) in let k = taken.past a p h in omega arith;
}

kept_to : (test : ℕ → Link → Bool) (links : List Link) (count : ℕ) (link : Link) → ((s : ℕ) → test s link ≡ false) → AreTakenTo test links count → AreTakenTo test (links ++ link ∷ []) count
kept_to test links count link never taken = record {
  below = λ s h. let e = how_many-snoc (test s) links link in let z = if_false (test s link) (never s) in let k = taken.below s h in omega arith;
  past = λ s h. let e = how_many-snoc (test s) links link in let z = if_false (test s link) (never s) in let k = taken.past s h in omega arith;
}

-- a link that meets the next test
more_to : (test : ℕ → Link → Bool) (links : List Link) (count : ℕ) (link : Link) → test count link ≡ true → ((s : ℕ) → s ≢ count → test s link ≡ false) → AreTakenTo test links count → AreTakenTo test (links ++ link ∷ []) (count + 1)
more_to test links count link own other taken = record {
  below = λ s h. let e = how_many-snoc (test s) links link in ⊎_elim
      (λ (less : s < count). let k = taken.below s less in let z = if_false (test s link) (other s (λ f. omega arith)) in omega arith)
      (λ (more : count ≤ s). let last : s ≡ count = omega arith in let k = taken.past s more in let z = if_true (test s link) (rw last own) in omega arith)
      (cases_lt s count);
  past = λ s h. let e = how_many-snoc (test s) links link in let k = taken.past s (omega arith) in let z = if_false (test s link) (other s (λ f. omega arith)) in omega arith;
}

-- one port more of the actor a
module _ (test : ℕ → ℕ → Link → Bool) (links : List Link) (counts : List ℕ) (link : Link) (a : ℕ)
    (own : test a (slice_index counts a) link ≡ true)
    (other_port : (p : ℕ) → p ≢ slice_index counts a → test a p link ≡ false)
    (other_actor : (b p : ℕ) → b ≢ a → test b p link ≡ false)
    (there : a < length counts) (taken : AreTaken test links counts) where
  own_count : slice_index (set counts a (slice_index counts a + 1)) a ≡ slice_index counts a + 1
  own_count = get_or-set_same counts a (slice_index counts a + 1) 0 there

  other_count : (b : ℕ) → b ≢ a → slice_index (set counts a (slice_index counts a + 1)) b ≡ slice_index counts b
  other_count b n = get_or-set_other counts a b (slice_index counts a + 1) 0 n

  more_below : (b p : ℕ) → p < slice_index (set counts a (slice_index counts a + 1)) b → how_many (test b p) (links ++ link ∷ []) ≡ 1
  more_below b p h = how_many-snoc (test b p) links link ∙ ⊎_elim
      (λ (e : b ≡ a). rw e (⊎_elim
      (λ (less : p < slice_index counts a). let k = taken.below a p less in let z = if_false (test a p link) (other_port p (λ e. omega arith)) in omega arith)
      (λ (more : slice_index counts a ≤ p).
      let last : p ≡ slice_index counts a = let c = own_count in let h' : p < slice_index (set counts a (slice_index counts a + 1)) a = rw e at h in omega arith in
      let k = taken.past a p more in
      let z = if_true (test a p link) (rw last own) in omega arith)
      (cases_lt p (slice_index counts a))))
      (λ (n : b ≢ a). let k = taken.below b p (let c = other_count b n in omega arith) in let z = if_false (test b p link) (other_actor b p n) in omega arith)
      (cases_eq b a)

  more_past : (b p : ℕ) → slice_index (set counts a (slice_index counts a + 1)) b ≤ p → how_many (test b p) (links ++ link ∷ []) ≡ 0
  more_past b p h = how_many-snoc (test b p) links link ∙ ⊎_elim
      (λ (e : b ≡ a).
      let h' : slice_index (set counts a (slice_index counts a + 1)) a ≤ p = rw e at h in
      let c = own_count in
      let k = taken.past a p (omega arith) in
      let z = if_false (test a p link) (other_port p (λ f. omega arith)) in
      rw e (omega arith))
      (λ (n : b ≢ a). let k = taken.past b p (let c = other_count b n in omega arith) in let z = if_false (test b p link) (other_actor b p n) in omega arith)
      (cases_eq b a)

  taken_more : AreTaken test (links ++ link ∷ []) (set counts a (slice_index counts a + 1))
  taken_more = record { below = more_below; past = more_past }

same_port : (a p : ℕ) → (a == a) && (p == p) ≡ true
same_port a p = rw (eq-eqb a a refl, eq-eqb p p refl) refl

apart_port : (a p x : ℕ) → p ≢ x → (a == a) && (x == p) ≡ false
apart_port a p x n = rw (eq-eqb a a refl, ne_eqb x p (λ e. n (sym e))) refl

apart_actor : (a b p x : ℕ) → b ≢ a → (a == b) && (x == p) ≡ false
apart_actor a b p x n = rw (ne_eqb a b (λ e. n (sym e))) refl

-- the tails of one link more
from_next : (t : Tail) (h : Head) (d : ℕ) (links : List Link) (sources outputs sources' outputs' : List ℕ) → NextTail sources outputs sources' outputs' t →
    AreTaken is_from_port links outputs → AreTakenTo is_from_source links (length sources) →
    AreTaken is_from_port (links ++ record { tail = t; head = h; delay = d } ∷ []) outputs' × AreTakenTo is_from_source (links ++ record { tail = t; head = h; delay = d } ∷ []) (length sources')
from_next (tail.Source s) h d links sources outputs sources' outputs' next from to =
    let link : Link = record { tail = tail.Source s; head = h; delay = d } in
    let more : length sources' ≡ length sources + 1 = rw next.1.1 (length-append sources (next.1.0 ∷ [])) in (
      rw next.2 (kept is_from_port links outputs link (λ a p. refl) from),
      rw more (more_to is_from_source links (length sources) link (eq-eqb s (length sources) next.0) (λ n o. ne_eqb s n (λ e. o (sym e ∙ next.0))) to),
    )
from_next (tail.Port a p r) h d links sources outputs sources' outputs' next from to =
    let link : Link = record { tail = tail.Port a (slice_index outputs a) r; head = h; delay = d } in
    rw (next.2, next.3, next.1) (
      taken_more is_from_port links outputs link a (same_port a (slice_index outputs a)) (λ q m. apart_port a q (slice_index outputs a) m) (λ b q m. apart_actor a b q (slice_index outputs a) m) next.0 from,
      kept_to is_from_source links (length sources) link (λ s. refl) to,
    )

-- the heads of one link more
into_next : (t : Tail) (h : Head) (d : ℕ) (links : List Link) (sinks inputs sinks' inputs' : List ℕ) → NextHead sinks inputs sinks' inputs' h →
    AreTaken is_into_port links inputs → AreTakenTo is_into_sink links (length sinks) →
    AreTaken is_into_port (links ++ record { tail = t; head = h; delay = d } ∷ []) inputs' × AreTakenTo is_into_sink (links ++ record { tail = t; head = h; delay = d } ∷ []) (length sinks')
into_next t (head.Sink s) d links sinks inputs sinks' inputs' next into to =
    let link : Link = record { tail = t; head = head.Sink s; delay = d } in
    let more : length sinks' ≡ length sinks + 1 = rw next.1.1 (length-append sinks (next.1.0 ∷ [])) in (
      rw next.2 (kept is_into_port links inputs link (λ a p. refl) into),
      rw more (more_to is_into_sink links (length sinks) link (eq-eqb s (length sinks) next.0) (λ n o. ne_eqb s n (λ e. o (sym e ∙ next.0))) to),
    )
into_next t (head.Port a p r) d links sinks inputs sinks' inputs' next into to =
    let link : Link = record { tail = t; head = head.Port a (slice_index inputs a) r; delay = d } in
    rw (next.2, next.3, next.1) (
      taken_more is_into_port links inputs link a (same_port a (slice_index inputs a)) (λ q m. apart_port a q (slice_index inputs a) m) (λ b q m. apart_actor a b q (slice_index inputs a) m) next.0 into,
      kept_to is_into_sink links (length sinks) link (λ s. refl) to,
    )

pub numbered_next : (t : Tail) (h : Head) (d : ℕ) (links : List Link) (sources sinks outputs inputs sources' sinks' outputs' inputs' : List ℕ) →
    NextTail sources outputs sources' outputs' t → NextHead sinks inputs sinks' inputs' h → AreNumbered links sources sinks outputs inputs →
    AreNumbered (links ++ record { tail = t; head = h; delay = d } ∷ []) sources' sinks' outputs' inputs'
numbered_next t h d links sources sinks outputs inputs sources' sinks' outputs' inputs' tails heads are =
    let f = from_next t h d links sources outputs sources' outputs' tails are.from are.from_each in
    let i = into_next t h d links sinks inputs sinks' inputs' heads are.into are.into_each in
    record { from = f.0; into = i.0; from_each = f.1; into_each = i.1 }

-- no link yet
pub numbered_at_start : (n : ℕ) (outputs inputs : List ℕ) → outputs ≡ replicate n 0 → inputs ≡ replicate n 0 → AreNumbered [] [] [] outputs inputs
numbered_at_start n outputs inputs e f = record {
  from = record { below = λ a p h. absurd (let z = none a in let h' : p < slice_index (replicate n 0) a = rw e at h in omega arith); past = λ a p h. refl };
  into = record { below = λ a p h. absurd (let z = none a in let h' : p < slice_index (replicate n 0) a = rw f at h in omega arith); past = λ a p h. refl };
  from_each = record { below = λ s h. absurd (omega arith); past = λ s h. refl };
  into_each = record { below = λ s h. absurd (omega arith); past = λ s h. refl };
}
  where
    none : (a : ℕ) → slice_index (replicate n 0) a ≡ 0
    none a = ⊎_elim
        (λ (h : a < n). get_or-replicate n a 0 0 h)
        (λ (h : n ≤ a). get_or_past (replicate n 0) a 0 (let l : length (replicate {A = ℕ} n 0) ≡ n = length-replicate n 0 in omega arith))
        (cases_lt a n)

once : (test : ℕ → ℕ → Link → Bool) (links : List Link) (counts : List ℕ) → AreTaken test links counts → (a p : ℕ) → how_many (test a p) links ≤ 1
once test links counts taken a p = ⊎_elim
    (λ (h : p < slice_index counts a). let e = taken.below a p h in omega arith)
    (λ (h : slice_index counts a ≤ p). let e = taken.past a p h in omega arith)
    (cases_lt p (slice_index counts a))

no_gap : (test : ℕ → ℕ → Link → Bool) (links : List Link) (counts : List ℕ) → AreTaken test links counts → (a p : ℕ) → 0 < how_many (test a (p + 1)) links → 0 < how_many (test a p) links
no_gap test links counts taken a p some = ⊎_elim
    (λ (h : p < slice_index counts a). let e = taken.below a p h in omega arith)
    (λ (h : slice_index counts a ≤ p). let e = taken.past a (p + 1) (omega arith) in absurd (omega arith))
    (cases_lt p (slice_index counts a))

-- each link of a list, by its ends
all_ends : (n k m : ℕ) (Q : Tail → Head → ℕ → Type 0) → ((t : Tail) (h : Head) (d : ℕ) → AreSoundEnds n k m t h d → Q t h d) → (links : List Link) → AllByRecursion (IsSoundIn n k m) links → AllByRecursion (λ link. Q link.tail link.head link.delay) links
all_ends n k m Q f [] all = tt
all_ends n k m Q f (link ∷ links) all = (f link.tail link.head link.delay all.0, all_ends n k m Q f links all.1)

to_recursion : {A : Type 0} (P : A → Type 0) (xs : List A) → All P xs → AllByRecursion P xs
to_recursion P [] all = tt
to_recursion P (x ∷ xs) all = (All-head P x xs all, to_recursion P xs (All-tail P x xs all))

all_sound_ends : (n k m : ℕ) (Q : Tail → Head → ℕ → Type 0) → ((t : Tail) (h : Head) (d : ℕ) → AreSoundEnds n k m t h d → Q t h d) → (links : List Link) → All (IsSoundIn n k m) links → AllByRecursion (λ link. Q link.tail link.head link.delay) links
all_sound_ends n k m Q f links all = all_ends n k m Q f links (to_recursion (IsSoundIn n k m) links all)

-- links so numbered and sound are those of a level
pub numbered_level : (level : LevelView) (outputs inputs : List ℕ) → AreNumbered level.links level.sources level.sinks outputs inputs →
    All (IsSoundIn level.actors (length level.sources) (length level.sinks)) level.links →
    All (λ r. r ≤ RATE_LIMIT) level.sources → All (λ r. r ≤ RATE_LIMIT) level.sinks →
    length level.links < 2 ^ 32 → length level.sources < 2 ^ 32 → length level.sinks < 2 ^ 32 → IsLevel level
numbered_level level outputs inputs are all_sound source_rates sink_rates few_links few_sources few_sinks = record {
  tails_there = all_sound_ends level.actors (length level.sources) (length level.sinks) (λ t h d. TailIsThere level t) tail_there level.links all_sound;
  heads_there = all_sound_ends level.actors (length level.sources) (length level.sinks) (λ t h d. HeadIsThere level h) head_there level.links all_sound;
  sources_at_one = are.from_each.below;
  sinks_at_one = are.into_each.below;
  actors_between = all_sound_ends level.actors (length level.sources) (length level.sinks) (λ t h d. TouchesActor t h) touches level.links all_sound;
  delays = all_sound_ends level.actors (length level.sources) (length level.sinks) HasSoundDelay delayed level.links all_sound;
  outputs_once = once is_from_port level.links outputs are.from;
  inputs_once = once is_into_port level.links inputs are.into;
  outputs_without_gap = no_gap is_from_port level.links outputs are.from;
  inputs_without_gap = no_gap is_into_port level.links inputs are.into;
  source_rates = to_recursion (λ r. r ≤ RATE_LIMIT) level.sources source_rates;
  sink_rates = to_recursion (λ r. r ≤ RATE_LIMIT) level.sinks sink_rates;
  tail_rates = all_sound_ends level.actors (length level.sources) (length level.sinks) (λ t h d. HasTailRateWithin RATE_LIMIT t) tail_rate level.links all_sound;
  head_rates = all_sound_ends level.actors (length level.sources) (length level.sinks) (λ t h d. HasHeadRateWithin RATE_LIMIT h) head_rate level.links all_sound;
  few_sources = few_sources;
  few_sinks = few_sinks;
  few_links = few_links;
}
  where
    tail_there : (t : Tail) (h : Head) (d : ℕ) → AreSoundEnds level.actors (length level.sources) (length level.sinks) t h d → TailIsThere level t
    tail_there (tail.Source s) (head.Sink t) d is = absurd (omega arith)
    tail_there (tail.Source s) (head.Port b j c) d is = is.0
    tail_there (tail.Port a p r) (head.Sink t) d is = is.1
    tail_there (tail.Port a p r) (head.Port b j c) d is = is.0

    head_there : (t : Tail) (h : Head) (d : ℕ) → AreSoundEnds level.actors (length level.sources) (length level.sinks) t h d → HeadIsThere level h
    head_there (tail.Source s) (head.Sink t) d is = absurd (omega arith)
    head_there (tail.Source s) (head.Port b j c) d is = is.1
    head_there (tail.Port a p r) (head.Sink t) d is = is.0
    head_there (tail.Port a p r) (head.Port b j c) d is = is.1

    touches : (t : Tail) (h : Head) (d : ℕ) → AreSoundEnds level.actors (length level.sources) (length level.sinks) t h d → TouchesActor t h
    touches (tail.Source s) (head.Sink t) d is = absurd (omega arith)
    touches (tail.Source s) (head.Port b j c) d is = tt
    touches (tail.Port a p r) (head.Sink t) d is = tt
    touches (tail.Port a p r) (head.Port b j c) d is = tt

    delayed : (t : Tail) (h : Head) (d : ℕ) → AreSoundEnds level.actors (length level.sources) (length level.sinks) t h d → HasSoundDelay t h d
    delayed (tail.Source s) (head.Sink t) d is = absurd (omega arith)
    delayed (tail.Source s) (head.Port b j c) d is = is.3
    delayed (tail.Port a p r) (head.Sink t) d is = is.3
    delayed (tail.Port a p r) (head.Port b j c) d is = tt

    tail_rate : (t : Tail) (h : Head) (d : ℕ) → AreSoundEnds level.actors (length level.sources) (length level.sinks) t h d → HasTailRateWithin RATE_LIMIT t
    tail_rate (tail.Source s) h d is = tt
    tail_rate (tail.Port a p r) (head.Sink t) d is = is.2
    tail_rate (tail.Port a p r) (head.Port b j c) d is = is.2

    head_rate : (t : Tail) (h : Head) (d : ℕ) → AreSoundEnds level.actors (length level.sources) (length level.sinks) t h d → HasHeadRateWithin RATE_LIMIT h
    head_rate t (head.Sink s) d is = tt
    head_rate (tail.Source s) (head.Port b j c) d is = is.2
    head_rate (tail.Port a p r) (head.Port b j c) d is = is.3
