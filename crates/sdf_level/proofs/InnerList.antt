-- The links between two actors, as a list.
use Rattle.std.proofs.Common.{◌≡◌, ℕ, ◌+◌, ◌<◌, ◌≤◌, ◌⊎◌, inl, inr, List, [], ◌∷◌, ◌++◌, length, map, get_or, take, refl, ap, sym, append_assoc, arith}
use Rattle.std.specs.List.{All, AllByRecursion}
use Rattle.std.proofs.lemmas.List.{append-nil, length-append, length-map, map-append, take_more}
use Rattle.std.proofs.lemmas.List.Elements.{All-from_recursion}
use Rattle.sdf_level.specs.View.{LevelView}
use Rattle.sdf_level.specs.Invariants.{TailIsThere, HeadIsThere, HasTailRateWithin, HasHeadRateWithin, IsLevel, rate_limit}
use Rattle.sdf_level.specs.Links.{Inner, OfInner, EachInner, IsInnerWith, SomeInner}
use Rattle.sdf_level.specs.Components.{Joins, IsPath, AreConnected}
use Rattle.sdf_level.specs.Numbered.{IsBetween, as_link, inner_of, inner_at, inner_links}
use Rattle.sdf_level.specs.declared.inner_link.InnerLink.{InnerLink}
use Rattle.sdf_level.specs.declared.link.Link.{Link}
use Rattle.sdf_level.specs.declared.link.Tail.{Tail}
use Rattle.sdf_level.specs.declared.link.Head.{Head}
use Rattle.sdf_level.specs.declared.link.Tail.TheVariants as tail
use Rattle.sdf_level.specs.declared.link.Head.TheVariants as head

pub inner_links-snoc : (links : List Link) (link : Link) → inner_links (links ++ link ∷ []) ≡ inner_links links ++ inner_at link.tail link.head link.delay
inner_links-snoc [] link = append-nil (inner_at link.tail link.head link.delay)
inner_links-snoc (l ∷ links) link = rw (inner_links-snoc links link) (sym (append_assoc (inner_at l.tail l.head l.delay) (inner_links links) (inner_at link.tail link.head link.delay)))

-- one link more
pub inner_links-more : (links : List Link) (i : ℕ) (d : Link) (inner found : List InnerLink) → i < length links → map inner_of inner ≡ inner_links (take i links) →
    map inner_of found ≡ inner_at (get_or links i d).tail (get_or links i d).head (get_or links i d).delay → map inner_of (inner ++ found) ≡ inner_links (take (i + 1) links)
inner_links-more links i d inner found inside e f = rw (take_more links i d inside, inner_links-snoc (take i links) (get_or links i d), map-append inner_of inner found, e, f) refl

pub inner_links-none : (links : List Link) (i : ℕ) (d : Link) (inner : List InnerLink) → i < length links → map inner_of inner ≡ inner_links (take i links) →
    [] ≡ inner_at (get_or links i d).tail (get_or links i d).head (get_or links i d).delay → map inner_of inner ≡ inner_links (take (i + 1) links)
inner_links-none links i d inner inside e f = rw (take_more links i d inside, inner_links-snoc (take i links) (get_or links i d), ← f, append-nil) e

pub length-inner_links : (links : List Link) → length (inner_links links) ≤ length links
length-inner_links [] = omega arith
length-inner_links (link ∷ links) =
    let l = length-append (inner_at link.tail link.head link.delay) (inner_links links) in
    let later = length-inner_links links in
    let one = at_most_one link.tail link.head link.delay in
    omega arith
  where
    at_most_one : (t : Tail) (h : Head) (d : ℕ) → length (inner_at t h d) ≤ 1
    at_most_one (tail.Source s) h d = omega arith
    at_most_one (tail.Port a p r) (head.Sink t) d = omega arith
    at_most_one (tail.Port a p r) (head.Port b j c) d = omega arith

-- what holds of each link between two actors holds of each of the list, and the other way round
module _ (P : Inner → Type 0) where
  All-inner_at : (t : Tail) (h : Head) (d : ℕ) (rest : List Inner) → OfInner P t h d → AllByRecursion P rest → AllByRecursion P (inner_at t h d ++ rest)
  All-inner_at (tail.Source s) h d rest here later = later
  All-inner_at (tail.Port a p r) (head.Sink t) d rest here later = later
  All-inner_at (tail.Port a p r) (head.Port b j c) d rest here later = (here, later)

  pub All-inner_links : (links : List Link) → EachInner P links → AllByRecursion P (inner_links links)
  All-inner_links [] all = tt
  All-inner_links (link ∷ links) all = All-inner_at link.tail link.head link.delay (inner_links links) all.0 (All-inner_links links all.1)

  inner_at-All : (t : Tail) (h : Head) (d : ℕ) (rest : List Inner) → AllByRecursion P (inner_at t h d ++ rest) → OfInner P t h d × AllByRecursion P rest
  inner_at-All (tail.Source s) h d rest all = (tt, all)
  inner_at-All (tail.Port a p r) (head.Sink t) d rest all = (tt, all)
  inner_at-All (tail.Port a p r) (head.Port b j c) d rest all = all

  pub EachInner-from_list : (links : List Link) → AllByRecursion P (inner_links links) → EachInner P links
  EachInner-from_list [] all = tt
  EachInner-from_list (link ∷ links) all = let both = inner_at-All link.tail link.head link.delay (inner_links links) all in (both.0, EachInner-from_list links both.1)

-- lists with the same links between two actors
pub inner_links-as_links : (inner : List InnerLink) → inner_links (map as_link inner) ≡ map inner_of inner
inner_links-as_links [] = refl
inner_links-as_links (link ∷ inner) = ap (λ (l : List Inner). inner_of link ∷ l) (inner_links-as_links inner)

pub EachInner-same : (P : Inner → Type 0) (xs ys : List Link) → inner_links xs ≡ inner_links ys → EachInner P xs → EachInner P ys
EachInner-same P xs ys same all = EachInner-from_list P ys (rw (← same) (All-inner_links P xs all))

module _ (P : Inner → Type 0) where
  abbrev Some : List Inner → Type 0
  Some [] = ⊥
  Some (k ∷ rest) = P k ⊎ Some rest

  listed_at : (t : Tail) (h : Head) (d : ℕ) (rest : List Inner) → IsInnerWith P t h d ⊎ Some rest → Some (inner_at t h d ++ rest)
  listed_at (tail.Source s) h d rest some = elim some [ inl here ↦ absurd here | inr later ↦ later ]
  listed_at (tail.Port a p r) (head.Sink t) d rest some = elim some [ inl here ↦ absurd here | inr later ↦ later ]
  listed_at (tail.Port a p r) (head.Port b j c) d rest some = some

  listed : (links : List Link) → SomeInner P links → Some (inner_links links)
  listed [] some = some
  listed (link ∷ links) some = listed_at link.tail link.head link.delay (inner_links links) (elim some [ inl here ↦ inl here | inr later ↦ inr (listed links later) ])

  unlisted_at : (t : Tail) (h : Head) (d : ℕ) (rest : List Inner) → Some (inner_at t h d ++ rest) → IsInnerWith P t h d ⊎ Some rest
  unlisted_at (tail.Source s) h d rest some = inr some
  unlisted_at (tail.Port a p r) (head.Sink t) d rest some = inr some
  unlisted_at (tail.Port a p r) (head.Port b j c) d rest some = some

  unlisted : (links : List Link) → Some (inner_links links) → SomeInner P links
  unlisted [] some = some
  unlisted (link ∷ links) some = elim (unlisted_at link.tail link.head link.delay (inner_links links) some) [ inl here ↦ inl here | inr later ↦ inr (unlisted links later) ]

  SomeInner-same : (xs ys : List Link) → inner_links xs ≡ inner_links ys → SomeInner P xs → SomeInner P ys
  SomeInner-same xs ys same some = unlisted ys (rw (← same) (listed xs some))

-- connect the same actors
path_same : (xs ys : List Link) → inner_links xs ≡ inner_links ys → (a : ℕ) (over : List ℕ) (b : ℕ) → IsPath xs a over b → IsPath ys a over b
path_same xs ys same a [] b path = path
path_same xs ys same a (c ∷ over) b path = (SomeInner-same (Joins a c) xs ys same path.0, path_same xs ys same c over b path.1)

pub connected-same : (xs ys : List Link) → inner_links xs ≡ inner_links ys → (a b : ℕ) → AreConnected xs a b → AreConnected ys a b
connected-same xs ys same a b on = record { over = on.over; path = path_same xs ys same a on.over b on.path }

-- such a link is as a link between two of n actors has to be
abbrev IsBetweenTwo : ℕ → Inner → Type 0
IsBetweenTwo n link = IsBetween n record { tail = link.tail; produced = link.produced; head = link.head; consumed = link.consumed; delay = link.delay }

each_within : (level : LevelView) (links : List Link) → AllByRecursion (λ link. TailIsThere level link.tail) links → AllByRecursion (λ link. HeadIsThere level link.head) links →
    AllByRecursion (λ link. HasTailRateWithin rate_limit link.tail) links → AllByRecursion (λ link. HasHeadRateWithin rate_limit link.head) links → EachInner (IsBetweenTwo level.actors) links
each_within level [] tails heads puts takes = tt
each_within level (link ∷ links) tails heads puts takes = (one link.tail link.head link.delay tails.0 heads.0 puts.0 takes.0, each_within level links tails.1 heads.1 puts.1 takes.1)
  where
    one : (t : Tail) (h : Head) (d : ℕ) → TailIsThere level t → HeadIsThere level h → HasTailRateWithin rate_limit t → HasHeadRateWithin rate_limit h → OfInner (IsBetweenTwo level.actors) t h d
    one (tail.Source s) h d there here put taken = tt
    one (tail.Port a p r) (head.Sink s) d there here put taken = tt
    one (tail.Port a p r) (head.Port b j c) d there here put taken = record { tail_there = there; head_there = here; produced = put; consumed = taken }

between_from_inner : (n : ℕ) (inner : List InnerLink) → AllByRecursion (IsBetweenTwo n) (map inner_of inner) → AllByRecursion (IsBetween n) inner
between_from_inner n [] all = tt
between_from_inner n (link ∷ inner) all = (all.0, between_from_inner n inner all.1)

-- the links between two actors of a level
pub between_level : (level : LevelView) (inner : List InnerLink) → IsLevel level → map inner_of inner ≡ inner_links level.links → All (IsBetween level.actors) inner
between_level level inner known same =
    All-from_recursion (IsBetween level.actors) inner (between_from_inner level.actors inner
    (rw same (All-inner_links (IsBetweenTwo level.actors) level.links (each_within level level.links known.tails_there known.heads_there known.tail_rates known.head_rates))))

pub few_inner : (level : LevelView) (inner : List InnerLink) → map inner_of inner ≡ inner_links level.links → length inner ≤ length level.links
few_inner level inner same = let m = length-map inner inner_of in let e = ap length same in let l = length-inner_links level.links in omega arith
