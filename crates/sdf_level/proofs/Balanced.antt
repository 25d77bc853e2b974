-- A repetition vector balances every link between two actors, as its base vector does.
use Rattle.std.proofs.Common.{◌≡◌, ℕ, zero, suc, ◌*◌, ◌<◌, ◌≤◌, ⊎_elim, inl, List, [], ◌∷◌, slice_index, refl, sym, arith}
use Rattle.std.proofs.lemmas.Bool.{cases_lt}
use Rattle.std.proofs.Math.Nat.{mul-pos}
use Rattle.std.specs.List.{AllByRecursion}
use Rattle.sdf_level.specs.View.{LevelView}
use Rattle.sdf_level.specs.declared.link.Link.{Link}
use Rattle.sdf_level.specs.declared.link.Tail.{Tail}
use Rattle.sdf_level.specs.declared.link.Head.{Head}
use Rattle.sdf_level.specs.declared.link.Tail.TheVariants as tail
use Rattle.sdf_level.specs.declared.link.Head.TheVariants as head
use Rattle.sdf_level.specs.Invariants.{TailIsThere, HeadIsThere, IsLevel}
use Rattle.sdf_level.specs.Links.{Inner, Outer, OfInner, OfOuter, EachInner, EachOuter, SomeInner}
use Rattle.sdf_level.specs.Balance.{IsBalanced}
use Rattle.sdf_level.specs.Components.{Joins, AreConnected}
use Rattle.sdf_level.specs.Repetition.{HasEnough, IsRepetition}
use Rattle.sdf_level.specs.Laws.{Reaches, Suffices}
use Rattle.sdf_level.proofs.InnerLinks.{SomeInner-map, EachInner-with}
use Rattle.sdf_level.proofs.OnlyOne.{factor_only}
use Rattle.sdf_level.proofs.Connected.{connected-refl, connected-step, least_factor-moved}

-- both ends of a link between two actors are actors of the level
pub record EndsAreThere (actors : ℕ) (link : Inner) : Type 0 where
  pub tail_there : link.tail < actors
  pub head_there : link.head < actors

pub ends_there : (level : LevelView) (links : List Link) → AllByRecursion (λ link. TailIsThere level link.tail) links → AllByRecursion (λ link. HeadIsThere level link.head) links → EachInner (EndsAreThere level.actors) links
ends_there level [] tails heads = tt
ends_there level (link ∷ links) tails heads = (one link.tail link.head link.delay tails.0 heads.0, ends_there level links tails.1 heads.1)
  where
    one : (t : Tail) (h : Head) (d : ℕ) → TailIsThere level t → HeadIsThere level h → OfInner (EndsAreThere level.actors) t h d
    one (tail.Source s) h d there here = tt
    one (tail.Port a p r) (head.Sink s) d there here = tt
    one (tail.Port a p r) (head.Port b j c) d there here = record { tail_there = there; head_there = here }

none_taken : (x y c : ℕ) → x * 0 ≡ y * c → 1 ≤ y → c ≡ 0
none_taken x y zero e h = refl
none_taken x y (suc c) e h = absurd (grind arith)

scaled : (f x p y c : ℕ) → x * p ≡ y * c → f * x * p ≡ f * y * c
scaled f x p y c e = grind arith

module _ (level : LevelView) (q : List ℕ) (is_level : IsLevel level) (is : IsRepetition level q) where
  module _ (link : Inner) (there : SomeInner (λ x. x ≡ link) level.links) (ends : EndsAreThere level.actors link) (even : IsBalanced is.base link) where
    -- rates of 0 at both ends
    silent : link.produced ≡ 0 → link.consumed ≡ 0 → IsBalanced q link
    silent e f = rw (e, f) (omega arith)

    sounding : 0 < link.produced → 0 < link.consumed → IsBalanced q link
    sounding puts takes =
        let joined : SomeInner (Joins link.tail link.head) level.links =
        SomeInner-map {P = λ x. x ≡ link} {Q = Joins link.tail link.head} (λ x e. rw e record { puts = puts; takes = takes; ends = inl (refl, refl) }) level.links there in
        let f = is.multiplied.entries link.tail ends.tail_there in
        let g = is.multiplied.entries link.head ends.head_there in
        let connected = connected-step level.links link.tail link.head link.head joined (connected-refl level.links link.head) in
        let same : f.factor ≡ g.factor = factor_only level is.base link.head f.factor g.factor (least_factor-moved level is.base link.tail link.head f.factor connected f.least) g.least in
        rw (f.product, g.product, ← same) (scaled f.factor (slice_index is.base link.tail) link.produced (slice_index is.base link.head) link.consumed even)

    balanced_here : IsBalanced q link
    balanced_here = ⊎_elim
        (λ (puts : 0 < link.produced). ⊎_elim
        (λ (takes : 0 < link.consumed). sounding puts takes)
        (λ (none : link.consumed ≤ 0).
        let c : link.consumed ≡ 0 = omega arith in
        let e : slice_index is.base link.head * 0 ≡ slice_index is.base link.tail * link.produced = rw c at (sym even) in
        let p = none_taken (slice_index is.base link.head) (slice_index is.base link.tail) link.produced e (is.is_base.solves.at_least_one link.tail ends.tail_there) in
        silent p c)
        (cases_lt 0 link.consumed))
        (λ (none : link.produced ≤ 0).
        let p : link.produced ≡ 0 = omega arith in
        let e : slice_index is.base link.tail * 0 ≡ slice_index is.base link.head * link.consumed = rw p at even in
        let c = none_taken (slice_index is.base link.tail) (slice_index is.base link.head) link.consumed e (is.is_base.solves.at_least_one link.head ends.head_there) in
        silent p c)
        (cases_lt 0 link.produced)

  both : (links : List Link) → EachInner (EndsAreThere level.actors) links → EachInner (IsBalanced is.base) links → EachInner (λ link. EndsAreThere level.actors link × IsBalanced is.base link) links
  both [] p q = tt
  both (l ∷ links) p q = (one l.tail l.head l.delay p.0 q.0, both links p.1 q.1)
    where
      one : (t : Tail) (h : Head) (d : ℕ) → OfInner (EndsAreThere level.actors) t h d → OfInner (IsBalanced is.base) t h d → OfInner (λ link. EndsAreThere level.actors link × IsBalanced is.base link) t h d
      one (tail.Source s) h d p q = tt
      one (tail.Port a i r) (head.Sink s) d p q = tt
      one (tail.Port a i r) (head.Port b j c) d p q = (p, q)

  pub repetition_balanced : EachInner (IsBalanced q) level.links
  repetition_balanced =
      EachInner-with {P = λ link. EndsAreThere level.actors link × IsBalanced is.base link} {Q = IsBalanced q} level.links
      (both level.links (ends_there level level.links is_level.tails_there is_level.heads_there) is.is_base.solves.balanced)
      (λ link there p. balanced_here link there p.0 p.1)

  -- each entry is at least that of the base vector, so at least 1
  pub repetition_some : (a : ℕ) → a < level.actors → 1 ≤ slice_index q a
  repetition_some a h =
      let f = is.multiplied.entries a h in
      let one = is.is_base.solves.at_least_one a h in
      let m = f.least.factor.at_least_one in
      let e = f.product in
      rw e (mul-pos m one)

  abbrev Enough : (a : ℕ) → a < level.actors → Outer → Type 0
  Enough a h link = AreConnected level.links a link.actor → HasEnough is.base (is.multiplied.entries a h).factor link

  reaches_one : (t : Tail) (h : Head) → TailIsThere level t → HeadIsThere level h → ((a : ℕ) (below : a < level.actors) → OfOuter (Enough a below) level t h) → OfOuter (Reaches q) level t h
  reaches_one (tail.Source s) (head.Sink t) there here enough = tt
  reaches_one (tail.Source s) (head.Port b j c) there here enough = rw ((is.multiplied.entries b here).product) (enough b here (connected-refl level.links b))
  reaches_one (tail.Port a p r) (head.Sink t) there here enough = rw ((is.multiplied.entries a there).product) (enough a there (connected-refl level.links a))
  reaches_one (tail.Port a p r) (head.Port b j c) there here enough = tt

  reaches_all : (links : List Link) → AllByRecursion (λ link. TailIsThere level link.tail) links → AllByRecursion (λ link. HeadIsThere level link.head) links → ((a : ℕ) (below : a < level.actors) → EachOuter (Enough a below) level links) → EachOuter (Reaches q) level links
  reaches_all [] tails heads enough = tt
  reaches_all (link ∷ links) tails heads enough = (reaches_one link.tail link.head tails.0 heads.0 (λ a h. (enough a h).0), reaches_all links tails.1 heads.1 (λ a h. (enough a h).1))

  -- in all its firings each actor moves at least the rate of a source or sink at its link
  pub repetition_reaches : EachOuter (Reaches q) level level.links
  repetition_reaches = reaches_all level.links is_level.tails_there is_level.heads_there (λ a h. (is.multiplied.entries a h).least.factor.enough)

  pub repetition_suffices : Suffices level q
  repetition_suffices = record { at_least_one = repetition_some; balanced = repetition_balanced; reaches = repetition_reaches }
