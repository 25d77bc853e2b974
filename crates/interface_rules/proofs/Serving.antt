-- What one link more makes of the factors.
use Rattle.std.proofs.Common.{◌≡◌, ◌≢◌, ℕ, ◌*◌, ◌<◌, ◌≤◌, ⊎_elim, List, [], ◌∷◌, ◌++◌, length, slice_index, get_or, take, replicate, max, refl, ap, sym, ◌∙◌, subst, arith}
use Rattle.std.proofs.Math.Nat.{mul-le-mul_right}
use Rattle.std.proofs.lemmas.Bool.{cases_eq}
use Rattle.std.proofs.lemmas.List.{get_or-replicate, length-replicate, take_more}
use Rattle.std.proofs.lemmas.List.Elements.{All-from_recursion}
use Rattle.sdf_level.specs.View.{LevelView}
use Rattle.sdf_level.specs.Invariants.{TailIsThere, HeadIsThere, HasTailRateWithin, HasHeadRateWithin, IsLevel}
use Rattle.sdf_level.specs.Links.{Outer, OfOuter, EachOuter}
use Rattle.sdf_level.specs.Repetition.{AgreesOnZero, IsFirstMismatch}
use Rattle.sdf_level.specs.Invariants.{rate_limit}
use Rattle.sdf_level.specs.declared.link.Link.{Link}
use Rattle.sdf_level.specs.declared.link.Tail.{Tail}
use Rattle.sdf_level.specs.declared.link.Head.{Head}
use Rattle.sdf_level.specs.declared.link.Tail.TheVariants as tail
use Rattle.sdf_level.specs.declared.link.Head.TheVariants as head
use Rattle.sdf_level.proofs.InnerLinks.{EachOuter-snoc, EachOuter-front, EachOuter-end, EachOuter-map}
use Rattle.interface_rules.specs.Served.{IsServed, IsLeastFor, AreServed, Serves, Disagrees, IsServedOnce, IsSound}

-- before any link each factor is 1
pub served_at_start : (level : LevelView) (base group factors : List ℕ) → factors ≡ replicate level.actors 1 → AreServed level [] base group factors
served_at_start level base group factors ones =
    let one : (g : ℕ) → g < level.actors → slice_index factors g ≡ 1 = λ g h. ap (λ (v : List ℕ). slice_index v g) ones ∙ get_or-replicate level.actors g 1 0 h in
    record {
      agree = tt;
      one_each = rw ones (length-replicate level.actors 1);
      each = λ g h. rw (one g h) record { at_least_one = omega arith; within = omega arith; enough = tt; least = λ other some served. some };
    }

-- more rounds move no fewer tokens
pub enough_more : (m m' outside b r : ℕ) → m ≤ m' → outside ≤ m * b * r → outside ≤ m' * b * r
enough_more m m' outside b r more enough =
    let p : m * b ≤ m' * b = mul-le-mul_right b more in
    let q : m * b * r ≤ m' * b * r = mul-le-mul_right r p in
    omega arith

-- a link without source and sink
pub serves_none : (level : LevelView) (link : Link) (base group factors : List ℕ) → ((P : Outer → Type 0) → OfOuter P level link.tail link.head) → Serves level link base group factors factors
serves_none level link base group factors none links served = record {
  agree = EachOuter-snoc AgreesOnZero level links link served.agree (none AgreesOnZero);
  one_each = served.one_each;
  each = λ g h. let l = served.each g h in record {
    at_least_one = l.at_least_one;
    within = l.within;
    enough = EachOuter-snoc (IsServed base group g (slice_index factors g)) level links link l.enough (none (IsServed base group g (slice_index factors g)));
    least = λ other some all. l.least other some (EachOuter-front (IsServed base group g other) level links link all);
  };
}

-- a link with a source or sink
module _ (level : LevelView) (link : Link) (o : Outer) (back : (P : Outer → Type 0) → P o → OfOuter P level link.tail link.head) (only : (P : Outer → Type 0) → OfOuter P level link.tail link.head → P o)
    (base group factors factors' : List ℕ) (long : length factors' ≡ length factors) (once : IsServedOnce base group factors factors' o) where
  module _ (links : List Link) (served : AreServed level links base group factors) where
    own : slice_index group o.actor < level.actors → IsLeastFor level (links ++ link ∷ []) base group (slice_index group o.actor) (max (slice_index factors (slice_index group o.actor)) once.need)
    own h = let l = served.each (slice_index group o.actor) h in record {
      at_least_one = let p = l.at_least_one in omega arith;
      within = let p = l.within in let q = once.is_need.within in omega arith;
      enough = EachOuter-snoc (IsServed base group (slice_index group o.actor) (max (slice_index factors (slice_index group o.actor)) once.need)) level links link
          (EachOuter-map {P = IsServed base group (slice_index group o.actor) (slice_index factors (slice_index group o.actor))} {Q = IsServed base group (slice_index group o.actor) (max (slice_index factors (slice_index group o.actor)) once.need)} level
          (λ x has e. enough_more (slice_index factors (slice_index group o.actor)) (max (slice_index factors (slice_index group o.actor)) once.need) x.outside (slice_index base x.actor) x.rate (omega arith) (has e))
          links l.enough)
          (back (IsServed base group (slice_index group o.actor) (max (slice_index factors (slice_index group o.actor)) once.need))
          (λ e. enough_more once.need (max (slice_index factors (slice_index group o.actor)) once.need) o.outside (slice_index base o.actor) o.rate (omega arith) once.is_need.enough));
      least = λ other some all.
          let p = l.least other some (EachOuter-front (IsServed base group (slice_index group o.actor) other) level links link all) in
          let q = once.is_need.least other some (only (IsServed base group (slice_index group o.actor) other) (EachOuter-end (IsServed base group (slice_index group o.actor) other) level links link all) refl) in
          omega arith;
    }

    others : (g : ℕ) → g < level.actors → g ≢ slice_index group o.actor → IsLeastFor level (links ++ link ∷ []) base group g (slice_index factors g)
    others g h apart = let l = served.each g h in record {
      at_least_one = l.at_least_one;
      within = l.within;
      enough = EachOuter-snoc (IsServed base group g (slice_index factors g)) level links link l.enough
          (back (IsServed base group g (slice_index factors g)) (λ e. absurd (apart (sym e))));
      least = λ other some all. l.least other some (EachOuter-front (IsServed base group g other) level links link all);
    }

    each : (g : ℕ) → g < level.actors → IsLeastFor level (links ++ link ∷ []) base group g (slice_index factors' g)
    each g h = ⊎_elim
        (λ (e : g ≡ slice_index group o.actor).
        let there : slice_index group o.actor < level.actors = omega arith in
        rw (e, once.raised.here) (own there))
        (λ (apart : g ≢ slice_index group o.actor). rw (once.raised.others g apart) (others g h apart))
        (cases_eq g (slice_index group o.actor))

  pub serves_once : Serves level link base group factors factors'
  serves_once links served = record {
    agree = EachOuter-snoc AgreesOnZero level links link served.agree (back AgreesOnZero once.agrees);
    one_each = long ∙ served.one_each;
    each = each links served;
  }

-- links with these ends
pub serves_source : (level : LevelView) (s b j c delay : ℕ) (t : Tail) (h : Head) (base group factors factors' : List ℕ) → t ≡ tail.Source s → h ≡ head.Port b j c → length factors' ≡ length factors →
    IsServedOnce base group factors factors' record { outside = slice_index level.sources s; actor = b; rate = c } → Serves level record { tail = t; head = h; delay = delay } base group factors factors'
serves_source level s b j c delay t h base group factors factors' e f long once =
    rw (e, f) (serves_once level record { tail = tail.Source s; head = head.Port b j c; delay = delay } record { outside = slice_index level.sources s; actor = b; rate = c } (λ P p. p) (λ P p. p) base group factors factors' long once)

pub serves_sink : (level : LevelView) (k a i r delay : ℕ) (t : Tail) (h : Head) (base group factors factors' : List ℕ) → t ≡ tail.Port a i r → h ≡ head.Sink k → length factors' ≡ length factors →
    IsServedOnce base group factors factors' record { outside = slice_index level.sinks k; actor = a; rate = r } → Serves level record { tail = t; head = h; delay = delay } base group factors factors'
serves_sink level k a i r delay t h base group factors factors' e f long once =
    rw (e, f) (serves_once level record { tail = tail.Port a i r; head = head.Sink k; delay = delay } record { outside = slice_index level.sinks k; actor = a; rate = r } (λ P p. p) (λ P p. p) base group factors factors' long once)

pub serves_across : (level : LevelView) (s k delay : ℕ) (t : Tail) (h : Head) (base group factors : List ℕ) → t ≡ tail.Source s → h ≡ head.Sink k → Serves level record { tail = t; head = h; delay = delay } base group factors factors
serves_across level s k delay t h base group factors e f = rw (e, f) (serves_none level record { tail = tail.Source s; head = head.Sink k; delay = delay } base group factors (λ P. tt))

pub serves_inner : (level : LevelView) (a i r b j c delay : ℕ) (t : Tail) (h : Head) (base group factors : List ℕ) → t ≡ tail.Port a i r → h ≡ head.Port b j c → Serves level record { tail = t; head = h; delay = delay } base group factors factors
serves_inner level a i r b j c delay t h base group factors e f = rw (e, f) (serves_none level record { tail = tail.Port a i r; head = head.Port b j c; delay = delay } base group factors (λ P. tt))

-- what is known of the link with this number
pub sound_at : (level : LevelView) (i : ℕ) (d : Link) → IsLevel level → i < length level.links → IsSound level (get_or level.links i d)
sound_at level i d known inside = record {
  tail_there = All-from_recursion (λ link. TailIsThere level link.tail) level.links known.tails_there i d inside;
  head_there = All-from_recursion (λ link. HeadIsThere level link.head) level.links known.heads_there i d inside;
  tail_rate = All-from_recursion (λ link. HasTailRateWithin rate_limit link.tail) level.links known.tail_rates i d inside;
  head_rate = All-from_recursion (λ link. HasHeadRateWithin rate_limit link.head) level.links known.head_rates i d inside;
}

pub first_mismatch : (level : LevelView) (i : ℕ) (d : Link) → i < length level.links → EachOuter AgreesOnZero level (take i level.links) → Disagrees level (get_or level.links i d) → IsFirstMismatch level i
first_mismatch level i d inside before refuses = record {
  before = before;
  here = λ all.
      let P : List Link → Type 0 = λ links. EachOuter AgreesOnZero level links in
      refuses (EachOuter-end AgreesOnZero level (take i level.links) (get_or level.links i d) (subst P (take_more level.links i d inside) all));
}
