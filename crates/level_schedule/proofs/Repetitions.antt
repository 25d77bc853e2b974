-- Each level has a base vector or none, and a repetition vector or none.
use Rattle.std.proofs.Common.{◌≡◌, ℕ, zero, suc, ◌*◌, ◌<◌, ◌≤◌, ◌↔◌, ◌⊎◌, inl, inr, ⊎_elim, min, List, [], ◌∷◌, ◌++◌, length, map, slice_index, refl, ap, sym, ◌∙◌, subst, append_assoc, arith}
use Rattle.std.specs.List.{AllByRecursion}
use Rattle.std.proofs.Math.Nat.{mul-le-mul_left, mul-le-mul_right}
use Rattle.std.proofs.lemmas.Bool.{cases_eq, cases_lt}
use Rattle.std.proofs.lemmas.List.{append-nil, get_or-map, get_or_past, length-map}
use Rattle.interface_rules.specs.Connections.{AreGrouped}
use Rattle.interface_rules.specs.Served.{IsLeastFor, IsServed}
use Rattle.interface_rules.proofs.Grouping.{grouped_at_start, groups_joined, groups_same}
use Rattle.interface_rules.proofs.Multiplied.{is_repetition}
use Rattle.sdf_level.specs.View.{LevelView}
use Rattle.sdf_level.specs.Balance.{HasNoVector, IsBalanced, IsBase, Solves, base_entry_limit}
use Rattle.sdf_level.specs.Groups.{AreUnited, united}
use Rattle.sdf_level.specs.Invariants.{HeadIsThere, IsLevel, TailIsThere, rate_limit}
use Rattle.sdf_level.specs.Links.{Inner, Outer, OfInner, OfOuter, EachInner, EachOuter}
use Rattle.sdf_level.specs.Repetition.{AgreesOnZero, HasNoRepetition, IsRepetition}
use Rattle.sdf_level.specs.declared.link.Link.{Link}
use Rattle.sdf_level.specs.declared.link.Tail.{Tail}
use Rattle.sdf_level.specs.declared.link.Head.{Head}
use Rattle.sdf_level.specs.declared.link.Tail.TheVariants as tail
use Rattle.sdf_level.specs.declared.link.Head.TheVariants as head
use Rattle.level_schedule.proofs.Searching.{Decided, IsFirst, IsLeast, below_decided, both_decided, first_below, le_decided, least_or_none, length-meet, listed, meet, meet_at, then_decided}

-- ---- whether it holds of each link

pub inner_decided : (P : Inner → Type 0) → ((link : Inner) → Decided (P link)) → (links : List Link) → Decided (EachInner P links)
inner_decided P decide [] = inl tt
inner_decided P decide (link ∷ links) = both_decided (one link.tail link.head link.delay) (inner_decided P decide links)
  where
    one : (t : Tail) (h : Head) (d : ℕ) → Decided (OfInner P t h d)
    one (tail.Source s) h d = inl tt
    one (tail.Port a p r) (head.Sink k) d = inl tt
    one (tail.Port a p r) (head.Port b j c) d = decide record { tail = a; produced = r; head = b; consumed = c; delay = d }

pub outer_decided : (P : Outer → Type 0) → ((link : Outer) → Decided (P link)) → (level : LevelView) (links : List Link) → Decided (EachOuter P level links)
outer_decided P decide level [] = inl tt
outer_decided P decide level (link ∷ links) = both_decided (one link.tail link.head) (outer_decided P decide level links)
  where
    one : (t : Tail) (h : Head) → Decided (OfOuter P level t h)
    one (tail.Source s) (head.Sink k) = inl tt
    one (tail.Source s) (head.Port b j c) = decide record { outside = slice_index level.sources s; actor = b; rate = c }
    one (tail.Port a p r) (head.Sink k) = decide record { outside = slice_index level.sinks k; actor = a; rate = r }
    one (tail.Port a p r) (head.Port b j c) = inl tt

-- ---- the base vector

min_times : (x y p : ℕ) → min x y * p ≡ min (x * p) (y * p)
min_times x y p = ⊎_elim
    (λ (h : x < y). let k : x * p ≤ y * p = mul-le-mul_right p (let l : x ≤ y = omega arith in l) in let e : min x y ≡ x = omega arith in rw e (omega arith))
    (λ (h : y ≤ x). let k : y * p ≤ x * p = mul-le-mul_right p h in let e : min x y ≡ y = omega arith in rw e (omega arith))
    (cases_lt x y)

meet_balanced : (p q : List ℕ) (link : Inner) → IsBalanced p link → IsBalanced q link → IsBalanced (meet p q) link
meet_balanced p q link one other =
    ap (λ n. n * link.produced) (meet_at p q link.tail) ∙ min_times (slice_index p link.tail) (slice_index q link.tail) link.produced
    ∙ ap (λ n. min n (slice_index q link.tail * link.produced)) one ∙ ap (min (slice_index p link.head * link.consumed)) other
    ∙ sym (min_times (slice_index p link.head) (slice_index q link.head) link.consumed) ∙ sym (ap (λ n. n * link.consumed) (meet_at p q link.head))

meet_each : (p q : List ℕ) (links : List Link) → EachInner (IsBalanced p) links → EachInner (IsBalanced q) links → EachInner (IsBalanced (meet p q)) links
meet_each p q [] one other = tt
meet_each p q (link ∷ links) one other = (here link.tail link.head link.delay one.0 other.0, meet_each p q links one.1 other.1)
  where
    here : (t : Tail) (h : Head) (d : ℕ) → OfInner (IsBalanced p) t h d → OfInner (IsBalanced q) t h d → OfInner (IsBalanced (meet p q)) t h d
    here (tail.Source s) h d one other = tt
    here (tail.Port a i r) (head.Sink k) d one other = tt
    here (tail.Port a i r) (head.Port b j c) d one other = meet_balanced p q record { tail = a; produced = r; head = b; consumed = c; delay = d } one other

module _ (level : LevelView) where
  -- of two vectors that solve, the lesser at each place solves
  meet_solves : (p q : List ℕ) → Solves level p → Solves level q → Solves level (meet p q)
  meet_solves p q one other = record {
    one_each = length-meet p q (one.one_each ∙ sym other.one_each) ∙ one.one_each;
    at_least_one = λ a h. let m = meet_at p q a in let x = one.at_least_one a h in let y = other.at_least_one a h in omega arith;
    within = λ a h. let m = meet_at p q a in let x = one.within a h in omega arith;
    balanced = meet_each p q level.links one.balanced other.balanced;
  }

  solves_within : (q : List ℕ) → Solves level q → (a : ℕ) → slice_index q a ≤ base_entry_limit
  solves_within q is a = ⊎_elim
      (λ (h : a < level.actors). is.within a h)
      (λ (past : level.actors ≤ a). let l = is.one_each in let none = get_or_past q a 0 (omega arith) in omega arith)
      (cases_lt a level.actors)

  abbrev Parts : List ℕ → Type 0
  Parts q = ((length q ≡ level.actors) × ((a : ℕ) → a < level.actors → 1 ≤ slice_index q a)) × (((a : ℕ) → a < level.actors → slice_index q a ≤ base_entry_limit) × EachInner (IsBalanced q) level.links)

  parts_decided : (q : List ℕ) → Decided (Parts q)
  parts_decided q = both_decided
      (both_decided (cases_eq (length q) level.actors) (below_decided (λ a. 1 ≤ slice_index q a) (λ a. le_decided 1 (slice_index q a)) level.actors))
      (both_decided (below_decided (λ a. slice_index q a ≤ base_entry_limit) (λ a. le_decided (slice_index q a) base_entry_limit) level.actors)
      (inner_decided (IsBalanced q) (λ link. cases_eq (slice_index q link.tail * link.produced) (slice_index q link.head * link.consumed)) level.links))

  solves_decided : (q : List ℕ) → Decided (Solves level q)
  solves_decided q = ⊎_elim
      (λ (parts : Parts q). inl record { one_each = parts.0.0; at_least_one = parts.0.1; within = parts.1.0; balanced = parts.1.1 })
      (λ (fails : Parts q → ⊥). inr (λ is. fails ((is.one_each, is.at_least_one), (is.within, is.balanced))))
      (parts_decided q)

  pub base_or_none : ((q : List ℕ) × IsBase level q) ⊎ HasNoVector level
  base_or_none = ⊎_elim
      (λ (found : (q : List ℕ) × IsLeast (Solves level) q). inl (found.0, record { solves = found.1.holds; least = found.1.least }))
      (λ (none : (q : List ℕ) → Solves level q → ⊥). inr none)
      (least_or_none base_entry_limit level.actors (Solves level) record { decide = solves_decided; meets = meet_solves; long = λ q is. is.one_each; within = solves_within })

-- ---- groups of connected actors

module _ (n : ℕ) where
  -- the group of each actor, once the first links are taken
  abbrev HasGroups : List Link → Type 0
  HasGroups links = (group : List ℕ) × AreGrouped n links group

  start : HasGroups []
  start = let own = listed n (λ a m. m ≡ a) (λ a h. (a, refl)) in (own.0, grouped_at_start n own.0 own.1 own.2)

  module _ (links : List Link) (has : HasGroups links) where
    module _ (x i put y j taken d : ℕ) (x_there : x < n) (y_there : y < n) where
      abbrev new : Link
      new = record { tail = tail.Port x i put; head = head.Port y j taken; delay = d }

      silent : (put ≡ 0) ⊎ (taken ≡ 0) → HasGroups (links ++ new ∷ [])
      silent either = (
        has.0,
        groups_same n new has.0 (λ a b joined. ⊎_elim
            (λ (e : put ≡ 0). let p = joined.puts in omega arith)
            (λ (e : taken ≡ 0). let p = joined.takes in omega arith)
            either) links has.1,
      )

      sounding : 0 < put → 0 < taken → HasGroups (links ++ new ∷ [])
      sounding puts takes =
          let first = slice_index has.0 x in
          let second = slice_index has.0 y in
          let one : AreUnited has.0 (map (united first second first) has.0) first second = record {
            one_each = length-map has.0 (united first second first);
            kept = first;
            either = inl refl;
            each = λ a h. get_or-map (united first second first) has.0 a 0 0 h;
          } in
          (map (united first second first) has.0, groups_joined n x i put y j taken d has.0 (map (united first second first) has.0) x_there y_there puts takes one links has.1)

      between : HasGroups (links ++ new ∷ [])
      between = ⊎_elim
          (λ (puts : 0 < put). ⊎_elim (λ (takes : 0 < taken). sounding puts takes) (λ (none : taken ≤ 0). silent (inr (let e : taken ≡ 0 = omega arith in e))) (cases_lt 0 taken))
          (λ (none : put ≤ 0). silent (inl (let e : put ≡ 0 = omega arith in e)))
          (cases_lt 0 put)

    one_more : (level : LevelView) → level.actors ≡ n → (t : Tail) (h : Head) (d : ℕ) → TailIsThere level t → HeadIsThere level h → HasGroups (links ++ record { tail = t; head = h; delay = d } ∷ [])
    one_more level same (tail.Source s) h d there here = (has.0, groups_same n record { tail = tail.Source s; head = h; delay = d } has.0 (λ a b joined. joined) links has.1)
    one_more level same (tail.Port x i put) (head.Sink k) d there here = (has.0, groups_same n record { tail = tail.Port x i put; head = head.Sink k; delay = d } has.0 (λ a b joined. joined) links has.1)
    one_more level same (tail.Port x i put) (head.Port y j taken) d there here = between x i put y j taken d (omega arith) (omega arith)

  further : (level : LevelView) → level.actors ≡ n → (links rest : List Link) → HasGroups links → AllByRecursion (λ link. TailIsThere level link.tail) rest → AllByRecursion (λ link. HeadIsThere level link.head) rest → HasGroups (links ++ rest)
  further level same links [] has tails heads = subst HasGroups (sym (append-nil links)) has
  further level same links (link ∷ rest) has tails heads =
      subst HasGroups (append_assoc links (link ∷ []) rest)
      (further level same (links ++ link ∷ []) rest (one_more links has level same link.tail link.head link.delay tails.0 heads.0) tails.1 heads.1)

groups : (level : LevelView) → IsLevel level → (group : List ℕ) × AreGrouped level.actors level.links group
groups level is = further level.actors level refl [] level.links (start level.actors) is.tails_there is.heads_there

-- ---- the repetition vector

many_rounds : (limit base rate outside : ℕ) → outside ≤ limit → 1 ≤ base → (outside ≡ 0) ↔ (rate ≡ 0) → outside ≤ limit * base * rate
many_rounds limit base zero outside small some agree = let e = agree.1 refl in omega arith
many_rounds limit base (suc rate) outside small some agree =
    let k : limit * 1 ≤ limit * base = mul-le-mul_left limit some in
    let m : limit * base * 1 ≤ limit * base * suc rate = mul-le-mul_left (limit * base) (let o : 1 ≤ suc rate = omega arith in o) in
    omega arith

at_most : (limit : ℕ) (xs : List ℕ) → AllByRecursion (λ r. r ≤ limit) xs → (i : ℕ) → slice_index xs i ≤ limit
at_most limit [] all i = omega arith
at_most limit (x ∷ xs) all zero = all.0
at_most limit (x ∷ xs) all (suc i) = at_most limit xs all.1 i

module _ (level : LevelView) (is_level : IsLevel level) (base : List ℕ) (is_base : IsBase level base) (agree : EachOuter AgreesOnZero level level.links) (group : List ℕ) where
  -- with as many rounds as the greatest rate each source and sink is served
  served_at : (g : ℕ) (t : Tail) (h : Head) → TailIsThere level t → HeadIsThere level h → OfOuter AgreesOnZero level t h → OfOuter (IsServed base group g rate_limit) level t h
  served_at g (tail.Source s) (head.Sink k) there here agrees = tt
  served_at g (tail.Source s) (head.Port b j c) there here agrees = λ own. many_rounds rate_limit (slice_index base b) c (slice_index level.sources s) (at_most rate_limit level.sources is_level.source_rates s) (is_base.solves.at_least_one b here) agrees
  served_at g (tail.Port a p r) (head.Sink k) there here agrees = λ own. many_rounds rate_limit (slice_index base a) r (slice_index level.sinks k) (at_most rate_limit level.sinks is_level.sink_rates k) (is_base.solves.at_least_one a there) agrees
  served_at g (tail.Port a p r) (head.Port b j c) there here agrees = tt

  served_by : (g : ℕ) (links : List Link) → AllByRecursion (λ link. TailIsThere level link.tail) links → AllByRecursion (λ link. HeadIsThere level link.head) links → EachOuter AgreesOnZero level links → EachOuter (IsServed base group g rate_limit) level links
  served_by g [] tails heads agrees = tt
  served_by g (link ∷ links) tails heads agrees = (served_at g link.tail link.head tails.0 heads.0 agrees.0, served_by g links tails.1 heads.1 agrees.1)

  abbrev Serves : ℕ → ℕ → Type 0
  Serves g m = (1 ≤ m) × EachOuter (IsServed base group g m) level level.links

  serves_decided : (g m : ℕ) → Decided (Serves g m)
  serves_decided g m = both_decided (le_decided 1 m)
      (outer_decided (IsServed base group g m) (λ link. then_decided (cases_eq (slice_index group link.actor) g) (le_decided link.outside (m * slice_index base link.actor * link.rate))) level level.links)

  limit_serves : (g : ℕ) → Serves g rate_limit
  limit_serves g = (omega arith, served_by g level.links is_level.tails_there is_level.heads_there agree)

  not_over : (limit : ℕ) (P : ℕ → Type 0) (m : ℕ) → IsFirst P m → P limit → m ≤ limit
  not_over limit P m first holds = ⊎_elim (λ (less : limit < m). absurd (first.before limit less holds)) (λ (h : m ≤ limit). h) (cases_lt limit m)

  factor_of : (g : ℕ) → (m : ℕ) × IsLeastFor level level.links base group g m
  factor_of g = ⊎_elim
      (λ (found : (m : ℕ) × IsFirst (Serves g) m). (
        found.0,
        record {
          at_least_one = found.1.here.0;
          within = not_over rate_limit (Serves g) found.0 found.1 (limit_serves g);
          enough = found.1.here.1;
          least = λ other some all. not_over other (Serves g) found.0 found.1 (some, all);
        },
      ))
      (λ (none : (m : ℕ) → m < suc rate_limit → Serves g m → ⊥). absurd (none rate_limit (omega arith) (limit_serves g)))
      (first_below (Serves g) (serves_decided g) (suc rate_limit))

  repetition_of : AreGrouped level.actors level.links group → (q : List ℕ) × IsRepetition level q
  repetition_of grouped =
      let factors = listed level.actors (λ g m. IsLeastFor level level.links base group g m) (λ g h. factor_of g) in
      let counts = listed level.actors (λ a m. m ≡ slice_index factors.0 (slice_index group a) * slice_index base a) (λ a h. (slice_index factors.0 (slice_index group a) * slice_index base a, refl)) in
      (counts.0, is_repetition level is_level base group grouped factors.0 counts.0 is_base record { agree = agree; one_each = factors.1; each = factors.2 } counts.1 counts.2)

agrees_decided : (link : Outer) → Decided (AgreesOnZero link)
agrees_decided link = both_decided (then_decided (cases_eq link.outside 0) (cases_eq link.rate 0)) (then_decided (cases_eq link.rate 0) (cases_eq link.outside 0))

pub repetition_or_none : (level : LevelView) → IsLevel level → ((q : List ℕ) × IsRepetition level q) ⊎ HasNoRepetition level
repetition_or_none level is_level = ⊎_elim
    (λ (base : (q : List ℕ) × IsBase level q). ⊎_elim
    (λ (agree : EachOuter AgreesOnZero level level.links). let own = groups level is_level in inl (repetition_of level is_level base.0 base.1 agree own.0 own.1))
    (λ (fails : EachOuter AgreesOnZero level level.links → ⊥). inr (λ q is. fails is.agree))
    (outer_decided AgreesOnZero agrees_decided level level.links))
    (λ (none : HasNoVector level). inr (λ q is. none is.base is.is_base.solves))
    (base_or_none level)
