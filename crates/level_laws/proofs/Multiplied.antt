-- The links of an unfolded level, and its repetition vector.
use Rattle.std.proofs.Common.{◌≡◌, ℕ, zero, suc, ◌*◌, ◌<◌, ◌≤◌, ⊎_elim, List, [], ◌∷◌, length, slice_index, refl, ap, sym, ◌∙◌, subst, arith}
use Rattle.std.specs.List.{AllByRecursion}
use Rattle.std.proofs.lemmas.List.{length-map}
use Rattle.std.proofs.Math.Nat.{le_of_mul-le-mul_left, mul-le-mul_left, mul-pos, mul-suc, mul_assoc, mul_comm}
use Rattle.sdf_level.specs.View.{LevelView}
use Rattle.sdf_level.specs.declared.link.Link.{Link}
use Rattle.sdf_level.specs.declared.link.Tail.{Tail}
use Rattle.sdf_level.specs.declared.link.Head.{Head}
use Rattle.sdf_level.specs.declared.link.Tail.TheVariants as tail
use Rattle.sdf_level.specs.declared.link.Head.TheVariants as head
use Rattle.sdf_level.specs.Invariants.{HeadIsThere, IsLevel, TailIsThere, rate_limit}
use Rattle.sdf_level.specs.Links.{Outer, OfOuter, EachOuter}
use Rattle.sdf_level.specs.Balance.{IsBase, Solves}
use Rattle.sdf_level.specs.Components.{AreConnected}
use Rattle.sdf_level.specs.Repetition.{AgreesOnZero, HasEnough, IsFactor, IsLeastFactor, IsMultiplied, IsRepetition}
use Rattle.sdf_level.proofs.OnlyOne.{factor_only}
use Rattle.sdf_level.proofs.Connected.{least_factor-moved}
use Rattle.level_laws.specs.Unfolded.{multiplied, unfolded, IsOuterWith, SomeOuter, Serves, IsMetExactly, IsExactLevel}

pub at_multiplied : (times : ℕ) (numbers : List ℕ) (a : ℕ) → slice_index (multiplied times numbers) a ≡ times * slice_index numbers a
at_multiplied times [] a = omega arith
at_multiplied times (n ∷ numbers) zero = refl
at_multiplied times (n ∷ numbers) (suc a) = at_multiplied times numbers a

pub length-multiplied : (times : ℕ) (numbers : List ℕ) → length (multiplied times numbers) ≡ length numbers
length-multiplied times numbers = length-map numbers (λ n. times * n)

-- ---- each link with a source or sink

-- the link in the unfolded level
abbrev pub widened : ℕ → Outer → Outer
widened times link = record { outside = times * link.outside; actor = link.actor; rate = link.rate }

module _ (times : ℕ) (level : LevelView) (P Q : Outer → Type 0) (more : (link : Outer) → P link → Q (widened times link)) where
  one_widened : (t : Tail) (h : Head) → OfOuter P level t h → OfOuter Q (unfolded times level) t h
  one_widened (tail.Source s) (head.Sink k) p = tt
  one_widened (tail.Source s) (head.Port b j c) p =
      let R : ℕ → Type 0 = λ n. Q record { outside = n; actor = b; rate = c } in
      subst R (sym (at_multiplied times level.sources s)) (more record { outside = slice_index level.sources s; actor = b; rate = c } p)
  one_widened (tail.Port a i r) (head.Sink k) p =
      let R : ℕ → Type 0 = λ n. Q record { outside = n; actor = a; rate = r } in
      subst R (sym (at_multiplied times level.sinks k)) (more record { outside = slice_index level.sinks k; actor = a; rate = r } p)
  one_widened (tail.Port a i r) (head.Port b j c) p = tt

  pub each_widened : (links : List Link) → EachOuter P level links → EachOuter Q (unfolded times level) links
  each_widened [] p = tt
  each_widened (link ∷ links) p = (one_widened link.tail link.head p.0, each_widened links p.1)

-- ---- the unfolded level is a level

module _ (times : ℕ) (level : LevelView) where
  tail_there : (t : Tail) → TailIsThere level t → TailIsThere (unfolded times level) t
  tail_there (tail.Source s) there = let e = length-multiplied times level.sources in omega arith
  tail_there (tail.Port a p r) there = there

  head_there : (h : Head) → HeadIsThere level h → HeadIsThere (unfolded times level) h
  head_there (head.Sink s) there = let e = length-multiplied times level.sinks in omega arith
  head_there (head.Port a p r) there = there

  tails_there : (links : List Link) → AllByRecursion (λ link. TailIsThere level link.tail) links → AllByRecursion (λ link. TailIsThere (unfolded times level) link.tail) links
  tails_there [] all = tt
  tails_there (link ∷ links) all = (tail_there link.tail all.0, tails_there links all.1)

  heads_there : (links : List Link) → AllByRecursion (λ link. HeadIsThere level link.head) links → AllByRecursion (λ link. HeadIsThere (unfolded times level) link.head) links
  heads_there [] all = tt
  heads_there (link ∷ links) all = (head_there link.head all.0, heads_there links all.1)

  pub unfolded_level : IsLevel level → AllByRecursion (λ r. r ≤ rate_limit) (multiplied times level.sources) → AllByRecursion (λ r. r ≤ rate_limit) (multiplied times level.sinks) → IsLevel (unfolded times level)
  unfolded_level is sources sinks =
      let s = length-multiplied times level.sources in
      let t = length-multiplied times level.sinks in
      record {
        tails_there = tails_there level.links is.tails_there;
        heads_there = heads_there level.links is.heads_there;
        sources_at_one = λ i h. is.sources_at_one i (omega arith);
        sinks_at_one = λ i h. is.sinks_at_one i (omega arith);
        actors_between = is.actors_between;
        delays = is.delays;
        outputs_once = is.outputs_once;
        inputs_once = is.inputs_once;
        outputs_without_gap = is.outputs_without_gap;
        inputs_without_gap = is.inputs_without_gap;
        source_rates = sources;
        sink_rates = sinks;
        tail_rates = is.tail_rates;
        head_rates = is.head_rates;
        few_sources = let f = is.few_sources in omega arith;
        few_sinks = let f = is.few_sinks in omega arith;
        few_links = is.few_links;
      }

-- ---- the repetition vector

none_from : (times x : ℕ) → 1 ≤ times → times * x ≡ 0 → x ≡ 0
none_from times zero some e = refl
none_from times (suc x) some e = absurd (let m = mul-suc times x in omega arith)

agrees_widened : (times : ℕ) → 1 ≤ times → (link : Outer) → AgreesOnZero link → AgreesOnZero (widened times link)
agrees_widened times some link agrees =
    (λ (e : times * link.outside ≡ 0). agrees.0 (none_from times link.outside some e), λ (e : link.rate ≡ 0). ap (λ n. times * n) (agrees.1 e) ∙ (let z : times * 0 ≡ 0 = omega arith in z))

enough_widened : (times outside m b c : ℕ) → outside ≤ m * b * c → times * outside ≤ times * m * b * c
enough_widened times outside m b c h =
    let e : times * m * b * c ≡ times * (m * b * c) = ap (λ n. n * c) (mul_assoc times m b) ∙ mul_assoc times (m * b) c in
    let more : times * outside ≤ times * (m * b * c) = mul-le-mul_left times h in
    omega arith

-- at a link that is met exactly, no factor less than times the least one has enough
cancelled : (times f other b c count outside : ℕ) → count ≡ f * b → count * c ≡ outside → 1 ≤ b → 0 < c → times * outside ≤ other * b * c → times * f ≤ other
cancelled times f other b c count outside is met base rate enough =
    let turned : other * b * c ≡ b * c * other = mul_assoc other b c ∙ mul_comm other (b * c) in
    let whole : outside ≡ f * (b * c) = sym met ∙ ap (λ n. n * c) is ∙ mul_assoc f b c in
    let wide : times * outside ≡ b * c * (times * f) = ap (λ n. times * n) whole ∙ sym (mul_assoc times f (b * c)) ∙ mul_comm (times * f) (b * c) in
    let both : b * c * (times * f) ≤ b * c * other = omega arith in
    le_of_mul-le-mul_left {m = times * f} {n = other} {k = b * c} both (mul-pos base rate)

module _ (times : ℕ) (level : LevelView) (q : List ℕ) (some : 1 ≤ times) (is : IsExactLevel level q) where
  abbrev base : List ℕ
  base = is.repetition.base

  solves : (p : List ℕ) → Solves level p → Solves (unfolded times level) p
  solves p s = record { one_each = s.one_each; at_least_one = s.at_least_one; within = s.within; balanced = s.balanced }

  solved : (p : List ℕ) → Solves (unfolded times level) p → Solves level p
  solved p s = record { one_each = s.one_each; at_least_one = s.at_least_one; within = s.within; balanced = s.balanced }

  is_base : IsBase (unfolded times level) base
  is_base = record { solves = solves base is.repetition.is_base.solves; least = λ other s a. is.repetition.is_base.least other (solved other s) a }

  abbrev Enough : (a m : ℕ) → Outer → Type 0
  Enough a m link = AreConnected level.links a link.actor → HasEnough base m link

  module _ (a : ℕ) (below : a < level.actors) where
    abbrev entry : IsMultiplied level base a (slice_index q a)
    entry = is.repetition.multiplied.entries a below

    factor : IsFactor (unfolded times level) base a (times * entry.factor)
    factor = record {
      at_least_one = mul-pos some entry.least.factor.at_least_one;
      enough = each_widened times level (Enough a entry.factor) (Enough a (times * entry.factor))
          (λ link has joined. enough_widened times link.outside entry.factor (slice_index base link.actor) link.rate (has joined)) level.links entry.least.factor.enough;
    }

    least_link : (other b c outside : ℕ) → b < level.actors → 0 < c → AreConnected level.links a b → slice_index q b * c ≡ outside → times * outside ≤ other * slice_index base b * c → times * entry.factor ≤ other
    least_link other b c outside there rate joined met enough =
        let own = is.repetition.multiplied.entries b there in
        let same : entry.factor ≡ own.factor = factor_only level base b entry.factor own.factor (least_factor-moved level base a b entry.factor joined entry.least) own.least in
        let least = cancelled times own.factor other (slice_index base b) c (slice_index q b) outside own.product met (is.repetition.is_base.solves.at_least_one b there) rate enough in
        let P : ℕ → Type 0 = λ f. times * f ≤ other in
        subst P (sym same) least

    least_one : (other : ℕ) (t : Tail) (h : Head) → TailIsThere level t → HeadIsThere level h → IsOuterWith (Serves level.links a) level t h → OfOuter (IsMetExactly q) level t h → OfOuter (Enough a other) (unfolded times level) t h → times * entry.factor ≤ other
    least_one other (tail.Source s) (head.Sink k) tail_in head_in serves met enough = absurd serves
    least_one other (tail.Source s) (head.Port b j c) tail_in head_in serves met enough =
        let P : ℕ → Type 0 = λ n. n ≤ other * slice_index base b * c in
        least_link other b c (slice_index level.sources s) head_in serves.rate serves.connected (met serves.rate) (subst P (at_multiplied times level.sources s) (enough serves.connected))
    least_one other (tail.Port b i r) (head.Sink k) tail_in head_in serves met enough =
        let P : ℕ → Type 0 = λ n. n ≤ other * slice_index base b * r in
        least_link other b r (slice_index level.sinks k) tail_in serves.rate serves.connected (met serves.rate) (subst P (at_multiplied times level.sinks k) (enough serves.connected))
    least_one other (tail.Port b i r) (head.Port x j c) tail_in head_in serves met enough = absurd serves

    least_each : (other : ℕ) (links : List Link) → AllByRecursion (λ link. TailIsThere level link.tail) links → AllByRecursion (λ link. HeadIsThere level link.head) links → SomeOuter (Serves level.links a) level links → EachOuter (IsMetExactly q) level links → EachOuter (Enough a other) (unfolded times level) links →
        times * entry.factor ≤ other
    least_each other [] tails heads serves met enough = absurd serves
    least_each other (link ∷ links) tails heads serves met enough = ⊎_elim
        (λ (here : IsOuterWith (Serves level.links a) level link.tail link.head). least_one other link.tail link.head tails.0 heads.0 here met.0 enough.0)
        (λ (there : SomeOuter (Serves level.links a) level links). least_each other links tails.1 heads.1 there met.1 enough.1)
        serves

    least : IsLeastFactor (unfolded times level) base a (times * entry.factor)
    least = record { factor = factor; least = λ other g. least_each other level.links is.is_level.tails_there is.is_level.heads_there (is.served a below) is.met g.enough }

    multiplied_entry : IsMultiplied (unfolded times level) base a (slice_index (multiplied times q) a)
    multiplied_entry = record { factor = times * entry.factor; least = least; product = at_multiplied times q a ∙ ap (λ n. times * n) entry.product ∙ sym (mul_assoc times entry.factor (slice_index base a)) }

  pub counts_multiplied : IsRepetition (unfolded times level) (multiplied times q)
  counts_multiplied = record {
    base = base;
    is_base = is_base;
    agree = each_widened times level AgreesOnZero AgreesOnZero (agrees_widened times some) level.links is.repetition.agree;
    multiplied = record { one_each = length-multiplied times q ∙ is.repetition.multiplied.one_each; entries = multiplied_entry };
  }

-- ---- all firings move just as many tokens as a source or sink has

abbrev pub IsMet : List ℕ → Outer → Type 0
IsMet q link = slice_index q link.actor * link.rate ≡ link.outside

met_always : (q : List ℕ) (link : Outer) → AgreesOnZero link → IsMetExactly q link → IsMet q link
met_always q link agrees met = go link.rate refl
  where
    go : (r : ℕ) → link.rate ≡ r → IsMet q link
    go zero e = let z : slice_index q link.actor * 0 ≡ 0 = omega arith in ap (λ n. slice_index q link.actor * n) e ∙ z ∙ sym (agrees.1 e)
    go (suc r) e = met (omega arith)

met_one : (level : LevelView) (q : List ℕ) (t : Tail) (h : Head) → OfOuter AgreesOnZero level t h → OfOuter (IsMetExactly q) level t h → OfOuter (IsMet q) level t h
met_one level q (tail.Source s) (head.Sink k) agrees met = tt
met_one level q (tail.Source s) (head.Port b j c) agrees met = met_always q record { outside = slice_index level.sources s; actor = b; rate = c } agrees met
met_one level q (tail.Port a i r) (head.Sink k) agrees met = met_always q record { outside = slice_index level.sinks k; actor = a; rate = r } agrees met
met_one level q (tail.Port a i r) (head.Port b j c) agrees met = tt

met_each : (level : LevelView) (q : List ℕ) (links : List Link) → EachOuter AgreesOnZero level links → EachOuter (IsMetExactly q) level links → EachOuter (IsMet q) level links
met_each level q [] agrees met = tt
met_each level q (link ∷ links) agrees met = (met_one level q link.tail link.head agrees.0 met.0, met_each level q links agrees.1 met.1)

pub all_met : (level : LevelView) (q : List ℕ) → IsExactLevel level q → EachOuter (IsMet q) level level.links
all_met level q is = met_each level q level.links is.repetition.agree is.met

-- so it is in the unfolded level
pub all_met_widened : (times : ℕ) (level : LevelView) (q : List ℕ) → IsExactLevel level q → EachOuter (IsMet (multiplied times q)) (unfolded times level) level.links
all_met_widened times level q is =
    each_widened times level (IsMet q) (IsMet (multiplied times q))
    (λ link met. ap (λ n. n * link.rate) (at_multiplied times q link.actor) ∙ mul_assoc times (slice_index q link.actor) link.rate ∙ ap (λ n. times * n) met) level.links (all_met level q is)
