-- How many links lack tokens: of a part of them, of one link more, and after one firing more.
use Rattle.std.proofs.Common.{◌≡◌, ◌≢◌, ℕ, zero, suc, ◌+◌, ◌-◌, ◌*◌, ◌^◌, ◌<◌, ◌≤◌, ⊎_elim, Bool, true, false, cond, eqb, List, [], ◌∷◌, ◌++◌, length, set, get_or, slice_index, take, if◌then◌else◌, refl, sym, ◌∙◌, arith}
use Rattle.std.specs.List.{All, AllByRecursion, filter}
use Rattle.std.proofs.lemmas.Bool.{cases_eq, cases_Bool, eq-eqb, eqb-false, ne_eqb, ltb-false, le-ltb, or_parts}
use Rattle.std.proofs.lemmas.List.{get_or-set_same, get_or-set_other, length-set, length-take-le, take_more}
use Rattle.sdf_level.specs.Firings.{IsReady}
use Rattle.std.proofs.lemmas.List.Elements.{All-filter}
use Rattle.sdf_level.specs.Numbered.{IsBetween, inner_of}
use Rattle.sdf_level.specs.declared.inner_link.InnerLink.{InnerLink}
use Rattle.firing_order.specs.Adjacent.{is_at}
use Rattle.firing_order.specs.Lacking.{entry_of, is_lacking, is_lacking_into, lacking_into, AreLacking}

abbrev one_if : Bool → ℕ
one_if b = if b then 1 else 0

abbrev IsFed : List ℕ → ℕ → InnerLink → Type 0
IsFed fired b link = IsReady (entry_of fired) b (inner_of link)

module _ (fired : List ℕ) (b : ℕ) where
  ready_here : (link : InnerLink) → one_if (is_lacking_into fired b link) ≡ 0 → IsFed fired b link
  ready_here link none into = ltb-false (link.delay + link.produced * slice_index fired link.tail) (link.consumed * (slice_index fired link.head + 1)) (filled (is_lacking fired link) (rw (eq-eqb link.head b into) at none))
    where
      filled : (lacking : Bool) → one_if lacking ≡ 0 → lacking ≡ false
      filled true e = absurd (omega arith)
      filled false e = refl

  none_here : (link : InnerLink) → IsFed fired b link → one_if (is_lacking_into fired b link) ≡ 0
  none_here link fed = ⊎_elim
      (λ (e : link.head ≡ b). rw (eq-eqb link.head b e, le-ltb (link.delay + link.produced * slice_index fired link.tail) (link.consumed * (slice_index fired link.head + 1)) (fed e)) refl)
      (λ (n : link.head ≢ b). rw (ne_eqb link.head b n) refl)
      (cases_eq link.head b)

  -- where none lacks tokens each has them, and the other way round
  pub fed_from_none : (links : List InnerLink) → lacking_into fired b links ≡ 0 → AllByRecursion (IsFed fired b) links
  fed_from_none [] none = tt
  fed_from_none (link ∷ links) none = (ready_here link (omega arith), fed_from_none links (omega arith))

  pub none_from_fed : (links : List InnerLink) → AllByRecursion (IsFed fired b) links → lacking_into fired b links ≡ 0
  none_from_fed [] all = refl
  none_from_fed (link ∷ links) all = let here = none_here link all.0 in let later = none_from_fed links all.1 in omega arith

  lacking_into-snoc : (links : List InnerLink) (link : InnerLink) → lacking_into fired b (links ++ link ∷ []) ≡ lacking_into fired b links + one_if (is_lacking_into fired b link)
  lacking_into-snoc [] link = omega arith
  lacking_into-snoc (l ∷ links) link = let e = lacking_into-snoc links link in omega arith

  lacking_into-take : (n : ℕ) (links : List InnerLink) → lacking_into fired b (take n links) ≤ lacking_into fired b links
  lacking_into-take zero links = omega arith
  lacking_into-take (suc n) [] = omega arith
  lacking_into-take (suc n) (link ∷ links) = let e = lacking_into-take n links in omega arith

  pub lacking_into-length : (links : List InnerLink) → lacking_into fired b links ≤ length links
  lacking_into-length [] = omega arith
  lacking_into-length (link ∷ links) = let e = lacking_into-length links in let one = at_most_one (is_lacking_into fired b link) in omega arith
    where
      at_most_one : (t : Bool) → one_if t ≤ 1
      at_most_one true = omega arith
      at_most_one false = omega arith

  pub lacking_into-filter : (test : InnerLink → Bool) (links : List InnerLink) → lacking_into fired b (filter test links) ≤ lacking_into fired b links
  lacking_into-filter test [] = omega arith
  lacking_into-filter test (link ∷ links) = let e = lacking_into-filter test links in elim (test link) as (λ t. lacking_into fired b (cond t (link ∷ filter test links) (filter test links)) ≤ lacking_into fired b (link ∷ links)) [
    | true ↦ omega arith
    | false ↦ omega arith
  ]

length-filter : (test : InnerLink → Bool) (links : List InnerLink) → length (filter test links) ≤ length links
length-filter test [] = omega arith
length-filter test (link ∷ links) = let e = length-filter test links in elim (test link) as (λ t. length (cond t (link ∷ filter test links) (filter test links)) ≤ length (link ∷ links)) [
  | true ↦ omega arith
  | false ↦ omega arith
]

-- the link with number i: counted, or taken back
module _ (fired : List ℕ) (links : List InnerLink) (i : ℕ) (d : InnerLink) (inside : i < length links) where
  abbrev this : InnerLink
  this = get_or links i d

  one_more : (b : ℕ) → lacking_into fired b (take (i + 1) links) ≡ lacking_into fired b (take i links) + one_if (is_lacking_into fired b this)
  one_more b = rw (take_more links i d inside) (lacking_into-snoc fired b (take i links) this)

  own_one : is_lacking fired this ≡ true → one_if (is_lacking_into fired this.head this) ≡ 1
  own_one lacks = rw (eq-eqb this.head this.head refl, lacks) refl

  other_none : (b : ℕ) → b ≢ this.head → one_if (is_lacking_into fired b this) ≡ 0
  other_none b n = rw (ne_eqb this.head b (λ e. n (sym e))) refl

  filled_none : (b : ℕ) → is_lacking fired this ≡ false → one_if (is_lacking_into fired b this) ≡ 0
  filled_none b filled = ⊎_elim
      (λ (e : b ≡ this.head). rw (e, eq-eqb this.head this.head refl, filled) refl)
      (λ (n : b ≢ this.head). other_none b n)
      (cases_eq b this.head)

  -- there is room to count it, and something to take back
  pub count_room : (b : ℕ) → lacking_into fired b (take i links) + 1 ≤ length links
  count_room b = let few = lacking_into-length fired b (take i links) in let long : length (take i links) ≡ i = length-take-le i links (omega arith) in omega arith

  pub uncount_room : (old now : List ℕ) → is_lacking fired this ≡ true → ((b : ℕ) → lacking_into fired b links ≤ slice_index old b) → ((b : ℕ) → slice_index now b + lacking_into fired b (take i links) ≡ slice_index old b) → 1 ≤ slice_index now this.head
  uncount_room old now lacks counted so_far =
      let m = one_more this.head in
      let own = own_one lacks in
      let all = lacking_into-take fired this.head (i + 1) links in
      let h = counted this.head in
      let k = so_far this.head in
      omega arith

  module _ (old now : List ℕ) (there : this.head < length now) (lacks : is_lacking fired this ≡ true) where
    pub count_lacking : ((b : ℕ) → slice_index now b ≡ slice_index old b + lacking_into fired b (take i links)) → (b : ℕ) → slice_index (set now this.head (slice_index now this.head + 1)) b ≡ slice_index old b + lacking_into fired b (take (i + 1) links)
    count_lacking so_far b = let m = one_more b in ⊎_elim
        (λ (e : b ≡ this.head). let own = own_one lacks in let s = get_or-set_same now this.head (slice_index now this.head + 1) 0 there in let k = so_far this.head in let m' = one_more this.head in rw e (omega arith))
        (λ (n : b ≢ this.head). let none = other_none b n in let s = get_or-set_other now this.head b (slice_index now this.head + 1) 0 n in let k = so_far b in omega arith)
        (cases_eq b this.head)

    pub uncount_lacking : 1 ≤ slice_index now this.head → ((b : ℕ) → slice_index now b + lacking_into fired b (take i links) ≡ slice_index old b) → (b : ℕ) → slice_index (set now this.head (slice_index now this.head - 1)) b + lacking_into fired b (take (i + 1) links) ≡ slice_index old b
    uncount_lacking some so_far b = let m = one_more b in ⊎_elim
        (λ (e : b ≡ this.head). let own = own_one lacks in let s = get_or-set_same now this.head (slice_index now this.head - 1) 0 there in let k = so_far this.head in let m' = one_more this.head in rw e (omega arith))
        (λ (n : b ≢ this.head). let none = other_none b n in let s = get_or-set_other now this.head b (slice_index now this.head - 1) 0 n in let k = so_far b in omega arith)
        (cases_eq b this.head)

  module _ (old now : List ℕ) (filled : is_lacking fired this ≡ false) where
    pub count_filled : ((b : ℕ) → slice_index now b ≡ slice_index old b + lacking_into fired b (take i links)) → (b : ℕ) → slice_index now b ≡ slice_index old b + lacking_into fired b (take (i + 1) links)
    count_filled so_far b = let m = one_more b in let none = filled_none b filled in let k = so_far b in omega arith

    pub uncount_filled : ((b : ℕ) → slice_index now b + lacking_into fired b (take i links) ≡ slice_index old b) → (b : ℕ) → slice_index now b + lacking_into fired b (take (i + 1) links) ≡ slice_index old b
    uncount_filled so_far b = let m = one_more b in let none = filled_none b filled in let k = so_far b in omega arith

-- only the links at an actor can change by its firings
module _ (fired : List ℕ) (a v b : ℕ) where
  away : (link : InnerLink) → is_at a link ≡ false → one_if (is_lacking_into fired b link) ≡ one_if (is_lacking_into (set fired a v) b link)
  away link e =
      let ends = or_parts (eqb link.tail a) (eqb link.head a) e in
      rw (get_or-set_other fired a link.tail v 0 (eqb-false link.tail a ends.0), get_or-set_other fired a link.head v 0 (eqb-false link.head a ends.1)) refl

  pub lacking_into-fired : (links : List InnerLink) → lacking_into fired b links + lacking_into (set fired a v) b (filter (is_at a) links) ≡ lacking_into (set fired a v) b links + lacking_into fired b (filter (is_at a) links)
  lacking_into-fired [] = omega arith
  lacking_into-fired (link ∷ links) = let later = lacking_into-fired links in ⊎_elim
      (λ (at : is_at a link ≡ true). rw at (omega arith))
      (λ (off : is_at a link ≡ false). let same = away link off in rw off (omega arith))
      (cases_Bool (is_at a link))

-- a firing of the actor, of which these are the links
module _ (links : List InnerLink) (fired lacking : List ℕ) (counted : AreLacking links fired lacking) (a : ℕ) (at : List InnerLink) (is : at ≡ filter (is_at a) links) where
  pub at_between : (n : ℕ) → All (IsBetween n) links → All (IsBetween n) at
  at_between n there = rw is (All-filter (is_at a) (IsBetween n) links there)

  pub at_counted : (b : ℕ) → lacking_into fired b at ≤ slice_index lacking b
  at_counted b = rw (is, counted.each b) (lacking_into-filter fired b (is_at a) links)

  pub at_few : length links < 2 ^ 32 → (b : ℕ) → slice_index lacking b + length at < 2 ^ 64
  at_few few b = rw is (let e = counted.each b in let m = lacking_into-length fired b links in let k = length-filter (is_at a) links in omega arith)

  pub lacking_after : (fired' lacking' : List ℕ) (v : ℕ) → fired' ≡ set fired a v → length lacking' ≡ length lacking →
      ((b : ℕ) → slice_index lacking' b + lacking_into fired b at ≡ slice_index lacking b + lacking_into fired' b at) → AreLacking links fired' lacking'
  lacking_after fired' lacking' v fires long moved = record {
    one_each = rw fires (long ∙ counted.one_each ∙ sym (length-set fired a v));
    each = λ b.
        let had = counted.each b in
        let now : slice_index lacking' b + lacking_into fired b (filter (is_at a) links) ≡ slice_index lacking b + lacking_into (set fired a v) b (filter (is_at a) links) = rw (is, fires) at (moved b) in
        let same = lacking_into-fired fired a v b links in
        rw fires (omega arith);
  }
