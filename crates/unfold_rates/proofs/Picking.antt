-- The rows of each firing, among those of all in their order.
use Rattle.std.proofs.Common.{◌≡◌, ◌≢◌, ℕ, zero, suc, ◌+◌, ◌-◌, ◌<◌, ◌≤◌, ◌^◌, Bool, true, false, List, [], ◌∷◌, ◌++◌, length, map, take, drop, get_or, slice_get, slice_index, slice_index_or, slice_range, Some, refl, ap, sym, ◌∙◌, subst, arith, append_assoc, ⊎_elim}
use Rattle.std.proofs.lemmas.Bool.{cases_eq}
use Rattle.std.specs.List.{AllByRecursion, AllPass, filter, flat_map, range_with_len}
use Rattle.std.proofs.lemmas.List.{append-nil, drop-drop, get_or-map, length-map}
use Rattle.std.proofs.lemmas.List.Elements.{filter-append}
use Rattle.std.proofs.lemmas.Option.{get_or_from_slice_get, slice_get_within}
use Rattle.param_expr.specs.Words.{IsName}
use Rattle.pisdf_meaning.specs.Endings.{child_path}
use Rattle.pisdf_meaning.specs.Running.{Traces, child_rows, traces_below}
use Rattle.pisdf_meaning.specs.declared.outcome.TraceRow.{TraceRow}
use Rattle.pisdf_model.specs.declared.actor.Actor.{Actor}
use Rattle.pisdf_model.specs.declared.graph.Graph.{Graph}
use Rattle.unfold_rates.specs.Cut.{is_within}
use Rattle.unfold_rates.specs.Spans.{AreInOrder, ArePicked, AreSpans}
use Rattle.unfold_rates.proofs.ApartPaths.{one_firing}
use Rattle.unfold_rates.proofs.Lookups.{append_same}
use Rattle.unfold_rates.proofs.Unset.{NoneConfigures, first_configures_nothing, others_configure_nothing}
use Rattle.unfold_rates.proofs.Within.{AllWithin, within_from}

-- ---- tests of rows

module _ {X : Type 0} (test : X → Bool) where
  abbrev pub Pass : List X → Type 0
  Pass xs = AllByRecursion (λ x. test x ≡ true) xs

  abbrev pub Fail : List X → Type 0
  Fail xs = AllByRecursion (λ x. test x ≡ false) xs

  pub filter-pass : (xs : List X) → Pass xs → filter test xs ≡ xs
  filter-pass [] all = refl
  filter-pass (x ∷ xs) all = rw all.0 (ap (λ (l : List X). x ∷ l) (filter-pass xs all.1))

  pub filter-fail : (xs : List X) → Fail xs → filter test xs ≡ []
  filter-fail [] all = refl
  filter-fail (x ∷ xs) all = rw all.0 (filter-fail xs all.1)

  pub fail_both : (xs ys : List X) → Fail xs → Fail ys → Fail (xs ++ ys)
  fail_both [] ys a b = b
  fail_both (x ∷ xs) ys a b = (a.0, fail_both xs ys a.1 b)

  -- rows that pass, and then others that don't: a span that takes all that pass from the first on, takes just those
  pub span_ends : (seg rest : List X) (n : ℕ) → Pass seg → Fail rest → AllPass test (take n (seg ++ rest)) → ((x : X) → slice_get (seg ++ rest) n ≡ Some x → test x ≡ false) → (take n (seg ++ rest) ≡ seg) × (drop n (seg ++ rest) ≡ rest)
  span_ends [] rest zero pass fail within over = (refl, refl)
  span_ends [] [] (suc n) pass fail within over = (refl, refl)
  span_ends [] (x ∷ rest) (suc n) pass fail within over = absurd (let yes : test x ≡ true = within 0 x (omega arith) in let no = fail.0 in cc)
  span_ends (x ∷ seg) rest zero pass fail within over = absurd (let no : test x ≡ false = over x refl in let yes = pass.0 in cc)
  span_ends (x ∷ seg) rest (suc n) pass fail within over =
      let more = span_ends seg rest n pass.1 fail (λ k d inside. within (suc k) d (omega arith)) over in
      (ap (λ (l : List X). x ∷ l) more.0, more.1)

pub slice_get_drop : {X : Type 0} (xs : List X) (s n : ℕ) → slice_get (drop s xs) n ≡ slice_get xs (s + n)
slice_get_drop xs zero n = ap (λ (i : ℕ). slice_get xs i) (let e : n ≡ 0 + n = omega arith in e)
slice_get_drop [] (suc s) n = refl
slice_get_drop {X} (x ∷ xs) (suc s) n = slice_get_drop xs s n ∙ ap (λ (i : ℕ). slice_get (x ∷ xs) i) (let e : suc (s + n) ≡ suc s + n = omega arith in e)

-- ---- firings in their order

pub range_snoc : (own : ℕ → List TraceRow) (a n : ℕ) → flat_map own (range_with_len a (suc n)) ≡ flat_map own (range_with_len a n) ++ own (a + n)
range_snoc own a zero = append-nil (own a) ∙ ap own (let e : a ≡ a + 0 = omega arith in e)
range_snoc own a (suc n) =
    let again = range_snoc own (a + 1) n in
    let same : a + 1 + n ≡ a + suc n = omega arith in
    ap (λ (l : List TraceRow). own a ++ l) (again ∙ ap (λ (k : ℕ). flat_map own (range_with_len (a + 1) n) ++ own k) same)
    ∙ sym (append_assoc (own a) (flat_map own (range_with_len (a + 1) n)) (own (a + suc n)))

pub below_is : (own : ℕ → List TraceRow) (n : ℕ) → traces_below own n ≡ flat_map own (range_with_len 0 n)
below_is own zero = refl
below_is own (suc n) =
    ap (λ (l : List TraceRow). l ++ own n) (below_is own n) ∙ ap (λ (k : ℕ). flat_map own (range_with_len 0 n) ++ own k) (let e : n ≡ 0 + n = omega arith in e) ∙ sym (range_snoc own 0 n)

-- the rows of these actors, none of which is a configuration actor
abbrev pub rows_from : List ℕ → Traces → ℕ → List Actor → List TraceRow
rows_from counts traces b [] = []
rows_from counts traces b (actor ∷ actors) = flat_map (traces b) (range_with_len 0 (slice_index counts b)) ++ rows_from counts traces (b + 1) actors

pub rows_are_from : (counts : List ℕ) (traces : Traces) (b : ℕ) (actors : List Actor) → NoneConfigures actors → child_rows counts traces b actors [] ≡ rows_from counts traces b actors
rows_are_from counts traces b [] all = refl
rows_are_from counts traces b (actor ∷ actors) all =
    rw (first_configures_nothing actor actors all)
    (ap (λ (l : List TraceRow). l ++ child_rows counts traces (b + 1) actors []) (below_is (traces b) (slice_index counts b))
    ∙ ap (λ (l : List TraceRow). flat_map (traces b) (range_with_len 0 (slice_index counts b)) ++ l) (rows_are_from counts traces (b + 1) actors (others_configure_nothing actor actors all)))

pub rows_so : (top : Graph) (counts : List ℕ) (rows : List TraceRow) (order : AreInOrder top counts rows) → rows ≡ rows_from counts order.traces 0 top.actors
rows_so top counts rows order = order.rows_are ∙ rows_are_from counts order.traces 0 top.actors order.configures_nothing

-- ---- a path is that of one firing alone

by_bool : (b : Bool) → (b ≡ true → ⊥) → b ≡ false
by_bool true never = absurd (never refl)
by_bool false never = refl

module _ (top : Graph) (counts : List ℕ) (rows : List TraceRow) (order : AreInOrder top counts rows) (few : (b : ℕ) → slice_index counts b < 2 ^ 64) where
  abbrev test : List ℕ → ℕ → TraceRow → Bool
  test actor k row = is_within (child_path top.name actor k) row.path

  name_at : (b : ℕ) (actor : Actor) → slice_get top.actors b ≡ Some actor → (b < length top.actors) × IsName actor.name × (slice_index_or (map (λ (a : Actor). a.name) top.actors) b [] ≡ actor.name)
  name_at b actor is =
      let inside = slice_get_within top.actors b actor is in
      let own : get_or top.actors b actor ≡ actor = get_or_from_slice_get top.actors b actor actor is in
      let P : Actor → Type 0 = λ a. IsName a.name in
      (inside, subst P own (order.named b actor inside), get_or-map (λ (a : Actor). a.name) top.actors b actor [] inside ∙ ap (λ (a : Actor). a.name) own)

  -- a row of one firing stands within the path of no other
  apart : (b c k m : ℕ) (x y : Actor) → slice_get top.actors b ≡ Some x → slice_get top.actors c ≡ Some y → k < slice_index counts b → m < slice_index counts c → ((b ≡ c) × (k ≡ m) → ⊥) → (row : TraceRow) → test y.name m row ≡ true → test x.name k row ≡ false
  apart b c k m x y is is' inside inside' other row within = by_bool (test x.name k row) (λ also.
      let one = name_at b x is in
      let two = name_at c y is' in
      let lk = few b in
      let lm = few c in
      let same = one_firing top.name x.name y.name k m row.path one.1 two.1 (omega arith) (omega arith) (within_from (child_path top.name x.name k) row.path also) (within_from (child_path top.name y.name m) row.path within) in
      let long : length (map (λ (a : Actor). a.name) top.actors) ≡ length top.actors = length-map top.actors (λ (a : Actor). a.name) in
      let i = one.0 in
      let j = two.0 in
      other (order.differ b c (omega arith) (omega arith) (one.2 ∙ same.0 ∙ sym two.2), same.1))

  fails : (b c k m : ℕ) (x y : Actor) → slice_get top.actors b ≡ Some x → slice_get top.actors c ≡ Some y → k < slice_index counts b → m < slice_index counts c → ((b ≡ c) × (k ≡ m) → ⊥) → (all : List TraceRow) → AllWithin (child_path top.name y.name m) all → Fail (test x.name k) all
  fails b c k m x y is is' inside inside' other [] within = tt
  fails b c k m x y is is' inside inside' other (row ∷ all) within =
      (apart b c k m x y is is' inside inside' other row within.0, fails b c k m x y is is' inside inside' other all within.1)

  -- those of an actor's firings from number a on, where that of number k isn't among them
  fail_range : (b c k : ℕ) (x y : Actor) → slice_get top.actors b ≡ Some x → slice_get top.actors c ≡ Some y → k < slice_index counts b → (a n : ℕ) → a + n ≤ slice_index counts c → ((m : ℕ) → a ≤ m → (b ≡ c) × (k ≡ m) → ⊥) → Fail (test x.name k) (flat_map (order.traces c) (range_with_len a n))
  fail_range b c k x y is is' inside a zero within other = tt
  fail_range b c k x y is is' inside a (suc n) within other =
      fail_both (test x.name k) (order.traces c a) (flat_map (order.traces c) (range_with_len (a + 1) n))
      (fails b c k a x y is is' inside (omega arith) (other a (omega arith)) (order.traces c a) (order.within c a y is' (omega arith)))
      (fail_range b c k x y is is' inside (a + 1) n (omega arith) (λ m le. other m (omega arith)))

  -- those of the actors from c on, which is after b
  fail_later : (b k : ℕ) (x : Actor) → slice_get top.actors b ≡ Some x → k < slice_index counts b → (c : ℕ) (actors : List Actor) → b < c → ((i : ℕ) (y : Actor) → slice_get actors i ≡ Some y → slice_get top.actors (c + i) ≡ Some y) →
      Fail (test x.name k) (rows_from counts order.traces c actors)
  fail_later b k x is inside c [] after there = tt
  fail_later b k x is inside c (y ∷ actors) after there =
      let here : slice_get top.actors c ≡ Some y = let P : ℕ → Type 0 = λ n. slice_get top.actors n ≡ Some y in let e : c + 0 ≡ c = omega arith in subst P e (there 0 y refl) in
      fail_both (test x.name k) (flat_map (order.traces c) (range_with_len 0 (slice_index counts c))) (rows_from counts order.traces (c + 1) actors)
      (fail_range b c k x y is here inside 0 (slice_index counts c) (omega arith) (λ m le both. let e = both.0 in omega arith))
      (fail_later b k x is inside (c + 1) actors (omega arith) (λ i z e. let P : ℕ → Type 0 = λ n. slice_get top.actors n ≡ Some z in let s : c + suc i ≡ c + 1 + i = omega arith in subst P s (there (suc i) z e)))

  -- ---- all rows within a path

  picked_range : (b k : ℕ) (x : Actor) → slice_get top.actors b ≡ Some x → k < slice_index counts b → (a n : ℕ) → a ≤ k → k < a + n → a + n ≤ slice_index counts b → filter (test x.name k) (flat_map (order.traces b) (range_with_len a n)) ≡ order.traces b k
  picked_range b k x is inside a zero low high within = absurd (omega arith)
  picked_range b k x is inside a (suc n) low high within =
      let split = filter-append (test x.name k) (order.traces b a) (flat_map (order.traces b) (range_with_len (a + 1) n)) in
      ⊎_elim
      (λ (here : a ≡ k).
      let own : filter (test x.name k) (order.traces b a) ≡ order.traces b k =
      let P : ℕ → Type 0 = λ i. filter (test x.name k) (order.traces b i) ≡ order.traces b k in
      subst P (sym here) (filter-pass (test x.name k) (order.traces b k) (order.within b k x is inside)) in
      let others = filter-fail (test x.name k) (flat_map (order.traces b) (range_with_len (a + 1) n)) (fail_range b b k x x is is inside (a + 1) n (omega arith) (λ m le both. let e = both.1 in omega arith)) in
      split ∙ append_same (order.traces b k) _ [] _ own others ∙ append-nil (order.traces b k))
      (λ (past : a ≢ k).
      let none = filter-fail (test x.name k) (order.traces b a) (fails b b k a x x is is inside (omega arith) (λ both. past (sym both.1)) (order.traces b a) (order.within b a x is (omega arith))) in
      split ∙ append_same [] _ (order.traces b k) _ none (picked_range b k x is inside (a + 1) n (omega arith) (omega arith) (omega arith)))
      (cases_eq a k)

  picked_from : (b k : ℕ) (x : Actor) → slice_get top.actors b ≡ Some x → k < slice_index counts b → (c : ℕ) (actors : List Actor) → c ≤ b → b < c + length actors → ((i : ℕ) (y : Actor) → slice_get actors i ≡ Some y → slice_get top.actors (c + i) ≡ Some y) →
      filter (test x.name k) (rows_from counts order.traces c actors) ≡ order.traces b k
  picked_from b k x is inside c [] low high there = absurd (omega arith)
  picked_from b k x is inside c (y ∷ actors) low high there =
      let here : slice_get top.actors c ≡ Some y = let P : ℕ → Type 0 = λ n. slice_get top.actors n ≡ Some y in let e : c + 0 ≡ c = omega arith in subst P e (there 0 y refl) in
      let onward : (i : ℕ) (z : Actor) → slice_get actors i ≡ Some z → slice_get top.actors (c + 1 + i) ≡ Some z = λ i z e. let P : ℕ → Type 0 = λ n. slice_get top.actors n ≡ Some z in let s : c + suc i ≡ c + 1 + i = omega arith in subst P s (there (suc i) z e) in
      let split = filter-append (test x.name k) (flat_map (order.traces c) (range_with_len 0 (slice_index counts c))) (rows_from counts order.traces (c + 1) actors) in
      ⊎_elim
      (λ (own : c ≡ b).
      let P : ℕ → Type 0 = λ i. filter (test x.name k) (flat_map (order.traces i) (range_with_len 0 (slice_index counts i))) ≡ order.traces b k in
      let first = subst P (sym own) (picked_range b k x is inside 0 (slice_index counts b) (omega arith) (omega arith) (omega arith)) in
      let others = filter-fail (test x.name k) (rows_from counts order.traces (c + 1) actors) (fail_later b k x is inside (c + 1) actors (omega arith) onward) in
      split ∙ append_same (order.traces b k) _ [] _ first others ∙ append-nil (order.traces b k))
      (λ (before : c ≢ b).
      let none = filter-fail (test x.name k) (flat_map (order.traces c) (range_with_len 0 (slice_index counts c))) (fail_range b c k x y is here inside 0 (slice_index counts c) (omega arith) (λ m le both. before (sym both.0))) in
      split ∙ append_same [] _ (order.traces b k) _ none (picked_from b k x is inside (c + 1) actors (omega arith) (omega arith) onward))
      (cases_eq c b)

  pub picked_is : (b k : ℕ) (x : Actor) → slice_get top.actors b ≡ Some x → k < slice_index counts b → filter (test x.name k) rows ≡ order.traces b k
  picked_is b k x is inside =
      let there : (i : ℕ) (y : Actor) → slice_get top.actors i ≡ Some y → slice_get top.actors (0 + i) ≡ Some y = λ i y e. let P : ℕ → Type 0 = λ n. slice_get top.actors n ≡ Some y in let s : i ≡ 0 + i = omega arith in subst P s e in
      ap (filter (test x.name k)) (rows_so top counts rows order) ∙ picked_from b k x is inside 0 top.actors (omega arith) (let i = slice_get_within top.actors b x is in omega arith) there

  -- ---- what the spans hold

  -- the actor, and those after it
  module _ (b : ℕ) (actor : Actor) (later : List Actor) (is : slice_get top.actors b ≡ Some actor) (there : (i : ℕ) (y : Actor) → slice_get later i ≡ Some y → slice_get top.actors (b + 1 + i) ≡ Some y)
      (start : ℕ) (bounds : List ℕ) (spans : AreSpans rows top.name actor.name (slice_index counts b) start bounds)
      (begins : drop start rows ≡ rows_from counts order.traces b (actor ∷ later)) where
    abbrev own : ℕ → List TraceRow
    own = order.traces b

    abbrev after : List TraceRow
    after = rows_from counts order.traces (b + 1) later

    abbrev count : ℕ
    count = slice_index counts b

    -- from the bound of number k on
    abbrev From : ℕ → ℕ → Type 0
    From k n = drop (slice_index bounds k) rows ≡ flat_map own (range_with_len k n) ++ after

    step : (k n : ℕ) → k + suc n ≡ count → From k (suc n) → (slice_range rows (slice_index bounds k) (slice_index bounds (k + 1)) ≡ own k) × From (k + 1) n
    step k n all from =
        let span = spans.each k (omega arith) in
        let rest : List TraceRow = flat_map own (range_with_len (k + 1) n) ++ after in
        let split : drop (slice_index bounds k) rows ≡ own k ++ rest = from ∙ append_assoc (own k) (flat_map own (range_with_len (k + 1) n)) after in
        let steps : ℕ = slice_index bounds (k + 1) - slice_index bounds k in
        let sum : slice_index bounds k + steps ≡ slice_index bounds (k + 1) = let f = span.forward in omega arith in
        let pass : Pass (test actor.name k) (own k) = order.within b k actor is (omega arith) in
        let fail : Fail (test actor.name k) rest =
        fail_both (test actor.name k) (flat_map own (range_with_len (k + 1) n)) after
        (fail_range b b k actor actor is is (omega arith) (k + 1) n (omega arith) (λ m le both. let e = both.1 in omega arith))
        (fail_later b k actor is (omega arith) (b + 1) later (omega arith) there) in
        let T : List TraceRow → Type 0 = λ l. AllPass (test actor.name k) (take steps l) in
        let G : List TraceRow → Type 0 = λ l. (x : TraceRow) → slice_get l steps ≡ Some x → test actor.name k x ≡ false in
        let over : (x : TraceRow) → slice_get (drop (slice_index bounds k) rows) steps ≡ Some x → test actor.name k x ≡ false = λ x e.
        span.over x (ap (λ (i : ℕ). slice_get rows i) (sym sum) ∙ sym (slice_get_drop rows (slice_index bounds k) steps) ∙ e) in
        let both = span_ends (test actor.name k) (own k) rest steps pass fail (subst T split span.within) (subst G split over) in (
          ap (λ (l : List TraceRow). take steps l) split ∙ both.0,
          ap (λ (i : ℕ). drop i rows) (sym sum) ∙ sym (drop-drop steps (slice_index bounds k) rows) ∙ ap (λ (l : List TraceRow). drop steps l) split ∙ both.1,
        )

    pub from_each : (k n : ℕ) → k + n ≡ count → From k n
    from_each zero n all =
        let first : slice_index bounds 0 ≡ start = spans.first in
        let same : count ≡ n = omega arith in
        ap (λ (i : ℕ). drop i rows) first ∙ begins ∙ ap (λ (m : ℕ). flat_map own (range_with_len 0 m) ++ after) same
    from_each (suc k) n all =
        let P : ℕ → Type 0 = λ i. From i n in
        let e : k + 1 ≡ suc k = omega arith in
        subst P e (step k n (omega arith) (from_each k (suc n) (omega arith))).1

    -- where the rows of the actor end, those of the next begin
    pub next_begins : drop (slice_index bounds count) rows ≡ after
    next_begins = from_each count 0 (omega arith)

    pub are_picked : ArePicked rows top.name actor.name count bounds
    are_picked = record {
      long = spans.long;
      forward = λ k inside. (spans.each k inside).forward;
      inside = λ k inside. (spans.each k inside).inside;
      picked = λ k inside.
          let n : ℕ = count - suc k in
          (step k n (omega arith) (from_each k (suc n) (omega arith))).0 ∙ sym (picked_is b k actor is inside);
    }
