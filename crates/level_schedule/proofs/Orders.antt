-- Firing the least actor that can fire comes to an order of all firings, or to a deadlock.
use Rattle.std.proofs.Common.{◌≡◌, ◌≢◌, ℕ, zero, suc, ◌+◌, ◌-◌, ◌*◌, ◌<◌, ◌≤◌, ◌⊎◌, inl, inr, ⊎_elim, List, [], ◌∷◌, ◌++◌, length, slice_index, refl, ap, sym, ◌∙◌, subst, arith}
use Rattle.std.proofs.lemmas.Bool.{cases_eq, cases_lt}
use Rattle.std.proofs.lemmas.List.{get_or_past}
use Rattle.sdf_level.specs.View.{LevelView}
use Rattle.sdf_level.specs.Firings.{CanFire, EachCanFire, EachFiring, IsReady, actors_of, firings, turns_after, turns_of}
use Rattle.sdf_level.specs.Orders.{CanStand, IsDeadlocked, IsLeast, IsLeft, IsOrder, IsStuck, IsTurnOrder}
use Rattle.sdf_level.specs.declared.turn.Turn.{Turn}
use Rattle.sdf_level.proofs.Deadlock.{stuck_is_done}
use Rattle.sdf_level.proofs.FiringLists.{EachFiring-snoc, firings-snoc_other, firings-snoc_own}
use Rattle.level_schedule.proofs.Repetitions.{inner_decided}
use Rattle.level_schedule.proofs.Searching.{Decided, IsFirst, below_decided, both_decided, first_below, le_decided, listed, lt_decided, then_decided}

-- ---- how many firings remain

-- of the counts of the actors from b on, those that a list leaves
abbrev remaining : List ℕ → ℕ → List ℕ → ℕ
remaining [] b list = 0
remaining (count ∷ counts) b list = (count - firings b list) + remaining counts (b + 1) list

remaining_past : (counts : List ℕ) (b a : ℕ) (list : List ℕ) → a < b → remaining counts b (list ++ a ∷ []) ≡ remaining counts b list
remaining_past [] b a list h = refl
remaining_past (count ∷ counts) b a list h =
    let rest = remaining_past counts (b + 1) a list (omega arith) in
    let same = firings-snoc_other b a list (λ e. omega arith) in
    omega arith

-- a firing more of an actor with count left is one fewer
remaining_less : (counts : List ℕ) (b i a : ℕ) (list : List ℕ) → a ≡ b + i → firings a list < slice_index counts i → remaining counts b (list ++ a ∷ []) < remaining counts b list
remaining_less [] b i a list e h = omega arith
remaining_less (count ∷ counts) b zero a list e h =
    let here : a ≡ b = omega arith in
    let rest = remaining_past counts (b + 1) a list (omega arith) in
    let P : ℕ → Type 0 = λ x. (firings x (list ++ a ∷ []) ≡ firings x list + 1) × (firings x list < count) in
    let own = subst P here (firings-snoc_own a list, h) in
    let more = own.0 in
    let left = own.1 in
    omega arith
remaining_less (count ∷ counts) b (suc i) a list e h =
    let rest = remaining_less counts (b + 1) i a list (omega arith) h in
    let same = firings-snoc_other b a list (λ f. omega arith) in
    omega arith

module _ (level : LevelView) (q : List ℕ) where
  -- ---- one firing after the other

  -- up to here each actor fires within its count, and in every place stands the least that can
  record HasGrown (list : List ℕ) : Type 0 where
    within : (a : ℕ) → firings a list ≤ slice_index q a
    each : EachCanFire level list
    least : EachFiring (IsLeast level q) [] list

  stands_decided : (list : List ℕ) (a : ℕ) → Decided (CanStand level q list a)
  stands_decided list a = ⊎_elim
      (λ (both : (firings a list < slice_index q a) × CanFire level list a). inl record { left = both.0; can_fire = both.1 })
      (λ (fails : (firings a list < slice_index q a) × CanFire level list a → ⊥). inr (λ stands. fails (stands.left, stands.can_fire)))
      (both_decided (lt_decided (firings a list) (slice_index q a))
      (inner_decided (IsReady (λ x. firings x list) a)
      (λ link. then_decided (cases_eq link.head a) (le_decided (link.consumed * (firings link.head list + 1)) (link.delay + link.produced * firings link.tail list))) level.links))

  grown_more : (list : List ℕ) (a : ℕ) → HasGrown list → IsFirst (CanStand level q list) a → HasGrown (list ++ a ∷ [])
  grown_more list a grown first = record {
    within = λ c. let w = grown.within c in ⊎_elim
        (λ (e : a ≡ c). let P : ℕ → Type 0 = λ x. firings x (list ++ a ∷ []) ≤ slice_index q x in subst P e (let s = firings-snoc_own a list in let l = first.here.left in omega arith))
        (λ (n : a ≢ c). let s = firings-snoc_other c a list n in omega arith)
        (cases_eq a c);
    each = EachFiring-snoc (CanFire level) [] list a grown.each first.here.can_fire;
    least = EachFiring-snoc (IsLeast level q) [] list a grown.least first.before;
  }

  -- a list that has grown as far as it can
  abbrev Grown : Type 0
  Grown = (list : List ℕ) × HasGrown list × ((a : ℕ) → CanStand level q list a → ⊥)

  inside : (list : List ℕ) (a : ℕ) → CanStand level q list a → a < length q
  inside list a stands = ⊎_elim
      (λ (h : a < length q). h)
      (λ (past : length q ≤ a). let none = get_or_past q a 0 past in let l = stands.left in absurd (omega arith))
      (cases_lt a (length q))

  grow : (n : ℕ) (list : List ℕ) → remaining q 0 list < n → HasGrown list → Grown
  grow zero list few grown = absurd (omega arith)
  grow (suc n) list few grown = ⊎_elim
      (λ (found : (a : ℕ) × IsFirst (CanStand level q list) a).
      let less = remaining_less q 0 found.0 found.0 list (omega arith) found.1.here.left in
      grow n (list ++ found.0 ∷ []) (omega arith) (grown_more list found.0 grown found.1))
      (λ (none : (a : ℕ) → a < length q → CanStand level q list a → ⊥). (list, grown, λ a stands. none a (inside list a stands) stands))
      (first_below (CanStand level q list) (stands_decided list) (length q))

  grown_up : Grown
  grown_up = grow (suc (remaining q 0 [])) [] (omega arith) record { within = λ a. omega arith; each = tt; least = tt }

  -- ---- the end

  abbrev Deadlocks : Type 0
  Deadlocks = IsDeadlocked level q × ((left : List ℕ) × IsLeft level q left)

  module _ (list : List ℕ) (grown : HasGrown list) (no_more : (a : ℕ) → CanStand level q list a → ⊥) where
    stuck : IsStuck level q list
    stuck = record { within = grown.within; each = grown.each; no_more = no_more }

    past_end : (a : ℕ) → length q ≤ a → (firings a list ≡ 0) × (slice_index q a ≡ 0)
    past_end a past = let none = get_or_past q a 0 past in let w = grown.within a in (omega arith, none)

    ordered : ((a : ℕ) → a < length q → firings a list ≡ slice_index q a) → IsOrder level q list
    ordered done = record {
      admissible = record {
        counts = λ a. ⊎_elim (λ (h : a < length q). done a h) (λ (past : length q ≤ a). (past_end a past).0 ∙ sym (past_end a past).1) (cases_lt a (length q));
        each = grown.each;
      };
      least = grown.least;
    }

    deadlocked : (((a : ℕ) → a < length q → firings a list ≡ slice_index q a) → ⊥) → IsDeadlocked level q
    deadlocked fails other admissible = fails (λ a h. stuck_is_done level q list other stuck admissible a)

    left_over : (left : List ℕ) × IsLeft level q left
    left_over =
        let own = listed (length q) (λ a m. m ≡ slice_index q a - firings a list) (λ a h. (slice_index q a - firings a list, refl)) in (
          own.0,
          record {
            list = list;
            stuck = stuck;
            one_each = own.1;
            each = λ a. ⊎_elim
                (λ (h : a < length q). own.2 a h)
                (λ (past : length q ≤ a). let l = own.1 in let none = get_or_past own.0 a 0 (omega arith) in let e = (past_end a past).1 in omega arith)
                (cases_lt a (length q));
          },
        )

    order_or_left : ((list : List ℕ) × IsOrder level q list) ⊎ Deadlocks
    order_or_left = ⊎_elim
        (λ (done : (a : ℕ) → a < length q → firings a list ≡ slice_index q a). inl (list, ordered done))
        (λ (fails : ((a : ℕ) → a < length q → firings a list ≡ slice_index q a) → ⊥). inr (deadlocked fails, left_over))
        (below_decided (λ a. firings a list ≡ slice_index q a) (λ a. cases_eq (firings a list) (slice_index q a)) (length q))

  actors_back : (before list : List ℕ) → actors_of (turns_after before list) ≡ list
  actors_back before [] = refl
  actors_back before (b ∷ list) = ap (λ (l : List ℕ). b ∷ l) (actors_back (before ++ b ∷ []) list)

  turns_ordered : (list : List ℕ) → IsOrder level q list → IsTurnOrder level q (turns_of list)
  turns_ordered list is = record { order = subst (IsOrder level q) (sym (actors_back [] list)) is; numbered = ap turns_of (sym (actors_back [] list)) }

  pub order_or_deadlock : ((turns : List Turn) × IsTurnOrder level q turns) ⊎ Deadlocks
  order_or_deadlock = ⊎_elim
      (λ (found : (list : List ℕ) × IsOrder level q list). inl (turns_of found.0, turns_ordered found.0 found.1))
      (λ (dead : Deadlocks). inr dead)
      (order_or_left grown_up.0 grown_up.1 grown_up.2)
