-- Where an item is enabled there is a pick, and only one.
use Rattle.std.proofs.Common.{◌≡◌, ◌≢◌, ◌⊎◌, ⊎_elim, inl, inr, ℕ, suc, Bool, true, false, List, [], ◌∷◌, refl, sym, ◌∙◌, subst}
use Rattle.pisdf_meaning.specs.declared.firing.Firing.{Firing}
use Rattle.nested_jobs.specs.Rules.{Place}
use Rattle.nested_jobs.specs.Marks.{Busy, Done, Free, Mark, Marks, Open}
use Rattle.nested_jobs.specs.Pick.{IsIn}
use Rattle.nested_jobs.specs.Steps.{IsEnabled, claimed}
use Rattle.nested_jobs.proofs.Listing.{down_to, enabled_in}
use Rattle.nested_jobs.proofs.Nesting.{top_not_free}
use Rattle.nested_jobs.proofs.Places.{place_cases}
use Rattle.job_rules.specs.Meant.{rank}
use Rattle.job_rules.specs.Words.{Answer}
use Rattle.board_rules.specs.Keys.{IsKey, Key, rules, top_job}
use Rattle.board_rules.specs.Picks.{AreMapped, GoesBefore, IsPick, Standing, StandsAs, goes_before}
use Rattle.board_rules.proofs.Known.{BoardLaws, Known}
use Rattle.board_rules.proofs.Ordering.{standings_ordered}
use Rattle.board_rules.proofs.Standing.{stands, stands_apart, stands_once, way_of}

-- ---- the first of some places

module _ (P : Place → Type 0) (Before : Place → Place → Type 0) (test : (a : Place) → P a ⊎ (P a → ⊥)) (order : (a b : Place) → P a → P b → (a ≡ b) ⊎ (Before a b ⊎ Before b a))
    (through : (a b c : Place) → P a → P b → P c → Before a b → Before b c → Before a c) where
  pub record IsFirst (list : List Place) (a : Place) : Type 0 where
    pub has : P a
    pub first : (b : Place) → IsIn b list → P b → (b ≡ a) ⊎ Before a b

  moved : (a b c : Place) → b ≡ c → Before a b → Before a c
  moved a b c e before = subst (Before a) e before

  with_one : (x : Place) (xs : List Place) (a : Place) → P x → IsFirst xs a → (a' : Place) × IsFirst (x ∷ xs) a'
  with_one x xs a has rest = ⊎_elim
      (λ (same : x ≡ a). (a, record { has = rest.has; first = λ b at b_has. ⊎_elim (λ (e : x ≡ b). inl (sym e ∙ same)) (λ later. rest.first b later b_has) at }))
      (λ other. ⊎_elim
      (λ (before : Before x a). (
        x,
        record {
          has = has;
          first = λ b at b_has. ⊎_elim
              (λ (e : x ≡ b). inl (sym e))
              (λ later. inr (⊎_elim (λ (e : b ≡ a). moved x a b (sym e) before) (λ after. through x a b has rest.has b_has before after) (rest.first b later b_has)))
              at;
        },
      ))
      (λ (after : Before a x). (a, record { has = rest.has; first = λ b at b_has. ⊎_elim (λ (e : x ≡ b). inr (moved a x b e after)) (λ later. rest.first b later b_has) at }))
      other)
      (order x a has rest.has)

  pub first_of : (list : List Place) → ((a : Place) × IsFirst list a) ⊎ ((b : Place) → IsIn b list → P b → ⊥)
  first_of [] = inr (λ b at has. absurd at)
  first_of (x ∷ xs) = ⊎_elim
      (λ rest. ⊎_elim
      (λ has. inl (with_one x xs rest.0 has rest.1))
      (λ none. inl (rest.0, record { has = rest.1.has; first = λ b at b_has. ⊎_elim (λ (e : x ≡ b). absurd (none (subst P (sym e) b_has))) (λ later. rest.1.first b later b_has) at }))
      (test x))
      (λ no_rest. ⊎_elim
      (λ has. inl (x, record { has = has; first = λ b at b_has. ⊎_elim (λ (e : x ≡ b). inl (sym e)) (λ later. absurd (no_rest b later b_has)) at }))
      (λ none. inr (λ b at b_has. ⊎_elim (λ (e : x ≡ b). none (subst P (sym e) b_has)) (λ later. no_rest b later b_has) at))
      (test x))
      (first_of xs)

-- ---- enabled items

free_or_not : (x : Mark Firing Answer) → (x ≡ Free) ⊎ (x ≡ Free → ⊥)
free_or_not Free = inl refl
free_or_not Busy = inr (λ e. cc)
free_or_not (Open c) = inr (λ e. cc)
free_or_not (Done a) = inr (λ e. cc)

busy_or_not : (x : Mark Firing Answer) → (x ≡ Busy) ⊎ (x ≡ Busy → ⊥)
busy_or_not Free = inr (λ e. cc)
busy_or_not Busy = inl refl
busy_or_not (Open c) = inr (λ e. cc)
busy_or_not (Done a) = inr (λ e. cc)

module _ (key : Key) (is : IsKey key) (laws : BoardLaws key) (m : Marks Firing Answer) (known : Known key m) where
  abbrev ranks : Firing → ℕ
  ranks = rank key.graphs.graphs

  abbrev Enabled : Place → Type 0
  Enabled a = IsEnabled (rules key) m a

  enabled_or_not : (a : Place) → Enabled a ⊎ (Enabled a → ⊥)
  enabled_or_not a = ⊎_elim
      (λ free. ⊎_elim (λ busy. inl (free, busy)) (λ not_busy. inr (λ e. not_busy e.1)) (busy_or_not (claimed (rules key) m a a)))
      (λ not_free. inr (λ e. not_free e.0))
      (free_or_not (m a))

  not_top : Enabled [] → ⊥
  not_top e = top_not_free (rules key) ranks laws.lawful (top_job key) m known.nested e.0

  module _ (w : ℕ) where
    abbrev Before : Place → Place → Type 0
    Before [] b = ⊥
    Before (i ∷ p) [] = ⊥
    Before (i ∷ p) (j ∷ q) = GoesBefore key m w i p j q

    through : (a b c : Place) → Enabled a → Enabled b → Enabled c → Before a b → Before b c → Before a c
    through [] b c a_on b_on c_on one other = absurd one
    through (i ∷ p) [] c a_on b_on c_on one other = absurd one
    through (i ∷ p) (j ∷ q) [] a_on b_on c_on one other = absurd other
    through (i ∷ p) (j ∷ q) (k ∷ r) a_on b_on c_on one other =
        let same : one.other ≡ other.one = stands_once key is laws m known w j q one.other other.one one.other_stands other.one_stands in
        let before : goes_before one.one other.one ≡ true = subst (λ (s : Standing). goes_before one.one s ≡ true) same one.before in
        record {
          one = one.one;
          other = other.other;
          one_stands = one.one_stands;
          other_stands = other.other_stands;
          before = standings_ordered.through one.one other.one other.other before other.before;
        }

    module _ (mapped : AreMapped key m) where
      order : (a b : Place) → Enabled a → Enabled b → (a ≡ b) ⊎ (Before a b ⊎ Before b a)
      order [] b a_on b_on = absurd (not_top a_on)
      order (i ∷ p) [] a_on b_on = absurd (not_top b_on)
      order (i ∷ p) (j ∷ q) a_on b_on = go (goes_before s.0 u.0) (goes_before u.0 s.0) refl refl
        where
          s : (x : Standing) × StandsAs key m w i p x
          s = stands key is laws m known mapped w i p (way_of key is laws m known (i ∷ p) a_on)

          u : (x : Standing) × StandsAs key m w j q x
          u = stands key is laws m known mapped w j q (way_of key is laws m known (j ∷ q) b_on)

          go : (x y : Bool) → goes_before s.0 u.0 ≡ x → goes_before u.0 s.0 ≡ y → (i ∷ p ≡ j ∷ q) ⊎ (Before (i ∷ p) (j ∷ q) ⊎ Before (j ∷ q) (i ∷ p))
          go true y one other = inr (inl record { one = s.0; other = u.0; one_stands = s.1; other_stands = u.1; before = one })
          go false true one other = inr (inr record { one = u.0; other = s.0; one_stands = u.1; other_stands = s.1; before = other })
          go false false one other =
              let same : s.0 ≡ u.0 = standings_ordered.same s.0 u.0 one other in
              inl (stands_apart key is laws m known w i j p q u.0 (way_of key is laws m known (i ∷ p) a_on) (way_of key is laws m known (j ∷ q) b_on) (subst (λ (x : Standing). StandsAs key m w i p x) same s.1) u.1)

      abbrev Picked : Type 0
      Picked = (i : ℕ) × (p : Place) × IsPick key m w i p

      as_pick : (a : Place) → IsFirst Enabled Before enabled_or_not order through (down_to (rules key) m (suc (ranks (top_job key)))) a → Picked
      as_pick [] first = absurd (not_top first.has)
      as_pick (i ∷ p) first = (
        i,
        p,
        record {
          enabled = first.has;
          first = λ j q on other. ⊎_elim
              (λ (e : j ∷ q ≡ i ∷ p). absurd (other e))
              (λ before. before)
              (first.first (j ∷ q) (enabled_in (rules key) ranks laws.lawful (top_job key) m known.nested (j ∷ q) on) on);
        },
      )

      -- there is a pick, or nothing is enabled
      pub pick_or_none : Picked ⊎ ((a : Place) → Enabled a → ⊥)
      pick_or_none = ⊎_elim
          (λ t. inl (as_pick t.0 t.1))
          (λ none. inr (λ a on. none a (enabled_in (rules key) ranks laws.lawful (top_job key) m known.nested a on) on))
          (first_of Enabled Before enabled_or_not order through (down_to (rules key) m (suc (ranks (top_job key)))))

    -- and no other
    pub pick_once : (i j : ℕ) (p q : Place) → IsPick key m w i p → IsPick key m w j q → i ∷ p ≡ j ∷ q
    pick_once i j p q one other = ⊎_elim
        (λ (e : i ∷ p ≡ j ∷ q). e)
        (λ (apart : (i ∷ p) ≢ (j ∷ q)).
        let first = one.first j q other.enabled (λ e. apart (sym e)) in
        let second = other.first i p one.enabled apart in
        let both = through (i ∷ p) (j ∷ q) (i ∷ p) one.enabled other.enabled one.enabled first second in
        let same : both.one ≡ both.other = stands_once key is laws m known w i p both.one both.other both.one_stands both.other_stands in
        let never : goes_before both.one both.one ≡ false = standings_ordered.apart both.one in
        let before : goes_before both.one both.one ≡ true = subst (λ (s : Standing). goes_before both.one s ≡ true) (sym same) both.before in
        absurd (cc))
        (place_cases (i ∷ p) (j ∷ q))
