-- A placement is valid exactly where no pair clashes, and there is one first clash at most.
use Rattle.std.proofs.Common.{◌≡◌, ℕ, ◌<◌, ◌≤◌, ◌⊎◌, inl, inr, ⊎_elim, List, length, slice_index, Result, Err, refl, ap, arith}
use Rattle.std.proofs.lemmas.Bool.{cases_lt}
use Rattle.placement_checker.specs.Placed.{end_of, Overlap, Valid}
use Rattle.placement_checker.specs.Clashes.{Clashes, StandsBefore, IsFirstClash}
use Rattle.placement_checker.specs.declared.checker.Clash.{Clash}

-- an answer names one pair
same_pair : (e f g h : ℕ) → ◌≡◌ {A = Result (Unit {0}) Clash} (Err (record { e = e; f = f })) (Err (record { e = g; f = h })) → (e ≡ g) × (f ≡ h)
same_pair e f g h same =
    let inner : ◌≡◌ {A = Clash} (record { e = e; f = f }) (record { e = g; f = h }) = cc in
    (ap (λ (pair : Clash). pair.e) inner, ap (λ (pair : Clash). pair.f) inner)

same_answer : (e f g h : ℕ) → e ≡ g → f ≡ h → ◌≡◌ {A = Result (Unit {0}) Clash} (Err (record { e = e; f = f })) (Err (record { e = g; f = h }))
same_answer e f g h left right = cc

module _ (sizes : List ℕ) (X : ℕ → ℕ → Type 0) (offsets : List ℕ) (height : ℕ) where
  pub valid_from_none : ((e f : ℕ) → e < length sizes → f < length sizes → Clashes sizes X offsets height e f → ⊥) → Valid sizes X offsets height
  valid_from_none none = record {
    within = λ e inside. ⊎_elim
        (λ (above : height < end_of sizes offsets e). absurd (none e e inside inside (inl (refl, above))))
        (λ (fits : end_of sizes offsets e ≤ height). fits)
        (cases_lt height (end_of sizes offsets e));
    apart = λ e f below inside related overlap. none e f (omega arith) inside (inr (below, related, overlap));
  }

  pub clash_is_invalid : (e f : ℕ) → f < length sizes → Clashes sizes X offsets height e f → Valid sizes X offsets height → ⊥
  clash_is_invalid e f inside clash valid = ⊎_elim
      (λ (above : (e ≡ f) × (height < end_of sizes offsets e)). let w = valid.within e (let same = above.0 in omega arith) in let a = above.1 in omega arith)
      (λ (both : (e < f) × X e f × Overlap (slice_index offsets e) (slice_index sizes e) (slice_index offsets f) (slice_index sizes f)). valid.apart e f both.0 inside both.1 both.2)
      clash

  -- two pairs are one, or one stands before the other
  pub order_of_pairs : (e f g h : ℕ) → StandsBefore e f g h ⊎ (StandsBefore g h e f ⊎ ((e ≡ g) × (f ≡ h)))
  order_of_pairs e f g h = ⊎_elim
      (λ (below : e < g). inl (inl below))
      (λ (other : g ≤ e). ⊎_elim
      (λ (above : g < e). inr (inl (inl above)))
      (λ (rest : e ≤ g). let same : e ≡ g = omega arith in ⊎_elim
      (λ (before : f < h). inl (inr (same, before)))
      (λ (after : h ≤ f). ⊎_elim
      (λ (behind : h < f). inr (inl (inr (omega arith, behind))))
      (λ (last : f ≤ h). inr (inr (same, omega arith)))
      (cases_lt h f))
      (cases_lt f h))
      (cases_lt g e))
      (cases_lt e g)

  pub one_first_clash : (e f g h : ℕ) → IsFirstClash sizes X offsets height e f → IsFirstClash sizes X offsets height g h → (e ≡ g) × (f ≡ h)
  one_first_clash e f g h one other = ⊎_elim
      (λ (before : StandsBefore e f g h). absurd (other.first e f one.inside before one.clash))
      (λ (rest : StandsBefore g h e f ⊎ ((e ≡ g) × (f ≡ h))). ⊎_elim
      (λ (after : StandsBefore g h e f). absurd (one.first g h other.inside after other.clash))
      (λ (same : (e ≡ g) × (f ≡ h)). same)
      rest)
      (order_of_pairs e f g h)

  -- the least clash of e, where no pair of a lesser buffer clashes
  pub first_clash : (e f : ℕ) → f < length sizes → Clashes sizes X offsets height e f → ((h : ℕ) → h < f → Clashes sizes X offsets height e h → ⊥) → ((c h : ℕ) → c < e → h < length sizes → Clashes sizes X offsets height c h → ⊥) → IsFirstClash sizes X offsets height e f
  first_clash e f inside clash least none = record {
    inside = inside;
    clash = clash;
    first = λ g h there before clashes. ⊎_elim
        (λ (below : g < e). none g h below there clashes)
        (λ (same : (g ≡ e) × (h < f)). least h same.1 (rw same.0 at clashes))
        before;
  }

  pub in_order : (e f : ℕ) → Clashes sizes X offsets height e f → e ≤ f
  in_order e f clash = ⊎_elim
      (λ (above : (e ≡ f) × (height < end_of sizes offsets e)). let same = above.0 in omega arith)
      (λ (both : (e < f) × X e f × Overlap (slice_index offsets e) (slice_index sizes e) (slice_index offsets f) (slice_index sizes f)). let below = both.0 in omega arith)
      clash

  -- the first clash is answered, and no other pair
  pub answered : (e f : ℕ) → IsFirstClash sizes X offsets height e f → (g h : ℕ) → (◌≡◌ {A = Result (Unit {0}) Clash} (Err (record { e = e; f = f })) (Err (record { e = g; f = h })) → IsFirstClash sizes X offsets height g h) × (IsFirstClash sizes X offsets height g h → ◌≡◌ {A = Result (Unit {0}) Clash} (Err (record { e = e; f = f })) (Err (record { e = g; f = h })))
  answered e f first g h = (
    (λ same. let pair = same_pair e f g h same in rw (← pair.0, ← pair.1) first),
    (λ other. let pair = one_first_clash e f g h first other in same_answer e f g h pair.0 pair.1),
  )
