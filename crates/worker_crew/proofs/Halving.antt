-- A pass is halved, both halves work, and they are joined.
use Rattle.std.proofs.Common.{◌≡◌, ⊎_elim, inl, inr, ℕ, ◌+◌, ◌-◌, ◌<◌, ◌≤◌, Bool, true, false, cond, ◌||◌, nat_lt, Some, List, [], ◌++◌, length, get_or, take, drop, refl, sym, ap, ◌∙◌, subst, arith, length-take, length-drop, length-append}
use Rattle.std.proofs.lemmas.Bool.{cases_lt}
use Rattle.kernel_gate.specs.Signed.{Counts}
use Rattle.board_lock.specs.Meant.{Begins, entries_of}
use Rattle.board_lock.specs.Passes.{Later, first_part, joined, second_part}
use Rattle.board_rules.specs.declared.entry.Entry.{Entry}
use Rattle.firing_board.specs.Locking.{worker_of}
use Rattle.worker_crew.specs.Passes.{AllMayWork, AreIdle, BoardPass, HasSeenEnd, HasSeenOver, MayWork, last_claims}
use Rattle.worker_crew.specs.Worked.{AreFinished, HasWorked}
use Rattle.worker_crew.proofs.Lists.{dropped_at, left_at, right_at, taken_at}

-- ---- the halves

module _ (kernels : List Counts) (p : BoardPass) (may : AllMayWork kernels p) where
  pub one_may : MayWork kernels p
  one_may = let some = may.some in let inside = may.are_workers in record { key = may.key; key_is = may.key_is; kernels_are = may.kernels_are; some = some; is_worker = omega arith }

  module _ (half : ℕ) (some : 0 < half) (less : half < length p.own) where
    first_long : length (take half p.own) ≡ half
    first_long = let l = length-take half p.own in grind arith

    second_long : half + length (drop half p.own) ≡ length p.own
    second_long = let l = length-drop half p.own in omega arith

    pub first_may : AllMayWork kernels (first_part half p)
    first_may = let inside = may.are_workers in let long = first_long in record { key = may.key; key_is = may.key_is; kernels_are = may.kernels_are; some = omega arith; are_workers = omega arith }

    pub second_may : AllMayWork kernels (second_part half p)
    second_may = let inside = may.are_workers in let long = second_long in record { key = may.key; key_is = may.key_is; kernels_are = may.kernels_are; some = omega arith; are_workers = omega arith }

    module _ (idle : AreIdle p) where
      pub first_idle : AreIdle (first_part half p)
      first_idle k lt =
          let long = first_long in
          ap (λ (l : List Entry). last_claims false (entries_of worker_of (p.number + k) p.opening ++ l)) (taken_at p.own half k [] (omega arith)) ∙ idle k (omega arith)

      pub second_idle : AreIdle (second_part half p)
      second_idle k lt =
          let long = second_long in
          let same : p.number + half + k ≡ p.number + (half + k) = omega arith in
          ap (λ (l : List Entry). last_claims false (entries_of worker_of (p.number + half + k) p.opening ++ l)) (dropped_at p.own half k [])
          ∙ (ap (λ (n : ℕ). last_claims false (entries_of worker_of n p.opening ++ get_or p.own (half + k) [])) same ∙ idle (half + k) (omega arith))

-- ---- both

or_left : (a b : Bool) → a ≡ true → (a || b) ≡ true
or_left true b e = refl
or_left false b e = absurd (cc)

or_right : (a b : Bool) → b ≡ true → (a || b) ≡ true
or_right true b e = refl
or_right false b e = e

module _ (p a b : BoardPass) (half : ℕ) (some : 0 < half) (less : half < length p.own) (first : HasWorked (first_part half p) a) (second : HasWorked (second_part half p) b) where
  abbrev both : BoardPass
  both = joined a b

  first_count : length a.own ≡ half
  first_count = let l = length-take half p.own in let c = first.later.count in grind arith

  second_count : half + length b.own ≡ length p.own
  second_count = let l = length-drop half p.own in let c = second.later.count in omega arith

  pub beside : a.number + length a.own ≡ b.number
  beside = let one = first.later.number in let other = second.later.number in let count = first_count in omega arith

  seen_both : (c : Bool) → Begins p.seen (cond c b.seen a.seen)
  seen_both true = second.later.seen
  seen_both false = first.later.seen

  both_later : Later p both
  both_later = record {
    key = first.later.key;
    opening = first.later.opening;
    number = first.later.number;
    count = let l = length-append a.own b.own in let one = first_count in let other = second_count in omega arith;
    workers = first.later.workers;
    seen = seen_both (nat_lt (length a.seen) (length b.seen));
    over = λ over. or_left a.over b.over (first.later.over over);
  }

  both_own : (k : ℕ) → k < length p.own → (more : List Entry) × (get_or both.own k [] ≡ get_or p.own k [] ++ more) × AreFinished (p.number + k) more
  both_own k lt = ⊎_elim in_first in_second (cases_lt k half)
    where
      in_first : k < half → (more : List Entry) × (get_or both.own k [] ≡ get_or p.own k [] ++ more) × AreFinished (p.number + k) more
      in_first low =
          let long : length (take half p.own) ≡ half = let l = length-take half p.own in grind arith in
          let count = first_count in
          let one = first.own k (omega arith) in
          (one.0, left_at a.own b.own k [] (omega arith) ∙ (one.1 ∙ ap (λ (l : List Entry). l ++ one.0) (taken_at p.own half k [] low)), one.2)

      in_second : half ≤ k → (more : List Entry) × (get_or both.own k [] ≡ get_or p.own k [] ++ more) × AreFinished (p.number + k) more
      in_second past =
          let count = first_count in
          let rest = second_count in
          let long : half + length (drop half p.own) ≡ length p.own = let l = length-drop half p.own in omega arith in
          let n : ℕ = k - half in
          let here : half + n ≡ k = omega arith in
          let there : length a.own + n ≡ k = omega arith in
          let number : p.number + half + n ≡ p.number + k = omega arith in
          let other = second.own n (omega arith) in (
            other.0,
            ap (λ (m : ℕ). get_or both.own m []) (sym there) ∙ (right_at a.own b.own n [] ∙ (other.1 ∙ ap (λ (l : List Entry). l ++ other.0) (dropped_at p.own half n [] ∙ ap (λ (m : ℕ). get_or p.own m []) here))),
            subst (λ (m : ℕ). AreFinished m other.0) number other.2,
          )

  pub both_worked : HasWorked p both
  both_worked = record { later = both_later; own = both_own }

  pub both_over : HasSeenOver a → HasSeenOver b → HasSeenOver both
  both_over (inl over) other = inl (or_left a.over b.over over)
  both_over (inr end) (inl over) = inl (or_right a.over b.over over)
  both_over (inr end) (inr other) = inr (longer (nat_lt (length a.seen) (length b.seen)) refl)
    where
      other_key : a.key ≡ Some other.key
      other_key = first.later.key ∙ (sym second.later.key ∙ other.key_is)

      longer : (c : Bool) → nat_lt (length a.seen) (length b.seen) ≡ c → HasSeenEnd both
      longer true is = record { key = other.key; key_is = other_key; taken = other.taken; legal = other.legal; seen_is = ap (λ (c : Bool). cond c b.seen a.seen) is ∙ other.seen_is; ended = other.ended }
      longer false is = record { key = end.key; key_is = end.key_is; taken = end.taken; legal = end.legal; seen_is = ap (λ (c : Bool). cond c b.seen a.seen) is ∙ end.seen_is; ended = end.ended }
