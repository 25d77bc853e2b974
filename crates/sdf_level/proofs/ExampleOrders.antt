-- The definitions of order and deadlock, evaluated.
use Rattle.std.proofs.Common.{◌≡◌, ℕ, zero, suc, ◌+◌, ◌*◌, ◌≤◌, ◌<◌, List, [], ◌∷◌, slice_index, refl, arith}
use Rattle.std.proofs.lemmas.Bool.{ne_eqb}
use Rattle.sdf_level.specs.Firings.{firings, CanFire, turns_of}
use Rattle.sdf_level.specs.Orders.{IsAdmissible, IsDeadlocked, CanStand, IsLeast, IsOrder, IsLeft}
use Rattle.sdf_level.proofs.FiringLists.{firings-own}
use Rattle.sdf_level.proofs.ExampleLevels.{doubled, cycle}

-- the actor with a source alone can always fire; the other needs three tokens
first : (before : List ℕ) → CanFire doubled before 0
first before = (tt, ((λ e. absurd (omega arith)), (tt, tt)))

second : (before : List ℕ) → 3 * (firings 1 before + 1) ≤ 2 * firings 0 before → CanFire doubled before 1
second before h = (tt, ((λ e. omega arith), (tt, tt)))

pub doubled_order : IsOrder doubled (3 ∷ 2 ∷ []) (0 ∷ 0 ∷ 0 ∷ 1 ∷ 1 ∷ [])
doubled_order = record {
  admissible = record {
    counts = counts;
    each = (first [], (first (0 ∷ []), (first (0 ∷ 0 ∷ []), (second (0 ∷ 0 ∷ 0 ∷ []) (omega arith), (second (0 ∷ 0 ∷ 0 ∷ 1 ∷ []) (omega arith), tt)))));
  };
  least = (none [], (none (0 ∷ []), (none (0 ∷ 0 ∷ []), (done (0 ∷ 0 ∷ 0 ∷ []) (omega arith), (done (0 ∷ 0 ∷ 0 ∷ 1 ∷ []) (omega arith), tt)))));
}
  where
    counts : (a : ℕ) → firings a (0 ∷ 0 ∷ 0 ∷ 1 ∷ 1 ∷ []) ≡ slice_index (3 ∷ 2 ∷ []) a
    counts zero = refl
    counts (suc zero) = refl
    counts (suc (suc a)) = rw (ne_eqb 0 (suc (suc a)) (λ e. omega arith), ne_eqb 1 (suc (suc a)) (λ e. omega arith)) refl

    none : (before : List ℕ) → IsLeast doubled (3 ∷ 2 ∷ []) before 0
    none before a h s = omega arith

    done : (before : List ℕ) → 3 ≤ firings 0 before → IsLeast doubled (3 ∷ 2 ∷ []) before 1
    done before h zero l s = let left = s.left in omega arith
    done before h (suc a) l s = omega arith

doubled_turns : turns_of (0 ∷ 0 ∷ 1 ∷ []) ≡ record { actor = 0; turn = 0 } ∷ record { actor = 0; turn = 1 } ∷ record { actor = 1; turn = 0 } ∷ []
doubled_turns = refl

-- the sum and what it adds wait for each other
cycle_deadlocked : IsDeadlocked (cycle 0) (1 ∷ 1 ∷ [])
cycle_deadlocked [] a = let c : firings 0 [] ≡ 1 = a.counts 0 in omega arith
cycle_deadlocked (zero ∷ rest) a = let h : 1 * (0 + 1) ≤ 0 + 1 * 0 = a.each.0.1.1.1.0 refl in omega arith
cycle_deadlocked (suc zero ∷ rest) a = let h : 1 * (0 + 1) ≤ 0 + 1 * 0 = a.each.0.1.0 refl in omega arith
cycle_deadlocked (suc (suc b) ∷ rest) a =
    let own = firings-own (suc (suc b)) rest in
    let c : firings (suc (suc b)) (suc (suc b) ∷ rest) ≡ 0 = a.counts (suc (suc b)) in
    omega arith

-- both counts are left
cycle_left : IsLeft (cycle 0) (1 ∷ 1 ∷ []) (1 ∷ 1 ∷ [])
cycle_left = record { list = []; stuck = record { within = λ a. omega arith; each = tt; no_more = stuck }; one_each = refl; each = λ a. omega arith }
  where
    stuck : (a : ℕ) → CanStand (cycle 0) (1 ∷ 1 ∷ []) [] a → ⊥
    stuck zero s = let h : 1 * (0 + 1) ≤ 0 + 1 * 0 = s.can_fire.1.1.1.0 refl in omega arith
    stuck (suc zero) s = let h : 1 * (0 + 1) ≤ 0 + 1 * 0 = s.can_fire.1.0 refl in omega arith
    stuck (suc (suc a)) s = let h : 0 < 0 = s.left in omega arith

-- a delay of one token suffices
cycle_admissible : IsAdmissible (cycle 1) (1 ∷ 1 ∷ []) (0 ∷ 1 ∷ [])
cycle_admissible = record {
  counts = counts;
  each = ((tt, ((λ e. absurd (omega arith)), (tt, ((λ e. omega arith), tt)))), ((tt, ((λ e. omega arith), (tt, ((λ e. absurd (omega arith)), tt)))), tt));
}
  where
    counts : (a : ℕ) → firings a (0 ∷ 1 ∷ []) ≡ slice_index (1 ∷ 1 ∷ []) a
    counts zero = refl
    counts (suc zero) = refl
    counts (suc (suc a)) = rw (ne_eqb 0 (suc (suc a)) (λ e. omega arith), ne_eqb 1 (suc (suc a)) (λ e. omega arith)) refl
