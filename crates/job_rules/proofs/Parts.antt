-- Parts that the rules of a job are made of, taken apart.
use Rattle.std.proofs.Common.{◌≡◌, ℕ, ◌==◌, ⊎_elim, Bool, true, false, ℤ, List, [], ◌∷◌, Option, Some, None, Result, Ok, Err, if◌then◌else◌, refl, sym, ap}
use Rattle.std.specs.List.{AllByRecursion}
use Rattle.std.proofs.lemmas.Bool.{and_from, and_parts, cases_eq, eq-eqb, ne_eqb}
use Rattle.sdf_level.specs.declared.single_rate.Edge.{Edge}
use Rattle.level_schedule.specs.declared.scheduling.LevelSchedule.{LevelSchedule}
use Rattle.pisdf_meaning.specs.declared.firing.Configured.{Configured}
use Rattle.pisdf_meaning.specs.declared.refusal.Refusal.{Refusal}
use Rattle.job_flow.specs.Frames as flow
use Rattle.job_flow.specs.Events.{IsDone}
use Rattle.job_rules.specs.Items.{Prepared, both, is_done, is_ready_by, prepared_by}

-- ---- what is there

-- what is told by a test that gives something
pub record Passed {X : Type 0} (test : Bool) (given : Option X) (x : X) : Type 0 where
  pub test_is : test ≡ true
  pub is : given ≡ Some x

pub passed : {X : Type 0} (test : Bool) (given : Option X) (x : X) → (if test then given else None) ≡ Some x → Passed test given x
passed true given x is = record { test_is = refl; is = is }
passed false given x is = absurd (cc)

pub record Both {X : Type 0} (one : Option X) (more : Option (List X)) (all : List X) : Type 0 where
  pub first : X
  pub rest : List X
  pub first_is : one ≡ Some first
  pub rest_is : more ≡ Some rest
  pub all_are : all ≡ first ∷ rest

pub both_are : {X : Type 0} (one : Option X) (more : Option (List X)) (all : List X) → both one more ≡ Some all → Both one more all
both_are None more all is = absurd (cc)
both_are (Some one) None all is = absurd (cc)
both_are (Some one) (Some more) all is = record { first = one; rest = more; first_is = refl; rest_is = refl; all_are = cc }

pub record PreparedBy (left : Option (List Configured)) (schedule : Option LevelSchedule) (p : Prepared) : Type 0 where
  pub left_is : left ≡ Some p.left
  pub schedule_is : schedule ≡ Some p.schedule

pub prepared_is : (left : Option (List Configured)) (schedule : Option LevelSchedule) (p : Prepared) → prepared_by left schedule ≡ Some p → PreparedBy left schedule p
prepared_is None schedule p is = absurd (cc)
prepared_is (Some left) None p is = absurd (cc)
prepared_is (Some left) (Some schedule) p is =
    let same : p ≡ record { left = left; schedule = schedule } = cc in
    record { left_is = ap (λ (x : Prepared). Some x.left) (sym same); schedule_is = ap (λ (x : Prepared). Some x.schedule) (sym same) }

-- ---- nodes that are ready

pub done_is : (o : Option (Result (List (List ℤ)) Refusal)) → is_done o ≡ true → IsDone o
done_is None is = absurd (cc)
done_is (Some (Ok outs)) is = tt
done_is (Some (Err refusal)) is = absurd (cc)

pub is_done_by : (o : Option (Result (List (List ℤ)) Refusal)) → IsDone o → is_done o ≡ true
is_done_by None done = absurd done
is_done_by (Some (Ok outs)) done = refl
is_done_by (Some (Err refusal)) done = absurd done

abbrev pub Before : flow.Values ℤ Refusal → ℕ → List Edge → Type 0
Before v n edges = AllByRecursion (λ (e : Edge). e.head ≡ n → IsDone (v e.tail)) edges

module _ (v : flow.Values ℤ Refusal) (n : ℕ) where
  edge_done : (e : Edge) → (if e.head == n then is_done (v e.tail) else true) ≡ true → e.head ≡ n → IsDone (v e.tail)
  edge_done e is here = done_is (v e.tail) (rw (eq-eqb e.head n here) at is)

  pub ready_before : (edges : List Edge) → is_ready_by edges v n ≡ true → Before v n edges
  ready_before [] is = tt
  ready_before (e ∷ edges) is = let parts = and_parts (if e.head == n then is_done (v e.tail) else true) (is_ready_by edges v n) is in (edge_done e parts.0, ready_before edges parts.1)

  edge_is : (e : Edge) → (e.head ≡ n → IsDone (v e.tail)) → (if e.head == n then is_done (v e.tail) else true) ≡ true
  edge_is e done = ⊎_elim
      (λ (here : e.head ≡ n). rw (eq-eqb e.head n here) (is_done_by (v e.tail) (done here)))
      (λ (other : e.head ≡ n → ⊥). rw (ne_eqb e.head n other) refl)
      (cases_eq e.head n)

  pub before_ready : (edges : List Edge) → Before v n edges → is_ready_by edges v n ≡ true
  before_ready [] before = refl
  before_ready (e ∷ edges) before = and_from (if e.head == n then is_done (v e.tail) else true) (is_ready_by edges v n) (edge_is e before.0) (before_ready edges before.1)
