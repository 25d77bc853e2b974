-- Copies of an admissible list are admissible for the unfolded level, which so has a schedule.
use Rattle.std.proofs.Common.{◌≡◌, ℕ, zero, suc, ◌+◌, ◌*◌, ◌≤◌, ⊎_elim, List, [], ◌∷◌, ◌++◌, slice_index, refl, ap, sym, ◌∙◌, subst, append_assoc, arith}
use Rattle.std.proofs.lemmas.List.{append-nil}
use Rattle.std.proofs.Math.Nat.{mul-add, mul-suc, mul_comm}
use Rattle.sdf_level.specs.View.{LevelView}
use Rattle.sdf_level.specs.declared.link.Link.{Link}
use Rattle.sdf_level.specs.declared.link.Tail.{Tail}
use Rattle.sdf_level.specs.declared.link.Head.{Head}
use Rattle.sdf_level.specs.declared.link.Tail.TheVariants as tail
use Rattle.sdf_level.specs.declared.link.Head.TheVariants as head
use Rattle.sdf_level.specs.declared.turn.Turn.{Turn}
use Rattle.sdf_level.specs.Links.{OfInner, EachInner}
use Rattle.sdf_level.specs.Balance.{IsBalanced}
use Rattle.sdf_level.specs.Firings.{firings, CanFire, EachFiring, IsReady, actors_of}
use Rattle.sdf_level.specs.Limits.{IsWithinLimits}
use Rattle.sdf_level.specs.Orders.{IsAdmissible, IsDeadlocked, IsLeft, IsTurnOrder}
use Rattle.sdf_level.proofs.Balanced.{repetition_balanced}
use Rattle.level_schedule.specs.Schedules.{IsScheduled}
use Rattle.level_schedule.specs.declared.scheduling.LevelSchedule.{LevelSchedule}
use Rattle.level_schedule.proofs.Orders.{order_or_deadlock}
use Rattle.level_laws.specs.Unfolded.{multiplied, unfolded, copies, IsExactLevel}
use Rattle.level_laws.specs.Laws.{HasMultipliedSchedule}
use Rattle.level_laws.proofs.Multiplied.{at_multiplied, counts_multiplied}

pub suc_times : (n x : ℕ) → suc n * x ≡ x + n * x
suc_times n x = mul_comm (suc n) x ∙ mul-suc x n ∙ (let c = mul_comm x n in omega arith)

-- ---- firings in lists put together

pub firings-append : (a : ℕ) (xs ys : List ℕ) → firings a (xs ++ ys) ≡ firings a xs + firings a ys
firings-append a [] ys = omega arith
firings-append a (x ∷ xs) ys = let e = firings-append a xs ys in omega arith

pub firings-copies : (a n : ℕ) (list : List ℕ) → firings a (copies n list) ≡ n * firings a list
firings-copies a zero list = omega arith
firings-copies a (suc n) list =
    let both = firings-append a list (copies n list) in
    let again = firings-copies a n list in
    let more = suc_times n (firings a list) in
    omega arith

EachFiring-append : (P : List ℕ → ℕ → Type 0) (before xs ys : List ℕ) → EachFiring P before xs → EachFiring P (before ++ xs) ys → EachFiring P before (xs ++ ys)
EachFiring-append P before [] ys each later = let Q : List ℕ → Type 0 = λ l. EachFiring P l ys in subst Q (append-nil before) later
EachFiring-append P before (x ∷ xs) ys each later =
    let Q : List ℕ → Type 0 = λ l. EachFiring P l ys in
    (each.0, EachFiring-append P (before ++ x ∷ []) xs ys each.1 (subst Q (sym (append_assoc before (x ∷ []) xs)) later))

-- ---- after all firings of one iteration, a firing that finds its tokens at the start finds them again

moved : (c p d x y f g h t : ℕ) → h ≡ y + g → t ≡ x + f → x * p ≡ y * c → c * (g + 1) ≤ d + p * f → c * (h + 1) ≤ d + p * t
moved c p d x y f g h t heads tails even has =
    let taken : c * (h + 1) ≡ c * y + c * (g + 1) = ap (λ n. c * n) (let e : h + 1 ≡ y + (g + 1) = omega arith in e) ∙ mul-add c y (g + 1) in
    let put : p * t ≡ p * x + p * f = ap (λ n. p * n) tails ∙ mul-add p x f in
    let one : p * x ≡ x * p = mul_comm p x in
    let other : c * y ≡ y * c = mul_comm c y in
    omega arith

module _ (level : LevelView) (q one : List ℕ) (counts : (a : ℕ) → firings a one ≡ slice_index q a) (balanced : EachInner (IsBalanced q) level.links) where
  pub firings_moved : (a : ℕ) (before : List ℕ) → firings a (one ++ before) ≡ slice_index q a + firings a before
  firings_moved a before = let e = firings-append a one before in let c = counts a in omega arith

  ready_moved : (before : List ℕ) (b : ℕ) (t : Tail) (h : Head) (d : ℕ) → OfInner (IsBalanced q) t h d → OfInner (IsReady (λ a. firings a before) b) t h d → OfInner (IsReady (λ a. firings a (one ++ before)) b) t h d
  ready_moved before b (tail.Source s) h d even ready = tt
  ready_moved before b (tail.Port a p r) (head.Sink s) d even ready = tt
  ready_moved before b (tail.Port a p r) (head.Port e j c) d even ready =
      λ into. moved c r d (slice_index q a) (slice_index q e) (firings a before) (firings e before) (firings e (one ++ before)) (firings a (one ++ before)) (firings_moved e before) (firings_moved a before) even (ready into)

  all_ready : (before : List ℕ) (b : ℕ) (links : List Link) → EachInner (IsBalanced q) links → EachInner (IsReady (λ a. firings a before) b) links → EachInner (IsReady (λ a. firings a (one ++ before)) b) links
  all_ready before b [] even ready = tt
  all_ready before b (link ∷ links) even ready = (ready_moved before b link.tail link.head link.delay even.0 ready.0, all_ready before b links even.1 ready.1)

  each_moved : (before rest : List ℕ) → EachFiring (CanFire level) before rest → EachFiring (CanFire level) (one ++ before) rest
  each_moved before [] each = tt
  each_moved before (b ∷ rest) each =
      let P : List ℕ → Type 0 = λ l. EachFiring (CanFire level) l rest in
      (all_ready before b level.links balanced each.0, subst P (sym (append_assoc one before (b ∷ []))) (each_moved (before ++ b ∷ []) rest each.1))

  each_copy : (n : ℕ) → EachFiring (CanFire level) [] one → EachFiring (CanFire level) [] (copies n one)
  each_copy zero each = tt
  each_copy (suc n) each =
      let P : List ℕ → Type 0 = λ l. EachFiring (CanFire level) l (copies n one) in
      EachFiring-append (CanFire level) [] one (copies n one) each (subst P (append-nil one) (each_moved [] (copies n one) (each_copy n each)))

-- ---- the unfolded level

module _ (times : ℕ) (level : LevelView) (q list : List ℕ) (is : IsExactLevel level q) (admissible : IsAdmissible level q list) where
  -- its links are those of the level, and an order looks at these alone
  pub copies_in_level : IsAdmissible level (multiplied times q) (copies times list)
  copies_in_level = record {
    counts = λ a. firings-copies a times list ∙ ap (λ n. times * n) (admissible.counts a) ∙ sym (at_multiplied times q a);
    each = each_copy level q list admissible.counts (repetition_balanced level q is.is_level is.repetition) times admissible.each;
  }

  pub copies_admissible : IsAdmissible (unfolded times level) (multiplied times q) (copies times list)
  copies_admissible = record { counts = copies_in_level.counts; each = copies_in_level.each }

-- where some list is admissible, there is the order of one thread
pub ordered : (level : LevelView) (q list : List ℕ) → IsAdmissible level q list → (turns : List Turn) × IsTurnOrder level q turns
ordered level q list admissible = ⊎_elim
    (λ (found : (turns : List Turn) × IsTurnOrder level q turns). found)
    (λ (dead : IsDeadlocked level q × ((left : List ℕ) × IsLeft level q left)). absurd (dead.0 list admissible))
    (order_or_deadlock level q)

pub unfolded_scheduled : (times : ℕ) (level : LevelView) (s : LevelSchedule) → 1 ≤ times → IsExactLevel level s.counts → IsScheduled level s → IsWithinLimits level (multiplied times s.counts) → HasMultipliedSchedule times level s.counts
unfolded_scheduled times level s some is scheduled within =
    let q : List ℕ = multiplied times s.counts in
    let found = ordered (unfolded times level) q (copies times (actors_of s.order)) (copies_admissible times level s.counts (actors_of s.order) is scheduled.order.order.admissible) in
    record {
      schedule = record { counts = q; order = found.0 };
      counts_are = refl;
      is = record {
        repetition = counts_multiplied times level s.counts some is;
        within = record { firings = within.firings; links = within.links; tokens = within.tokens };
        order = found.1;
      };
    }
