-- The items that may be offered, after one is claimed, one is finished, and once there are nodes.
use Rattle.std.proofs.Common.{◌≡◌, ◌≢◌, ◌⊎◌, ⊎_elim, ℕ, ◌+◌, ◌<◌, ◌≤◌, List, get_or, length, sym, ap, subst, arith}
use Rattle.std.specs.Prelude.{All, Contains, Vec, slice_index, vec_capacity}
use Rattle.std.specs.Global.{Global}
use Rattle.std.proofs.lemmas.Bool.{cases_eq}
use Rattle.std.proofs.lemmas.List.Elements.{All-contains, All-get_or, All-weaker}
use Rattle.nested_jobs.specs.Marks.{Free}
use Rattle.audit_job.specs.Candidates.{Adds, AreCandidates, IsReleased, TakesOut, waiting_in}
use Rattle.audit_job.specs.Marks.{mark_at}
use Rattle.audit_job.specs.declared.answer.Mark.{Mark}

-- ---- an item is claimed

module _ (marks later : List Mark) (base item : ℕ) (waits : List ℕ) (old new : Vec ℕ Global) (are : AreCandidates marks base waits old) (long : length later ≡ length marks)
    (still : (i : ℕ) → mark_at later i ≡ Free → (i ≢ item) × (mark_at marks i ≡ Free)) (takes : TakesOut item old new) where
  pub one_claimed : AreCandidates later base waits new
  one_claimed = record {
    there = All-weaker (λ (i : ℕ). Contains old.items i) (λ (i : ℕ). i < length later) (λ i at. subst (λ (k : ℕ). i < k) (sym long) (All-contains (λ (i : ℕ). i < length marks) old.items i are.there at)) new.items takes.only;
    early = λ i low free. let s = still i free in takes.others i s.0 (are.early i low s.1);
    nodes = λ n inside none free. let s = still (base + 1 + n) free in takes.others (base + 1 + n) s.0 (are.nodes n inside none s.1);
    room = let fewer = takes.fewer in let same = takes.room in let room = are.room in omega arith;
  }

-- ---- nodes are added

module _ (first count long : ℕ) (P : ℕ → Type 0) (old new : Vec ℕ Global) (adds : Adds first count P old new) (fits : first + count ≤ long) where
  all_there : All (λ (i : ℕ). i < long) old.items → All (λ (i : ℕ). i < long) new.items
  all_there were = All-weaker (λ (i : ℕ). Contains old.items i ⊎ ((n : ℕ) × (n < count) × (i ≡ first + n))) (λ (i : ℕ). i < long) (λ i from. ⊎_elim
      (λ (at : Contains old.items i). All-contains (λ (i : ℕ). i < long) old.items i were at)
      (λ (node : (n : ℕ) × (n < count) × (i ≡ first + n)). omega (arith, node.1, node.2))
      from) new.items adds.only

module _ (marks later : List Mark) (base first : ℕ) (waits after : List ℕ) (old new : Vec ℕ Global) (are : AreCandidates marks base waits old)
    (still : (i : ℕ) → mark_at later i ≡ Free → mark_at marks i ≡ Free) (first_is : first ≡ base + 1) where
  were_there : length marks ≤ length later → All (λ (i : ℕ). i < length later) old.items
  were_there low = All-weaker (λ (i : ℕ). i < length marks) (λ (i : ℕ). i < length later) (λ i inside. omega arith) old.items are.there

  number : (n : ℕ) → first + n ≡ base + 1 + n
  number n = ap (λ k. k + n) first_is

  -- an item is finished, after which some nodes wait for nothing
  pub some_released : length later ≡ length marks → length after ≡ length waits → first + length waits ≤ length marks → Adds first (length waits) (IsReleased waits after) old new → length new.items + waiting_in after ≤ vec_capacity new →
      AreCandidates later base after new
  some_released long many fits adds room = record {
    there = all_there first (length waits) (length later) (IsReleased waits after) old new adds (omega arith) (were_there (omega arith));
    early = λ i low free. adds.kept i (are.early i low (still i free));
    nodes = λ n inside none free.
        let within : n < length waits = omega arith in
        ⊎_elim
        (λ (before : slice_index waits n ≡ 0). adds.kept (base + 1 + n) (are.nodes n within before (still (base + 1 + n) free)))
        (λ (before : slice_index waits n ≢ 0). subst (λ (k : ℕ). Contains new.items k) (number n) (adds.added n within (omega (arith, before), none)))
        (cases_eq (slice_index waits n) 0);
    room = room;
  }

  -- there are nodes now
  pub nodes_there : length marks + length after ≤ length later → first ≤ length marks → Adds first (length after) (λ n. slice_index after n ≡ 0) old new → length new.items + waiting_in after ≤ vec_capacity new → AreCandidates later base after new
  nodes_there long begins adds room = record {
    there = all_there first (length after) (length later) (λ n. slice_index after n ≡ 0) old new adds (omega arith) (were_there (omega arith));
    early = λ i low free. adds.kept i (are.early i low (still i free));
    nodes = λ n inside none free. subst (λ (k : ℕ). Contains new.items k) (number n) (adds.added n inside none);
    room = room;
  }

-- ---- as they are read

pub read_there : (P : ℕ → Type 0) (items : List ℕ) (k x : ℕ) → k < length items → x ≡ get_or items k x → All P items → P x
read_there P items k x inside at all = subst P (sym at) (All-get_or P items k x inside all)
