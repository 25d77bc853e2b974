-- Nodes that wait for nothing are added to a list of items, one after the other.
use Rattle.std.proofs.Common.{◌≡◌, ◌≢◌, ℕ, ◌+◌, ◌<◌, ◌≤◌, List, ◌∷◌, [], ◌++◌, length, set, drop, sym, ap, ◌∙◌, subst, arith, ⊎_elim, inl, inr}
use Rattle.std.specs.Prelude.{All, Contains, ◌⊎◌, Vec, slice_index, vec_capacity}
use Rattle.std.specs.Global.{Global}
use Rattle.std.proofs.lemmas.Bool.{cases_eq}
use Rattle.std.proofs.lemmas.List.{get_or-set_other, get_or-set_same, length_push}
use Rattle.audit_job.specs.Candidates.{Adds, IsReleased, waiting_in}
use Rattle.audit_job.proofs.ItemLists.{both_added, next_added, next_passed, none_added, one_added}
use Rattle.audit_job.proofs.WaitingCounts.{as_many_wait, each_once, fewer_wait, free_in, free_next, waits_next}

abbrev pub IsFree : List ℕ → ℕ → Type 0
IsFree waits n = slice_index waits n ≡ 0

-- the first so many nodes were looked at, and there is room for the others
pub record AddsSoFar (first n : ℕ) (waits : List ℕ) (old now : Vec ℕ Global) : Type 0 where
  pub added : Adds first n (IsFree waits) old now
  pub room : length now.items + waiting_in waits + free_in (drop n waits) ≤ vec_capacity now

pub nothing_so_far : (first : ℕ) (waits : List ℕ) (old : Vec ℕ Global) → length old.items + length waits ≤ vec_capacity old → AddsSoFar first 0 waits old old
nothing_so_far first waits old room =
    let e = each_once waits in
    record { added = none_added first 0 (IsFree waits) old (λ n below. absurd (omega arith)); room = omega arith }

module _ (first n : ℕ) (waits : List ℕ) (old now : Vec ℕ Global) (so_far : AddsSoFar first n waits old now) (inside : n < length waits) where
  pub one_so_far : IsFree waits n → (new : Vec ℕ Global) → new.items ≡ now.items ++ (first + n) ∷ [] → vec_capacity new ≡ vec_capacity now → AddsSoFar first (n + 1) waits old new
  one_so_far free new pushed same_room =
      let room = so_far.room in
      let next = free_next waits n inside free in
      let long = ap (λ (l : List ℕ). length l) pushed ∙ length_push now.items (first + n) in
      record { added = next_added first n (IsFree waits) old now so_far.added new pushed; room = omega arith }

  pub none_so_far : ¬ (IsFree waits n) → AddsSoFar first (n + 1) waits old now
  none_so_far waiting =
      let room = so_far.room in
      let next = waits_next waits n inside waiting in
      record { added = next_passed first n (IsFree waits) old now so_far.added waiting; room = omega arith }

-- ---- the same list, with other room

pub added_to : (first count : ℕ) (P : ℕ → Type 0) (old same new : Vec ℕ Global) → same.items ≡ old.items → Adds first count P same new → Adds first count P old new
added_to first count P old same new is adds = both_added first count (λ n. ⊥) P P old same new none adds (λ n below holds. inr holds)
  where
    none : Adds first count (λ n. ⊥) old same
    none =
        let from = none_added first count (λ n. ⊥) old (λ n below holds. holds) in
        record {
          kept = λ i at. subst (λ (l : List ℕ). Contains l i) (sym is) at;
          added = λ n below holds. absurd holds;
          only = subst (All (λ (i : ℕ). Contains old.items i ⊎ ((n : ℕ) × (n < count) × (i ≡ first + n)))) (sym is) from.only;
        }

-- ---- a node waits for an edge less

module _ (first node : ℕ) (waits : List ℕ) (old : Vec ℕ Global) (inside : node < length waits) (waiting : 0 < slice_index waits node) (left : ℕ) where
  abbrev later : List ℕ
  later = set waits node left

  elsewhere : (n : ℕ) → IsReleased waits later n → n ≢ node → ⊥
  elsewhere n released else =
      let same = get_or-set_other waits node n left 0 else in
      let some = released.0 in
      let none = released.1 in
      absurd (omega arith)

  only_here : (n : ℕ) → IsReleased waits later n → n ≡ node
  only_here n released = ⊎_elim (λ (same : n ≡ node). same) (λ (else : n ≢ node). absurd (elsewhere n released else)) (cases_eq n node)

  module _ (room : length old.items + waiting_in waits ≤ vec_capacity old) where
    pub last_added : (new : Vec ℕ Global) → new.items ≡ old.items ++ (first + node) ∷ [] → Adds first (length waits) (IsReleased waits later) old new
    last_added new pushed = one_added first (length waits) (IsReleased waits later) old new node inside pushed only_here

    pub last_room : left ≡ 0 → (new : Vec ℕ Global) → new.items ≡ old.items ++ (first + node) ∷ [] → vec_capacity new ≡ vec_capacity old → length new.items + waiting_in later ≤ vec_capacity new
    last_room none new pushed same_room =
        let fewer = fewer_wait waits node inside waiting left none in
        let long = ap (λ (l : List ℕ). length l) pushed ∙ length_push old.items (first + node) in
        omega arith

    pub waits_still : left ≢ 0 → Adds first (length waits) (IsReleased waits later) old old
    waits_still some = none_added first (length waits) (IsReleased waits later) old (λ n below released.
        let here = only_here n released in
        let now : slice_index later node ≡ left = get_or-set_same waits node left 0 inside in
        some (sym now ∙ ap (λ k. slice_index later k) (sym here) ∙ released.1))

    pub still_room : left ≢ 0 → length old.items + waiting_in later ≤ vec_capacity old
    still_room some = let same = as_many_wait waits node inside waiting left some in omega arith

-- ---- nodes are released, one after the other

pub released_more : (first count : ℕ) (before mid after : List ℕ) (old now new : Vec ℕ Global) → Adds first count (IsReleased before mid) old now → Adds first count (IsReleased mid after) now new → Adds first count (IsReleased before after) old new
released_more first count before mid after old now new one two =
    both_added first count (IsReleased before mid) (IsReleased mid after) (IsReleased before after) old now new one two (λ n below released. ⊎_elim
    (λ (none : slice_index mid n ≡ 0). inl (released.0, none))
    (λ (some : slice_index mid n ≢ 0). inr (omega (arith, some), released.1))
    (cases_eq (slice_index mid n) 0))

-- none is released where nothing changes
pub none_released : (first count : ℕ) (waits : List ℕ) (old : Vec ℕ Global) → Adds first count (IsReleased waits waits) old old
none_released first count waits old = none_added first count (IsReleased waits waits) old (λ n below released. let some = released.0 in let none = released.1 in absurd (omega arith))
