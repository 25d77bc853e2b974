-- A pass that holds a board: the board is as one that the pass has left, and what comes next is left with it in one step.
use Rattle.std.proofs.Common.{◌≡◌, ◌≢◌, ℕ, zero, suc, ◌+◌, ◌<◌, ◌≤◌, Option, Some, None, List, [], ◌∷◌, ◌++◌, length, drop, get_or, All, refl, sym, ap, ◌∙◌, subst, arith, append_assoc, append-nil}
use Rattle.std.proofs.lemmas.List.Elements.{All-append}
use Rattle.std.specs.Prelude.{IfSome}
use Rattle.kernel_gate.specs.Value.{Places}
use Rattle.board_lock.specs.Meant.{entries_of}
use Rattle.board_lock.specs.Passes.{Finds, MayLeave, first_becomes, first_gains, known_after, seen_in, unseen}
use Rattle.board_lock.proofs.Entries.{entries-append, entries_mine, entries_other}
use Rattle.board_rules.specs.declared.entry.Entry.{Entry}
use Rattle.firing_board.specs.Locking.{board_meant, places_of, worker_of}
use Rattle.firing_board.specs.View.{BoardView, lent_to}
use Rattle.job_rules.specs.Words.{Work}
use Rattle.board_rules.specs.Keys.{Key}
use Rattle.worker_crew.specs.Asked.{HasClaimed}
use Rattle.worker_crew.specs.Passes.{BoardPass, MayWork}
use Rattle.worker_crew.specs.Worked.{HasAdded}
use Rattle.worker_crew.proofs.Advancing.{at_zero, first_gained, gained_twice, others_gained}
use Rattle.worker_crew.proofs.Leaving.{Changes, added_left, left_by, may_leave_as}
use Rattle.worker_crew.proofs.Lists.{drop_front}

-- ---- lists whose first becomes another

pub became_first : {P : Type 0} (lists : List (List P)) (places : List P) → 0 < length lists → get_or (first_becomes lists places) 0 [] ≡ places
became_first [] places some = absurd (omega arith)
became_first (l ∷ lists) places some = refl

became_other : {P : Type 0} (lists : List (List P)) (places : List P) (k : ℕ) → get_or (first_becomes lists places) (suc k) [] ≡ get_or lists (suc k) []
became_other [] places k = refl
became_other (l ∷ lists) places k = refl

became_length : {P : Type 0} (lists : List (List P)) (places : List P) → length (first_becomes lists places) ≡ length lists
became_length [] places = refl
became_length (l ∷ lists) places = refl

became_twice : {P : Type 0} (lists : List (List P)) (a b : List P) → first_becomes (first_becomes lists a) b ≡ first_becomes lists b
became_twice [] a b = refl
became_twice (l ∷ lists) a b = refl

-- ---- a board that was left is found so

module _ (p : BoardPass) (x y : BoardView) (more : List Entry) (found : Finds board_meant p x) (changes : Changes x y p.number more) where
  abbrev q : BoardPass
  q = left_by p x y

  abbrev then : List Entry
  then = found.tail ++ more

  added : HasAdded p q more
  added = added_left p x y more found changes

  within : (k : ℕ) → k < length q.own → k < length p.own
  within k lt = subst (λ (n : ℕ). k < n) added.later.count lt

  below : p.number < p.workers
  below =
      let some = found.sound.some in
      let under = found.sound.below in
      omega arith

  journal_is : y.journal ≡ p.opening ++ then
  journal_is = changes.journal ∙ (ap (λ (l : List Entry). l ++ more) found.opening ∙ append_assoc p.opening found.tail more)

  own_is : (k : ℕ) → k < length q.own → get_or q.own k [] ≡ entries_of worker_of (p.number + k) then
  own_is zero lt =
      ap (λ (o : List (List Entry)). get_or o 0 []) added.own
      ∙ (first_gained p.own more (within 0 lt)
      ∙ (ap (λ (l : List Entry). l ++ more) (found.own 0 (within 0 lt))
      ∙ (ap (λ (l : List Entry). entries_of worker_of (p.number + 0) found.tail ++ l) (sym (entries_mine worker_of (p.number + 0) more (subst (λ (n : ℕ). All (λ e. worker_of e ≡ n) more) (sym (at_zero p.number)) changes.mine)))
      ∙ sym (entries-append worker_of (p.number + 0) found.tail more))))
  own_is (suc k) lt =
      ap (λ (o : List (List Entry)). get_or o (suc k) []) added.own
      ∙ (others_gained p.own more k
      ∙ (ap (λ (l : List Entry). l ++ []) (found.own (suc k) (within (suc k) lt))
      ∙ (ap (λ (l : List Entry). entries_of worker_of (p.number + suc k) found.tail ++ l) (sym (entries_other worker_of (p.number + suc k) p.number more changes.mine (omega arith)))
      ∙ sym (entries-append worker_of (p.number + suc k) found.tail more))))

  lent_is : (k : ℕ) → k < length q.own → get_or q.lent k [] ≡ places_of (lent_to y (p.number + k))
  lent_is zero lt =
      became_first p.lent (places_of (lent_to y p.number)) (subst (λ (n : ℕ). 0 < n) (sym found.sound.lists) (within 0 lt))
      ∙ ap (λ (n : ℕ). places_of (lent_to y n)) (sym (at_zero p.number))
  lent_is (suc k) lt =
      became_other p.lent (places_of (lent_to y p.number)) k
      ∙ (found.lent (suc k) (within (suc k) lt)
      ∙ sym (ap places_of (changes.lent (p.number + suc k) (omega arith))))

  pub left_found : Finds board_meant q y
  left_found = record {
    sound = record {
      some = subst (λ (n : ℕ). 0 < n) (sym added.later.count) found.sound.some;
      below = subst (λ (n : ℕ). p.number + n ≤ p.workers) (sym added.later.count) found.sound.below;
      lists = became_length p.lent (places_of (lent_to y p.number)) ∙ (found.sound.lists ∙ sym added.later.count);
      past = then;
      begun = journal_is;
      mine = own_is;
    };
    key = ap Some changes.key ∙ found.key;
    seen = ([], sym (append-nil y.journal));
    tail = then;
    opening = journal_is;
    own = own_is;
    others = λ n above.
        let other : n ≢ p.number = let lt = below in omega arith in
        entries-append worker_of n found.tail more ∙ (ap (λ (l : List Entry). l ++ entries_of worker_of n more) (found.others n above) ∙ entries_other worker_of n p.number more changes.mine other);
    lent = lent_is;
    unlent = λ n above.
        let other : n ≢ p.number = let lt = below in omega arith in
        ap places_of (changes.lent n other) ∙ found.unlent n above;
    over = λ e. e;
  }

  -- the same, as the lock's calls tell what the pass knows and how the board was found
  module _ (k : BoardPass) (was : Option BoardView) (known : k ≡ seen_in board_meant p x) (was_is : was ≡ Some x) where
    pub held_leaves : MayLeave board_meant k was y
    held_leaves = may_leave_as p x y more found changes k was known was_is

    pub held_found : Finds board_meant (known_after board_meant k y) y
    held_found = subst (λ (s : BoardPass). Finds board_meant (known_after board_meant s y) y) (sym known) left_found

    pub held_added : HasAdded p (known_after board_meant k y) more
    held_added = subst (λ (s : BoardPass). HasAdded p (known_after board_meant s y) more) (sym known) added

-- a board that nobody has changed
pub no_change : (x : BoardView) (w : ℕ) → Changes x x w []
no_change x w = record { key = refl; journal = sym (append-nil x.journal); mine = λ k d lt. absurd (omega arith); lent = λ n ne. refl; starved = λ e. e }

-- a pass that has claimed may work
pub claimed_may : (p : BoardPass) (frame : Option Places) (P : Key → Work → Type 0) → (claimed : HasClaimed p frame P) → MayWork claimed.key.signatures p
claimed_may p frame P claimed = record { key = claimed.key; key_is = claimed.key_is; kernels_are = refl; some = claimed.some; is_worker = claimed.is_worker }

-- ---- what comes after a board that may be left may be left with it

module _ (k : BoardPass) (was : Option BoardView) (y z : BoardView) (more : List Entry) (leaves : MayLeave board_meant k was y) (changes : Changes y z k.number more) where
  abbrev first : List Entry
  first = unseen board_meant k y

  unseen_then : drop (length k.seen) z.journal ≡ first ++ more
  unseen_then = ap (drop (length k.seen)) (changes.journal ∙ (ap (λ (l : List Entry). l ++ more) leaves.journal ∙ append_assoc k.seen first more)) ∙ drop_front k.seen (first ++ more)

  lent_then : (o : Option BoardView) → IfSome o (λ w. (n : ℕ) → n ≢ k.number → places_of (lent_to y n) ≡ places_of (lent_to w n)) → IfSome o (λ w. (n : ℕ) → n ≢ k.number → places_of (lent_to z n) ≡ places_of (lent_to w n))
  lent_then None h = tt
  lent_then (Some w) h = λ n ne. ap places_of (changes.lent n ne) ∙ h n ne

  pub may_leave_then : MayLeave board_meant k was z
  may_leave_then = record {
    key = ap Some changes.key ∙ leaves.key;
    journal = changes.journal ∙ (ap (λ (l : List Entry). l ++ more) leaves.journal ∙ (append_assoc k.seen first more ∙ ap (λ (l : List Entry). k.seen ++ l) (sym unseen_then)));
    mine = subst (All (λ e. worker_of e ≡ k.number)) (sym unseen_then) (All-append (λ e. worker_of e ≡ k.number) first more leaves.mine changes.mine);
    lent = lent_then was leaves.lent;
    over = λ e. changes.starved (leaves.over e);
  }

  pub left_then : known_after board_meant k z ≡ left_by (known_after board_meant k y) y z
  left_then =
      let last : drop (length y.journal) z.journal ≡ more = ap (drop (length y.journal)) changes.journal ∙ drop_front y.journal more in
      let own : first_gains k.own (drop (length k.seen) z.journal) ≡ first_gains (first_gains k.own first) (drop (length y.journal) z.journal) =
      ap (first_gains k.own) unseen_then ∙ (sym (gained_twice k.own first more) ∙ ap (first_gains (first_gains k.own first)) (sym last)) in
      let lent : first_becomes k.lent (places_of (lent_to z k.number)) ≡ first_becomes (first_becomes k.lent (places_of (lent_to y k.number))) (places_of (lent_to z k.number)) =
      sym (became_twice k.lent (places_of (lent_to y k.number)) (places_of (lent_to z k.number))) in
      λ i. record k { seen = z.journal; over = z.starved; own = own i; lent = lent i }

  module _ (found : Finds board_meant (known_after board_meant k y) y) where
    pub found_then : Finds board_meant (known_after board_meant k z) z
    found_then = subst (λ (q : BoardPass). Finds board_meant q z) (sym left_then) (left_found (known_after board_meant k y) y z more found changes)

    pub added_then : HasAdded (known_after board_meant k y) (known_after board_meant k z) more
    added_then = subst (λ (q : BoardPass). HasAdded (known_after board_meant k y) q more) (sym left_then) (added_left (known_after board_meant k y) y z more found changes)
