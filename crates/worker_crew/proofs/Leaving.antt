-- How a pass finds a board, and what it knows once it has left it.
use Rattle.std.proofs.Common.{◌≡◌, ◌≢◌, ℕ, ◌+◌, ◌<◌, true, false, Option, Some, None, List, [], ◌∷◌, ◌++◌, length, drop, get_or, All, refl, sym, ap, ◌∙◌, subst, arith, append_assoc, append-nil}
use Rattle.std.specs.Prelude.{is_some}
use Rattle.kernel_gate.specs.Signed.{Counts}
use Rattle.kernel_gate.specs.Value.{Places}
use Rattle.job_rules.specs.Words.{Work}
use Rattle.board_lock.specs.Meant.{entries_of}
use Rattle.board_lock.specs.Passes.{Finds, MayLeave, first_gains, known_after, seen_in}
use Rattle.board_lock.proofs.Entries.{entries-append}
use Rattle.board_rules.specs.Keys.{Key}
use Rattle.board_rules.specs.Legal.{AreLegal, journal_of, state_after}
use Rattle.board_rules.specs.declared.entry.Entry.{Entry}
use Rattle.firing_board.specs.Locking.{board_meant, places_of, worker_of}
use Rattle.firing_board.specs.Runs.{IsIdle, IsSound, Runs, RunsWork}
use Rattle.firing_board.specs.View.{BoardView, lent_to}
use Rattle.worker_crew.specs.Asked.{HasClaimed}
use Rattle.worker_crew.specs.Laws.{BoardsHaveLaws}
use Rattle.worker_crew.specs.Passes.{BoardPass, IsIdleAt, MayWork, entries_at, last_claims}
use Rattle.worker_crew.specs.Worked.{HasAdded}
use Rattle.worker_crew.proofs.Lists.{drop_front, front_same}

-- ---- what is found

some_is : {A : Type 0} (x y : A) → Some x ≡ Some y → x ≡ y
some_is x y e = cc

pub none_is : {A : Type 0} (o : Option A) → is_some o ≡ false → o ≡ None
none_is None e = refl
none_is (Some x) e = absurd (cc)

pub places_are : (o : Option Places) (p : Places) → places_of o ≡ places_of (Some p) → o ≡ Some p
places_are None p e = absurd (cc)
places_are (Some q) p e = let same : q ≡ p = cc in ap Some same

places_none : (o : Option Places) → places_of o ≡ [] → o ≡ None
places_none None e = refl
places_none (Some q) e = absurd (cc)

module _ (p : BoardPass) (x : BoardView) (found : Finds board_meant p x) where
  pub found_key : (key : Key) → p.key ≡ Some key → x.key ≡ key
  found_key key key_is = some_is x.key key (found.key ∙ key_is)

  abbrev w : ℕ
  w = p.number

  number_is : w + 0 ≡ w
  number_is = omega arith

  -- its entries of the pass's number
  pub found_entries : 0 < length p.own → entries_of worker_of w x.journal ≡ entries_at p 0
  found_entries some =
      ap (entries_of worker_of w) found.opening
      ∙ (entries-append worker_of w p.opening found.tail
      ∙ (ap (λ (n : ℕ). entries_of worker_of n p.opening ++ entries_of worker_of n found.tail) (sym number_is)
      ∙ ap (λ (l : List Entry). entries_of worker_of (w + 0) p.opening ++ l) (sym (found.own 0 some))))

  pub found_idle : BoardsHaveLaws → IsSound x → 0 < length p.own → IsIdleAt p 0 → w < x.key.workers → IsIdle x w
  found_idle laws sound some idle inside =
      let told = (laws x.key sound.is_key).told sound.taken w sound.at.legal in
      let none : is_some ((state_after x.key sound.taken).running w) ≡ false =
      sym told ∙ (ap (λ (l : List Entry). last_claims false (entries_of worker_of w l)) (sym sound.at.entered) ∙ (ap (last_claims false) (found_entries some) ∙ idle)) in
      record { is_worker = inside; taken = sound.taken; at = sound.at; runs_none = none_is ((state_after x.key sound.taken).running w) none }

  -- the entries that the pass hasn't seen are those of others
  pub found_others : 0 < length p.own → (rest : List Entry) → x.journal ≡ p.seen ++ rest → entries_of worker_of w rest ≡ []
  found_others some rest is =
      let past : List Entry = found.sound.past in
      let own_past : get_or p.own 0 [] ≡ entries_of worker_of w past = found.sound.mine 0 some ∙ ap (λ (n : ℕ). entries_of worker_of n past) number_is in
      let own_tail : get_or p.own 0 [] ≡ entries_of worker_of w found.tail = found.own 0 some ∙ ap (λ (n : ℕ). entries_of worker_of n found.tail) number_is in
      let whole : p.opening ++ found.tail ≡ p.opening ++ (past ++ rest) = sym found.opening ∙ (is ∙ (ap (λ (l : List Entry). l ++ rest) found.sound.begun ∙ append_assoc p.opening past rest)) in
      let tail : found.tail ≡ past ++ rest = front_same p.opening found.tail (past ++ rest) whole in
      let twice : entries_of worker_of w past ++ entries_of worker_of w rest ≡ entries_of worker_of w past ++ [] =
      sym (entries-append worker_of w past rest) ∙ (ap (entries_of worker_of w) (sym tail) ∙ (sym own_tail ∙ (own_past ∙ sym (append-nil (entries_of worker_of w past))))) in
      front_same (entries_of worker_of w past) (entries_of worker_of w rest) [] twice

  -- what the pass's number has claimed it still runs
  pub found_running : BoardsHaveLaws → IsSound x → (frame : Option Places) (P : Key → Work → Type 0) → HasClaimed p frame P → Runs x w (P x.key)
  found_running laws sound frame P claimed =
      let same : x.key ≡ claimed.key = found_key claimed.key claimed.key_is in
      let journal : journal_of x.key sound.taken ≡ journal_of x.key claimed.taken ++ found.seen.0 =
      sym sound.at.entered ∙ (found.seen.1 ∙ ap (λ (l : List Entry). l ++ found.seen.0) (claimed.seen_is ∙ ap (λ (k : Key). journal_of k claimed.taken) (sym same))) in
      record {
        is_worker = subst (λ (k : Key). w < k.workers) (sym same) claimed.is_worker;
        taken = sound.taken;
        at = sound.at;
        work = claimed.work;
        runs = (laws x.key sound.is_key).lasts claimed.taken sound.taken found.seen.0 w claimed.work (subst (λ (k : Key). AreLegal k claimed.taken) (sym same) claimed.legal) sound.at.legal journal
            (found_others claimed.some found.seen.0 found.seen.1)
            (subst (λ (k : Key). RunsWork k (state_after k claimed.taken) w claimed.work) (sym same) claimed.runs);
        so = subst (λ (k : Key). P k claimed.work) (sym same) claimed.so;
      }

  pub found_lent : (places : Places) (P : Key → Work → Type 0) → HasClaimed p (Some places) P → lent_to x w ≡ Some places
  found_lent places P claimed =
      let count : 0 < length p.own = claimed.some in
      places_are (lent_to x w) places (ap (λ (n : ℕ). places_of (lent_to x n)) (sym number_is) ∙ (sym (found.lent 0 count) ∙ claimed.lent))

  pub found_unlent : (P : Key → Work → Type 0) → HasClaimed p None P → lent_to x w ≡ None
  found_unlent P claimed =
      let count : 0 < length p.own = claimed.some in
      places_none (lent_to x w) (ap (λ (n : ℕ). places_of (lent_to x n)) (sym number_is) ∙ (sym (found.lent 0 count) ∙ claimed.lent))

-- ---- what is left

-- how a board changes by a worker under the lock
pub record Changes (x y : BoardView) (w : ℕ) (more : List Entry) : Type 0 where
  pub key : y.key ≡ x.key
  pub journal : y.journal ≡ x.journal ++ more
  pub mine : All (λ e. worker_of e ≡ w) more
  pub lent : (n : ℕ) → n ≢ w → lent_to y n ≡ lent_to x n
  pub starved : x.starved ≡ true → y.starved ≡ true

-- what a pass knows that found a board and left it so
abbrev pub left_by : BoardPass → BoardView → BoardView → BoardPass
left_by p x y = known_after board_meant (seen_in board_meant p x) y

module _ (p : BoardPass) (x y : BoardView) (more : List Entry) (found : Finds board_meant p x) (changes : Changes x y p.number more) where
  unseen_is : drop (length x.journal) y.journal ≡ more
  unseen_is = ap (drop (length x.journal)) changes.journal ∙ drop_front x.journal more

  pub may_leave : MayLeave board_meant (seen_in board_meant p x) (Some x) y
  may_leave = record {
    key = ap Some changes.key ∙ found.key;
    journal = changes.journal ∙ ap (λ (l : List Entry). x.journal ++ l) (sym unseen_is);
    mine = subst (All (λ e. worker_of e ≡ p.number)) (sym unseen_is) changes.mine;
    lent = λ n ne. ap places_of (changes.lent n ne);
    over = changes.starved;
  }

  pub may_leave_as : (known : BoardPass) (was : Option BoardView) → known ≡ seen_in board_meant p x → was ≡ Some x → MayLeave board_meant known was y
  may_leave_as known was known_is was_is = subst (λ (k : BoardPass). MayLeave board_meant k was y) (sym known_is) (subst (λ (o : Option BoardView). MayLeave board_meant (seen_in board_meant p x) o y) (sym was_is) may_leave)

  gained_length : {E : Type 0} (own : List (List E)) (added : List E) → length (first_gains own added) ≡ length own
  gained_length [] added = refl
  gained_length (o ∷ own) added = refl

  pub added_left : HasAdded p (left_by p x y) more
  added_left = record {
    later = record {
      key = refl;
      opening = refl;
      number = refl;
      count = gained_length p.own (drop (length x.journal) y.journal);
      workers = refl;
      seen = (found.seen.0 ++ more, changes.journal ∙ (ap (λ (l : List Entry). l ++ more) found.seen.1 ∙ append_assoc p.seen found.seen.0 more));
      over = λ over. changes.starved (found.over over);
    };
    own = ap (first_gains p.own) unseen_is;
  }

-- the pass is of a worker of the board that is found
pub found_worker : (kernels : List Counts) (p : BoardPass) (x : BoardView) → Finds board_meant p x → MayWork kernels p → p.number < x.key.workers
found_worker kernels p x found may = subst (λ (k : Key). p.number < k.workers) (sym (found_key p x found may.key may.key_is)) may.is_worker
