-- What a pass knows after its numbers have worked.
use Rattle.std.proofs.Common.{◌≡◌, ℕ, zero, suc, ◌+◌, ◌<◌, ◌≤◌, Bool, true, false, List, [], ◌∷◌, ◌++◌, length, get_or, refl, sym, ap, ◌∙◌, subst, arith, append_assoc, append-nil}
use Rattle.kernel_gate.specs.Signed.{Counts}
use Rattle.board_lock.specs.Meant.{entries_of}
use Rattle.board_lock.specs.Passes.{Later, first_gains}
use Rattle.board_rules.specs.declared.entry.Entry.{Entry}
use Rattle.board_rules.specs.declared.entry.Entry.TheVariants.{Claim, Finish}
use Rattle.firing_board.specs.Locking.{worker_of}
use Rattle.firing_board.specs.declared.claim.Claim.{Claim as claimed}
use Rattle.worker_crew.specs.Asked.{AskedAfter, HasAsked}
use Rattle.worker_crew.specs.Passes.{AllMayWork, AreIdle, BoardPass, IsIdleAt, MayWork, entries_at, last_claims}
use Rattle.worker_crew.specs.Worked.{AddsClaim, AreFinished, HasAdded, HasWorked}

-- ---- later

pub later_same : (p : BoardPass) → Later p p
later_same p = record { key = refl; opening = refl; number = refl; count = refl; workers = refl; seen = ([], sym (append-nil p.seen)); over = λ e. e }

pub later_on : (p q r : BoardPass) → Later p q → Later q r → Later p r
later_on p q r a b = record {
  key = b.key ∙ a.key;
  opening = b.opening ∙ a.opening;
  number = b.number ∙ a.number;
  count = b.count ∙ a.count;
  workers = b.workers ∙ a.workers;
  seen = (a.seen.0 ++ b.seen.0, b.seen.1 ∙ (ap (λ (l : List Entry). l ++ b.seen.0) a.seen.1 ∙ append_assoc p.seen a.seen.0 b.seen.0));
  over = λ e. b.over (a.over e);
}

pub may_later : (kernels : List Counts) (p q : BoardPass) → Later p q → MayWork kernels p → MayWork kernels q
may_later kernels p q later may = record {
  key = may.key;
  key_is = later.key ∙ may.key_is;
  kernels_are = may.kernels_are;
  some = subst (λ (n : ℕ). 0 < n) (sym later.count) may.some;
  is_worker = subst (λ (n : ℕ). n < may.key.workers) (sym later.number) may.is_worker;
}

-- ---- entries of a number

pub last_append : (b : Bool) (xs ys : List Entry) → last_claims b (xs ++ ys) ≡ last_claims (last_claims b xs) ys
last_append b [] ys = refl
last_append b (Claim worker path item ∷ xs) ys = last_append true xs ys
last_append b (Finish worker ∷ xs) ys = last_append false xs ys

finished_last : (w : ℕ) (es : List Entry) → AreFinished w es → last_claims false es ≡ false
finished_last w [] h = refl
finished_last w (Finish v ∷ es) h = absurd h
finished_last w (Claim v path item ∷ []) h = absurd h
finished_last w (Claim v path item ∷ Claim u other next ∷ es) h = absurd h
finished_last w (Claim v path item ∷ Finish u ∷ es) h = finished_last w es h.2

finished_append : (w : ℕ) (xs ys : List Entry) → AreFinished w xs → AreFinished w ys → AreFinished w (xs ++ ys)
finished_append w [] ys h k = k
finished_append w (Finish v ∷ xs) ys h k = absurd h
finished_append w (Claim v path item ∷ []) ys h k = absurd h
finished_append w (Claim v path item ∷ Claim u other next ∷ xs) ys h k = absurd h
finished_append w (Claim v path item ∷ Finish u ∷ xs) ys h k = (h.0, h.1, finished_append w xs ys h.2 k)

-- the entries of a number, some more
more_entries : (p q : BoardPass) (k : ℕ) (more : List Entry) → Later p q → get_or q.own k [] ≡ get_or p.own k [] ++ more → entries_at q k ≡ entries_at p k ++ more
more_entries p q k more later own =
    ap (λ (n : ℕ). entries_of worker_of (n + k) q.opening ++ get_or q.own k []) later.number
    ∙ (ap (λ (l : List Entry). entries_of worker_of (p.number + k) l ++ get_or q.own k []) later.opening
    ∙ (ap (λ (l : List Entry). entries_of worker_of (p.number + k) p.opening ++ l) own
    ∙ sym (append_assoc (entries_of worker_of (p.number + k) p.opening) (get_or p.own k []) more)))

-- ---- the first number

pub first_gained : {E : Type 0} (own : List (List E)) (more : List E) → 0 < length own → get_or (first_gains own more) 0 [] ≡ get_or own 0 [] ++ more
first_gained [] more some = absurd (omega arith)
first_gained (o ∷ own) more some = refl

pub others_gained : {E : Type 0} (own : List (List E)) (more : List E) (k : ℕ) → get_or (first_gains own more) (suc k) [] ≡ get_or own (suc k) [] ++ []
others_gained [] more k = refl
others_gained (o ∷ own) more k = sym (append-nil (get_or own k []))

pub gained_twice : {E : Type 0} (own : List (List E)) (xs ys : List E) → first_gains (first_gains own xs) ys ≡ first_gains own (xs ++ ys)
gained_twice [] xs ys = refl
gained_twice (o ∷ own) xs ys = ap (λ (l : List _). l ∷ own) (append_assoc o xs ys)

gained_none : {E : Type 0} (own : List (List E)) → first_gains own [] ≡ own
gained_none [] = refl
gained_none (o ∷ own) = ap (λ (l : List _). l ∷ own) (append-nil o)

pub at_zero : (n : ℕ) → n + 0 ≡ n
at_zero n = omega arith

pub added_twice : (p q r : BoardPass) (xs ys : List Entry) → HasAdded p q xs → HasAdded q r ys → HasAdded p r (xs ++ ys)
added_twice p q r xs ys a b = record { later = later_on p q r a.later b.later; own = b.own ∙ (ap (λ (o : List (List Entry)). first_gains o ys) a.own ∙ gained_twice p.own xs ys) }

pub added_same : (p : BoardPass) → HasAdded p p []
added_same p = record { later = later_same p; own = sym (gained_none p.own) }

pub added_worked : (p q : BoardPass) (more : List Entry) → HasAdded p q more → AreFinished p.number more → HasWorked p q
added_worked p q more added finished = record { later = added.later; own = go }
  where
    go : (k : ℕ) → k < length p.own → (more : List Entry) × (get_or q.own k [] ≡ get_or p.own k [] ++ more) × AreFinished (p.number + k) more
    go zero lt = (more, ap (λ (o : List (List Entry)). get_or o 0 []) added.own ∙ first_gained p.own more lt, subst (λ (n : ℕ). AreFinished n more) (sym (at_zero p.number)) finished)
    go (suc k) lt = ([], ap (λ (o : List (List Entry)). get_or o (suc k) []) added.own ∙ others_gained p.own more k, tt)

-- an item was claimed and finished
pub ran_worked : (p q r : BoardPass) → AddsClaim p q → HasAdded q r (Finish q.number ∷ []) → HasWorked p r
ran_worked p q r claim finish =
    added_worked p r (Claim p.number claim.0 claim.1 ∷ Finish q.number ∷ []) (added_twice p q r (Claim p.number claim.0 claim.1 ∷ []) (Finish q.number ∷ []) claim.2 finish) (refl, claim.2.later.number, tt)

-- a worker that has finished runs nothing
pub finished_idle : (p q : BoardPass) → 0 < length p.own → HasAdded p q (Finish p.number ∷ []) → IsIdleAt q 0
finished_idle p q some added =
    let own : get_or q.own 0 [] ≡ get_or p.own 0 [] ++ Finish p.number ∷ [] = ap (λ (o : List (List Entry)). get_or o 0 []) added.own ∙ first_gained p.own (Finish p.number ∷ []) some in
    ap (last_claims false) (more_entries p q 0 (Finish p.number ∷ []) added.later own) ∙ last_append false (entries_at p 0) (Finish p.number ∷ [])

pub waited_worked : (p q : BoardPass) → HasAdded p q [] → HasWorked p q
waited_worked p q added = added_worked p q [] added tt

-- ---- all numbers

pub worked_idle_at : (p q : BoardPass) (k : ℕ) → k < length p.own → HasWorked p q → IsIdleAt p k → IsIdleAt q k
worked_idle_at p q k lt worked idle =
    let own = worked.own k lt in
    ap (last_claims false) (more_entries p q k own.0 worked.later own.1)
    ∙ (last_append false (entries_at p k) own.0 ∙ (ap (λ (b : Bool). last_claims b own.0) idle ∙ finished_last (p.number + k) own.0 own.2))

pub worked_same : (p : BoardPass) → HasWorked p p
worked_same p = record { later = later_same p; own = λ k lt. ([], sym (append-nil (get_or p.own k [])), tt) }

pub worked_on : (p q r : BoardPass) → HasWorked p q → HasWorked q r → HasWorked p r
worked_on p q r a b = record { later = later_on p q r a.later b.later; own = go }
  where
    go : (k : ℕ) → k < length p.own → (more : List Entry) × (get_or r.own k [] ≡ get_or p.own k [] ++ more) × AreFinished (p.number + k) more
    go k lt =
        let one = a.own k lt in
        let two = b.own k (subst (λ (n : ℕ). k < n) (sym a.later.count) lt) in (
          one.0 ++ two.0,
          two.1 ∙ (ap (λ (l : List Entry). l ++ two.0) one.1 ∙ append_assoc (get_or p.own k []) one.0 two.0),
          finished_append (p.number + k) one.0 two.0 one.2 (subst (λ (n : ℕ). AreFinished (n + k) two.0) a.later.number two.2),
        )

-- ---- what was asked then

pub asked_on : (p q r : BoardPass) (c : claimed) → HasWorked p q → HasAsked q r c → HasAsked p r c
asked_on p q r c worked asked = record { between = asked.between; worked = worked_on p q asked.between worked asked.worked; asked = asked.asked }

-- an item was claimed and finished in between
pub ran_on : (p q s : BoardPass) (c : claimed) → AddsClaim p q → AskedAfter q (Finish q.number ∷ []) s c → HasAsked p s c
ran_on p q s c claim asked = asked_on p asked.after s c (ran_worked p q asked.after claim asked.added) asked.asked

-- ---- all numbers, later

pub all_may_later : (kernels : List Counts) (p q : BoardPass) → Later p q → AllMayWork kernels p → AllMayWork kernels q
all_may_later kernels p q later may = record {
  key = may.key;
  key_is = later.key ∙ may.key_is;
  kernels_are = may.kernels_are;
  some = subst (λ (n : ℕ). 0 < n) (sym later.count) may.some;
  are_workers = subst (λ (n : ℕ). n + length q.own ≤ may.key.workers) (sym later.number) (subst (λ (n : ℕ). p.number + n ≤ may.key.workers) (sym later.count) may.are_workers);
}

pub all_idle_later : (p q : BoardPass) → HasWorked p q → AreIdle p → AreIdle q
all_idle_later p q worked idle k lt =
    let inside : k < length p.own = subst (λ (n : ℕ). k < n) worked.later.count lt in
    worked_idle_at p q k inside worked (idle k inside)
