-- Boards evaluated: job j + 1 calls job j as its item 0, and then has work with what that answered as its item 1; job 0 has
-- work alone. Work w may be answered w + 1 or w + 2.
use Rattle.std.proofs.Common.{◌≡◌, ◌⊎◌, ℕ, zero, suc, ◌+◌, ◌*◌, ◌<◌, ◌≤◌, Option, Some, None, List, [], ◌∷◌, refl, sym, ◌∙◌, ap, subst, inl, inr, ⊎_elim, arith}
use Rattle.nested_jobs.specs.Rules.{Task, Work, Call, Values, Rules}
use Rattle.nested_jobs.specs.Marks.{Free, Busy, Open, Done}
use Rattle.nested_jobs.specs.Steps.{IsEnabled}
use Rattle.nested_jobs.specs.Journals.{Entry, Claim, Finish, start, state, Legal, IsEnded}
use Rattle.nested_jobs.specs.Meanings.{Meanings, MayAnswer, Within, Sound, Settled, Lawful, Meant}
use Rattle.nested_jobs.proofs.Telling.{ended_tells}

abbrev second : Option ℕ → Option (Task ℕ ℕ)
second None = None
second (Some x) = Some (Work x)

abbrev item_of : ℕ → Values ℕ → ℕ → Option (Task ℕ ℕ)
item_of zero v zero = Some (Work 5)
item_of zero v (suc i) = None
item_of (suc j) v zero = Some (Call j)
item_of (suc j) v (suc zero) = second (v 0)
item_of (suc j) v (suc (suc i)) = None

abbrev items : ℕ → ℕ
items zero = 1
items (suc j) = 2

abbrev or_none : Option ℕ → ℕ
or_none None = 0
or_none (Some x) = x

abbrev last_of : ℕ → Values ℕ → ℕ
last_of zero v = or_none (v 0)
last_of (suc j) v = or_none (v 1)

abbrev chain : Rules ℕ ℕ ℕ
chain = record { count = λ j v. items j; rule = item_of; outcome = last_of }

abbrev adds : ℕ → ℕ → Type 0
adds work a = (a ≡ work + 1) ⊎ (a ≡ work + 2)

-- ---- two workers on job 1, the second of which claims as soon as the first has finished

abbrev first_claim : List (Entry ℕ)
first_claim = Claim 0 (0 ∷ 0 ∷ []) ∷ []

abbrev journal : List (Entry ℕ)
journal = Claim 0 (0 ∷ 0 ∷ []) ∷ Finish 0 6 ∷ Claim 1 (1 ∷ []) ∷ Finish 1 8 ∷ []

-- the claim opens the child
child_opens : (state chain 1 first_claim).marks (0 ∷ []) ≡ Open 0
child_opens = refl

child_runs : (state chain 1 first_claim).marks (0 ∷ 0 ∷ []) ≡ Busy
child_runs = refl

second_waits : (state chain 1 first_claim).marks (1 ∷ []) ≡ Free
second_waits = refl

-- its finish closes the child, and the item round it is done
child_closes : (state chain 1 (Claim 0 (0 ∷ 0 ∷ []) ∷ Finish 0 6 ∷ [])).marks (0 ∷ []) ≡ Done 6
child_closes = refl

top_stays : (state chain 1 (Claim 0 (0 ∷ 0 ∷ []) ∷ Finish 0 6 ∷ [])).marks [] ≡ Open 1
top_stays = refl

top_closes : (state chain 1 journal).marks [] ≡ Done 8
top_closes = refl

-- a claim that isn't due changes no mark: the item has no task yet
not_due : (state chain 1 (Claim 0 (1 ∷ []) ∷ [])).marks (1 ∷ []) ≡ Free
not_due = refl

-- nor does a finish of an item that isn't busy
not_busy : (state chain 1 (Claim 0 (1 ∷ []) ∷ Finish 0 9 ∷ [])).marks (1 ∷ []) ≡ Free
not_busy = refl

-- an item of a job two levels down is enabled, and its claim opens both
deep_claim : IsEnabled chain (start 2).marks (0 ∷ 0 ∷ 0 ∷ [])
deep_claim = (refl, refl)

both_open : ((state chain 2 (Claim 0 (0 ∷ 0 ∷ 0 ∷ []) ∷ [])).marks (0 ∷ []) ≡ Open 1) × ((state chain 2 (Claim 0 (0 ∷ 0 ∷ 0 ∷ []) ∷ [])).marks (0 ∷ 0 ∷ []) ≡ Open 0)
both_open = (refl, refl)

is_legal : Legal chain adds 2 1 journal
is_legal = (
  record { is_worker = omega arith; runs_none = refl; enabled = (refl, refl) },
  (
    record { is_worker = omega arith; place = 0 ∷ 0 ∷ []; runs = refl; work = 5; is_work = refl; answered = inl refl },
    (
      record { is_worker = omega arith; runs_none = refl; enabled = (refl, refl) },
      (
        record { is_worker = omega arith; place = 1 ∷ []; runs = refl; work = 6; is_work = refl; answered = inr refl },
        tt,
      ),
    ),
  ),
)

-- ---- the premises of the laws can be met

chain_lawful : Lawful chain (λ j. j)
chain_lawful = record { grows = grows; counts = counts; falls = falls; starts = starts }
  where
    grows : (j : ℕ) (v w : Values ℕ) → Within v w → (i : ℕ) (t : Task ℕ ℕ) → item_of j v i ≡ Some t → item_of j w i ≡ Some t
    grows zero v w more zero t h = h
    grows zero v w more (suc i) t h = absurd (cc)
    grows (suc j) v w more zero t h = h
    grows (suc j) v w more (suc (suc i)) t h = absurd (cc)
    grows (suc j) v w more (suc zero) t h = go (v 0) refl h
      where
        go : (o : Option ℕ) → v 0 ≡ o → second o ≡ Some t → second (w 0) ≡ Some t
        go None e f = absurd (cc)
        go (Some x) e f = ap second (more 0 x e) ∙ f

    counts : (j : ℕ) (v : Values ℕ) (i : ℕ) (t : Task ℕ ℕ) → item_of j v i ≡ Some t → i < items j
    counts zero v zero t h = omega arith
    counts zero v (suc i) t h = absurd (cc)
    counts (suc j) v zero t h = omega arith
    counts (suc j) v (suc zero) t h = omega arith
    counts (suc j) v (suc (suc i)) t h = absurd (cc)

    falls : (j : ℕ) (v : Values ℕ) (i : ℕ) (d : ℕ) → item_of j v i ≡ Some (Call d) → d < j
    falls zero v zero d h = absurd (cc)
    falls zero v (suc i) d h = absurd (cc)
    falls (suc j) v zero d h = let same : j ≡ d = cc in omega arith
    falls (suc j) v (suc (suc i)) d h = absurd (cc)
    falls (suc j) v (suc zero) d h = absurd (go (v 0) h)
      where
        go : (o : Option ℕ) → second o ≡ Some (Call d) → ⊥
        go None f = cc
        go (Some x) f = cc

    starts : (j : ℕ) → (i : ℕ) × (t : Task ℕ ℕ) × (item_of j (λ _. None) i ≡ Some t)
    starts zero = (0, Work 5, refl)
    starts (suc j) = (0, Call j, refl)

-- job j answers from 6 + j to 7 + 2 j
abbrev sums : Meanings ℕ ℕ ℕ
sums = record { answers = adds; means = λ n j a. (6 + j ≤ a) × (a ≤ 7 + 2 * j); fit = λ j. Unit {0} }

chain_meant : Meant chain sums
chain_meant = record { calls = λ n j v f s i d h. tt; settles = λ n j v f s. settles n j v s }
  where
    task_by : (n j : ℕ) (v : Values ℕ) (i a : ℕ) (work : ℕ) → Sound chain sums n j v → v i ≡ Some a → item_of j v i ≡ Some (Work work) → adds work a
    task_by n j v i a work sound e r = let t = sound i a e in go t.0 (sym t.1 ∙ r) t.2
      where
        go : (t : Task ℕ ℕ) → Some t ≡ Some (Work work) → MayAnswer sums n t a → adds work a
        go (Work x) f g = let same : x ≡ work = cc in subst (λ (z : ℕ). adds z a) same g
        go (Call d) f g = absurd (cc)

    call_by : (n j : ℕ) (v : Values ℕ) (i a : ℕ) (d : ℕ) → Sound chain sums n j v → v i ≡ Some a → item_of j v i ≡ Some (Call d) → (6 + d ≤ a) × (a ≤ 7 + 2 * d)
    call_by n j v i a d sound e r = let t = sound i a e in go t.0 (sym t.1 ∙ r) t.2
      where
        go : (t : Task ℕ ℕ) → Some t ≡ Some (Call d) → MayAnswer sums n t a → (6 + d ≤ a) × (a ≤ 7 + 2 * d)
        go (Work x) f g = absurd (cc)
        go (Call c) f g = let same : c ≡ d = cc in subst (λ (z : ℕ). (6 + z ≤ a) × (a ≤ 7 + 2 * z)) same g

    settles : (n j : ℕ) (v : Values ℕ) → Settled chain sums n j v → (6 + j ≤ last_of j v) × (last_of j v ≤ 7 + 2 * j)
    settles n zero v s =
        let a = s.whole 0 (Work 5) refl in
        let may = task_by n zero v 0 a.0 5 s.sound a.1 refl in
        let is : or_none (v 0) ≡ a.0 = ap or_none a.1 in
        ⊎_elim (λ (e : a.0 ≡ 6). (omega arith, omega arith)) (λ (e : a.0 ≡ 7). (omega arith, omega arith)) may
    settles n (suc j) v s =
        let a = s.whole 0 (Call j) refl in
        let called = call_by n (suc j) v 0 a.0 j s.sound a.1 refl in
        let low = called.0 in
        let high = called.1 in
        let r : item_of (suc j) v 1 ≡ Some (Work a.0) = ap second a.1 in
        let b = s.whole 1 (Work a.0) r in
        let may = task_by n (suc j) v 1 b.0 a.0 s.sound b.1 r in
        let is : or_none (v 1) ≡ b.0 = ap or_none b.1 in
        ⊎_elim (λ (e : b.0 ≡ a.0 + 1). (omega arith, omega arith)) (λ (e : b.0 ≡ a.0 + 2). (omega arith, omega arith)) may

-- so every legal journal on job j, by any number of workers, that has ended tells such an answer
each_tells : (j workers : ℕ) (es : List (Entry ℕ)) → Legal chain adds workers j es → IsEnded chain workers (state chain j es) → (a : ℕ) × ((state chain j es).marks [] ≡ Done a) × ((6 + j ≤ a) × (a ≤ 7 + 2 * j))
each_tells j workers es legal ended = ended_tells chain (λ j. j) chain_lawful j sums chain_meant tt (suc j) (omega arith) workers es legal ended
