-- Claims and finishes make no mark heavier, and that of their item lighter.
use Rattle.std.proofs.Common.{◌≡◌, ◌≢◌, ℕ, ◌<◌, ◌≤◌, Bool, true, false, cond, Option, Some, None, [], ◌∷◌, refl, sym, ◌∙◌, ap, subst, ⊎_elim, arith}
use Rattle.nested_jobs.specs.Rules.{Place, Task, Work, Call, Rules}
use Rattle.nested_jobs.specs.Marks.{Mark, Free, Busy, Open, Done, Marks, put, values, answer_of}
use Rattle.nested_jobs.specs.Meanings.{Lawful}
use Rattle.nested_jobs.specs.Steps.{IsEnabled, begins, claimed, close_as, close_one, closed, ends, finished, is_quiet, opened, opens, task_at, task_in}
use Rattle.nested_jobs.specs.Journals.{task_of}
use Rattle.journal_laws.proofs.Weighing.{weight}
use Rattle.journal_laws.proofs.Writes.{cons_ne, done_by, opened_deeper, put_at, put_here, put_other, task_open}

module _ {J W A : Type 0} (rs : Rules J W A) where
  -- no mark is heavier
  abbrev pub Falls : Marks J A → Marks J A → Type 0
  Falls m n = (a : Place) → weight (n a) ≤ weight (m a)

  then_falls : (l m n : Marks J A) → Falls l m → Falls m n → Falls l n
  then_falls l m n one other a = let first = one a in let second = other a in omega arith

  put_falls : (m : Marks J A) (a : Place) (y : Mark J A) → weight y ≤ weight (m a) → Falls m (put m a y)
  put_falls m a y le b =
      ⊎_elim
      (λ t. let e : weight (put m a y b) ≡ weight y = ap weight t.1 in let f : weight (m a) ≡ weight (m b) = ap (λ (z : Place). weight (m z)) t.0 in omega arith)
      (λ t. let e : weight (put m a y b) ≡ weight (m b) = ap weight t.1 in omega arith)
      (put_at m a y b)

  opens_falls : (x : Mark J A) (t : Option (Task J W)) → weight (opens x t) ≤ weight x
  opens_falls Free None = omega arith
  opens_falls Free (Some (Work work)) = omega arith
  opens_falls Free (Some (Call job)) = omega arith
  opens_falls Busy t = omega arith
  opens_falls (Open job) t = omega arith
  opens_falls (Done answer) t = omega arith

  begins_falls : (x : Mark J A) (t : Option (Task J W)) → weight (begins x t) ≤ weight x
  begins_falls Free None = omega arith
  begins_falls Free (Some (Work work)) = omega arith
  begins_falls Free (Some (Call job)) = omega arith
  begins_falls Busy t = omega arith
  begins_falls (Open job) t = omega arith
  begins_falls (Done answer) t = omega arith

  ends_falls : (a : A) (x : Mark J A) → weight (ends a x) ≤ weight x
  ends_falls a Free = omega arith
  ends_falls a Busy = omega arith
  ends_falls a (Open job) = omega arith
  ends_falls a (Done answer) = omega arith

  closes_falls : (m : Marks J A) (p : Place) (x : Mark J A) → weight (close_as rs m p x) ≤ weight x
  closes_falls m p Free = omega arith
  closes_falls m p Busy = omega arith
  closes_falls m p (Open job) = go (is_quiet rs m job p)
    where
      go : (b : Bool) → weight (cond b (Done (rs.outcome job (values m p))) (Open job)) ≤ 1
      go true = omega arith
      go false = omega arith
  closes_falls m p (Done answer) = omega arith

  opened_falls : (m : Marks J A) (p : Place) → Falls m (opened rs m p)
  opened_falls m [] = λ a. omega arith
  opened_falls m (i ∷ p) = then_falls m (opened rs m p) (opened rs m (i ∷ p)) (opened_falls m p) (put_falls (opened rs m p) (i ∷ p) _ (opens_falls (opened rs m p (i ∷ p)) (task_at rs (opened rs m p) i p)))

  pub claimed_falls : (m : Marks J A) (a : Place) → Falls m (claimed rs m a)
  claimed_falls m [] = λ a. omega arith
  claimed_falls m (i ∷ p) = then_falls m (opened rs m p) (claimed rs m (i ∷ p)) (opened_falls m p) (put_falls (opened rs m p) (i ∷ p) _ (begins_falls (opened rs m p (i ∷ p)) (task_at rs (opened rs m p) i p)))

  close_falls : (m : Marks J A) (p : Place) → Falls m (close_one rs m p)
  close_falls m p = put_falls m p (close_as rs m p (m p)) (closes_falls m p (m p))

  closed_falls : (m : Marks J A) (p : Place) → Falls m (closed rs m p)
  closed_falls m [] = close_falls m []
  closed_falls m (i ∷ p) = then_falls m (close_one rs m (i ∷ p)) (closed rs m (i ∷ p)) (close_falls m (i ∷ p)) (closed_falls (close_one rs m (i ∷ p)) p)

  abbrev ended_so : Marks J A → ℕ → Place → A → Marks J A
  ended_so m i p a = put m (i ∷ p) (ends a (m (i ∷ p)))

  pub finished_falls : (m : Marks J A) (a : Place) (answer : A) → Falls m (finished rs m a answer)
  finished_falls m [] answer = λ a. omega arith
  finished_falls m (i ∷ p) answer =
      then_falls m (ended_so m i p answer) (finished rs m (i ∷ p) answer) (put_falls m (i ∷ p) _ (ends_falls answer (m (i ∷ p)))) (closed_falls (ended_so m i p answer) p)

  -- the mark of the item is lighter
  pub claimed_drops : (m : Marks J A) (a : Place) → IsEnabled rs m a → weight (claimed rs m a a) < weight (m a)
  claimed_drops m a on =
      let before : weight (m a) ≡ 2 = ap weight on.0 in
      let after : weight (claimed rs m a a) ≡ 1 = ap weight on.1 in
      omega arith

  pub finished_drops : (m : Marks J A) (a : Place) (answer : A) → a ≢ [] → m a ≡ Busy → weight (finished rs m a answer a) < weight (m a)
  finished_drops m [] answer some busy = absurd (some refl)
  finished_drops m (i ∷ p) answer some busy =
      let before : weight (m (i ∷ p)) ≡ 1 = ap weight busy in
      let end : weight (ended_so m i p answer (i ∷ p)) ≡ weight (ends answer (m (i ∷ p))) = ap weight (put_here m (i ∷ p) (ends answer (m (i ∷ p)))) in
      let done : weight (ends answer (m (i ∷ p))) ≡ 0 = ap (λ (x : Mark J A). weight (ends answer x)) busy in
      let after = closed_falls (ended_so m i p answer) p (i ∷ p) in
      omega arith

  -- ---- what stays

  -- an item that a worker runs stays busy while others are claimed or finished
  stays : (m : Marks J A) (a c : Place) (y : Mark J A) → (a ≡ c → y ≡ Busy) → m c ≡ Busy → put m a y c ≡ Busy
  stays m a c y so busy = ⊎_elim (λ t. t.1 ∙ so t.0) (λ t. t.1 ∙ busy) (put_at m a y c)

  at_one : (m : Marks J A) (a c : Place) → a ≡ c → m c ≡ Busy → m a ≡ Busy
  at_one m a c e busy = ap m e ∙ busy

  opened_stays : (m : Marks J A) (p c : Place) → m c ≡ Busy → opened rs m p c ≡ Busy
  opened_stays m [] c busy = busy
  opened_stays m (i ∷ p) c busy =
      let n : Marks J A = opened rs m p in
      let still : n c ≡ Busy = opened_stays m p c busy in
      stays n (i ∷ p) c _ (λ e. ap (λ (x : Mark J A). opens x (task_at rs n i p)) (at_one n (i ∷ p) c e still)) still

  pub claimed_stays : (m : Marks J A) (a c : Place) → m c ≡ Busy → claimed rs m a c ≡ Busy
  claimed_stays m [] c busy = busy
  claimed_stays m (i ∷ p) c busy =
      let n : Marks J A = opened rs m p in
      let still : n c ≡ Busy = opened_stays m p c busy in
      stays n (i ∷ p) c _ (λ e. ap (λ (x : Mark J A). begins x (task_at rs n i p)) (at_one n (i ∷ p) c e still)) still

  close_stays : (m : Marks J A) (p c : Place) → m c ≡ Busy → close_one rs m p c ≡ Busy
  close_stays m p c busy = stays m p c _ (λ e. ap (close_as rs m p) (at_one m p c e busy)) busy

  closed_stays : (m : Marks J A) (p c : Place) → m c ≡ Busy → closed rs m p c ≡ Busy
  closed_stays m [] c busy = close_stays m [] c busy
  closed_stays m (i ∷ p) c busy = closed_stays (close_one rs m (i ∷ p)) p c (close_stays m (i ∷ p) c busy)

  pub finished_stays : (m : Marks J A) (a : Place) (answer : A) (c : Place) → a ≢ c → m c ≡ Busy → finished rs m a answer c ≡ Busy
  finished_stays m [] answer c ne busy = busy
  finished_stays m (i ∷ p) answer c ne busy = closed_stays (ended_so m i p answer) p c (put_other m (i ∷ p) _ c ne ∙ busy)

  -- ---- what a claim finds

  -- the item that is claimed is work of an open job
  pub record IsBegun (m : Marks J A) (i : ℕ) (p : Place) : Type 0 where
    pub job : J
    pub is_open : claimed rs m (i ∷ p) p ≡ Open job
    pub work : W
    pub task : task_of rs (claimed rs m (i ∷ p)) (i ∷ p) ≡ Some (Work work)

  began : (x : Mark J A) (t : Option (Task J W)) → x ≡ Free → begins x t ≡ Busy → (work : W) × (t ≡ Some (Work work))
  began Free None free e = absurd (cc)
  began Free (Some (Work work)) free e = (work, refl)
  began Free (Some (Call job)) free e = absurd (cc)
  began Busy t free e = absurd (cc)
  began (Open job) t free e = absurd (cc)
  began (Done answer) t free e = absurd (cc)

  module _ (rank : J → ℕ) (law : Lawful rs rank) where
    pub begun : (m : Marks J A) (i : ℕ) (p : Place) → IsEnabled rs m (i ∷ p) → IsBegun m i p
    begun m i p on =
        let n : Marks J A = opened rs m p in
        let free : n (i ∷ p) ≡ Free = opened_deeper rs m p (i ∷ p) (omega arith) ∙ on.0 in
        let b = began (n (i ∷ p)) (task_at rs n i p) free (sym (put_here n (i ∷ p) (begins (n (i ∷ p)) (task_at rs n i p))) ∙ on.1) in
        let o = task_open rs n i p (Work b.0) b.1 in
        let c : Marks J A = claimed rs m (i ∷ p) in
        let still : c p ≡ Open o.0 = put_other n (i ∷ p) _ p (cons_ne i p) ∙ o.1 in
        let more : rs.rule o.0 (values c p) i ≡ Some (Work b.0) = law.grows o.0 (values n p) (values c p) (λ k a e.
        ⊎_elim
        (λ t. let f : n (k ∷ p) ≡ Free = ap n (sym t.0) ∙ free in let g : n (k ∷ p) ≡ Done a = done_by (n (k ∷ p)) a e in absurd (cc))
        (λ t. ap answer_of t.1 ∙ e)
        (put_at n (i ∷ p) (begins (n (i ∷ p)) (task_at rs n i p)) (k ∷ p))) i (Work b.0) o.2 in
        record { job = o.0; is_open = still; work = b.0; task = subst (λ (x : Mark J A). task_in rs x (values c p) i ≡ Some (Work b.0)) (sym still) more }
