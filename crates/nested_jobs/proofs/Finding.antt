-- What is found under an open job: an item that is busy, or a free one with a task; and how claims reach free items.
use Rattle.std.proofs.Common.{◌≡◌, ◌⊎◌, ℕ, zero, suc, ◌<◌, false, Option, Some, None, List, [], ◌∷◌, ◌++◌, refl, sym, ◌∙◌, ap, subst, inl, inr, ⊎_elim, append_assoc, arith}
use Rattle.nested_jobs.specs.Rules.{Place, Task, Work, Call, Rules}
use Rattle.nested_jobs.specs.Marks.{Mark, Free, Busy, Open, Done, Marks, put, values}
use Rattle.nested_jobs.specs.Steps.{task_at, opens, begins, open_one, begin_one, opened, claimed, IsEnabled, is_settled}
use Rattle.nested_jobs.specs.Meanings.{Lawful}
use Rattle.nested_jobs.specs.Invariants.{InJob, Nested, Unsettled, OpenUnsettled}
use Rattle.nested_jobs.proofs.Places.{cons_ne, put_here, put_other, put_back, one_open}
use Rattle.nested_jobs.proofs.Turns.{in_job, task_is}
use Rattle.nested_jobs.proofs.Nesting.{of_open, of_busy, top_not_free, opened_nested, claimed_nested}

-- a free item of an open job that has a task
pub record IsReady {J W A : Type 0} (rs : Rules J W A) (m : Marks J A) (i : ℕ) (p : Place) : Type 0 where
  pub free : m (i ∷ p) ≡ Free
  pub task : Task J W
  pub in_job : InJob rs m i p task

-- an item below a place that is busy or ready
pub data Found {J W A : Type 0} (rs : Rules J W A) (m : Marks J A) (p : Place) : Type 0 where
  Is_busy : (i : ℕ) (way : List ℕ) → m (i ∷ way ++ p) ≡ Busy → Found rs m p
  Is_ready : (i : ℕ) (way : List ℕ) → IsReady rs m i (way ++ p) → Found rs m p

-- the ready item on the way to a place
pub record OnWay {J W A : Type 0} (rs : Rules J W A) (m : Marks J A) (a : Place) : Type 0 where
  pub way : List ℕ
  pub item : ℕ
  pub place : Place
  pub is_on_way : a ≡ way ++ item ∷ place
  pub ready : IsReady rs m item place

module _ {J W A : Type 0} (rs : Rules J W A) (rank : J → ℕ) (law : Lawful rs rank) (top : J) where
  further : (m : Marks J A) (k : ℕ) (p : Place) → Found rs m (k ∷ p) → Found rs m p
  further m k p (Found.Is_busy i way e) = Found.Is_busy i (way ++ k ∷ []) (subst (λ (z : Place). m (i ∷ z) ≡ Busy) (sym (append_assoc way (k ∷ []) p)) e)
  further m k p (Found.Is_ready i way e) = Found.Is_ready i (way ++ k ∷ []) (subst (λ (z : Place). IsReady rs m i z) (sym (append_assoc way (k ∷ []) p)) e)

  -- under each open job something is found, where each open job is unsettled
  found_within : (n : ℕ) (m : Marks J A) (p : Place) (j : J) → rank j < n → Nested rs top m → OpenUnsettled rs m → m p ≡ Open j → Found rs m p
  found_within zero m p j lt h unsettled o = absurd (omega arith)
  found_within (suc n) m p j lt h unsettled o = go (λ d e under. found_within n m (s.0 ∷ p) d under h unsettled e) (m (s.0 ∷ p)) (rs.rule j (values m p) s.0) refl refl s.1
    where
      s : Unsettled rs m p j
      s = unsettled p j o

      go : ((d : J) → m (s.0 ∷ p) ≡ Open d → rank d < n → Found rs m (s.0 ∷ p)) → (x : Mark J A) (t : Option (Task J W)) → m (s.0 ∷ p) ≡ x → rs.rule j (values m p) s.0 ≡ t → is_settled (m (s.0 ∷ p)) (rs.rule j (values m p) s.0) ≡ false → Found rs m p
      go rest Busy t e r u = Found.Is_busy s.0 [] e
      go rest (Open d) t e r u =
          let up = of_open rs rank law top m s.0 p d h e in
          let less = law.falls up.job (values m p) s.0 d up.has_task in
          let same : rank up.job ≡ rank j = ap rank (one_open m p up.job j up.is_open o) in
          further m s.0 p (rest d e (omega arith))
      go rest Free (Some t) e r u = Found.Is_ready s.0 [] (record { free = e; task = t; in_job = record { job = j; is_open = o; has_task = r } })
      go rest Free None e r u =
          let none : Option (Task J W) = None in
          let v : is_settled {A = A} Free none ≡ false = subst (λ (z : Option (Task J W)). is_settled {A = A} Free z ≡ false) r (subst (λ (z : Mark J A). is_settled z (rs.rule j (values m p) s.0) ≡ false) e u) in
          absurd (cc)
      go rest (Done a) t e r u =
          let v : is_settled (Done a) (rs.rule j (values m p) s.0) ≡ false = subst (λ (z : Mark J A). is_settled z (rs.rule j (values m p) s.0) ≡ false) e u in
          absurd (cc)

  pub found : (m : Marks J A) (p : Place) (j : J) → Nested rs top m → OpenUnsettled rs m → m p ≡ Open j → Found rs m p
  found m p j h unsettled o = found_within (suc (rank j)) m p j (omega arith) h unsettled o

  -- ---- claims of ready items

  -- the way to an open job is open
  pub opened_open : (m : Marks J A) (p : Place) (j : J) → Nested rs top m → m p ≡ Open j → opened rs m p ≡ m
  opened_open m [] j h o = refl
  opened_open m (i ∷ p) j h o =
      let up = of_open rs rank law top m i p j h o in
      let same : opened rs m p ≡ m = opened_open m p up.job h up.is_open in
      subst (λ (n : Marks J A). put n (i ∷ p) (opens (n (i ∷ p)) (task_at rs n i p)) ≡ m) (sym same)
      (put_back m (i ∷ p) (opens (m (i ∷ p)) (task_at rs m i p)) (o ∙ sym (ap (λ (x : Mark J A). opens x (task_at rs m i p)) o)))

  -- the mark that an opening makes of a free item that calls a job, and a claim of one that is work
  opens_as : (n : Marks J A) (i : ℕ) (p : Place) (d : J) → n (i ∷ p) ≡ Free → InJob rs n i p (Call d) → open_one rs n i p ≡ put n (i ∷ p) (Open d)
  opens_as n i p d free job = ap (put n (i ∷ p)) (ap (λ (x : Mark J A). opens x (task_at rs n i p)) free ∙ ap (λ (t : Option (Task J W)). opens {A = A} Free t) (task_is rs n i p (Call d) job))

  begins_as : (n : Marks J A) (i : ℕ) (p : Place) (work : W) → n (i ∷ p) ≡ Free → InJob rs n i p (Work work) → begin_one rs n i p ≡ put n (i ∷ p) Busy
  begins_as n i p work free job = ap (put n (i ∷ p)) (ap (λ (x : Mark J A). begins x (task_at rs n i p)) free ∙ ap (λ (t : Option (Task J W)). begins {A = A} Free t) (task_is rs n i p (Work work) job))

  pub claimed_ready : (m : Marks J A) (i : ℕ) (p : Place) (work : W) → Nested rs top m → m (i ∷ p) ≡ Free → InJob rs m i p (Work work) → claimed rs m (i ∷ p) ≡ put m (i ∷ p) Busy
  claimed_ready m i p work h free job =
      ap (λ (n : Marks J A). begin_one rs n i p) (opened_open m p job.job h job.is_open) ∙ begins_as m i p work free job

  pub opened_ready : (m : Marks J A) (i : ℕ) (p : Place) (d : J) → Nested rs top m → m (i ∷ p) ≡ Free → InJob rs m i p (Call d) → opened rs m (i ∷ p) ≡ put m (i ∷ p) (Open d)
  opened_ready m i p d h free job =
      ap (λ (n : Marks J A). open_one rs n i p) (opened_open m p job.job h job.is_open) ∙ opens_as m i p d free job

  -- under a job that is opened on the way to an item, its first items, one in the other, down to work
  starts_within : (n : ℕ) (m : Marks J A) (q : Place) (d : J) → rank d < n → Nested rs top m → opened rs m q q ≡ Open d → ((k : ℕ) → m (k ∷ q) ≡ Free) → ((k : ℕ) → opened rs m q (k ∷ q) ≡ Free)
      → (way : List ℕ) × IsEnabled rs m (way ++ q)
  starts_within zero m q d lt h o free fresh = absurd (omega arith)
  starts_within (suc n) m q d lt h o free fresh =
      go (λ c e under. starts_within n m (t.0 ∷ q) c under h (opens_to c e) (λ k. h.fresh k (t.0 ∷ q) (free t.0)) (λ k. below c e k)) t.1 refl
    where
      t : (i : ℕ) × (t : Task J W) × (rs.rule d (λ _. None) i ≡ Some t)
      t = law.starts d

      job : (x : Task J W) → t.1 ≡ x → InJob rs (opened rs m q) t.0 q x
      job x e = record { job = d; is_open = o; has_task = law.grows d (λ _. None) (values (opened rs m q) q) (λ i a f. absurd (cc)) t.0 x (t.2 ∙ ap Some e) }

      opens_to : (c : J) → t.1 ≡ Call c → opened rs m (t.0 ∷ q) (t.0 ∷ q) ≡ Open c
      opens_to c e = ap (λ (f : Marks J A). f (t.0 ∷ q)) (opens_as (opened rs m q) t.0 q c (fresh t.0) (job (Call c) e)) ∙ put_here (opened rs m q) (t.0 ∷ q) (Open c)

      below : (c : J) → t.1 ≡ Call c → (k : ℕ) → opened rs m (t.0 ∷ q) (k ∷ t.0 ∷ q) ≡ Free
      below c e k =
          ap (λ (f : Marks J A). f (k ∷ t.0 ∷ q)) (opens_as (opened rs m q) t.0 q c (fresh t.0) (job (Call c) e))
          ∙ (put_other (opened rs m q) (t.0 ∷ q) (Open c) (k ∷ t.0 ∷ q) (λ f. cons_ne k (t.0 ∷ q) (sym f))
          ∙ (opened_nested rs rank law top m q h).fresh k (t.0 ∷ q) (fresh t.0))

      go : ((c : J) → t.1 ≡ Call c → rank c < n → (way : List ℕ) × IsEnabled rs m (way ++ t.0 ∷ q)) → (x : Task J W) → t.1 ≡ x → (way : List ℕ) × IsEnabled rs m (way ++ q)
      go rest (Work work) e =
          (t.0 ∷ [], (free t.0, ap (λ (f : Marks J A). f (t.0 ∷ q)) (begins_as (opened rs m q) t.0 q work (fresh t.0) (job (Work work) e)) ∙ put_here (opened rs m q) (t.0 ∷ q) Busy))
      go rest (Call c) e =
          let r = rest c e (let less = law.falls d (values (opened rs m q) q) t.0 c (job (Call c) e).has_task in omega arith) in
          (r.0 ++ t.0 ∷ [], subst (IsEnabled rs m) (sym (append_assoc r.0 (t.0 ∷ []) q)) r.1)

  -- in or below each ready item an item is enabled
  pub ready_enabled : (m : Marks J A) (i : ℕ) (p : Place) → Nested rs top m → IsReady rs m i p → (way : List ℕ) × IsEnabled rs m (way ++ i ∷ p)
  ready_enabled m i p h ready = go ready.task ready.in_job
    where
      go : (t : Task J W) → InJob rs m i p t → (way : List ℕ) × IsEnabled rs m (way ++ i ∷ p)
      go (Work work) job = ([], (ready.free, ap (λ (f : Marks J A). f (i ∷ p)) (claimed_ready m i p work h ready.free job) ∙ put_here m (i ∷ p) Busy))
      go (Call d) job =
          let is : opened rs m (i ∷ p) ≡ put m (i ∷ p) (Open d) = opened_ready m i p d h ready.free job in
          starts_within (suc (rank d)) m (i ∷ p) d (omega arith) h
          (ap (λ (f : Marks J A). f (i ∷ p)) is ∙ put_here m (i ∷ p) (Open d))
          (λ k. h.fresh k (i ∷ p) ready.free)
          (λ k. ap (λ (f : Marks J A). f (k ∷ i ∷ p)) is ∙ (put_other m (i ∷ p) (Open d) (k ∷ i ∷ p) (λ e. cons_ne k (i ∷ p) (sym e)) ∙ h.fresh k (i ∷ p) ready.free))

  -- ---- the ready item on the way to an enabled one

  opens_open : (x : Mark J A) (t : Option (Task J W)) (d : J) → opens x t ≡ Open d → (x ≡ Open d) ⊎ ((x ≡ Free) × (t ≡ Some (Call d)))
  opens_open Free None d h = absurd (cc)
  opens_open Free (Some (Work a)) d h = absurd (cc)
  opens_open Free (Some (Call c)) d h = inr (refl, cc)
  opens_open Busy t d h = absurd (cc)
  opens_open (Open c) t d h = inl h
  opens_open (Done a) t d h = absurd (cc)

  begins_busy : (t : Option (Task J W)) → begins {A = A} Free t ≡ Busy → (work : W) × (t ≡ Some (Work work))
  begins_busy None h = absurd (cc)
  begins_busy (Some (Work a)) h = (a, refl)
  begins_busy (Some (Call c)) h = absurd (cc)

  here : (m : Marks J A) (i : ℕ) (p : Place) (t : Task J W) → m (i ∷ p) ≡ Free → task_at rs m i p ≡ Some t → OnWay rs m (i ∷ p)
  here m i p t free e = record { way = []; item = i; place = p; is_on_way = refl; ready = record { free = free; task = t; in_job = in_job rs m i p t e } }

  longer : (m : Marks J A) (i : ℕ) (p : Place) → OnWay rs m p → OnWay rs m (i ∷ p)
  longer m i p t = record { way = i ∷ t.way; item = t.item; place = t.place; is_on_way = ap (λ (z : Place). i ∷ z) t.is_on_way; ready = t.ready }

  opened_by : (m : Marks J A) (p : Place) (d : J) → Nested rs top m → opened rs m p p ≡ Open d → (m p ≡ Open d) ⊎ OnWay rs m p
  opened_by m [] d h o = inl o
  opened_by m (i ∷ p) d h o =
      let n : Marks J A = opened rs m p in
      let y : Mark J A = opens (n (i ∷ p)) (task_at rs n i p) in
      let up = of_open rs rank law top (put n (i ∷ p) y) i p d (opened_nested rs rank law top m (i ∷ p) h) o in
      ⊎_elim
      (λ (was : m p ≡ Open up.job).
      let still : opened rs m p ≡ m = opened_open m p up.job h was in
      let now : opens (m (i ∷ p)) (task_at rs m i p) ≡ Open d = sym (ap (λ (w : Marks J A). opens (w (i ∷ p)) (task_at rs w i p)) still) ∙ (sym (put_here n (i ∷ p) y) ∙ o) in
      ⊎_elim (λ e. inl e) (λ t. inr (here m i p (Call d) t.0 t.1)) (opens_open (m (i ∷ p)) (task_at rs m i p) d now))
      (λ t. inr (longer m i p t))
      (opened_by m p up.job h (sym (put_other n (i ∷ p) y p (cons_ne i p)) ∙ up.is_open))

  -- on the way to each enabled item, or at it, stands a ready one
  pub enabled_by : (m : Marks J A) (a : Place) → Nested rs top m → IsEnabled rs m a → OnWay rs m a
  enabled_by m [] h e = absurd (top_not_free rs rank law top m h e.0)
  enabled_by m (i ∷ p) h e =
      let n : Marks J A = opened rs m p in
      let y : Mark J A = begins (n (i ∷ p)) (task_at rs n i p) in
      let up = (of_busy rs rank law top (put n (i ∷ p) y) i p (claimed_nested rs rank law top m (i ∷ p) h) e.1).1 in
      ⊎_elim
      (λ (was : m p ≡ Open up.job).
      let still : opened rs m p ≡ m = opened_open m p up.job h was in
      let now : begins (m (i ∷ p)) (task_at rs m i p) ≡ Busy = sym (ap (λ (w : Marks J A). begins (w (i ∷ p)) (task_at rs w i p)) still) ∙ (sym (put_here n (i ∷ p) y) ∙ e.1) in
      let t = begins_busy (task_at rs m i p) (sym (ap (λ (x : Mark J A). begins x (task_at rs m i p)) e.0) ∙ now) in
      here m i p (Work t.0) e.0 t.1)
      (λ t. longer m i p t)
      (opened_by m p up.job h (sym (put_other n (i ∷ p) y p (cons_ne i p)) ∙ up.is_open))
