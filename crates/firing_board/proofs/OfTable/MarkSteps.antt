-- What one step makes of each mark, and what a mark comes to in the end.
use Rattle.std.proofs.Common.{◌≡◌, ◌⊎◌, Option, Some, None, List, [], ◌∷◌, refl, sym, ◌∙◌, ap, subst, inl, inr, ⊎_elim}
use Rattle.nested_jobs.specs.Rules.{Place, Rules}
use Rattle.nested_jobs.specs.Marks.{Mark, Free, Busy, Open, Done, Marks, values}
use Rattle.nested_jobs.specs.Steps.{claimed, finished}
use Rattle.nested_jobs.specs.Journals.{Entry, Claim, Finish, State, after, finish_of, state_from}
use Rattle.nested_jobs.proofs.Places.{put_at}
use Rattle.nested_jobs.proofs.Turns.{claimed_keeps, finished_keeps}

-- claimed, and not finished yet
abbrev pub IsTaken : {J A : Type 0} → Mark J A → Type 0
IsTaken Free = ⊥
IsTaken Busy = Unit {0}
IsTaken (Open job) = Unit {0}
IsTaken (Done answer) = ⊥

-- a claim leaves a mark as it is, or takes a free item
abbrev pub Claims : {J A : Type 0} → Mark J A → Mark J A → Type 0
Claims x y = (x ≡ y) ⊎ ((x ≡ Free) × IsTaken y)

-- a finish leaves a mark as it is, or ends an item that was taken
abbrev pub Ends : {J A : Type 0} → Mark J A → Mark J A → Type 0
Ends {J} {A} x y = (x ≡ y) ⊎ (IsTaken x × ((a : A) × (y ≡ Done a)))

module _ {J A : Type 0} where
  was_free : (x y : Mark J A) → Claims x y → y ≡ Free → x ≡ Free
  was_free x y c free = ⊎_elim (λ (same : x ≡ y). same ∙ free) (λ t. t.0) c

  open_taken : (x : Mark J A) (j : J) → x ≡ Open j → IsTaken x
  open_taken x j is = subst (λ (z : Mark J A). IsTaken z) (sym is) tt

  busy_taken : (x : Mark J A) → x ≡ Busy → IsTaken x
  busy_taken x is = subst (λ (z : Mark J A). IsTaken z) (sym is) tt

  was_taken : (x y : Mark J A) → Ends x y → (j : J) → y ≡ Open j → IsTaken x
  was_taken x y c j is = ⊎_elim (λ (same : x ≡ y). open_taken x j (same ∙ is)) (λ t. t.0) c

module _ {J W A : Type 0} (rs : Rules J W A) where
  pub claim_changes : (m : Marks J A) (a b : Place) → Claims (m b) (claimed rs m a b)
  claim_changes m a b = claimed_keeps rs (λ n. Claims (m b) (n b))
      (λ n i p d h free job. ⊎_elim
      (λ t. inr (was_free (m b) (n b) h (ap n (sym t.0) ∙ free), open_taken _ d t.1))
      (λ t. subst (λ (z : Mark J A). Claims (m b) z) (sym t.1) h)
      (put_at n (i ∷ p) (Open d) b))
      (λ n i p work h free job. ⊎_elim
      (λ t. inr (was_free (m b) (n b) h (ap n (sym t.0) ∙ free), busy_taken _ t.1))
      (λ t. subst (λ (z : Mark J A). Claims (m b) z) (sym t.1) h)
      (put_at n (i ∷ p) Busy b))
      m a (inl refl)

  pub finish_changes : (m : Marks J A) (a : Place) (answer : A) (b : Place) → Ends (m b) (finished rs m a answer b)
  finish_changes m [] answer b = inl refl
  finish_changes m (i ∷ p) answer b = finished_keeps rs (λ n. Ends (m b) (n b))
      (λ n q j h o quiet. ⊎_elim
      (λ t. inr (was_taken (m b) (n b) h j (ap n (sym t.0) ∙ o), (rs.outcome j (values n q), t.1)))
      (λ t. subst (λ (z : Mark J A). Ends (m b) z) (sym t.1) h)
      (put_at n q (Done (rs.outcome j (values n q))) b))
      m i p answer (inl refl)
      (λ busy. ⊎_elim
      (λ t. inr (busy_taken (m b) (ap m (sym t.0) ∙ busy), (answer, t.1)))
      (λ t. inl (sym t.1))
      (put_at m (i ∷ p) (Done answer) b))

  -- all marks by a claim, or all by a finish
  abbrev pub Steps : Marks J A → Marks J A → Type 0
  Steps m n = ((b : Place) → Claims (m b) (n b)) ⊎ ((b : Place) → Ends (m b) (n b))

  pub step_changes : (s : State J A) (e : Entry A) → Steps s.marks (after rs s e).marks
  step_changes s (Claim w a) = inl (claim_changes s.marks a)
  step_changes s (Finish w answer) = go (s.running w)
    where
      go : (r : Option Place) → Steps s.marks (finish_of rs s w answer r).marks
      go None = inr (λ b. inl refl)
      go (Some a) = inr (finish_changes s.marks a answer)

  -- ---- one step

  done_after : (x y : Mark J A) (a : A) → Claims x y ⊎ Ends x y → x ≡ Done a → y ≡ Done a
  done_after x y a c is = ⊎_elim
      (λ d. ⊎_elim (λ (same : x ≡ y). sym same ∙ is) (λ t. (let bad : Done a ≡ Free = sym is ∙ t.0 in absurd (cc))) d)
      (λ d. ⊎_elim (λ (same : x ≡ y). sym same ∙ is) (λ t. absurd (subst (λ (z : Mark J A). IsTaken z) is t.0)) d)
      c

  open_before : (x y : Mark J A) (d : J) → Claims x y ⊎ Ends x y → y ≡ Open d → (x ≡ Free) ⊎ (x ≡ Open d)
  open_before x y d c is = ⊎_elim
      (λ k. ⊎_elim (λ (same : x ≡ y). inr (same ∙ is)) (λ t. inl t.0) k)
      (λ k. ⊎_elim (λ (same : x ≡ y). inr (same ∙ is)) (λ t. (let bad : Open d ≡ Done t.1.0 = sym is ∙ t.1.1 in absurd (cc))) k)
      c

  at_mark : (m n : Marks J A) (b : Place) → Steps m n → Claims (m b) (n b) ⊎ Ends (m b) (n b)
  at_mark m n b steps = ⊎_elim (λ k. inl (k b)) (λ k. inr (k b)) steps

  -- ---- steps up to the end

  -- what is done stays
  pub done_later : (s : State J A) (rest : List (Entry A)) (b : Place) (a : A) → s.marks b ≡ Done a → (state_from rs s rest).marks b ≡ Done a
  done_later s [] b a is = is
  done_later s (e ∷ rest) b a is =
      done_later (after rs s e) rest b a (done_after (s.marks b) ((after rs s e).marks b) a (at_mark s.marks (after rs s e).marks b (step_changes s e)) is)

  -- what is open was free or open
  pub open_earlier : (s : State J A) (rest : List (Entry A)) (b : Place) (d : J) → (state_from rs s rest).marks b ≡ Open d → (s.marks b ≡ Free) ⊎ (s.marks b ≡ Open d)
  open_earlier s [] b d is = inr is
  open_earlier s (e ∷ rest) b d is = ⊎_elim
      (λ (free : (after rs s e).marks b ≡ Free). inl (free_before (s.marks b) ((after rs s e).marks b) (at_mark s.marks (after rs s e).marks b (step_changes s e)) free))
      (λ (still : (after rs s e).marks b ≡ Open d). open_before (s.marks b) ((after rs s e).marks b) d (at_mark s.marks (after rs s e).marks b (step_changes s e)) still)
      (open_earlier (after rs s e) rest b d is)
    where
      free_before : (x y : Mark J A) → Claims x y ⊎ Ends x y → y ≡ Free → x ≡ Free
      free_before x y c free = ⊎_elim
          (λ k. was_free x y k free)
          (λ k. ⊎_elim (λ (same : x ≡ y). same ∙ free) (λ t. (let bad : ◌≡◌ {A = Mark J A} Free (Done t.1.0) = sym free ∙ t.1.1 in absurd (cc))) k)
          c
