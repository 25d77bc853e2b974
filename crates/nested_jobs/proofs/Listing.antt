-- The items that may be enabled are finitely many: those of the jobs that are open once the ways to them are opened.
use Rattle.std.proofs.Common.{◌≡◌, ◌⊎◌, ℕ, zero, suc, ◌<◌, ◌≤◌, Option, Some, None, List, [], ◌∷◌, ◌++◌, length, refl, sym, ◌∙◌, ap, subst, inl, inr, ⊎_elim, arith}
use Rattle.nested_jobs.specs.Rules.{Place, Task, Work, Call, Values, Rules}
use Rattle.nested_jobs.specs.Marks.{Mark, Free, Busy, Open, Done, Marks, put, answer_of, values}
use Rattle.nested_jobs.specs.Steps.{task_at, opens, begins, opened, IsEnabled}
use Rattle.nested_jobs.specs.Meanings.{Lawful}
use Rattle.nested_jobs.specs.Invariants.{InJob, Nested}
use Rattle.nested_jobs.specs.Pick.{IsIn}
use Rattle.nested_jobs.proofs.Places.{cons_ne, put_other}
use Rattle.nested_jobs.proofs.Nesting.{of_busy, of_open, top_not_free, deep, opened_nested, claimed_nested}
use Rattle.nested_jobs.proofs.OneStep.{values_same}

in_left : (a : Place) (ps qs : List Place) → IsIn a ps → IsIn a (ps ++ qs)
in_left a [] qs has = absurd has
in_left a (p ∷ ps) qs has = ⊎_elim (λ e. inl e) (λ later. inr (in_left a ps qs later)) has

in_right : (a : Place) (ps qs : List Place) → IsIn a qs → IsIn a (ps ++ qs)
in_right a [] qs has = has
in_right a (p ∷ ps) qs has = inr (in_right a ps qs has)

-- ---- items by number

items : Place → ℕ → List Place
items p zero = []
items p (suc k) = (k ∷ p) ∷ items p k

item_in : (p : Place) (n k : ℕ) → k < n → IsIn (k ∷ p) (items p n)
unfolding items
item_in p zero k lt = absurd (omega arith)
item_in p (suc n) k lt = ⊎_elim
    (λ (e : n ≡ k). inl (ap (λ (i : ℕ). i ∷ p) e))
    (λ (less : k < n). inr (item_in p n k less))
    (last k n lt)
  where
    last : (k n : ℕ) → k < suc n → (n ≡ k) ⊎ (k < n)
    last k n h = grind arith

module _ {J W A : Type 0} (rs : Rules J W A) where
  -- ---- lists of places, by depth

  count_in : Mark J A → Values A → ℕ
  count_in Free v = 0
  count_in Busy v = 0
  count_in (Open job) v = rs.count job v
  count_in (Done answer) v = 0

  items_at : Marks J A → Place → List Place
  items_at m p = items p (count_in (opened rs m p p) (values (opened rs m p) p))

  below : Marks J A → List Place → List Place
  below m [] = []
  below m (p ∷ ps) = items_at m p ++ below m ps

  at_depth : Marks J A → ℕ → List Place
  at_depth m zero = [] ∷ []
  at_depth m (suc n) = below m (at_depth m n)

  pub down_to : Marks J A → ℕ → List Place
  down_to m zero = at_depth m zero
  down_to m (suc n) = at_depth m (suc n) ++ down_to m n

  -- ---- what stands in them

  in_below : (m : Marks J A) (p : Place) (k : ℕ) (ps : List Place) → IsIn p ps → IsIn (k ∷ p) (items_at m p) → IsIn (k ∷ p) (below m ps)
  unfolding below
  in_below m p k [] has at = absurd has
  in_below m p k (q ∷ ps) has at = ⊎_elim
      (λ (e : q ≡ p). in_left (k ∷ p) (items_at m q) (below m ps) (subst (λ (z : Place). IsIn (k ∷ p) (items_at m z)) (sym e) at))
      (λ (later : IsIn p ps). in_right (k ∷ p) (items_at m q) (below m ps) (in_below m p k ps later at))
      has

  in_down : (m : Marks J A) (n d : ℕ) (a : Place) → d ≤ n → IsIn a (at_depth m d) → IsIn a (down_to m n)
  unfolding down_to
  in_down m zero d a le at = let none : d ≡ zero = omega arith in subst (λ (k : ℕ). IsIn a (at_depth m k)) none at
  in_down m (suc n) d a le at = ⊎_elim
      (λ (e : d ≡ suc n). in_left a (at_depth m (suc n)) (down_to m n) (subst (λ (k : ℕ). IsIn a (at_depth m k)) e at))
      (λ (less : d ≤ n). in_right a (at_depth m (suc n)) (down_to m n) (in_down m n d a less at))
      (split d n le)
    where
      split : (d n : ℕ) → d ≤ suc n → (d ≡ suc n) ⊎ (d ≤ n)
      split d n h = grind arith

  opens_silent : (x : Mark J A) (t : Option (Task J W)) → answer_of (opens x t) ≡ answer_of x
  opens_silent Free None = refl
  opens_silent Free (Some (Work a)) = refl
  opens_silent Free (Some (Call c)) = refl
  opens_silent Busy t = refl
  opens_silent (Open c) t = refl
  opens_silent (Done a) t = refl

  begins_silent : (x : Mark J A) (t : Option (Task J W)) → answer_of (begins x t) ≡ answer_of x
  begins_silent Free None = refl
  begins_silent Free (Some (Work a)) = refl
  begins_silent Free (Some (Call c)) = refl
  begins_silent Busy t = refl
  begins_silent (Open c) t = refl
  begins_silent (Done a) t = refl

  module _ (rank : J → ℕ) (law : Lawful rs rank) (top : J) (m : Marks J A) (nested : Nested rs top m) where
    -- the job of an item with a task is open once its way is opened, and the item stands among those of the job
    task_in_items : (k : ℕ) (p : Place) (y : Mark J A) (t : Task J W) → answer_of y ≡ answer_of (opened rs m p (k ∷ p)) → InJob rs (put (opened rs m p) (k ∷ p) y) k p t
        → ((j : J) × (opened rs m p p ≡ Open j)) × IsIn (k ∷ p) (items_at m p)
    unfolding items_at count_in
    task_in_items k p y t silent job =
        let n : Marks J A = opened rs m p in
        let same : values (put n (k ∷ p) y) p ≡ values n p = values_same n (k ∷ p) y p silent in
        let is_open : n p ≡ Open job.job = sym (put_other n (k ∷ p) y p (cons_ne k p)) ∙ job.is_open in
        let has : rs.rule job.job (values n p) k ≡ Some t = subst (λ (v : Values A). rs.rule job.job v k ≡ Some t) same job.has_task in
        let low : k < rs.count job.job (values n p) = law.counts job.job (values n p) k t has in
        let many : count_in (n p) (values n p) ≡ rs.count job.job (values n p) = ap (λ (x : Mark J A). count_in x (values n p)) is_open in
        ((job.job, is_open), item_in p (count_in (n p) (values n p)) k (omega arith))

    open_at_depth : (p : Place) (j : J) → opened rs m p p ≡ Open j → IsIn p (at_depth m (length p))
    unfolding at_depth
    open_at_depth [] j o = inl refl
    open_at_depth (k ∷ p) j o =
        let n : Marks J A = opened rs m p in
        let y : Mark J A = opens (n (k ∷ p)) (task_at rs n k p) in
        let job = of_open rs rank law top (put n (k ∷ p) y) k p j (opened_nested rs rank law top m (k ∷ p) nested) o in
        let t = task_in_items k p y (Call j) (opens_silent (n (k ∷ p)) (task_at rs n k p)) job in
        in_below m p k (at_depth m (length p)) (open_at_depth p t.0.0 t.0.1) t.1

    item_at_depth : (k : ℕ) (p : Place) (j : J) → opened rs m p p ≡ Open j → IsIn (k ∷ p) (items_at m p) → IsIn (k ∷ p) (at_depth m (suc (length p)))
    unfolding at_depth
    item_at_depth k p j o at = in_below m p k (at_depth m (length p)) (open_at_depth p j o) at

    -- each enabled item stands among those of the rank of the top job and one level more
    pub enabled_in : (a : Place) → IsEnabled rs m a → IsIn a (down_to m (suc (rank top)))
    enabled_in [] e = absurd (top_not_free rs rank law top m nested e.0)
    enabled_in (k ∷ p) e =
        let n : Marks J A = opened rs m p in
        let y : Mark J A = begins (n (k ∷ p)) (task_at rs n k p) in
        let busy = of_busy rs rank law top (put n (k ∷ p) y) k p (claimed_nested rs rank law top m (k ∷ p) nested) e.1 in
        let t = task_in_items k p y (Work busy.0) (begins_silent (n (k ∷ p)) (task_at rs n k p)) busy.1 in
        let low = deep rs rank law top n p t.0.0 (opened_nested rs rank law top m p nested) t.0.1 in
        in_down m (suc (rank top)) (suc (length p)) (k ∷ p) (omega arith) (item_at_depth k p t.0.0 t.0.1 t.1)
