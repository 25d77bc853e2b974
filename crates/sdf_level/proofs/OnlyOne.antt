-- There is at most one of each: base vector, least factor, repetition vector, one-thread order, counts left.
use Rattle.std.proofs.Common.{◌≡◌, ℕ, suc, ◌+◌, ◌*◌, ◌<◌, ◌≤◌, ⊎_elim, List, [], ◌∷◌, ◌++◌, length, slice_index, refl, ap, sym, ◌∙◌, subst, arith}
use Rattle.std.proofs.lemmas.Bool.{cases_lt}
use Rattle.sdf_level.specs.View.{LevelView}
use Rattle.sdf_level.specs.Balance.{IsBase}
use Rattle.sdf_level.specs.Repetition.{IsLeastFactor, IsBaseMultiplied, IsRepetition}
use Rattle.sdf_level.specs.Firings.{firings, CanFire, EachFiring, turns_of}
use Rattle.sdf_level.specs.Orders.{CanStand, IsLeast, IsOrder, IsTurnOrder, IsLeft}
use Rattle.sdf_level.specs.declared.turn.Turn.{Turn}
use Rattle.sdf_level.proofs.FiringLists.{firings-own, firings-moved}
use Rattle.sdf_level.proofs.Deadlock.{stuck_agree}

-- lists of one length with the same entries
pub same_list : (xs ys : List ℕ) → length xs ≡ length ys → ((a : ℕ) → a < length xs → slice_index xs a ≡ slice_index ys a) → xs ≡ ys
same_list [] [] long same = refl
same_list [] (y ∷ ys) long same = absurd (omega arith)
same_list (x ∷ xs) [] long same = absurd (omega arith)
same_list (x ∷ xs) (y ∷ ys) long same =
    let first : x ≡ y = same 0 (omega arith) in
    let rest : xs ≡ ys = same_list xs ys (omega arith) (λ a h. same (suc a) (omega arith)) in
    rw (first, rest) refl

pub base_only : (level : LevelView) (p q : List ℕ) → IsBase level p → IsBase level q → p ≡ q
base_only level p q f g = same_list p q (f.solves.one_each ∙ sym g.solves.one_each) (λ a h. let x = f.least q g.solves a in let y = g.least p f.solves a in omega arith)

pub factor_only : (level : LevelView) (base : List ℕ) (a m n : ℕ) → IsLeastFactor level base a m → IsLeastFactor level base a n → m ≡ n
factor_only level base a m n f g = let x = f.least n g.factor in let y = g.least m f.factor in omega arith

pub repetition_only : (level : LevelView) (p q : List ℕ) → IsRepetition level p → IsRepetition level q → p ≡ q
repetition_only level p q f g =
    let base : g.base ≡ f.base = base_only level g.base f.base g.is_base f.is_base in
    let P : List ℕ → Type 0 = λ b. IsBaseMultiplied level b q in
    let other : IsBaseMultiplied level f.base q = subst P base g.multiplied in
    same_list p q (f.multiplied.one_each ∙ sym other.one_each) (λ a h.
    let below : a < level.actors = let e = f.multiplied.one_each in omega arith in
    let x = f.multiplied.entries a below in
    let y = other.entries a below in
    let same = factor_only level f.base a x.factor y.factor x.least y.least in
    x.product ∙ ap (λ m. m * slice_index f.base a) same ∙ sym y.product)

module _ (level : LevelView) (q : List ℕ) where
  -- what stands in a place of a list within the counts can stand there
  stands : (before rest : List ℕ) (b : ℕ) → ((a : ℕ) → firings a before + firings a (b ∷ rest) ≡ slice_index q a) → CanFire level before b → CanStand level q before b
  stands before rest b counts can = record { left = let own = firings-own b rest in let c = counts b in omega arith; can_fire = can }

  walk : (before one other : List ℕ) → ((a : ℕ) → firings a before + firings a one ≡ slice_index q a) → ((a : ℕ) → firings a before + firings a other ≡ slice_index q a) →
      EachFiring (CanFire level) before one → EachFiring (CanFire level) before other → EachFiring (IsLeast level q) before one → EachFiring (IsLeast level q) before other → one ≡ other
  walk before [] [] c d f g k l = refl
  walk before [] (b ∷ other) c d f g k l = let own = firings-own b other in let x = c b in let y = d b in absurd (omega arith)
  walk before (a ∷ one) [] c d f g k l = let own = firings-own a one in let x = c a in let y = d a in absurd (omega arith)
  walk before (a ∷ one) (b ∷ other) c d f g k l =
      let here : a ≡ b = ⊎_elim
      (λ (less : a < b). absurd (l.0 a less (stands before one a c f.0)))
      (λ (more : b ≤ a). ⊎_elim
      (λ (less : b < a). absurd (k.0 b less (stands before other b d g.0)))
      (λ (less : a ≤ b). let e : a ≡ b = omega arith in e)
      (cases_lt b a))
      (cases_lt a b) in
      let P : ℕ → Type 0 = λ x. EachFiring (CanFire level) (before ++ x ∷ []) other in
      let Q : ℕ → Type 0 = λ x. EachFiring (IsLeast level q) (before ++ x ∷ []) other in
      let R : ℕ → Type 0 = λ x. (e : ℕ) → firings e before + firings e (x ∷ other) ≡ slice_index q e in
      let counts = subst R (sym here) d in
      let rest = walk (before ++ a ∷ []) one other
      (λ e. let m = firings-moved e a before one in let x = c e in omega arith)
      (λ e. let m = firings-moved e a before other in let x = counts e in omega arith)
      f.1 (subst P (sym here) g.1) k.1 (subst Q (sym here) l.1) in
      rw (here, rest) refl

  pub order_only : (one other : List ℕ) → IsOrder level q one → IsOrder level q other → one ≡ other
  order_only one other f g =
      walk [] one other
      (λ a. let c = f.admissible.counts a in omega arith)
      (λ a. let c = g.admissible.counts a in omega arith)
      f.admissible.each g.admissible.each f.least g.least

  pub turn_order_only : (one other : List Turn) → IsTurnOrder level q one → IsTurnOrder level q other → one ≡ other
  turn_order_only one other f g = f.numbered ∙ ap turns_of (order_only _ _ f.order g.order) ∙ sym g.numbered

  pub left_only : (one other : List ℕ) → IsLeft level q one → IsLeft level q other → one ≡ other
  left_only one other f g = same_list one other (f.one_each ∙ sym g.one_each) (λ a h.
      let e = stuck_agree level q f.list g.list f.stuck g.stuck a in
      let x = f.each a in
      let y = g.each a in
      omega arith)
