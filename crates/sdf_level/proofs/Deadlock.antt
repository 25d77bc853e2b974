-- Firing whatever can fire decides deadlock: a list after which no actor can fire holds each actor at least as often as any list within the counts.
use Rattle.std.proofs.Common.{◌≡◌, ◌≢◌, ℕ, ◌+◌, ◌<◌, ◌≤◌, ⊎_elim, List, [], ◌∷◌, ◌++◌, slice_index, arith}
use Rattle.std.proofs.lemmas.Bool.{cases_eq, cases_lt}
use Rattle.sdf_level.specs.View.{LevelView}
use Rattle.sdf_level.specs.Firings.{firings, CanFire, EachFiring, EachCanFire}
use Rattle.sdf_level.specs.Orders.{IsStuck, IsAdmissible}
use Rattle.sdf_level.proofs.FiringLists.{firings-moved, firings-own, firings-snoc_own, firings-snoc_other, CanFireAfter-more}

module _ (level : LevelView) (q stuck : List ℕ) (is_stuck : IsStuck level q stuck) where
  -- one firing that the stuck list has too
  step_below : (done : List ℕ) (b : ℕ) → ((a : ℕ) → firings a done ≤ firings a stuck) → firings b done < firings b stuck → (a : ℕ) → firings a (done ++ b ∷ []) ≤ firings a stuck
  step_below done b below here a =
      let own : firings b (done ++ b ∷ []) ≤ firings b stuck = let m = firings-snoc_own b done in omega arith in
      ⊎_elim
      (λ (e : b ≡ a). rw (← e) own)
      (λ (n : b ≢ a). let m = firings-snoc_other a b done n in let h = below a in omega arith)
      (cases_eq b a)

  walk : (done rest : List ℕ) → ((a : ℕ) → firings a done ≤ firings a stuck) → ((a : ℕ) → firings a done + firings a rest ≤ slice_index q a) → EachFiring (CanFire level) done rest → (a : ℕ) → firings a done + firings a rest ≤ firings a stuck
  walk done [] below within each a = let h = below a in omega arith
  walk done (b ∷ rest) below within each a =
      ⊎_elim
      (λ (here : firings b done < firings b stuck).
      let more = walk (done ++ b ∷ []) rest (step_below done b below here) (λ c. let h = within c in let e = firings-moved c b done rest in omega arith) each.1 a in
      let e = firings-moved a b done rest in omega arith)
      (λ (none : firings b stuck ≤ firings b done). absurd (is_stuck.no_more b record {
        left = let h = below b in
            let own = firings-own b rest in
            let w = within b in
            omega arith;
        can_fire = CanFireAfter-more level (λ c. firings c done) (λ c. firings c stuck) b (let h = below b in let e : firings b done ≡ firings b stuck = omega arith in e) below each.0;
      }))
      (cases_lt (firings b done) (firings b stuck))

  -- no list within the counts fires an actor more often
  pub stuck_dominates : (list : List ℕ) → ((a : ℕ) → firings a list ≤ slice_index q a) → EachCanFire level list → (a : ℕ) → firings a list ≤ firings a stuck
  stuck_dominates list within each a = let h = walk [] list (λ a. omega arith) (λ a. let h = within a in omega arith) each a in omega arith

-- two stuck lists leave the same counts
pub stuck_agree : (level : LevelView) (q list other : List ℕ) → IsStuck level q list → IsStuck level q other → (a : ℕ) → firings a list ≡ firings a other
stuck_agree level q list other s o a =
    let h = stuck_dominates level q other o list s.within s.each a in
    let k = stuck_dominates level q list s other o.within o.each a in
    omega arith

-- where an admissible list exists, a stuck list has fired every actor its count
pub stuck_is_done : (level : LevelView) (q stuck list : List ℕ) → IsStuck level q stuck → IsAdmissible level q list → (a : ℕ) → firings a stuck ≡ slice_index q a
stuck_is_done level q stuck list s l a =
    let h = stuck_dominates level q stuck s list (λ c. let e = l.counts c in omega arith) l.each a in
    let e = l.counts a in let w = s.within a in omega arith
