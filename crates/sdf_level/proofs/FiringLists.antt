-- Lists of firings: one firing more, and more firings of the others.
use Rattle.std.proofs.Common.{◌≡◌, ◌≢◌, ℕ, ◌+◌, ◌*◌, ◌<◌, ◌≤◌, ⊎_elim, List, [], ◌∷◌, ◌++◌, ap, sym, ◌∙◌, refl, append_assoc, arith}
use Rattle.std.proofs.lemmas.Bool.{cases_eq, cases_lt, eq-eqb, ne_eqb}
use Rattle.std.proofs.lemmas.List.{append-nil}
use Rattle.std.proofs.Math.Nat.{mul-le-mul_left}
use Rattle.sdf_level.specs.View.{LevelView}
use Rattle.sdf_level.specs.Links.{Inner}
use Rattle.sdf_level.specs.Firings.{firings, EachFiring, HasTokens, IsReady, CanFireAfter}
use Rattle.sdf_level.proofs.InnerLinks.{EachInner-map}

-- a firing counts the same at the end of what went before as at the start of the rest
pub firings-moved : (a b : ℕ) (before rest : List ℕ) → firings a (before ++ b ∷ []) + firings a rest ≡ firings a before + firings a (b ∷ rest)
firings-moved a b [] rest = omega arith
firings-moved a b (x ∷ before) rest = let e = firings-moved a b before rest in omega arith

pub firings-own : (a : ℕ) (rest : List ℕ) → firings a (a ∷ rest) ≡ 1 + firings a rest
firings-own a rest = rw (eq-eqb a a refl)

pub firings-of_other : (a b : ℕ) (rest : List ℕ) → b ≢ a → firings a (b ∷ rest) ≡ firings a rest
firings-of_other a b rest h = rw (ne_eqb b a h) (omega arith)

pub firings-snoc_own : (a : ℕ) (list : List ℕ) → firings a (list ++ a ∷ []) ≡ firings a list + 1
firings-snoc_own a list = let m = firings-moved a a list [] in let one = firings-own a [] in omega arith

pub firings-snoc_other : (a b : ℕ) (list : List ℕ) → b ≢ a → firings a (list ++ b ∷ []) ≡ firings a list
firings-snoc_other a b list n = let m = firings-moved a b list [] in let none = firings-of_other a b [] n in omega arith

pub firings-snoc_more : (a b : ℕ) (list : List ℕ) → firings a list ≤ firings a (list ++ b ∷ [])
firings-snoc_more a b list = let m = firings-moved a b list [] in omega arith

-- firing k of an actor stands somewhere in the list
pub firing_at : (P : List ℕ → ℕ → Type 0) (before rest : List ℕ) (b k : ℕ) → EachFiring P before rest → firings b before ≤ k → k < firings b before + firings b rest → (at : List ℕ) × (firings b at ≡ k) × P at b
firing_at P before [] b k each low high = absurd (omega arith)
firing_at P before (a ∷ rest) b k each low high =
    let next = firings-moved b a before rest in
    ⊎_elim
    (λ (e : a ≡ b). ⊎_elim
    (λ (here : firings b before < k). firing_at P (before ++ a ∷ []) rest b k each.1 (rw e (let s = firings-snoc_own b before in omega arith)) (omega arith))
    (λ (past : k ≤ firings b before). (before, omega arith, rw e at each.0))
    (cases_lt (firings b before) k))
    (λ (n : a ≢ b). firing_at P (before ++ a ∷ []) rest b k each.1 (let s = firings-snoc_other b a before n in omega arith) (omega arith))
    (cases_eq a b)

HasTokens-more : (link : Inner) (f g : ℕ → ℕ) → f link.tail ≤ g link.tail → f link.head ≡ g link.head → HasTokens f link → HasTokens g link
HasTokens-more link f g tail head has = let puts : link.produced * f link.tail ≤ link.produced * g link.tail = mul-le-mul_left link.produced tail in rw (← head) (omega arith)

-- more firings of the others take no tokens away
pub CanFireAfter-more : (level : LevelView) (f g : ℕ → ℕ) (b : ℕ) → f b ≡ g b → ((a : ℕ) → f a ≤ g a) → CanFireAfter level f b → CanFireAfter level g b
CanFireAfter-more level f g b own more =
    EachInner-map {P = IsReady f b} {Q = IsReady g b}
    (λ link has into. HasTokens-more link f g (more link.tail) (let e : f link.head ≡ g link.head = ap f into ∙ own ∙ sym (ap g into) in e) (has into)) level.links

module _ (P : List ℕ → ℕ → Type 0) where
  pub EachFiring-snoc : (before rest : List ℕ) (b : ℕ) → EachFiring P before rest → P (before ++ rest) b → EachFiring P before (rest ++ b ∷ [])
  EachFiring-snoc before [] b each last = (rw append-nil at last, tt)
  EachFiring-snoc before (a ∷ rest) b each last = (each.0, EachFiring-snoc (before ++ a ∷ []) rest b each.1 (rw append_assoc last))
