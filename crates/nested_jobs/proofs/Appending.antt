-- Journals with one entry more at their end.
use Rattle.std.proofs.Common.{◌≡◌, ℕ, List, [], ◌∷◌, ◌++◌, refl}
use Rattle.nested_jobs.specs.Rules.{Rules}
use Rattle.nested_jobs.specs.Journals.{Entry, State, after, state_from, Allowed, LegalFrom, Answered, AnsweredFrom}
use Rattle.nested_jobs.specs.Pick.{IsPreferred, ArePreferredFrom}

module _ {J W A : Type 0} (rs : Rules J W A) where
  pub state-snoc : (s : State J A) (es : List (Entry A)) (e : Entry A) → state_from rs s (es ++ e ∷ []) ≡ after rs (state_from rs s es) e
  state-snoc s [] e = refl
  state-snoc s (x ∷ es) e = state-snoc (after rs s x) es e

  pub legal-snoc : (answers : W → A → Type 0) (workers : ℕ) (s : State J A) (es : List (Entry A)) (e : Entry A)
      → LegalFrom rs answers workers s es → Allowed rs answers workers (state_from rs s es) e → LegalFrom rs answers workers s (es ++ e ∷ [])
  legal-snoc answers workers s [] e h ok = (ok, tt)
  legal-snoc answers workers s (x ∷ es) e h ok = (h.0, legal-snoc answers workers (after rs s x) es e h.1 ok)

  pub answered-snoc : (answers : W → A → Type 0) (s : State J A) (es : List (Entry A)) (e : Entry A) → AnsweredFrom rs answers s es → Answered rs answers (state_from rs s es) e → AnsweredFrom rs answers s (es ++ e ∷ [])
  answered-snoc answers s [] e h ok = (ok, tt)
  answered-snoc answers s (x ∷ es) e h ok = (h.0, answered-snoc answers (after rs s x) es e h.1 ok)

  pub pick-snoc : (s : State J A) (es : List (Entry A)) (e : Entry A) → ArePreferredFrom rs s es → IsPreferred rs (state_from rs s es) e → ArePreferredFrom rs s (es ++ e ∷ [])
  pick-snoc s [] e h ok = (ok, tt)
  pick-snoc s (x ∷ es) e h ok = (h.0, pick-snoc (after rs s x) es e h.1 ok)
