-- Legal journals with one step more, and their beginnings.
use Rattle.std.proofs.Common.{◌≡◌, ◌≢◌, ◌⊎◌, ℕ, true, false, cond, eqb, Option, List, [], ◌∷◌, ◌++◌, refl, inl, inr}
use Rattle.std.proofs.lemmas.Bool.{eqb-true, eq-eqb}
use Rattle.nested_jobs.specs.Rules.{Place, Rules}
use Rattle.nested_jobs.specs.Journals.{Allowed, Entry, LegalFrom, State, after, assign, start, state_from}
use Rattle.job_rules.specs.Doing.{Answers}
use Rattle.board_rules.specs.Entries.{BoardState, Step}
use Rattle.board_rules.specs.Keys.{Key, rules, top_job}
use Rattle.board_rules.specs.Legal.{AreLegal, ArePickedFrom, IsPicked, state_after}

pub assign_at : (running : ℕ → Option Place) (w : ℕ) (r : Option Place) (u : ℕ) → ((w ≡ u) × (assign running w r u ≡ r)) ⊎ ((w ≢ u) × (assign running w r u ≡ running u))
assign_at running w r u =
    elim (eqb w u) as (λ b. eqb w u ≡ b → ((w ≡ u) × (cond b r (running u) ≡ r)) ⊎ ((w ≢ u) × (cond b r (running u) ≡ running u))) [
      | true ↦ λ e. inl (eqb-true w u e, refl)
      | false ↦ λ e. inr ((λ f. let t = eq-eqb w u f in cc), refl)
    ]
    refl

module _ {J W A : Type 0} (rs : Rules J W A) where
  pub state_then : (s : State J A) (es fs : List (Entry A)) → state_from rs s (es ++ fs) ≡ state_from rs (state_from rs s es) fs
  state_then s [] fs = refl
  state_then s (x ∷ es) fs = state_then (after rs s x) es fs

  module _ (answers : W → A → Type 0) (workers : ℕ) where
    front_allowed : (s : State J A) (es fs : List (Entry A)) → LegalFrom rs answers workers s (es ++ fs) → LegalFrom rs answers workers s es
    front_allowed s [] fs h = tt
    front_allowed s (x ∷ es) fs h = (h.0, front_allowed (after rs s x) es fs h.1)

    last_allowed : (s : State J A) (es : List (Entry A)) (e : Entry A) → LegalFrom rs answers workers s (es ++ e ∷ []) → Allowed rs answers workers (state_from rs s es) e
    last_allowed s [] e h = h.0
    last_allowed s (x ∷ es) e h = last_allowed (after rs s x) es e h.1

    more_allowed : (s : State J A) (es : List (Entry A)) (e : Entry A) → LegalFrom rs answers workers s es → Allowed rs answers workers (state_from rs s es) e → LegalFrom rs answers workers s (es ++ e ∷ [])
    more_allowed s [] e h ok = (ok, tt)
    more_allowed s (x ∷ es) e h ok = (h.0, more_allowed (after rs s x) es e h.1 ok)

module _ (key : Key) where
  front_picked : (s : BoardState) (es fs : List Step) → ArePickedFrom key s (es ++ fs) → ArePickedFrom key s es
  front_picked s [] fs h = tt
  front_picked s (x ∷ es) fs h = (h.0, front_picked (after (rules key) s x) es fs h.1)

  last_picked : (s : BoardState) (es : List Step) (e : Step) → ArePickedFrom key s (es ++ e ∷ []) → IsPicked key (state_from (rules key) s es) e
  last_picked s [] e h = h.0
  last_picked s (x ∷ es) e h = last_picked (after (rules key) s x) es e h.1

  more_picked : (s : BoardState) (es : List Step) (e : Step) → ArePickedFrom key s es → IsPicked key (state_from (rules key) s es) e → ArePickedFrom key s (es ++ e ∷ [])
  more_picked s [] e h ok = (ok, tt)
  more_picked s (x ∷ es) e h ok = (h.0, more_picked (after (rules key) s x) es e h.1 ok)

  abbrev pub May : BoardState → Step → Type 0
  May s e = Allowed (rules key) (Answers key.graphs.graphs) key.workers s e

  pub next_state : (taken : List Step) (e : Step) → state_after key (taken ++ e ∷ []) ≡ after (rules key) (state_after key taken) e
  next_state taken e = state_then (rules key) (start (top_job key)) taken (e ∷ [])

  pub legal_front : (taken more : List Step) → AreLegal key (taken ++ more) → AreLegal key taken
  legal_front taken more h = record {
    allowed = front_allowed (rules key) (Answers key.graphs.graphs) key.workers (start (top_job key)) taken more h.allowed;
    picked = front_picked (start (top_job key)) taken more h.picked;
  }

  pub legal_last : (taken : List Step) (e : Step) → AreLegal key (taken ++ e ∷ []) → May (state_after key taken) e
  legal_last taken e h = last_allowed (rules key) (Answers key.graphs.graphs) key.workers (start (top_job key)) taken e h.allowed

  pub pick_last : (taken : List Step) (e : Step) → AreLegal key (taken ++ e ∷ []) → IsPicked key (state_after key taken) e
  pick_last taken e h = last_picked (start (top_job key)) taken e h.picked

  pub legal_more : (taken : List Step) (e : Step) → AreLegal key taken → May (state_after key taken) e → IsPicked key (state_after key taken) e → AreLegal key (taken ++ e ∷ [])
  legal_more taken e h may pick = record {
    allowed = more_allowed (rules key) (Answers key.graphs.graphs) key.workers (start (top_job key)) taken e h.allowed may;
    picked = more_picked (start (top_job key)) taken e h.picked pick;
  }
