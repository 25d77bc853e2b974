-- What a worker runs, told by the journal: only its own steps change that, and the work stays the same.
use Rattle.std.proofs.Common.{◌≡◌, ◌≢◌, ⊎_elim, ℕ, Bool, true, false, cond, Option, Some, None, List, [], ◌∷◌, ◌++◌, refl, sym, ap, ◌∙◌, subst, append_assoc}
use Rattle.std.specs.Prelude.{is_some}
use Rattle.std.proofs.lemmas.Bool.{eq-eqb, ne_eqb}
use Rattle.std.proofs.lemmas.List.{append-nil}
use native.Mathlib.Decide.{ℕ_discrete}
use Rattle.pisdf_model.specs.declared.graph.Graph.{Graph}
use Rattle.pisdf_meaning.specs.declared.firing.Firing.{Firing}
use Rattle.nested_jobs.specs.Rules.{Place, Rules, Work}
use Rattle.nested_jobs.specs.Steps.{claimed}
use Rattle.nested_jobs.specs.Journals as steps
use Rattle.nested_jobs.specs.Journals.{Allowed, LegalFrom, after, assign, finish_of, start, state_from, task_of}
use Rattle.nested_jobs.specs.Invariants.{Keeps}
use Rattle.nested_jobs.specs.Meanings.{Lawful}
use Rattle.nested_jobs.proofs.Nesting.{claimed_nested, of_busy}
use Rattle.nested_jobs.proofs.OneStep.{task_stays}
use Rattle.nested_jobs.proofs.Running.{after_keeps, assign_at, from_keeps, start_keeps}
use Rattle.job_rules.specs.Doing.{Answers}
use Rattle.job_rules.specs.Items.{graph_of}
use Rattle.job_rules.specs.Meant.{rank}
use Rattle.job_rules.specs.Words as words
use Rattle.job_rules.specs.Words.{Answer}
use Rattle.board_lock.specs.Meant.{entries_of}
use Rattle.board_rules.specs.Keys.{IsKey, Key, rules, top_job}
use Rattle.board_rules.specs.Entries.{BoardState, Step, claim_in, entry_of, item_of}
use Rattle.board_rules.specs.Legal.{AreLegal, ArePickedFrom, HasEnded, entries_from, journal_of, state_after}
use Rattle.board_rules.specs.Laws.{JournalsTellSteps}
use Rattle.board_rules.specs.declared.entry.Entry.{Entry}
use Rattle.board_rules.specs.declared.entry.Entry.TheVariants.{Claim, Finish}
use Rattle.board_rules.specs.declared.entry.ItemName.{ItemName}
use Rattle.firing_board.specs.Locking.{worker_of}
use Rattle.firing_board.specs.Runs.{RunsWork}
use Rattle.worker_crew.specs.Passes.{last_claims}
use Rattle.worker_crew.specs.Laws.{BoardLaws}

-- ---- entries of one worker

pub mine_first : (w : ℕ) (e : Entry) (es : List Entry) → worker_of e ≡ w → entries_of worker_of w (e ∷ es) ≡ e ∷ entries_of worker_of w es
mine_first w e es is = ap (λ (b : Bool). cond b (e ∷ entries_of worker_of w es) (entries_of worker_of w es)) (eq-eqb (worker_of e) w is)

pub other_first : (w : ℕ) (e : Entry) (es : List Entry) → worker_of e ≢ w → entries_of worker_of w (e ∷ es) ≡ entries_of worker_of w es
other_first w e es ne = ap (λ (b : Bool). cond b (e ∷ entries_of worker_of w es) (entries_of worker_of w es)) (ne_eqb (worker_of e) w ne)

pub none_mine : (w : ℕ) (e : Entry) (es : List Entry) → entries_of worker_of w (e ∷ es) ≡ [] → (worker_of e ≢ w) × (entries_of worker_of w es ≡ [])
none_mine w e es none = elim (ℕ_discrete (worker_of e) w) [
  | yes is ↦ (let no : e ∷ entries_of worker_of w es ≡ [] = sym (mine_first w e es is) ∙ none in absurd (cc))
  | no ne ↦ (ne, sym (other_first w e es ne) ∙ none)
]

-- ---- the steps of a board

module _ (key : Key) (lawful : Lawful (rules key) (rank key.graphs.graphs)) (tell : JournalsTellSteps) where
  abbrev G : List Graph
  G = key.graphs.graphs

  abbrev R : Rules Firing words.Work Answer
  R = rules key

  abbrev Kept : BoardState → Type 0
  Kept s = Keeps R (top_job key) key.workers s

  abbrev May : BoardState → Step → Type 0
  May s e = Allowed R (Answers G) key.workers s e

  abbrev Go : BoardState → List Step → Type 0
  Go s es = LegalFrom R (Answers G) key.workers s es

  step_kept : (s : BoardState) (e : Step) → Kept s → May s e → Kept (after R s e)
  step_kept s e kept may = after_keeps R (rank G) lawful (top_job key) key.workers (Answers G) s e kept may

  start_kept : Kept (start (top_job key))
  start_kept = start_keeps R (rank G) lawful (top_job key) key.workers

  abbrev step_worker : Step → ℕ
  step_worker (steps.Claim w a) = w
  step_worker (steps.Finish w answer) = w

  abbrev is_claim : Step → Bool
  is_claim (steps.Claim w a) = true
  is_claim (steps.Finish w answer) = false

  -- ---- each step has one entry, of its worker

  record OneEntry (s : BoardState) (e : Step) : Type 0 where
    entry : Entry
    entry_is : entry_of key s e ≡ entry ∷ []
    worker_is : worker_of entry ≡ step_worker e
    kind_is : (b : Bool) (es : List Entry) → last_claims b (entry ∷ es) ≡ last_claims (is_claim e) es

  one_entry : (s : BoardState) (e : Step) → Kept s → May s e → OneEntry s e
  one_entry s (steps.Claim w []) kept may = let free = may.enabled.0 in let busy = may.enabled.1 in absurd (cc)
  one_entry s (steps.Claim w (i ∷ p)) kept may =
      let nested = claimed_nested R (rank G) lawful (top_job key) s.marks (i ∷ p) kept.nested in
      let busy = of_busy R (rank G) lawful (top_job key) (claimed R s.marks (i ∷ p)) i p nested may.enabled.1 in
      record { entry = Claim w busy.1.job.path (item_of (graph_of G busy.1.job) i); entry_is = ap (claim_in key w i) busy.1.is_open; worker_is = refl; kind_is = λ b es. refl }
  one_entry s (steps.Finish w answer) kept may = record { entry = Finish w; entry_is = refl; worker_is = refl; kind_is = λ b es. refl }

  abbrev rest_entries : BoardState → Step → List Step → List Entry
  rest_entries s e es = entries_from key (after R s e) es

  entries_cons : (s : BoardState) (e : Step) (es : List Step) (one : OneEntry s e) → entries_from key s (e ∷ es) ≡ one.entry ∷ rest_entries s e es
  entries_cons s e es one = ap (λ (z : List Entry). z ++ rest_entries s e es) one.entry_is

  -- ---- what a worker runs

  other_step : (s : BoardState) (e : Step) (w : ℕ) → step_worker e ≢ w → (after R s e).running w ≡ s.running w
  other_step s (steps.Claim v a) w ne = ⊎_elim (λ t. absurd (ne t.0)) (λ t. t.1) (assign_at s.running v (Some a) w)
  other_step s (steps.Finish v answer) w ne = go (s.running v)
    where
      go : (r : Option Place) → (finish_of R s v answer r).running w ≡ s.running w
      go None = refl
      go (Some a) = ⊎_elim (λ t. absurd (ne t.0)) (λ t. t.1) (assign_at s.running v None w)

  own_step : (s : BoardState) (e : Step) (w : ℕ) → May s e → step_worker e ≡ w → is_some ((after R s e).running w) ≡ is_claim e
  own_step s (steps.Claim v a) w may mine = ⊎_elim (λ t. ap is_some t.1) (λ t. absurd (t.0 mine)) (assign_at s.running v (Some a) w)
  own_step s (steps.Finish v answer) w may mine =
      ap (λ (r : Option Place). is_some ((finish_of R s v answer r).running w)) may.runs
      ∙ ⊎_elim (λ t. ap is_some t.1) (λ t. absurd (t.0 mine)) (assign_at s.running v None w)

  -- a worker runs something where its last entry is a claim
  runs_told : (s : BoardState) (es : List Step) (w : ℕ) (b : Bool) → Kept s → Go s es → is_some (s.running w) ≡ b → last_claims b (entries_of worker_of w (entries_from key s es)) ≡ is_some ((state_from R s es).running w)
  runs_told s [] w b kept legal was = sym was
  runs_told s (e ∷ es) w b kept legal was =
      let one = one_entry s e kept legal.0 in
      let next = step_kept s e kept legal.0 in
      let tail : List Entry = rest_entries s e es in
      ap (λ (z : List Entry). last_claims b (entries_of worker_of w z)) (entries_cons s e es one)
      ∙ elim (ℕ_discrete (step_worker e) w) [
        | yes mine ↦ ap (last_claims b) (mine_first w one.entry tail (one.worker_is ∙ mine)) ∙ (one.kind_is b (entries_of worker_of w tail) ∙ runs_told (after R s e) es w (is_claim e) next legal.1 (own_step s e w legal.0 mine))
        | no ne ↦ ap (last_claims b) (other_first w one.entry tail (λ q. ne (sym one.worker_is ∙ q))) ∙ runs_told (after R s e) es w b next legal.1 (ap is_some (other_step s e w ne) ∙ was)
      ]

  pub told_running : (taken : List Step) (w : ℕ) → AreLegal key taken → last_claims false (entries_of worker_of w (journal_of key taken)) ≡ is_some ((state_after key taken).running w)
  told_running taken w legal = runs_told (start (top_job key)) taken w false start_kept legal.allowed refl

  -- ---- with no step of its own, a worker runs the same

  abbrev RunsAt : BoardState → ℕ → Place → words.Work → Type 0
  RunsAt s w a work = (s.running w ≡ Some a) × (task_of R s.marks a ≡ Some (Work work))

  stays : (s : BoardState) (es : List Step) (w : ℕ) (a : Place) (work : words.Work) → Kept s → Go s es → entries_of worker_of w (entries_from key s es) ≡ [] → RunsAt s w a work → RunsAt (state_from R s es) w a work
  stays s [] w a work kept legal none runs = runs
  stays s (e ∷ es) w a work kept legal none runs =
      let one = one_entry s e kept legal.0 in
      let others = none_mine w one.entry (rest_entries s e es) (sym (ap (entries_of worker_of w) (entries_cons s e es one)) ∙ none) in
      let still : (after R s e).running w ≡ Some a = other_step s e w (λ q. others.0 (one.worker_is ∙ q)) ∙ runs.0 in
      let task = task_stays R (rank G) lawful (top_job key) key.workers (Answers G) s e w a (Work work) kept legal.0 runs.0 still runs.1 in
      stays (after R s e) es w a work (step_kept s e kept legal.0) legal.1 others.1 (still, task)

  -- ---- a journal that begins with another

  record Split (s : BoardState) (es : List Step) (before more : List Entry) : Type 0 where
    first : List Step
    rest : List Step
    es_is : es ≡ first ++ rest
    first_is : entries_from key s first ≡ before
    rest_is : entries_from key (state_from R s first) rest ≡ more
    first_legal : Go s first
    first_picked : ArePickedFrom key s first
    rest_legal : Go (state_from R s first) rest
    state_is : state_from R s es ≡ state_from R (state_from R s first) rest

  split : (s : BoardState) (es : List Step) (before more : List Entry) → Kept s → Go s es → ArePickedFrom key s es → entries_from key s es ≡ before ++ more → Split s es before more
  split s es [] more kept legal picked same = record { first = []; rest = es; es_is = refl; first_is = refl; rest_is = same; first_legal = tt; first_picked = tt; rest_legal = legal; state_is = refl }
  split s [] (x ∷ before) more kept legal picked same = absurd (cc)
  split s (e ∷ es) (x ∷ before) more kept legal picked same =
      let one = one_entry s e kept legal.0 in
      let all : one.entry ∷ rest_entries s e es ≡ x ∷ before ++ more = sym (entries_cons s e es one) ∙ same in
      let head : one.entry ≡ x = cc in
      let tail : rest_entries s e es ≡ before ++ more = cc in
      let t = split (after R s e) es before more (step_kept s e kept legal.0) legal.1 picked.1 tail in
      record {
        first = e ∷ t.first;
        rest = t.rest;
        es_is = ap (λ (z : List Step). e ∷ z) t.es_is;
        first_is = entries_cons s e t.first one ∙ ((λ i. head i ∷ t.first_is i));
        rest_is = t.rest_is;
        first_legal = (legal.0, t.first_legal);
        first_picked = (picked.0, t.first_picked);
        rest_legal = t.rest_legal;
        state_is = t.state_is;
      }

  module _ (is : IsKey key) (taken later : List Step) (more : List Entry) (legal : AreLegal key taken) (legal_later : AreLegal key later) (begins : journal_of key later ≡ journal_of key taken ++ more) where
    parts : Split (start (top_job key)) later (journal_of key taken) more
    parts = split (start (top_job key)) later (journal_of key taken) more start_kept legal_later.allowed legal_later.picked begins

    same_first : parts.first ≡ taken
    same_first = tell key parts.first taken is record { allowed = parts.first_legal; picked = parts.first_picked } legal parts.first_is

    abbrev taken_kept : Kept (state_after key parts.first)
    taken_kept = from_keeps R (rank G) lawful (top_job key) key.workers (Answers G) (start (top_job key)) parts.first start_kept parts.first_legal

    -- a worker runs then what it runs now, where it has no further entry
    pub runs_later : (w : ℕ) (work : words.Work) → entries_of worker_of w more ≡ [] → RunsWork key (state_after key taken) w work → RunsWork key (state_after key later) w work
    runs_later w work none now =
        let at_first : RunsAt (state_after key parts.first) w now.place work = subst (λ (z : List Step). RunsAt (state_after key z) w now.place work) (sym same_first) (now.runs, now.task) in
        let then = stays (state_after key parts.first) parts.rest w now.place work taken_kept parts.rest_legal (ap (entries_of worker_of w) parts.rest_is ∙ none) at_first in
        let so : RunsAt (state_after key later) w now.place work = subst (λ (z : BoardState). RunsAt z w now.place work) (sym parts.state_is) then in
        record { place = now.place; runs = so.0; task = so.1 }

    -- a journal that has ended doesn't go on
    pub ended_later : HasEnded key taken → more ≡ []
    ended_later ended = go parts.rest refl
      where
        now : HasEnded key parts.first
        now = subst (λ (z : List Step). HasEnded key z) (sym same_first) ended

        never : (e : Step) → May (state_after key parts.first) e → ⊥
        never (steps.Claim w a) may = now.none_enabled a may.enabled
        never (steps.Finish w answer) may = let none : (state_after key parts.first).running w ≡ None = now.none_run w may.is_worker in let some : (state_after key parts.first).running w ≡ Some may.place = may.runs in cc

        go : (rest : List Step) → parts.rest ≡ rest → more ≡ []
        go [] e = sym parts.rest_is ∙ ap (entries_from key (state_after key parts.first)) e
        go (x ∷ rest) e = absurd (never x (subst (Go (state_after key parts.first)) e parts.rest_legal).0)

  -- ---- what is appended

  entries_snoc : (s : BoardState) (es : List Step) (e : Step) → entries_from key s (es ++ e ∷ []) ≡ entries_from key s es ++ entry_of key (state_from R s es) e
  entries_snoc s [] e = append-nil (entry_of key s e)
  entries_snoc s (x ∷ es) e =
      ap (λ (z : List Entry). entry_of key s x ++ z) (entries_snoc (after R s x) es e)
      ∙ sym (append_assoc (entry_of key s x) (entries_from key (after R s x) es) (entry_of key (state_from R (after R s x) es) e))

  last_allowed : (s : BoardState) (es : List Step) (e : Step) → Go s (es ++ e ∷ []) → May (state_from R s es) e
  last_allowed s [] e legal = legal.0
  last_allowed s (x ∷ es) e legal = last_allowed (after R s x) es e legal.1

  -- a claim appends itself
  pub claim_entered : (taken : List Step) (w : ℕ) (a : Place) → AreLegal key taken → AreLegal key (taken ++ steps.Claim w a ∷ []) → (path : List ℕ) × (item : ItemName) × (journal_of key (taken ++ steps.Claim w a ∷ []) ≡ journal_of key taken ++ Claim w path item ∷ [])
  claim_entered taken w [] legal more = absurd (let may = last_allowed (start (top_job key)) taken (steps.Claim w []) more.allowed in let free = may.enabled.0 in let busy = may.enabled.1 in cc)
  claim_entered taken w (i ∷ p) legal more =
      let s : BoardState = state_after key taken in
      let kept = from_keeps R (rank G) lawful (top_job key) key.workers (Answers G) (start (top_job key)) taken start_kept legal.allowed in
      let may = last_allowed (start (top_job key)) taken (steps.Claim w (i ∷ p)) more.allowed in
      let nested = claimed_nested R (rank G) lawful (top_job key) s.marks (i ∷ p) kept.nested in
      let busy = of_busy R (rank G) lawful (top_job key) (claimed R s.marks (i ∷ p)) i p nested may.enabled.1 in
      (busy.1.job.path, item_of (graph_of G busy.1.job) i, entries_snoc (start (top_job key)) taken (steps.Claim w (i ∷ p)) ∙ ap (λ (z : List Entry). journal_of key taken ++ z) (ap (claim_in key w i) busy.1.is_open))

  pub finish_entered : (taken : List Step) (w : ℕ) (answer : Answer) → journal_of key (taken ++ steps.Finish w answer ∷ []) ≡ journal_of key taken ++ Finish w ∷ []
  finish_entered taken w answer = entries_snoc (start (top_job key)) taken (steps.Finish w answer)

pub board_laws : (key : Key) → IsKey key → Lawful (rules key) (rank key.graphs.graphs) → JournalsTellSteps → BoardLaws key
board_laws key is lawful tell = record {
  told = told_running key lawful tell;
  lasts = λ taken later more w work legal legal_later begins none now. runs_later key lawful tell is taken later more legal legal_later begins w work none now;
  ends = λ taken later more legal legal_later begins ended. ended_later key lawful tell is taken later more legal legal_later begins ended;
  claims = claim_entered key lawful tell;
  finishes = finish_entered key lawful tell;
}
