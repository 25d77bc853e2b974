-- Journals whose lines begin alike take the same steps.
use Rattle.std.proofs.Common.{◌≡◌, ℕ, ◌<◌, ◌^◌, List, [], ◌∷◌, ◌++◌, map, refl, sym, ap, ◌∙◌, subst, arith, append_assoc}
use Rattle.std.proofs.lemmas.List.{append-nil, append_cancel_left}
use Rattle.nested_jobs.specs.Journals as steps
use Rattle.nested_jobs.specs.Journals.{MayClaim, MayFinish, after}
use Rattle.job_rules.specs.Doing.{Answers}
use Rattle.board_rules.specs.BoardLaws.{EndedJournalsStay}
use Rattle.board_rules.specs.Entries.{BoardState, Step, entry_of}
use Rattle.board_rules.specs.Keys.{IsKey, Key, rules}
use Rattle.board_rules.specs.Legal.{AreLegal, HasEnded, entries_from, journal_of, state_after}
use Rattle.board_rules.specs.declared.entry.Entry.{Entry}
use Rattle.board_rules.specs.declared.entry.Entry.TheVariants.{Claim, Finish}
use Rattle.quiescent_driver.specs.Journals.{entry_line}
use Rattle.firing_board.specs.Locking.{worker_of as entry_worker}
use Rattle.worker_crew.specs.Laws.{BoardLaws}
use Rattle.journal_laws.specs.Lines.{AreAlike, BeginningsTell, HasSmallWorker, LinesBegin}
use Rattle.journal_laws.specs.Steps.{NextStepsAreOne, worker_of}
use Rattle.journal_laws.proofs.Joining.{journal-append}
use Rattle.journal_laws.proofs.Longer.{legal_front, legal_last, next_state}

-- what is cited here
pub record AtKey (key : Key) : Type 0 where
  pub is : IsKey key
  pub board : BoardLaws key
  pub once : NextStepsAreOne
  pub begin : LinesBegin
  pub tell : BeginningsTell
  pub stay : EndedJournalsStay

alike_workers : (one other : Entry) → AreAlike one other → entry_worker one ≡ entry_worker other
alike_workers (Claim w path item) (Claim v other next) e = e
alike_workers (Claim w path item) (Finish v) e = absurd e
alike_workers (Finish w) (Claim v path item) e = absurd e
alike_workers (Finish w) (Finish v) e = e

module _ (key : Key) (laws : AtKey key) where
  ended_stops : (taken : List Step) (x : Step) (more : List Step) → HasEnded key taken → AreLegal key (taken ++ x ∷ more) → ⊥
  ended_stops taken x more ended legal =
      let moved : (taken ++ x ∷ []) ++ more ≡ taken ++ x ∷ more = append_assoc taken (x ∷ []) more in
      laws.stay key taken x ended (legal_front key (taken ++ x ∷ []) more (subst (AreLegal key) (sym moved) legal))

  -- of two journals that have ended, and one of which begins with the other, both are one
  pub ended_same : (taken rest other : List Step) → other ≡ taken ++ rest → HasEnded key taken → AreLegal key other → other ≡ taken
  ended_same taken [] other e ended legal = e ∙ append-nil taken
  ended_same taken (x ∷ rest) other e ended legal = absurd (ended_stops taken x rest ended (subst (AreLegal key) e legal))

  -- the entry of a step
  record Entered (taken : List Step) (e : Step) : Type 0 where
    one : Entry
    is : entry_of key (state_after key taken) e ≡ one ∷ []
    small : HasSmallWorker one
    of : entry_worker one ≡ worker_of e

  few_small : (w : ℕ) → w < key.workers → w < 2 ^ 32
  few_small w lt = let few = laws.is.few in omega arith

  entered : (taken : List Step) (e : Step) → AreLegal key (taken ++ e ∷ []) → Entered taken e
  entered taken (steps.Claim w a) more =
      let legal = legal_front key taken (steps.Claim w a ∷ []) more in
      let c = laws.board.claims taken w a legal more in
      let may : MayClaim (rules key) key.workers (state_after key taken) w a = legal_last key taken (steps.Claim w a) more in
      let s : BoardState = state_after key taken in
      let same : journal_of key taken ++ (entry_of key s (steps.Claim w a) ++ []) ≡ journal_of key taken ++ Claim w c.0 c.1 ∷ [] = sym (journal-append key taken (steps.Claim w a ∷ [])) ∙ c.2 in
      record {
        one = Claim w c.0 c.1;
        is = sym (append-nil (entry_of key s (steps.Claim w a))) ∙ append_cancel_left (journal_of key taken) (entry_of key s (steps.Claim w a) ++ []) (Claim w c.0 c.1 ∷ []) same;
        small = few_small w may.is_worker;
        of = refl;
      }
  entered taken (steps.Finish w answer) more =
      let may : MayFinish (rules key) (Answers key.graphs.graphs) key.workers (state_after key taken) w answer = legal_last key taken (steps.Finish w answer) more in
      record { one = Finish w; is = refl; small = few_small w may.is_worker; of = refl }

  module _ (n : ℕ) (n_small : n < 2 ^ 32) where
    abbrev line : Entry → List ℕ
    line = entry_line n

    -- steps whose lines are the same are one
    steps_same : (before : List Step) (e f : Step) → AreLegal key (before ++ e ∷ []) → AreLegal key (before ++ f ∷ []) → (one : Entered before e) (other : Entered before f) → line other.one ≡ line one.one → f ≡ e
    steps_same before e f legal_e legal_f one other same =
        let x = laws.begin n one.one in
        let y = laws.begin n other.one in
        let alike = laws.tell n n other.one one.one y.0 x.0 n_small n_small other.small one.small (sym y.1 ∙ same ∙ x.1) in
        laws.once key before f e laws.is legal_f legal_e (sym other.of ∙ alike_workers other.one one.one alike.1 ∙ one.of)

    record Parted (one other : Entry) (ea eb : List Entry) (Y R : List (List ℕ)) : Type 0 where
      first : line other ≡ line one
      rest : map line eb ++ Y ≡ map line ea ++ R

    parted : (one other : Entry) (ea eb es fs : List Entry) (Y R : List (List ℕ)) → es ≡ one ∷ [] → fs ≡ other ∷ [] → map line (fs ++ eb) ++ Y ≡ map line (es ++ ea) ++ R → Parted one other ea eb Y R
    parted one other ea eb es fs Y R is_one is_other h =
        let first : map line (other ∷ eb) ++ Y ≡ map line (es ++ ea) ++ R = subst (λ (z : List Entry). map line (z ++ eb) ++ Y ≡ map line (es ++ ea) ++ R) is_other h in
        let second : line other ∷ (map line eb ++ Y) ≡ line one ∷ (map line ea ++ R) = subst (λ (z : List Entry). map line (other ∷ eb) ++ Y ≡ map line (z ++ ea) ++ R) is_one first in
        record { first = cc; rest = cc }

    pub common : (before a b : List Step) (Y R : List (List ℕ)) → AreLegal key (before ++ a) → AreLegal key (before ++ b) → HasEnded key (before ++ b) →
        map line (entries_from key (state_after key before) b) ++ Y ≡ map line (entries_from key (state_after key before) a) ++ R → (rest : List Step) × (b ≡ a ++ rest)
    common before [] b Y R legal_a legal_b ended h = (b, refl)
    common before (e ∷ a) [] Y R legal_a legal_b ended h = absurd (ended_stops before e a (subst (HasEnded key) (append-nil before) ended) legal_a)
    common before (e ∷ a) (f ∷ b) Y R legal_a legal_b ended h =
        let s : BoardState = state_after key before in
        let to_a : before ++ e ∷ a ≡ (before ++ e ∷ []) ++ a = sym (append_assoc before (e ∷ []) a) in
        let to_b : before ++ f ∷ b ≡ (before ++ f ∷ []) ++ b = sym (append_assoc before (f ∷ []) b) in
        let all_a : AreLegal key ((before ++ e ∷ []) ++ a) = subst (AreLegal key) to_a legal_a in
        let all_b : AreLegal key ((before ++ f ∷ []) ++ b) = subst (AreLegal key) to_b legal_b in
        let front_a = legal_front key (before ++ e ∷ []) a all_a in
        let front_b = legal_front key (before ++ f ∷ []) b all_b in
        let one = entered before e front_a in
        let other = entered before f front_b in
        let ea : List Entry = entries_from key (after (rules key) s e) a in
        let p = parted one.one other.one ea (entries_from key (after (rules key) s f) b) (entry_of key s e) (entry_of key s f) Y R one.is other.is h in
        let same : f ≡ e = steps_same before e f front_a front_b one other p.first in
        let moved : (before ++ f ∷ []) ++ b ≡ (before ++ e ∷ []) ++ b = ap (λ (z : Step). (before ++ z ∷ []) ++ b) same in
        let next : after (rules key) s e ≡ state_after key (before ++ e ∷ []) = sym (next_state key before e) in
        let turned : map line (entries_from key (after (rules key) s e) b) ++ Y ≡ map line ea ++ R = subst (λ (z : Step). map line (entries_from key (after (rules key) s z) b) ++ Y ≡ map line ea ++ R) same p.rest in
        let lines_so = subst (λ (z : BoardState). map line (entries_from key z b) ++ Y ≡ map line (entries_from key z a) ++ R) next turned in
        let r = common (before ++ e ∷ []) a b Y R all_a (subst (AreLegal key) moved all_b) (subst (HasEnded key) (to_b ∙ moved) ended) lines_so in
        let tail = r.1 in
        (r.0, λ x. same x ∷ tail x)
