-- Each step appends one entry to the journal.
use Rattle.std.proofs.Common.{◌≡◌, ℕ, Some, None, List, [], ◌∷◌, ◌++◌, sym, ap, ◌∙◌, append_assoc}
use Rattle.std.proofs.lemmas.List.{append-nil}
use Rattle.pisdf_meaning.specs.declared.firing.Firing.{Firing}
use Rattle.nested_jobs.specs.Marks.{Mark, Marks, Open}
use Rattle.nested_jobs.specs.Journals as steps
use Rattle.nested_jobs.specs.Journals.{Allowed, LegalFrom, after, start, state_from}
use Rattle.nested_jobs.specs.Steps.{claimed}
use Rattle.nested_jobs.specs.Tables.{Row}
use Rattle.nested_jobs.proofs.Running.{claimed_stays}
use Rattle.job_rules.specs.Doing.{Answers}
use Rattle.job_rules.specs.Items.{graph_of}
use Rattle.job_rules.specs.Words.{Answer}
use Rattle.board_rules.specs.Keys.{Key, rules, top_job}
use Rattle.board_rules.specs.Board.{HasOpened, OpenJobs}
use Rattle.board_rules.specs.Entries.{BoardState, Step, claim_in, entry_of, item_of}
use Rattle.board_rules.specs.Legal.{AreLegal, HasEnded, entries_from, journal_of, state_after}
use Rattle.board_rules.specs.declared.entry.Entry.{Entry}
use Rattle.board_rules.specs.declared.entry.Entry.TheVariants.{Claim, Finish}

module _ (key : Key) where
  entries_snoc : (s : BoardState) (taken : List Step) (e : Step) → entries_from key s (taken ++ e ∷ []) ≡ entries_from key s taken ++ entry_of key (state_from (rules key) s taken) e
  entries_snoc s [] e = append-nil (entry_of key s e)
  entries_snoc s (x ∷ taken) e =
      ap (λ (z : List Entry). entry_of key s x ++ z) (entries_snoc (after (rules key) s x) taken e)
      ∙ sym (append_assoc (entry_of key s x) (entries_from key (after (rules key) s x) taken) (entry_of key (state_from (rules key) (after (rules key) s x) taken) e))

  pub claim_entered : (taken : List Step) (table : OpenJobs) (w k i : ℕ) (row : Row Firing Answer) (later : OpenJobs) (n : Marks Firing Answer) → HasOpened key table (state_after key taken).marks (i ∷ row.place) later n → later k ≡ Some row →
      journal_of key (taken ++ steps.Claim w (i ∷ row.place) ∷ []) ≡ journal_of key taken ++ Claim w row.job.path (item_of (graph_of key.graphs.graphs row.job) i) ∷ []
  claim_entered taken table w k i row later n opened here =
      let own = opened.stands.rows k row here in
      let still : claimed (rules key) n (i ∷ row.place) row.place ≡ Open row.job = claimed_stays (rules key) n (i ∷ row.place) row.place (Open row.job) (λ e. cc) own.is_open in
      let open_so : claimed (rules key) (state_after key taken).marks (i ∷ row.place) row.place ≡ Open row.job = ap (λ (f : Marks Firing Answer). f row.place) opened.claims ∙ still in
      entries_snoc (start (top_job key)) taken (steps.Claim w (i ∷ row.place)) ∙ ap (λ (x : Mark Firing Answer). journal_of key taken ++ claim_in key w i x) open_so

  pub finish_entered : (taken : List Step) (w : ℕ) (answer : Answer) → journal_of key (taken ++ steps.Finish w answer ∷ []) ≡ journal_of key taken ++ Finish w ∷ []
  finish_entered taken w answer = entries_snoc (start (top_job key)) taken (steps.Finish w answer)

  pub last_allowed : (s : BoardState) (taken : List Step) (e : Step) → LegalFrom (rules key) (Answers key.graphs.graphs) key.workers s (taken ++ e ∷ []) → Allowed (rules key) (Answers key.graphs.graphs) key.workers (state_from (rules key) s taken) e
  last_allowed s [] e legal = legal.0
  last_allowed s (x ∷ taken) e legal = last_allowed (after (rules key) s x) taken e legal.1

  pub ended_stays : (taken : List Step) (e : Step) → HasEnded key taken → AreLegal key (taken ++ e ∷ []) → ⊥
  ended_stays taken e ended legal = go e (last_allowed (start (top_job key)) taken e legal.allowed)
    where
      go : (e : Step) → Allowed (rules key) (Answers key.graphs.graphs) key.workers (state_after key taken) e → ⊥
      go (steps.Claim w a) may = ended.none_enabled a may.enabled
      go (steps.Finish w answer) may = let none : (state_after key taken).running w ≡ None = ended.none_run w may.is_worker in let some : (state_after key taken).running w ≡ Some may.place = may.runs in cc
