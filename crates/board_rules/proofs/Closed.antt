-- A step that closes a job without a refusal leaves all its items finished.
use Rattle.std.proofs.Common.{◌≡◌, ℕ, suc, ◌-◌, List, [], ◌∷◌, ◌++◌, length, sym, ap, ◌∙◌, subst}
use Rattle.pisdf_meaning.specs.declared.firing.Firing.{Firing}
use Rattle.pisdf_meaning.specs.declared.firing.Given.{Given}
use Rattle.pisdf_meaning.specs.declared.refusal.Refusal.{Refusal}
use Rattle.nested_jobs.specs.Rules.{Place}
use Rattle.nested_jobs.specs.Marks.{Done, Open, values}
use Rattle.nested_jobs.specs.Journals.{after, start}
use Rattle.nested_jobs.proofs.Appending.{state-snoc}
use Rattle.nested_jobs.proofs.Closing.{closed_settled}
use Rattle.nested_jobs.proofs.Telling.{allowed_answered}
use Rattle.job_flow.specs.Laws.{JobsFinish}
use Rattle.job_rules.specs.Doing.{Answers}
use Rattle.job_rules.specs.Meant.{meanings, rank}
use Rattle.job_rules.specs.Words.{Gives}
use Rattle.job_rules.proofs.Settling.{finished}
use Rattle.std.proofs.Common.{ℤ}
use Rattle.board_rules.specs.Keys.{IsKey, Key, rules, top_job}
use Rattle.board_rules.specs.Entries.{BoardState, Step}
use Rattle.board_rules.specs.Laws.{HasFinished}
use Rattle.board_rules.specs.Legal.{AreLegal, state_after}
use Rattle.board_rules.proofs.Growing.{last_allowed}
use Rattle.board_rules.proofs.Known.{BoardLaws, known, shallow_top, tells}

module _ (key : Key) (is : IsKey key) (laws : BoardLaws key) (finish : JobsFinish ℤ Refusal ℕ) where
  pub closed_finished : (taken : List Step) (e : Step) (p : Place) (c : Firing) (given : Given) → AreLegal key taken → AreLegal key (taken ++ e ∷ []) → (state_after key taken).marks p ≡ Open c → (state_after key (taken ++ e ∷ [])).marks p ≡ Done (Gives given) → HasFinished key (state_after key (taken ++ e ∷ [])).marks p c
  closed_finished taken e p c given legal more o done =
      let s = state_after key taken in
      let next : state_after key (taken ++ e ∷ []) ≡ after (rules key) s e = state-snoc (rules key) (start (top_job key)) taken e in
      let done_so : (after (rules key) s e).marks p ≡ Done (Gives given) = ap (λ (z : BoardState). z.marks p) (sym next) ∙ done in
      let closed = closed_settled (rules key) (rank key.graphs.graphs) laws.lawful (top_job key) (meanings key.graphs.graphs) laws.meant is.fit 8 (shallow_top key is laws) s e p c (Gives given)
      (tells key is laws taken legal)
      (allowed_answered (rules key) (Answers key.graphs.graphs) key.workers s e (last_allowed key (start (top_job key)) taken e more.allowed))
      o done_so in
      let all = finished laws.jobs key.signatures key.graphs is.valid.valid.in_range is.valid.valid.well_formed laws.fit is.lengths (8 - suc (length p)) c (values (after (rules key) s e).marks p)
      ((known key is laws taken legal).fits p c o) closed.settled finish given (sym closed.outcome_is) in
      subst (λ (z : BoardState). HasFinished key z.marks p c) (sym next) record { prepared = all.p; prepared_so = all.prepared_so; each = all.each_item }
