-- In a legal journal each path is plain.
use Rattle.std.proofs.Common.{◌≡◌, ℕ, List, [], ◌∷◌, ◌++◌, refl, sym, subst, append_assoc}
use Rattle.pisdf_meaning.specs.declared.firing.Firing.{Firing}
use Rattle.nested_jobs.specs.Marks.{Busy, Done, Free, Mark, Open}
use Rattle.nested_jobs.specs.Steps.{claimed}
use Rattle.nested_jobs.specs.Journals as steps
use Rattle.nested_jobs.specs.Journals.{after}
use Rattle.nested_jobs.specs.Meanings.{Lawful}
use Rattle.job_rules.specs.Meant.{rank}
use Rattle.job_rules.specs.Words.{Answer}
use Rattle.board_rules.specs.Entries.{BoardState, Step, claim_in, entry_of}
use Rattle.board_rules.specs.Keys.{IsKey, Key, rules}
use Rattle.board_rules.specs.Legal.{AreLegal, entries_from, journal_of, state_after}
use Rattle.board_rules.specs.declared.entry.Entry.{Entry}
use Rattle.worker_crew.specs.Laws.{BoardLaws}
use Rattle.journal_laws.specs.Lines.{HavePlainPaths}
use Rattle.journal_laws.proofs.Good.{AreSuch, IsGood, claims_within, good_after}
use Rattle.journal_laws.proofs.Longer.{legal_front, next_state}
use Rattle.journal_laws.proofs.Paths.{HasPath, calls_plain, each_named}

plain-append : (xs ys : List Entry) → HavePlainPaths xs → HavePlainPaths ys → HavePlainPaths (xs ++ ys)
plain-append [] ys h more = more
plain-append (x ∷ xs) ys h more = (h.0, plain-append xs ys h.1 more)

module _ (key : Key) (is : IsKey key) (law : Lawful (rules key) (rank key.graphs.graphs)) (laws : BoardLaws key) where
  such : AreSuch key HasPath
  such = record {
    top = (each_named key.graphs is.valid.valid.named key.graphs.top).name;
    calls = λ job v i d h e. calls_plain key.graphs is.valid.valid.named job v i d h e;
  }

  claim_plain : (w i : ℕ) (x : Mark Firing Answer) → ((job : Firing) → x ≡ Open job → HasPath job) → HavePlainPaths (claim_in key w i x)
  claim_plain w i Free h = tt
  claim_plain w i Busy h = tt
  claim_plain w i (Open job) h = (h job refl, tt)
  claim_plain w i (Done answer) h = tt

  entry_plain : (s : BoardState) (e : Step) → IsGood key law laws HasPath such s → HavePlainPaths (entry_of key s e)
  entry_plain s (steps.Claim w []) good = tt
  entry_plain s (steps.Claim w (i ∷ p)) good = claim_plain w i (claimed (rules key) s.marks (i ∷ p) p) (λ job o. (claims_within key law laws HasPath such s.marks (i ∷ p) good.within).jobs p job o)
  entry_plain s (steps.Finish w answer) good = (tt, tt)

  plain_from : (before more : List Step) → AreLegal key (before ++ more) → HavePlainPaths (entries_from key (state_after key before) more)
  plain_from before [] legal = tt
  plain_from before (e ∷ more) legal =
      let moved : (before ++ e ∷ []) ++ more ≡ before ++ e ∷ more = append_assoc before (e ∷ []) more in
      let rest = plain_from (before ++ e ∷ []) more (subst (AreLegal key) (sym moved) legal) in
      let good = good_after key law laws HasPath such before (legal_front key before (e ∷ more) legal) in
      plain-append (entry_of key (state_after key before) e) (entries_from key (after (rules key) (state_after key before) e) more) (entry_plain (state_after key before) e good)
      (subst (λ (z : BoardState). HavePlainPaths (entries_from key z more)) (next_state key before e) rest)

  pub paths_plain : (taken : List Step) → AreLegal key taken → HavePlainPaths (journal_of key taken)
  paths_plain taken legal = plain_from [] taken legal
