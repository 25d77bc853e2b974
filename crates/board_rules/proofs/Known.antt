-- What is known of the open jobs in each state of a legal journal: that they are well made, and that the answers of their
-- items are such as one thread gets.
use Rattle.std.proofs.Common.{◌≡◌, ℕ, suc, ◌-◌, ◌<◌, List, length, arith}
use Rattle.std.proofs.lemmas.Option.{slice_get_within}
use Rattle.param_resolver.proofs.Sound.{nested}
use Rattle.single_rate.specs.Tiers.{EndsAreThere}
use Rattle.pisdf_meaning.specs.Sound.{AllFit}
use Rattle.pisdf_meaning.specs.declared.firing.Firing.{Firing}
use Rattle.nested_jobs.specs.Rules.{Place}
use Rattle.nested_jobs.specs.Marks.{Marks, Open, values}
use Rattle.nested_jobs.specs.Journals.{start}
use Rattle.nested_jobs.specs.Invariants.{Keeps, Nested}
use Rattle.nested_jobs.specs.Meanings.{Lawful, Meant, Sound}
use Rattle.nested_jobs.proofs.Running.{journal_keeps}
use Rattle.nested_jobs.proofs.Telling.{Tells, journal_tells, legal_answered}
use Rattle.job_rules.proofs.Answered.{Laws}
use Rattle.job_rules.specs.Doing.{Answers}
use Rattle.job_rules.specs.Items.{job_rules}
use Rattle.job_rules.specs.Meant.{IsFit, meanings, rank}
use Rattle.job_rules.specs.Words.{Answer}
use Rattle.board_rules.specs.Keys.{IsKey, Key, rules, top_job}
use Rattle.board_rules.specs.Entries.{Step}
use Rattle.board_rules.specs.JobLaws.{JobLaws}
use Rattle.board_rules.specs.Legal.{AreLegal, state_after}

-- the laws that are used here
pub record BoardLaws (key : Key) : Type 0 where
  pub lawful : Lawful (rules key) (rank key.graphs.graphs)
  pub meant : Meant (rules key) (meanings key.graphs.graphs)
  pub fit : AllFit key.signatures key.graphs.graphs
  pub jobs : Laws
  pub ends : EndsAreThere

pub board_laws : (key : Key) → JobLaws key → BoardLaws key
board_laws key l = record {
  lawful = l.lawful;
  meant = l.meant;
  fit = l.fit;
  jobs = record { all = l.all; in_order = l.in_order; tiers = l.tiers; ready = l.ready; inputs_stay = l.inputs_stay; once = l.once; lens_are = l.lens_are; rates_are = l.rates_are };
  ends = l.ends_there;
}

pub record Known (key : Key) (m : Marks Firing Answer) : Type 0 where
  pub nested : Nested (rules key) (top_job key) m
  pub fits : (p : Place) (c : Firing) → m p ≡ Open c → IsFit key.graphs.graphs c
  pub levels : Place → ℕ
  pub sound : (p : Place) (c : Firing) → m p ≡ Open c → Sound (job_rules key.graphs.graphs) (meanings key.graphs.graphs) (levels p) c (values m p)

module _ (key : Key) (is : IsKey key) (laws : BoardLaws key) where
  pub shallow_top : rank key.graphs.graphs (top_job key) < 8
  shallow_top =
      let most = nested key.graphs is.valid.valid.in_range is.valid.valid.well_formed key.graphs.top (slice_get_within key.graphs.graphs key.graphs.top is.fit.g is.fit.here) in
      omega arith

  pub keeps : (taken : List Step) → AreLegal key taken → Keeps (rules key) (top_job key) key.workers (state_after key taken)
  keeps taken legal = journal_keeps (rules key) (rank key.graphs.graphs) laws.lawful (top_job key) key.workers (Answers key.graphs.graphs) taken legal.allowed

  pub tells : (taken : List Step) → AreLegal key taken → Tells (rules key) (rank key.graphs.graphs) laws.lawful (top_job key) (meanings key.graphs.graphs) laws.meant is.fit 8 shallow_top (state_after key taken).marks
  tells taken legal =
      journal_tells (rules key) (rank key.graphs.graphs) laws.lawful (top_job key) (meanings key.graphs.graphs) laws.meant is.fit 8 shallow_top taken
      (legal_answered (rules key) (Answers key.graphs.graphs) key.workers (start (top_job key)) taken legal.allowed)

  pub known : (taken : List Step) → AreLegal key taken → Known key (state_after key taken).marks
  known taken legal =
      let told = tells taken legal in
      record { nested = told.nested; fits = told.fits; levels = λ p. 8 - suc (length p); sound = told.sound }
