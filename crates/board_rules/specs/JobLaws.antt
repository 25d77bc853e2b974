-- The laws of the jobs of a board that its own laws rest on, in one.
use Rattle.std.specs.Prelude.{ℤ, ℕ}
use Rattle.single_rate.specs.Tiers.{EndsAreThere, FiringsAreAll, FiringsStandInOrder, GraphsHaveTiers}
use Rattle.pisdf_meaning.specs.Sound.{AllFit}
use Rattle.pisdf_meaning.specs.declared.refusal.Refusal.{Refusal}
use Rattle.nested_jobs.specs.Meanings.{Lawful, Meant}
use Rattle.job_flow.specs.Laws.{FiringsReadRates, InputsHaveLens, InputsStay, NodesStandOnce, ReadyStays}
use Rattle.job_rules.specs.Meant.{meanings, rank}
use Rattle.board_rules.specs.Keys.{IsKey, Key, rules}

pub record JobLaws (key : Key) : Type 0 where
  pub lawful : Lawful (rules key) (rank key.graphs.graphs)
  pub meant : Meant (rules key) (meanings key.graphs.graphs)
  pub fit : AllFit key.signatures key.graphs.graphs
  pub all : FiringsAreAll
  pub in_order : FiringsStandInOrder
  pub tiers : GraphsHaveTiers
  pub ends_there : EndsAreThere
  pub ready : ReadyStays ℤ Refusal
  pub inputs_stay : InputsStay ℤ Refusal
  pub once : NodesStandOnce ℤ
  pub lens_are : InputsHaveLens ℤ Refusal ℕ
  pub rates_are : FiringsReadRates ℤ

abbrev pub JobsHaveLaws : Type 0
JobsHaveLaws = (key : Key) → IsKey key → JobLaws key
