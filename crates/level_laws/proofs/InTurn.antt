-- The run of one thread through an unfolded level is the runs of the iterations, one after another.
use Rattle.std.proofs.Common.{ℕ, zero, suc, ◌+◌, List, slice_index, Ok, ap, sym, subst}
use Rattle.sdf_level.specs.View.{LevelView}
use Rattle.sdf_level.specs.Orders.{IsAdmissible}
use Rattle.sdf_level.specs.Run.{Fire}
use Rattle.sdf_level.specs.LevelRun.{Ended, GivesRates, HaveDelays, IsLevelRun}
use Rattle.sdf_level.proofs.KeptLengths.{leaves_delays}
use Rattle.level_laws.specs.Unfolded.{IsExactLevel, multiplied, unfolded}
use Rattle.level_laws.specs.Pieces.{GoInTurn, HaveTokens, first_tokens, later, other_tokens}
use Rattle.level_laws.proofs.CutReads.{tokens_cut}
use Rattle.level_laws.proofs.LevelCuts.{came, level_cut, level_uncut, none_run, run_none}

module _ {T F : Type 0} (level : LevelView) (q list : List ℕ) (is : IsExactLevel level q) (admissible : IsAdmissible level q list) where
  -- what an iteration leaves is again as long as the delays
  pub leaves : (fire : Fire T F) (sources starts : List (List T)) (one : Ended T) → GivesRates level fire → HaveDelays level.links starts → IsLevelRun level q sources starts fire (Ok one) → HaveDelays level.links one.left
  leaves fire sources starts one gives starting run =
      let c = came level q fire sources starts run.list one run.ends in
      let P : List (List T) → Type 0 = λ l. HaveDelays level.links l in
      subst P (sym (ap (λ (e : Ended T). e.left) c.is)) (leaves_delays level fire sources starts q run.list c.lines is.is_level is.repetition gives starting run.order.admissible c.runs)

  pub in_turn : (times : ℕ) (fire : Fire T F) (sources starts : List (List T)) (end : Ended T) → GivesRates level fire → HaveDelays level.links starts → HaveTokens times level sources →
      IsLevelRun (unfolded times level) (multiplied times q) sources starts fire (Ok end) → GoInTurn level fire q times sources starts end
  in_turn zero fire sources starts end gives starting holds run = none_run level fire sources starts q end is.is_level starting run
  in_turn (suc times) fire sources starts end gives starting holds run =
      let c = level_cut times level fire sources starts q list end is gives starting holds admissible run in
      let left = leaves fire (first_tokens level.sources sources) starts c.one gives starting c.one_runs in
      let gives_later : GivesRates level (later q fire) = λ b k ins outs f. gives b (slice_index q b + k) ins outs f in
      (c.one, c.others, c.one_runs, in_turn times (later q fire) (other_tokens level.sources sources) c.one.left c.others gives_later left (tokens_cut times level sources holds).1 c.others_run, c.end_is)

  pub at_once : (times : ℕ) (fire : Fire T F) (sources starts : List (List T)) (end : Ended T) → GivesRates level fire → HaveDelays level.links starts → HaveTokens times level sources →
      GoInTurn level fire q times sources starts end → IsLevelRun (unfolded times level) (multiplied times q) sources starts fire (Ok end)
  at_once zero fire sources starts end gives starting holds go = run_none level fire sources starts q end is.is_level starting go
  at_once (suc times) fire sources starts end gives starting holds go =
      let left = leaves fire (first_tokens level.sources sources) starts go.0 gives starting go.2 in
      let gives_later : GivesRates level (later q fire) = λ b k ins outs f. gives b (slice_index q b + k) ins outs f in
      let others = at_once times (later q fire) (other_tokens level.sources sources) go.0.left go.1 gives_later left (tokens_cut times level sources holds).1 go.3 in
      level_uncut times level fire sources starts q list end is gives starting holds admissible record { one = go.0; others = go.1; one_runs = go.2; others_run = others; end_is = go.4 }
