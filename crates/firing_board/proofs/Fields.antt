-- What the fields of a board tell of the steps that were taken on it.
use Rattle.std.proofs.Common.{◌≡◌, ℕ, ◌<◌, Bool, true, false, List, get_or, Option, Some, None, refl, sym, ap, ap₂, ◌∙◌, subst, arith}
use Rattle.pisdf_model.specs.declared.graph.Graphs.{Graphs}
use Rattle.pisdf_meaning.specs.declared.firing.Firing.{Firing}
use Rattle.board_rules.specs.Board.{RunsAs}
use Rattle.board_rules.specs.Entries.{Step}
use Rattle.board_rules.specs.Keys.{Key}
use Rattle.board_rules.specs.Laws.{JournalsTellSteps}
use Rattle.board_rules.specs.Legal.{AreLegal, journal_of, state_after}
use Rattle.firing_board.specs.Table.View.{NothingIsLent, lent_in, table_of}
use Rattle.firing_board.specs.Invariants.{Keeps, StandsOrStarves, key_with, view_with}
use Rattle.firing_board.specs.OnCore.{KeepsKey, MayClaim}
use Rattle.firing_board.specs.Runs.{AreAllIdle, IsIdle}
use Rattle.firing_board.specs.Starved.{StillRuns}
use Rattle.firing_board.specs.View.{IsAt}
use Rattle.firing_board.specs.declared.state.Core.{Core}
use Rattle.kernel_gate.specs.Signed.{Counts}
use Rattle.firing_board.specs.declared.run.Run.{Run}
use Rattle.firing_board.proofs.Handed.{none_if, run_of}
use Rattle.firing_board.proofs.Runners.{held_as, inside_of}

pub legal_by : (starved : Bool) (key : Key) (taken : List Step) (c : Core) → StandsOrStarves starved key taken c → AreLegal key taken
legal_by false key taken c at = at.kept.legal
legal_by true key taken c at = at.legal

pub entered_by : (starved : Bool) (key : Key) (taken : List Step) (c : Core) → StandsOrStarves starved key taken c → c.journal.entries ≡ journal_of key taken
entered_by false key taken c at = at.entered
entered_by true key taken c at = at.entered

-- a worker that runs nothing has nothing
none_by : (starved : Bool) (key : Key) (taken : List Step) (c : Core) → StandsOrStarves starved key taken c → (v : ℕ) → v < key.workers → (state_after key taken).running v ≡ None
    → (o : Option Run) → get_or c.running.items v None ≡ o → o ≡ None
none_by starved key taken c at v lt none None is = refl
none_by false key taken c at v lt none (Some r) is =
    let runs = subst (λ (h : Option (ℕ × ℕ)). RunsAs (table_of c.table) ((state_after key taken).running v) h) (ap held_as is) (at.kept.runs v lt) in
    let some = runs.2 in
    absurd (cc)
none_by true key taken c at v lt none (Some r) is =
    let runs = subst (λ (h : Option (ℕ × ℕ)). StillRuns key (state_after key taken) c.table ((state_after key taken).running v) h) (ap held_as is) (at.runs v lt) in
    let some = runs.place_is in
    absurd (cc)

module _ (tell : JournalsTellSteps) (key : Key) (c : Core) (starved : Bool) (keeps : Keeps key c starved) where
  pub legal : AreLegal key keeps.taken
  legal = legal_by starved key keeps.taken c keeps.at

  pub same_steps : (taken : List Step) → IsAt (view_with key c starved) taken → taken ≡ keeps.taken
  same_steps taken at = tell key taken keeps.taken keeps.is_key at.legal legal (sym at.entered ∙ entered_by starved key keeps.taken c keeps.at)

  pub nothing_held : (taken : List Step) → IsAt (view_with key c starved) taken → (v : ℕ) → v < key.workers → (state_after key taken).running v ≡ None → get_or c.running.items v None ≡ None
  nothing_held taken at v lt none =
      let there = subst (λ (steps : List Step). (state_after key steps).running v ≡ None) (same_steps taken at) none in
      none_by starved key keeps.taken c keeps.at v lt there (get_or c.running.items v None) refl

  pub nothing_lent : AreAllIdle (view_with key c starved) → NothingIsLent c.table
  nothing_lent idle = λ k i. none_if (lent_in c.table k i) (λ places e.
      let v = keeps.lent k i places e in
      let r = run_of (get_or c.running.items v.0 None) k i v.1 in
      let inside : v.0 < key.workers = let l = inside_of c.running.items v.0 r.0 r.1 in let e' = keeps.one_each in omega arith in
      let none = nothing_held idle.taken idle.at v.0 inside (idle.run_none v.0 inside) in
      let some = r.1 in
      absurd (cc))

pub may_claim : (tell : JournalsTellSteps) (key : Key) (c : Core) (keeps : Keeps key c false) (w : ℕ) → IsIdle (view_with key c false) w → MayClaim key c w
may_claim tell key c keeps w idle = record { keeps = keeps; is_worker = idle.is_worker; idle = nothing_held tell key c false keeps idle.taken idle.at w idle.is_worker idle.runs_none }

-- ---- the key

pub key_same : (signatures : List Counts) (top : Firing) (old new : Core) → KeepsKey old new → key_with signatures top new ≡ key_with signatures top old
key_same signatures top old new kept =
    ap₂ (λ (graphs : Graphs) (workers : ℕ). record { graphs = graphs; signatures = signatures; delays = top.state; ins = top.inputs; workers = workers }) kept.graphs_are kept.workers_are
