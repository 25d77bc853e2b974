-- What a worker is told where nothing may be claimed.
use Rattle.std.proofs.Common.{◌≡◌, ⊎_elim, ℕ, suc, ◌<◌, ◌≤◌, List, [], ◌∷◌, length, get_or, Option, Some, None, refl, ap, subst, arith}
use Rattle.std.specs.List.{All}
use Rattle.std.proofs.lemmas.Bool.{cases_lt}
use Rattle.std.proofs.lemmas.List.{get_or_past}
use Rattle.std.proofs.lemmas.List.Elements.{All-nil, All-cons}
use Rattle.nested_jobs.specs.Rules.{Place}
use Rattle.nested_jobs.specs.Steps.{IsEnabled}
use Rattle.board_rules.specs.Board.{RunsAs}
use Rattle.board_rules.specs.Entries.{Step}
use Rattle.board_rules.specs.Keys.{Key, rules}
use Rattle.board_rules.specs.Legal.{state_after}
use Rattle.firing_board.specs.Table.View.{table_of}
use Rattle.firing_board.specs.Core.{StandsAt}
use Rattle.firing_board.specs.OnCore.{ClaimsOn, MayClaim}
use Rattle.firing_board.specs.declared.claim.Claim.TheVariants as claim
use Rattle.firing_board.specs.declared.state.Core.{Core}
use Rattle.firing_board.specs.declared.run.Run.{Run}
use Rattle.firing_board.proofs.Rows.{firings_go_on, last_go_on, rows_same}
use Rattle.firing_board.proofs.Runners.{held_as, inside_of}

-- a worker that runs something, where not all run nothing
some_runs : (running : List (Option Run)) → (All (λ (r : Option Run). r ≡ None) running → ⊥) → (v : ℕ) × (r : Run) × (get_or running v None ≡ Some r)
some_runs [] not = absurd (not (All-nil (λ (r : Option Run). r ≡ None)))
some_runs (None ∷ running) not = let t = some_runs running (λ all. not (All-cons (λ (r : Option Run). r ≡ None) None running refl all)) in (suc t.0, t.1, t.2)
some_runs (Some r ∷ running) not = (0, r, refl)

none_runs : (running : List (Option Run)) → All (λ (r : Option Run). r ≡ None) running → (v : ℕ) → get_or running v None ≡ None
none_runs running all v = ⊎_elim (λ (lt : v < length running). all v None lt) (λ (le : length running ≤ v). get_or_past running v None le) (cases_lt v (length running))

module _ (key : Key) (old : Core) (w : ℕ) (may : MayClaim key old w) (none : (a : Place) → ¬ (IsEnabled (rules key) (state_after key may.keeps.taken).marks a)) where
  abbrev taken : List Step
  taken = may.keeps.taken

  abbrev s : StandsAt key taken old
  s = may.keeps.at

  pub finished : All (λ (r : Option Run). r ≡ None) old.running.items → ClaimsOn key old w old claim.Finished
  finished all = record {
    claims = record {
      taken = taken;
      at = record { legal = s.kept.legal; entered = s.entered };
      so = record {
        none_enabled = none;
        none_run = λ v lt. subst (λ (h : Option (ℕ × ℕ)). RunsAs (table_of old.table) ((state_after key taken).running v) h) (ap held_as (none_runs old.running.items all v)) (s.kept.runs v lt);
      };
      live = refl;
      new_is = refl;
    };
    enters = refl;
    firings = firings_go_on old.table old.table (last_go_on old.table old.table (rows_same old.table old.table refl));
    leases = tt;
    keeps = may.keeps;
  }

  pub waits : (All (λ (r : Option Run). r ≡ None) old.running.items → ⊥) → ClaimsOn key old w old claim.Wait
  waits not =
      let t = some_runs old.running.items not in
      let inside : t.0 < key.workers = let i = inside_of old.running.items t.0 t.1 t.2 in let e = may.keeps.one_each in omega arith in
      let r = subst (λ (h : Option (ℕ × ℕ)). RunsAs (table_of old.table) ((state_after key taken).running t.0) h) (ap held_as t.2) (s.kept.runs t.0 inside) in
      record {
        claims = record {
          taken = taken;
          at = record { legal = s.kept.legal; entered = s.entered };
          so = record { none_enabled = none; worker = t.0; place = t.1.item ∷ r.0.place; runs = (inside, r.2) };
          live = refl;
          new_is = refl;
        };
        enters = refl;
        firings = firings_go_on old.table old.table (last_go_on old.table old.table (rows_same old.table old.table refl));
        leases = tt;
        keeps = may.keeps;
      }
