-- What workers run, and what is lent to them, when one of them begins or ends.
use Rattle.std.proofs.Common.{◌≡◌, ◌≢◌, ℕ, zero, suc, ◌+◌, ◌<◌, ◌≤◌, true, false, cond, eqb, List, [], ◌∷◌, length, set, get_or, Option, Some, None, refl, sym, ap, ap₂, ◌∙◌, arith}
use Rattle.std.specs.Option.{option_map}
use Rattle.std.proofs.lemmas.Bool.{eq-eqb, eqb-true}
use Rattle.std.proofs.lemmas.List.{get_or-set_same, get_or-set_other}
use Rattle.kernel_gate.specs.Value.{Places}
use Rattle.board_rules.specs.Board.{hold}
use Rattle.firing_board.specs.Table.View.{TableView, lent_in}
use Rattle.firing_board.specs.Core.{held_of, lent_of, lent_with, runners}
use Rattle.firing_board.specs.declared.run.Run.{Run}

abbrev pub held_as : Option Run → Option (ℕ × ℕ)
held_as r = option_map (λ (run : Run). (run.row, run.item)) r

pub held_set : (running : List (Option Run)) (w : ℕ) (r : Option Run) → w < length running → held_of (set running w r) ≡ hold (held_of running) w (held_as r)
held_set running w r lt =
    let at : (v : ℕ) → held_of (set running w r) v ≡ hold (held_of running) w (held_as r) v = λ v.
    elim (eqb w v) as (λ b. eqb w v ≡ b → held_of (set running w r) v ≡ cond b (held_as r) (held_of running v)) [
      | true ↦ λ e. ap (λ (x : ℕ). held_of (set running w r) x) (sym (eqb-true w v e)) ∙ ap held_as (get_or-set_same running w r None lt)
      | false ↦ λ e. ap held_as (get_or-set_other running w v r None (λ f. let t = eq-eqb w v (sym f) in cc))
    ]
    refl in
    λ x v. at v x

-- one more at most
pub runners_more : (running : List (Option Run)) (w : ℕ) (run : Run) → runners (set running w (Some run)) ≤ runners running + 1
runners_more [] w run = omega arith
runners_more (None ∷ running) zero run = omega arith
runners_more (Some r ∷ running) zero run = omega arith
runners_more (None ∷ running) (suc w) run = runners_more running w run
runners_more (Some r ∷ running) (suc w) run = let t = runners_more running w run in omega arith

pub runners_less : (running : List (Option Run)) (w : ℕ) (run : Run) → get_or running w None ≡ Some run → suc (runners (set running w None)) ≡ runners running
runners_less [] w run is = absurd (cc)
runners_less (None ∷ running) zero run is = absurd (cc)
runners_less (Some r ∷ running) zero run is = refl
runners_less (None ∷ running) (suc w) run is = runners_less running w run is
runners_less (Some r ∷ running) (suc w) run is = ap (λ (n : ℕ). suc n) (runners_less running w run is)

pub inside_of : (running : List (Option Run)) (w : ℕ) (run : Run) → get_or running w None ≡ Some run → w < length running
inside_of [] w run is = absurd (cc)
inside_of (r ∷ running) zero run is = omega arith
inside_of (r ∷ running) (suc w) run is = let t = inside_of running w run is in omega arith

with_same : (old new : TableView) (r : Option Run) → ((run : Run) → r ≡ Some run → lent_in new run.row run.item ≡ lent_in old run.row run.item) → lent_with new r ≡ lent_with old r
with_same old new None same = refl
with_same old new (Some run) same = same run refl

lent_same : (old new : TableView) (running : List (Option Run)) → ((v : ℕ) (run : Run) → get_or running v None ≡ Some run → lent_in new run.row run.item ≡ lent_in old run.row run.item)
    → lent_of new running ≡ lent_of old running
lent_same old new [] same = refl
lent_same old new (r ∷ running) same = ap₂ (λ (x : Option Places) xs. x ∷ xs) (with_same old new r (same 0)) (lent_same old new running (λ v. same (suc v)))

pub lent_stays : (old new : TableView) (running : List (Option Run)) → ((v : ℕ) (run : Run) → get_or running v None ≡ Some run → lent_in new run.row run.item ≡ lent_in old run.row run.item)
    → lent_of new running ≡ lent_of old running
lent_stays old new running same = lent_same old new running same

pub lent_set : (old new : TableView) (running : List (Option Run)) (w : ℕ) (r : Option Run)
    → ((v : ℕ) (run : Run) → v ≢ w → get_or running v None ≡ Some run → lent_in new run.row run.item ≡ lent_in old run.row run.item)
    → lent_of new (set running w r) ≡ set (lent_of old running) w (lent_with new r)
lent_set old new [] w r same = refl
lent_set old new (x ∷ running) zero r same = ap (λ xs. lent_with new r ∷ xs) (lent_same old new running (λ v run. same (suc v) run (λ e. let t : suc v ≡ 0 = e in omega arith)))
lent_set old new (x ∷ running) (suc w) r same =
    ap₂ (λ (y : Option Places) xs. y ∷ xs) (with_same old new x (λ run. same 0 run (λ e. let t : 0 ≡ suc w = e in omega arith)))
    (lent_set old new running w r (λ v run apart. same (suc v) run (λ e. apart (let t : suc v ≡ suc w = e in omega arith))))
