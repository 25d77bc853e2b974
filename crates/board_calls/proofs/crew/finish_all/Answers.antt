use Rattle.std.proofs.Common.{rules, ◌≡◌, ◌<◌, ◌≤◌, ◌-◌, ℕ, suc, length, refl, sym, ap, ◌∙◌, subst, arith}
use Rattle.board_rules.specs.Keys.{Key}
use Rattle.board_calls.specs.Holding.{AreHeld, GivesBack, Holds}
use Rattle.board_calls.proofs.Lasting.{none_held}
use Rattle.board_calls.proofs.Playing.{last_counted, last_holds, none_left, rest_held}
use Rattle.board_calls.proofs.crew.finish_all.Goals as goal

pub loop-holding-init : goal.loop-holding-init
loop-holding-init c = record {
  kernels = c.requires.crew.kernels;
  key = refl;
  place = c.requires.crew.one_each ∙ sym c.requires.workers;
  inside = omega arith;
  all = c.requires.crew.all;
}

pub overflow_sub-worker : goal.overflow_sub-worker
overflow_sub-worker c =
    let rest = c.pop.new.self.items in
    let count : c.loop-holding.worker ≡ suc (length rest) = sym c.loop-holding.invariant.place ∙ (ap (λ l. length l) c.in-Some.ensures.items ∙ last_counted rest c.in-Some.holding) in
    omega arith

pub finish-finished-requires-clause-kernels : goal.finish-finished-requires-clause-kernels
finish-finished-requires-clause-kernels c = c.loop-holding.invariant.kernels

pub finish-finished-requires-clause-holds : goal.finish-finished-requires-clause-holds
finish-finished-requires-clause-holds c =
    let rest = c.pop.new.self.items in
    let board = c.loop-holding.board in
    let count : c.loop-holding.worker ≡ suc (length rest) = sym c.loop-holding.invariant.place ∙ (ap (λ l. length l) c.in-Some.ensures.items ∙ last_counted rest c.in-Some.holding) in
    let most : c.loop-holding.worker ≤ board.key.workers = c.loop-holding.invariant.inside in
    let place : length rest ≡ c.loop-holding.worker - 1 = omega arith in
    let inside : length rest < board.key.workers = omega arith in
    subst (λ (n : ℕ). Holds board n c.in-Some.holding) place
    (last_holds board c.loop-holding.held.items rest c.in-Some.holding c.in-Some.ensures.items c.loop-holding.invariant.all inside)

pub loop-holding-preserved : goal.loop-holding-preserved
loop-holding-preserved c =
    let rest = c.pop.new.self.items in
    let board = c.loop-holding.board in
    let next = c.finish-finished.new.board in
    let back : GivesBack (c.loop-holding.worker - 1) board next = c.finish-finished.ensures in
    let count : c.loop-holding.worker ≡ suc (length rest) = sym c.loop-holding.invariant.place ∙ (ap (λ l. length l) c.in-Some.ensures.items ∙ last_counted rest c.in-Some.holding) in
    let most : c.loop-holding.worker ≤ board.key.workers = c.loop-holding.invariant.inside in
    let place : length rest ≡ c.loop-holding.worker - 1 = omega arith in
    let inside : c.loop-holding.worker - 1 ≤ board.key.workers = omega arith in
    record {
      kernels = ap (λ (k : Key). k.signatures) back.0.key ∙ c.loop-holding.invariant.kernels;
      key = back.0.key ∙ c.loop-holding.invariant.key;
      place = place;
      inside = subst (λ (k : Key). c.loop-holding.worker - 1 ≤ k.workers) (sym back.0.key) inside;
      all = rest_held board c.loop-holding.held.items rest c.in-Some.holding c.in-Some.ensures.items c.loop-holding.invariant.all c.board_laws.ensures next c.journal-before.ensures.sound c.journal-after.ensures.sound (subst (λ (n : ℕ). GivesBack n board next) (sym place) back);
    }

pub returns-clause-idle : goal.returns-clause-idle
returns-clause-idle c =
    let board = c.loop-holding.board in
    let none : length c.loop-holding.held.items ≡ 0 = search rules in
    none_held c.board_laws.ensures board c.journal-journal.ensures.sound (subst (AreHeld board) (none_left c.loop-holding.held.items none) c.loop-holding.invariant.all)

pub returns-clause-key : goal.returns-clause-key
returns-clause-key c = c.loop-holding.invariant.key
