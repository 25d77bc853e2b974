-- A run from its start, by what it comes to after the iterations that were made.
use Rattle.std.proofs.Common.{◌≡◌, ℕ, zero, suc, ◌+◌, ℤ, List, Ok, refl, sym, subst, arith}
use Rattle.pisdf_model.specs.Hold.{initial}
use Rattle.pisdf_model.specs.declared.graph.Graphs.{Graphs}
use Rattle.pisdf_meaning.specs.Run.{AfterCheck, Run, RunsFrom, after, iteration_of, left_by}
use Rattle.pisdf_meaning.specs.declared.outcome.Iteration.{Iteration}
use Rattle.quiescent_driver.specs.Iterated.{HaveIterated}
use Rattle.quiescent_driver.specs.Journals.{boards}
use Rattle.quiescent_driver.specs.Streams.{rest_of}
use Rattle.journal_laws.proofs.Iterations.{needs, rest_next}

module _ (graphs : Graphs) (streams : List (List ℤ)) where
  abbrev State : Type 0
  State = List (List ℤ)

  abbrev rest : ℕ → State
  rest k = rest_of k (needs graphs) streams

  pub record Before (k m : ℕ) (r : Run) : Type 0 where
    pub all_of : Run
    pub runs : RunsFrom graphs (k + m) (initial graphs.graphs graphs.top) (rest 0) all_of
    pub more : boards graphs all_of ≡ k + boards graphs r

  pub back : (k m : ℕ) (before : List Iteration) (state : State) (r : Run) → HaveIterated graphs streams k before state → RunsFrom graphs m state (rest k) r → Before k m r
  back zero m before state r done runs =
      let number : m ≡ 0 + m = omega arith in
      record { all_of = r; runs = subst (λ (n : ℕ). RunsFrom graphs n (initial graphs.graphs graphs.top) (rest 0) r) number (subst (λ (s : State). RunsFrom graphs m s (rest 0) r) done.1 runs); more = omega arith }
  back (suc k) m before state r done runs =
      let checks = done.4.checks in
      let gives = done.4.gives in
      let at_given : RunsFrom graphs m gives.given.state (rest (suc k)) r = subst (λ (s : State). RunsFrom graphs m s (rest (suc k)) r) gives.state_is runs in
      let runs_on : RunsFrom graphs m gives.given.state (left_by (needs graphs) (rest k)) r = subst (λ (s : State). RunsFrom graphs m gives.given.state s r) (sym (rest_next k (needs graphs) streams)) at_given in
      let whole : Run = after (iteration_of gives.given) r in
      let one : RunsFrom graphs (suc m) done.1 (rest k) whole =
      (checks.top, checks.top_is, subst (λ x. AfterCheck graphs (RunsFrom graphs m) done.1 (rest k) x whole) (sym checks.finds) (Ok gives.given, gives.ends, (r, runs_on, refl))) in
      let b = back k (suc m) done.0 done.1 whole done.3 one in
      let more = b.more in
      let number : k + suc m ≡ suc k + m = omega arith in
      record { all_of = b.all_of; runs = subst (λ (n : ℕ). RunsFrom graphs n (initial graphs.graphs graphs.top) (rest 0) b.all_of) number b.runs; more = omega arith }
