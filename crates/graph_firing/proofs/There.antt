-- Items that have a task are there.
use Rattle.std.proofs.Common.{◌≡◌, ◌⊎◌, ⊎_elim, ℕ, ◌+◌, ◌<◌, ◌∷◌, length, None, Some, refl, sym, ap, ◌∙◌, subst, arith}
use Rattle.std.proofs.lemmas.List.{length-append}
use Rattle.nested_jobs.specs.Rules.{Task}
use Rattle.pisdf_meaning.specs.declared.firing.Firing.{Firing}
use Rattle.job_rules.specs.Words as words
use Rattle.job_rules.specs.Items.{compile_number}
use Rattle.job_preparing.specs.View as preparing
use Rattle.job_preparing.specs.View.{ConfiguringView}
use Rattle.graph_firing.specs.Nodes.View as running
use Rattle.graph_firing.specs.View.{HasItem, OpenView, compilation_of, task}
use Rattle.graph_firing.specs.Invariants.{KeepsWith, compile_mark, node_lent, node_marks, view_with}
use Rattle.graph_firing.specs.Running.{RunsFor}
use Rattle.graph_firing.specs.declared.stage.Stage.{Stage}
use Rattle.graph_firing.specs.declared.stage.Stage.TheVariants.{Waiting, Compiling, Refused, Nodes}
use Rattle.graph_firing.proofs.NodeEnds.{many_is}
use Rattle.graph_firing.proofs.NodeSteps.{task_inside, task_is}
use Rattle.graph_firing.proofs.Offered.{IsAfter, no_node, where_is}

module _ (c : ConfiguringView) (workers : ℕ) where
  abbrev k : ℕ
  k = compile_number (preparing.graph_in c)

  abbrev v : Stage → OpenView
  v stage = view_with c workers stage

  many_marks : (stage : Stage) → KeepsWith c workers stage → length (v stage).marks ≡ k + 1 + length (node_marks stage)
  many_marks stage keeps =
      let both = length-append c.marks (compile_mark stage ∷ node_marks stage) in
      let long = keeps.marks_many in
      omega arith

  many_lent : (stage : Stage) → KeepsWith c workers stage → length (v stage).lent ≡ k + 1 + length (node_lent stage)
  many_lent stage keeps =
      let both = length-append c.lent (None ∷ node_lent stage) in
      let long = keeps.lent_many in
      omega arith

  -- a node with a task
  node_there : (stage : Stage) → KeepsWith c workers stage → (n : ℕ) (t : Task Firing words.Work) → task (v stage) (k + 1 + n) ≡ Some t → (n < length (node_marks stage)) × (n < length (node_lent stage))
  node_there Waiting keeps n t is = absurd (no_node c workers Waiting keeps.marks_many refl n t is)
  node_there Compiling keeps n t is = absurd (no_node c workers Compiling keeps.marks_many refl n t is)
  node_there (Refused refusal) keeps n t is = absurd (no_node c workers (Refused refusal) keeps.marks_many refl n t is)
  node_there (Nodes r) keeps n t is =
      let runs : RunsFor c workers r = keeps.stage_fits in
      let own : running.task r n ≡ Some t = sym (task_is c workers n (k + 1 + n) refl r keeps) ∙ is in
      let inside = task_inside r n t own in
      let many = many_is c workers r keeps in
      let marks = runs.marks_many in
      let lent = runs.lent_many in
      (omega arith, omega arith)

  module _ (stage : Stage) (keeps : KeepsWith c workers stage) (w : OpenView) (same : v stage ≡ w) where
    pub item_there : (i : ℕ) (t : Task Firing words.Work) → task w i ≡ Some t → HasItem w i
    item_there i t is =
        let marks = many_marks stage keeps in
        let lent = many_lent stage keeps in
        let own : task (v stage) i ≡ Some t = ap (λ (x : OpenView). task x i) same ∙ is in
        let H : OpenView → Type 0 = λ x. HasItem x i in
        subst H same (⊎_elim
        (λ (below : i < k). let there : HasItem (v stage) i = record { marked = omega arith; lendable = omega arith } in there)
        (λ (rest : (i ≡ k) ⊎ IsAfter k i). ⊎_elim
        (λ (at : i ≡ k). let there : HasItem (v stage) i = record { marked = omega arith; lendable = omega arith } in there)
        (λ (after : IsAfter k i).
        let number = after.number in
        let node = node_there stage keeps after.node t (ap (task (v stage)) (sym after.number) ∙ own) in
        let one = node.0 in
        let other = node.1 in
        let there : HasItem (v stage) i = record { marked = omega arith; lendable = omega arith } in
        there)
        rest)
        (where_is k i))

    pub compilation_there : HasItem w (compilation_of w)
    compilation_there =
        let marks = many_marks stage keeps in
        let lent = many_lent stage keeps in
        let own : HasItem (v stage) k = record { marked = omega arith; lendable = omega arith } in
        let H : OpenView → Type 0 = λ x. HasItem x (compilation_of x) in
        subst H same own
