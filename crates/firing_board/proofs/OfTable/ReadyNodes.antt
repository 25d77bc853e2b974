-- A node that has a task: it is there, and the nodes before it are finished.
use Rattle.std.proofs.Common.{◌≡◌, ℕ, zero, suc, ◌+◌, ◌<◌, Bool, true, false, nat_lt, List, [], ◌∷◌, length, ℤ, Option, Some, None, refl, sym, ap, ◌∙◌, arith}
use Rattle.std.specs.Prelude.{◌&&◌, ◌==◌, if◌then◌else◌}
use Rattle.std.proofs.lemmas.Bool.{and_parts, eq-eqb}
use Rattle.sdf_level.specs.declared.single_rate.Edge.{Edge}
use Rattle.level_schedule.specs.declared.scheduling.LevelSchedule.{LevelSchedule}
use Rattle.job_flow.specs.Frames as flow
use Rattle.job_rules.proofs.Parts.{prepared_is}
use Rattle.job_rules.specs.Items.{Prepared, compile_number, compile_rule, edges_in, graph_of, is_done, is_ready_by, left_in, node_base, node_rule, node_values, nodes_in, prepared_in, ready_task, rule, schedule_of}
use Rattle.job_rules.specs.Words as words
use Rattle.job_rules.specs.Words.{Answer}
use Rattle.nested_jobs.specs.Meanings.{Within}
use Rattle.nested_jobs.specs.Rules.{Task, Values, Work}
use Rattle.one_job.specs.Places.{edge_at}
use Rattle.graph_firing.proofs.Rules.{rule_after, rule_at}
use Rattle.pisdf_model.specs.declared.graph.Graph.{Graph}
use Rattle.pisdf_meaning.specs.declared.firing.Configured.{Configured}
use Rattle.pisdf_meaning.specs.declared.firing.Firing.{Firing}
use Rattle.pisdf_meaning.specs.declared.refusal.Refusal.{Refusal}

ready_from : (edges : List Edge) (v : flow.Values ℤ Refusal) (n e : ℕ) → is_ready_by edges v n ≡ true → e < length edges → (edge_at edges e).head ≡ n → is_done (v (edge_at edges e).tail) ≡ true
ready_from [] v n e ready inside at = absurd (omega arith)
ready_from (x ∷ edges) v n zero ready inside at =
    let first = (and_parts (if x.head == n then is_done (v x.tail) else true) (is_ready_by edges v n) ready).0 in
    sym (ap (λ (b : Bool). if b then is_done (v x.tail) else true) (eq-eqb x.head n at)) ∙ first
ready_from (x ∷ edges) v n (suc e) ready inside at =
    ready_from edges v n e (and_parts (if x.head == n then is_done (v x.tail) else true) (is_ready_by edges v n) ready).1 (omega arith) at

some_if : {X : Type 0} (b : Bool) (o : Option X) (x : X) → (if b then o else None) ≡ Some x → b ≡ true
some_if true o x is = refl
some_if false o x is = absurd (cc)

same_schedule : (o r : Option Answer) → ((a : Answer) → o ≡ Some a → r ≡ Some a) → (x y : LevelSchedule) → schedule_of o ≡ Some x → schedule_of r ≡ Some y → x ≡ y
same_schedule None r within x y a b = absurd (cc)
same_schedule (Some answer) r within x y a b =
    let both : Some x ≡ Some y = sym a ∙ (sym (ap schedule_of (within answer refl)) ∙ b) in
    cc

same_left : (job : Firing) (x y : List Configured) → ◌≡◌ {A = Option (Task Firing words.Work)} (Some (Work (words.Compiles job x))) (Some (Work (words.Compiles job y))) → x ≡ y
same_left job x y both = cc

module _ (G : List Graph) (job : Firing) where
  abbrev graph : Graph
  graph = graph_of G job

  -- ---- the test of a node that has a task

  pub ready_test : (v : Values Answer) (p : Prepared) → prepared_in graph v ≡ Some p → (n : ℕ) (t : Task Firing words.Work) → rule G job v (node_base graph + n) ≡ Some t
      → (nat_lt n (length (nodes_in G graph job p)) && is_ready_by (edges_in G graph job p) (node_values G graph job p v) n) ≡ true
  ready_test v p so n t has =
      let as_rule : node_rule G graph job v n (prepared_in graph v) ≡ Some t = sym (rule_after G job v n) ∙ has in
      let as_task : ready_task G graph job p (node_values G graph job p v) n ≡ Some t = sym (ap (node_rule G graph job v n) so) ∙ as_rule in
      some_if (nat_lt n (length (nodes_in G graph job p)) && is_ready_by (edges_in G graph job p) (node_values G graph job p v) n) _ t as_task

  -- the tail of each edge that leads to it is done
  pub tail_done : (v : Values Answer) (p : Prepared) → prepared_in graph v ≡ Some p → (n : ℕ) (t : Task Firing words.Work) → rule G job v (node_base graph + n) ≡ Some t
      → (e : ℕ) → e < length (edges_in G graph job p) → (edge_at (edges_in G graph job p) e).head ≡ n → is_done (node_values G graph job p v (edge_at (edges_in G graph job p) e).tail) ≡ true
  tail_done v p so n t has e inside at =
      ready_from (edges_in G graph job p) (node_values G graph job p v) n e
      (and_parts (nat_lt n (length (nodes_in G graph job p))) (is_ready_by (edges_in G graph job p) (node_values G graph job p v) n) (ready_test v p so n t has)).1
      inside at

  -- ---- what is prepared stays

  module _ (v w : Values Answer) (within : Within v w) (stays : (i : ℕ) (t : Task Firing words.Work) → rule G job v i ≡ Some t → rule G job w i ≡ Some t) where
    abbrev seam : ℕ
    seam = compile_number graph

    pub prepared_once : (p q : Prepared) → prepared_in graph v ≡ Some p → prepared_in graph w ≡ Some q → p ≡ q
    prepared_once p q a b =
        let from = prepared_is (left_in graph v) (schedule_of (v seam)) p a in
        let to = prepared_is (left_in graph w) (schedule_of (w seam)) q b in
        let earlier : rule G job v seam ≡ Some (Work (words.Compiles job p.left)) = rule_at G job v ∙ ap (compile_rule job) from.left_is in
        let later : rule G job w seam ≡ Some (Work (words.Compiles job q.left)) = rule_at G job w ∙ ap (compile_rule job) to.left_is in
        let left : p.left ≡ q.left = same_left job p.left q.left (sym (stays seam (Work (words.Compiles job p.left)) earlier) ∙ later) in
        let schedule : p.schedule ≡ q.schedule = same_schedule (v seam) (w seam) (within seam) p.schedule q.schedule from.schedule_is to.schedule_is in
        λ i. record { left = left i; schedule = schedule i }

    -- a node that has a task is one of a firing that is prepared
    pub prepared_before : (q : Prepared) → prepared_in graph w ≡ Some q → (n : ℕ) (t : Task Firing words.Work) → rule G job v (node_base graph + n) ≡ Some t → prepared_in graph v ≡ Some q
    prepared_before q so n t has = go (prepared_in graph v) refl
      where
        go : (o : Option Prepared) → prepared_in graph v ≡ o → prepared_in graph v ≡ Some q
        go None is = (let bad : None ≡ Some t = sym (ap (node_rule G graph job v n) is) ∙ (sym (rule_after G job v n) ∙ has) in absurd (cc))
        go (Some p) is = is ∙ ap (λ (x : Prepared). Some x) (prepared_once p q is so)
