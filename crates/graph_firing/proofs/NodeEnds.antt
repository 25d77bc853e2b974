-- When a job with nodes is quiet, and how it ends.
use Rattle.std.proofs.Common.{◌≡◌, ℕ, suc, ◌+◌, ◌<◌, ◌⊎◌, ⊎_elim, true, ℤ, List, length, Option, Some, None, is_some, unwrap_or, refl, sym, ap, ◌∙◌, subst, arith}
use Rattle.nested_jobs.specs.Marks.{Mark}
use Rattle.nested_jobs.specs.Rules.{Task}
use Rattle.nested_jobs.specs.Steps.{is_settled}
use Rattle.nested_jobs.proofs.Nesting.{below_all}
use Rattle.pisdf_model.specs.declared.graph.Graph.{Graph}
use Rattle.pisdf_model.specs.declared.graph.Graphs.{Graphs}
use Rattle.sdf_level.specs.declared.node.Node.TheVariants as node
use Rattle.single_rate.specs.Expanded.{place_of}
use Rattle.pisdf_meaning.specs.Configuring.{configurations}
use Rattle.pisdf_meaning.specs.Running.{Traces, given_by}
use Rattle.pisdf_meaning.specs.declared.firing.Firing.{Firing}
use Rattle.pisdf_meaning.specs.declared.firing.Given.{Given}
use Rattle.pisdf_meaning.specs.declared.refusal.Refusal.{Refusal}
use Rattle.job_flow.specs.Frames as flow
use Rattle.job_flow.specs.Outcomes.{ended}
use Rattle.job_rules.specs.Words as words
use Rattle.job_rules.specs.Words.{Answer, Gives, Schedules, answer_of}
use Rattle.job_rules.specs.Items.{compile_number, first_refusal, given_in, graph_of, job_graph, no_schedule, node_values, nodes_in, outcome_of, refusal_or, trace_of, traces_in, values_in}
use Rattle.job_preparing.specs.Handing.{answers, mark_at}
use Rattle.job_preparing.specs.View as preparing
use Rattle.job_preparing.specs.View.{ConfiguringView}
use Rattle.graph_firing.specs.Nodes.View as running
use Rattle.graph_firing.specs.Nodes.View.{RunningView}
use Rattle.graph_firing.specs.View.{IsQuiet, OpenView, answered, count_of, outcome_in, task}
use Rattle.graph_firing.specs.Invariants.{KeepsWith, compile_mark, view_with}
use Rattle.graph_firing.specs.Running.{RunsFor}
use Rattle.graph_firing.specs.declared.stage.Stage.TheVariants.{Nodes}
use Rattle.graph_firing.proofs.Cut.{all_from, same_function}
use Rattle.graph_firing.proofs.Early as early
use Rattle.graph_firing.proofs.Ending.{none_refused}
use Rattle.graph_firing.proofs.Ends.{refusals_agree, refused_later}
use Rattle.graph_firing.proofs.NodeRules as nodes
use Rattle.graph_firing.proofs.Offered.{IsAfter, all_done, where_is}
use Rattle.graph_firing.proofs.Rules as rules

module _ (c : ConfiguringView) (workers : ℕ) (r : RunningView) (keeps : KeepsWith c workers (Nodes r)) where
  abbrev v : OpenView
  v = view_with c workers (Nodes r)

  abbrev G : List Graph
  G = c.graphs.graphs

  abbrev g : Graph
  g = preparing.graph_in c

  abbrev k : ℕ
  k = compile_number g

  abbrev many : ℕ
  many = length (nodes_in G g c.firing r.prepared)

  runs : RunsFor c workers r
  runs = keeps.stage_fits

  pub many_is : length (running.nodes_of r) ≡ many
  many_is = λ i. length (nodes_in (runs.graphs_are i).graphs (graph_of (runs.graphs_are i).graphs (runs.firing_is i)) (runs.firing_is i) r.prepared)

  counted : count_of v ≡ k + 1 + many
  counted = nodes.count_is c workers r keeps.marks_many runs

  ready : preparing.IsReady c
  ready = ap is_some runs.left_is

  -- ---- quiet

  pub nodes_quiet : IsQuiet v → running.is_quiet r ≡ true
  nodes_quiet quiet = all_from (length (running.nodes_of r)) (λ n. is_settled (mark_at r.marks n) (running.task r n))
      (λ n below.
      let all = counted in
      let same = many_is in
      let settled = below_all (count_of v) (λ j. is_settled (mark_at v.marks j) (task v j)) quiet.settled (k + 1 + n) (omega arith) in
      let P : Mark Firing Answer → Type 0 = λ m. is_settled m (task v (k + 1 + n)) ≡ true in
      let Q : Option (Task Firing words.Work) → Type 0 = λ t. is_settled (mark_at r.marks n) t ≡ true in
      subst Q (nodes.task_of_node c workers r keeps.marks_many runs n) (subst P (nodes.mark_of_node c workers r keeps.marks_many runs n) settled))

  pub quiet_nodes : running.is_quiet r ≡ true → IsQuiet v
  quiet_nodes quiet =
      let all = counted in
      let same = many_is in
      record {
        settled = all_from (count_of v) (λ j. is_settled (mark_at v.marks j) (task v j)) (λ i below. ⊎_elim
            (λ (before : i < k).
            let done = all_done c ready i before in
            let P : Mark Firing Answer → Type 0 = λ m. is_settled m (task v i) ≡ true in
            subst P (sym (early.mark_before c workers (Nodes r) keeps.marks_many i before ∙ done.1)) refl)
            (λ (rest : (i ≡ k) ⊎ IsAfter k i). ⊎_elim
            (λ (here : i ≡ k).
            let P : Mark Firing Answer → Type 0 = λ m. is_settled m (task v i) ≡ true in
            subst P (sym (ap (mark_at v.marks) here ∙ early.mark_here c workers (Nodes r) keeps.marks_many)) refl)
            (λ (after : IsAfter k i).
            let n = after.node in
            let at = after.number in
            let settled = below_all (length (running.nodes_of r)) (λ m. is_settled (mark_at r.marks m) (running.task r m)) quiet n (omega arith) in
            let P : Mark Firing Answer → Type 0 = λ m. is_settled m (task v (k + 1 + n)) ≡ true in
            let Q : Option (Task Firing words.Work) → Type 0 = λ t. is_settled (mark_at r.marks n) t ≡ true in
            let S : ℕ → Type 0 = λ j. is_settled (mark_at v.marks j) (task v j) ≡ true in
            subst S (sym at) (subst P (sym (nodes.mark_of_node c workers r keeps.marks_many runs n)) (subst Q (sym (nodes.task_of_node c workers r keeps.marks_many runs n)) settled)))
            rest)
            (where_is k i));
      }

  -- ---- how it ends

  -- the first refusal of a node is that of the job
  pub refusal_is : first_refusal (answered v) 0 (count_of v) ≡ first_refusal (answers r.marks) 0 (length (running.nodes_of r))
  refusal_is =
      let left = runs.left_is in
      let own = refusals_agree (answered v) (answers c.marks) 0 0 k (λ j below. rules.answer_before G c.firing c.marks (compile_mark (Nodes r)) r.marks keeps.marks_many (0 + j) (omega arith)) in
      let none : first_refusal (answers c.marks) 0 k ≡ None = none_refused (answers c.marks) 0 (configurations g) r.prepared.left left in
      let e : count_of v ≡ k + suc many = let all = counted in omega arith in
      let at : answered v (0 + k) ≡ Some (Schedules r.prepared.schedule) = (let f : 0 + k ≡ k = omega arith in ap (answered v) f) ∙ rules.answer_at G c.firing c.marks (compile_mark (Nodes r)) r.marks keeps.marks_many in
      let later = refusals_agree (answered v) (answers r.marks) (0 + k + 1) 0 many (λ j below.
      let f : 0 + k + 1 + j ≡ k + 1 + j = omega arith in
      let h : 0 + j ≡ j = omega arith in
      ap (answered v) f ∙ rules.answer_after G c.firing c.marks (compile_mark (Nodes r)) r.marks keeps.marks_many j ∙ ap (answers r.marks) (sym h)) in
      ap (first_refusal (answered v) 0) e
      ∙ refused_later (answered v) 0 k (suc many) (own ∙ none)
      ∙ ap (λ o. refusal_or o (first_refusal (answered v) (0 + k + 1) many)) at
      ∙ later
      ∙ ap (first_refusal (answers r.marks) 0) (sym many_is)

  -- what it gives, by its own answers
  abbrev own_traces : Graphs → Firing → Traces
  own_traces graphs firing a n = trace_of (answers r.marks (place_of (nodes_in graphs.graphs (graph_of graphs.graphs firing) firing r.prepared) (node.Firing a n)))

  abbrev given_with : Graphs → Firing → Traces → flow.Values ℤ Refusal → Given
  given_with graphs firing traces values =
      given_by graphs.graphs (graph_of graphs.graphs firing) firing r.prepared.left (values_in (graph_of graphs.graphs firing) firing r.prepared) r.prepared.schedule.counts traces (ended (job_graph graphs.graphs (graph_of graphs.graphs firing) firing r.prepared) values)

  traces_are : traces_in G g c.firing r.prepared (answered v) ≡ own_traces c.graphs c.firing
  traces_are = same_function (traces_in G g c.firing r.prepared (answered v)) (own_traces c.graphs c.firing)
      (λ a. same_function (traces_in G g c.firing r.prepared (answered v) a) (own_traces c.graphs c.firing a)
      (λ n. ap trace_of (rules.answer_after G c.firing c.marks (compile_mark (Nodes r)) r.marks keeps.marks_many (place_of (nodes_in G g c.firing r.prepared) (node.Firing a n)))))

  given_same : given_with c.graphs c.firing (own_traces c.graphs c.firing) (nodes.own_values c workers r keeps.marks_many runs c.graphs c.firing) ≡ running.given_in r
  given_same = λ i. given_with (sym runs.graphs_are i) (sym runs.firing_is i) (own_traces (sym runs.graphs_are i) (sym runs.firing_is i)) (nodes.own_values c workers r keeps.marks_many runs (sym runs.graphs_are i) (sym runs.firing_is i))

  given_so : given_in G g c.firing (answered v) r.prepared ≡ Gives (running.given_in r)
  given_so =
      ap Gives
      (ap (λ traces. given_with c.graphs c.firing traces (node_values G g c.firing r.prepared (answered v))) traces_are
      ∙ ap (given_with c.graphs c.firing (own_traces c.graphs c.firing)) (nodes.values_are c workers r keeps.marks_many runs)
      ∙ given_same)

  ends_with : (o : Option Refusal) → outcome_of G g c.firing (answered v) o ≡ answer_of (running.end_with r o)
  ends_with None = ap (λ o. given_in G g c.firing (answered v) (unwrap_or o no_schedule)) (nodes.prepared_is c workers r keeps.marks_many runs) ∙ given_so
  ends_with (Some refusal) = refl

  pub outcome_is : outcome_in v ≡ answer_of (running.outcome_of r)
  outcome_is = ap (outcome_of G g c.firing (answered v)) refusal_is ∙ ends_with (first_refusal (answers r.marks) 0 (length (running.nodes_of r)))
