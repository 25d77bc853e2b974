-- The image of an open firing, step by step: after each step the cells at its full buffers hold what was written.
use Rattle.std.proofs.Common.{◌≡◌, ◌⊎◌, ⊎_elim, inl, inr, ℕ, ◌+◌, ◌<◌, true, List, [], ◌∷◌, length, ℤ, Some, Ok, refl, sym, ap, ◌∙◌, subst}
use Rattle.std.specs.Option.{option_map}
use Rattle.sdf_level.specs.declared.single_rate.Edge.{Edge}
use Rattle.job_compiler.specs.Compilation.{Compilation, IsCompiled}
use Rattle.job_flow.specs.Graphs.{node_at}
use Rattle.job_rules.specs.Items.{Prepared, actor_of, edges_in, graph_of, is_done, keeps_state, node_base, node_result, node_values, nodes_in, prepared_in, rule}
use Rattle.job_rules.specs.Meant.{rank}
use Rattle.job_rules.specs.Words as words
use Rattle.job_rules.specs.Words.{Answer}
use Rattle.graph_firing.specs.Nodes.Leases.{as_node}
use Rattle.nested_jobs.proofs.Nesting.{after_nested}
use Rattle.nested_jobs.specs.Journals.{after, state_from}
use Rattle.nested_jobs.specs.Invariants.{Fits, InJob, Nested}
use Rattle.nested_jobs.specs.Marks as mark
use Rattle.nested_jobs.specs.Marks.{Mark, Marks, answer_of, values}
use Rattle.nested_jobs.specs.Meanings.{Lawful, Within}
use Rattle.nested_jobs.specs.Rules.{Call, Place, Task, Work}
use Rattle.nested_jobs.proofs.Places.{done_by}
use Rattle.one_job.specs.Images.{FitsEdges}
use Rattle.one_job.specs.Marks as one
use Rattle.one_job.specs.Places.{edge_at}
use Rattle.pisdf_model.specs.declared.graph.Graph.{Graph}
use Rattle.pisdf_meaning.specs.declared.firing.Firing.{Firing}
use Rattle.board_rules.specs.Entries.{BoardState, Step}
use Rattle.board_rules.specs.Keys.{Key, rules, top_job}
use Rattle.firing_board.proofs.OfTable.CellSteps.{Follows, Moves, follow, item}
use Rattle.firing_board.proofs.OfTable.LiveFirings.{done_phase, one_open}
use Rattle.firing_board.proofs.OfTable.MarkSteps.{Claims, Ends, IsTaken, done_later, open_earlier, step_changes}
use Rattle.firing_board.proofs.OfTable.ReadyNodes.{prepared_before, tail_done}
use Rattle.firing_board.specs.Table.Images.{all_wrote, image_from, values_at}

finished_not_taken : (y : Mark Firing Answer) → one.phase_of (as_node y) ≡ one.IsFinished → IsTaken y → ⊥
finished_not_taken mark.Free done taken = taken
finished_not_taken mark.Busy done taken = cc
finished_not_taken (mark.Open d) done taken = cc
finished_not_taken (mark.Done a) done taken = taken

module _ (key : Key) (place : Place) (job : Firing) (c : Compilation) (is : IsCompiled c) (lawful : Lawful (rules key) (rank key.graphs.graphs)) (last : Marks Firing Answer) (is_open : last place ≡ mark.Open job)
    (p : Prepared) (prepared_is : prepared_in (graph_of key.graphs.graphs job) (values last place) ≡ Some p) (edges_are : c.graph.edges ≡ edges_in key.graphs.graphs (graph_of key.graphs.graphs job) job p)
    (fits : (n : ℕ) (outs : List (List ℤ)) → values_at key job c.graph.nodes last place n ≡ Some (Ok outs) → FitsEdges c.graph.edges n (Ok outs)) where
  abbrev G : List Graph
  G = key.graphs.graphs

  abbrev g : Graph
  g = graph_of G job

  abbrev base : ℕ
  base = node_base g

  abbrev edges : List Edge
  edges = c.graph.edges

  abbrev at : ℕ → Place
  at n = item key place job c is n

  -- what is so before the end
  record Earlier (m : Marks Firing Answer) : Type 0 where
    nested : Nested (rules key) (top_job key) m
    free_or_open : (m place ≡ mark.Free) ⊎ (m place ≡ mark.Open job)
    stays : (b : Place) (a : Answer) → m b ≡ mark.Done a → last b ≡ mark.Done a

  module _ (m : Marks Firing Answer) (early : Earlier m) where
    abbrev HasTask : ℕ → Type 0
    HasTask n = (t : Task Firing words.Work) × (rule G job (values m place) (base + n) ≡ Some t)

    of_job : (n : ℕ) (t : Task Firing words.Work) → InJob (rules key) m (base + n) place t → HasTask n
    of_job n t in_job =
        let same : in_job.job ≡ job = ⊎_elim
        (λ (free : m place ≡ mark.Free). (let bad : mark.Free ≡ mark.Open in_job.job = sym free ∙ in_job.is_open in absurd (cc)))
        (λ (is_now : m place ≡ mark.Open job). one_open (m place) in_job.job job in_job.is_open is_now)
        early.free_or_open in
        (t, subst (λ (d : Firing). rule G d (values m place) (base + n) ≡ Some t) same in_job.has_task)

    -- what is taken has a task
    taken_task : (n : ℕ) (y : Mark Firing Answer) → m (at n) ≡ y → IsTaken y → HasTask n
    taken_task n mark.Free e taken = absurd taken
    taken_task n mark.Busy e taken =
        let so = subst (Fits (rules key) (top_job key) m (at n)) e (early.nested.fits (at n)) in
        of_job n (Work so.0) so.1
    taken_task n (mark.Open d) e taken =
        let so = subst (Fits (rules key) (top_job key) m (at n)) e (early.nested.fits (at n)) in
        of_job n (Call d) so
    taken_task n (mark.Done a) e taken = absurd taken

    within : Within (values m place) (values last place)
    within i a is_so = ap answer_of (early.stays (i ∷ place) a (done_by (m (i ∷ place)) a is_so))

    -- and what stands before it is finished
    tails_finished : (n : ℕ) → IsTaken (m (at n)) → (e : ℕ) → e < length edges → (edge_at edges e).head ≡ n → one.phase_of (as_node (m (at (edge_at edges e).tail))) ≡ one.IsFinished
    tails_finished n taken e inside head_is =
        let t = taken_task n (m (at n)) refl taken in
        let prepared : prepared_in g (values m place) ≡ Some p = prepared_before G job (values m place) (values last place) within (λ i u has. lawful.grows job (values m place) (values last place) within i u has) p prepared_is n t.0 t.1 in
        let tail = (edge_at edges e).tail in
        let Done : List Edge → Type 0 = λ es. e < length es → (edge_at es e).head ≡ n → is_done (node_values G g job p (values m place) (edge_at es e).tail) ≡ true in
        done_phase (keeps_state G (actor_of g (node_at (nodes_in G g job p) tail))) (m (at tail))
        (subst Done (sym edges_are) (λ below head_so. tail_done G job (values m place) p prepared n t.0 t.1 e below head_so) inside head_is)

  -- ---- one step

  module _ (s t : Marks Firing Answer) (late : Earlier t) where
    claim_moves : ((b : Place) → Claims (s b) (t b)) → (n : ℕ) → Moves key place job c is s t n
    claim_moves claims n = ⊎_elim
        (λ (same : s (at n) ≡ t (at n)). inl same)
        (λ u. inr (inl record {
          free = u.0;
          taken = u.1;
          tails = λ e inside head_is.
              let finished = tails_finished t late n u.1 e inside head_is in
              let tail = at (edge_at edges e).tail in
              (⊎_elim (λ (same : s tail ≡ t tail). same) (λ v. absurd (finished_not_taken (t tail) finished v.1)) (claims tail), finished);
        }))
        (claims (at n))

    finish_moves : ((b : Place) → Ends (s b) (t b)) → (n : ℕ) → Moves key place job c is s t n
    finish_moves ends n = ⊎_elim
        (λ (same : s (at n) ≡ t (at n)). inl same)
        (λ u. inr (inr record {
          taken = u.0;
          answer = u.1.0;
          done = u.1.1;
          fits = λ outs gives.
              fits n outs
              (ap (λ (x : Mark Firing Answer). option_map (node_result (keeps_state G (actor_of g (node_at c.graph.nodes n)))) (answer_of x)) (late.stays (at n) u.1.0 u.1.1)
              ∙ ap Some gives);
        }))
        (ends (at n))

  -- ---- all steps

  earlier : (s : BoardState) (rest : List Step) → Nested (rules key) (top_job key) s.marks → (state_from (rules key) s rest).marks ≡ last → Earlier s.marks
  earlier s rest nested ends = record {
    nested = nested;
    free_or_open = open_earlier (rules key) s rest place job (ap (λ (z : Marks Firing Answer). z place) ends ∙ is_open);
    stays = λ b a done. ap (λ (z : Marks Firing Answer). z b) (sym ends) ∙ done_later (rules key) s rest b a done;
  }

  abbrev cells_from : BoardState → List Step → List ℤ → List ℤ
  cells_from s rest cells = image_from key place job c.graph.nodes c.graph.edges c.placement.offsets s rest cells

  pub image_follows : (s : BoardState) (rest : List Step) → Nested (rules key) (top_job key) s.marks → (state_from (rules key) s rest).marks ≡ last → (cells : List ℤ)
      → Follows key place job c is s.marks cells → Follows key place job c is last (cells_from s rest cells)
  image_follows s [] nested ends cells f = subst (λ (z : Marks Firing Answer). Follows key place job c is z cells) ends f
  image_follows s (e ∷ rest) nested ends cells f =
      let next = after (rules key) s e in
      let nested_too = after_nested (rules key) (rank G) lawful (top_job key) s e nested in
      let late = earlier next rest nested_too ends in
      let moves : (n : ℕ) → n < length c.graph.nodes → Moves key place job c is s.marks next.marks n = λ n inside. ⊎_elim
      (λ claims. claim_moves s.marks next.marks late claims n)
      (λ ends_so. finish_moves s.marks next.marks late ends_so n)
      (step_changes (rules key) s e) in
      image_follows next rest nested_too ends
      (all_wrote c.graph.edges c.placement.offsets (values_at key job c.graph.nodes s.marks place) (values_at key job c.graph.nodes next.marks place) (length c.graph.nodes) cells)
      (follow key place job c is s.marks next.marks cells moves f)
