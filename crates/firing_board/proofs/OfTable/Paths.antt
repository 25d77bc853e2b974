-- The path of an open job stays while items are marked.
use Rattle.std.proofs.Common.{◌≡◌, ◌⊎◌, ⊎_elim, inl, inr, ℕ, zero, suc, ◌<◌, List, [], ◌∷◌, ◌++◌, length, Option, Some, None, refl, sym, ap, ◌∙◌, arith}
use Rattle.job_rules.specs.Items.{Prepared, compile_rule, graph_of, left_in, node_rule, prepared_in, rule, rule_from}
use Rattle.job_rules.specs.Meant.{rank}
use Rattle.job_rules.specs.Words.{Answer}
use Rattle.nested_jobs.proofs.Nesting.{grown, of_open}
use Rattle.nested_jobs.proofs.Places.{one_open, put_at}
use Rattle.nested_jobs.specs.Invariants.{Nested}
use Rattle.nested_jobs.specs.Marks.{Free, Mark, Marks, Open, answer_of, put, values}
use Rattle.nested_jobs.specs.Meanings.{Lawful, Within}
use Rattle.nested_jobs.specs.Rules.{Call, Place, Values}
use Rattle.graph_firing.specs.Paths as job
use Rattle.pisdf_meaning.specs.Configuring.{Configuration, configurations}
use Rattle.pisdf_meaning.specs.declared.firing.Configured.{Configured}
use Rattle.pisdf_meaning.specs.declared.firing.Firing.{Firing}
use Rattle.pisdf_model.specs.declared.graph.Graph.{Graph}
use Rattle.board_rules.proofs.Staying.{prepared_stays}
use Rattle.board_rules.proofs.Steps.{config_step}
use Rattle.board_rules.specs.Keys.{Key, rules, top_job}
use Rattle.board_rules.specs.Picks.{step_in, step_of_item, steps_to}

-- ---- an open job tells the step as its board does

module _ (key : Key) where
  pub same_step : (g : Graph) (firing : Firing) (i : ℕ) (o : Option Prepared) → job.step_of_item key.graphs.graphs g firing i o ≡ step_of_item key g firing i o
  same_step g firing i None = refl
  same_step g firing i (Some p) = refl

  -- ---- an item that calls a job is a configuration actor, or its job is compiled

  abbrev IsKnown : Graph → Values Answer → Type 0
  IsKnown g v = (p : Prepared) × (prepared_in g v ≡ Some p)

  which_from : (g : Graph) (c : Firing) (v : Values Answer) (cs : List Configuration) (i : ℕ) (d : Firing) → rule_from key.graphs.graphs g c v cs i ≡ Some (Call d) → (i < length cs) ⊎ IsKnown g v
  which_from g c v [] zero d is = absurd (go (left_in g v) is)
    where
      go : (o : Option (List Configured)) → compile_rule c o ≡ Some (Call d) → ⊥
      go None e = cc
      go (Some left) e = cc
  which_from g c v [] (suc n) d is = inr (go (prepared_in g v) refl is)
    where
      go : (o : Option Prepared) → prepared_in g v ≡ o → node_rule key.graphs.graphs g c v n o ≡ Some (Call d) → IsKnown g v
      go None e f = absurd (cc)
      go (Some p) e f = (p, e)
  which_from g c v (x ∷ cs) zero d is = inl (omega arith)
  which_from g c v (x ∷ cs) (suc i) d is = ⊎_elim (λ (low : i < length cs). inl (omega arith)) (λ known. inr known) (which_from g c v cs i d is)

  -- so its step stays when more is answered
  pub step_stays : (c : Firing) (v w : Values Answer) → Within v w → (i : ℕ) (d : Firing) → rule key.graphs.graphs c v i ≡ Some (Call d)
      → step_of_item key (graph_of key.graphs.graphs c) c i (prepared_in (graph_of key.graphs.graphs c) w) ≡ step_of_item key (graph_of key.graphs.graphs c) c i (prepared_in (graph_of key.graphs.graphs c) v)
  step_stays c v w within i d task =
      let g : Graph = graph_of key.graphs.graphs c in
      ⊎_elim
      (λ low. config_step key g c i low (prepared_in g w) ∙ sym (config_step key g c i low (prepared_in g v)))
      (λ known. ap (step_of_item key g c i) (prepared_stays v w within g known.0 known.1 ∙ sym known.1))
      (which_from g c v (configurations g) i d task)

  -- ---- paths

  pub step_at : (m : Marks Firing Answer) (i : ℕ) (p : Place) (c : Firing) → m p ≡ Open c
      → steps_to key m (i ∷ p) ≡ steps_to key m p ++ step_of_item key (graph_of key.graphs.graphs c) c i (prepared_in (graph_of key.graphs.graphs c) (values m p)) ∷ []
  step_at m i p c is = ap (λ (x : Mark Firing Answer). steps_to key m p ++ step_in key m p i x) is

  -- an open job that stays open is the same, and keeps its answers
  pub record Grows (m n : Marks Firing Answer) : Type 0 where
    pub same : (q : Place) (c d : Firing) → m q ≡ Open c → n q ≡ Open d → (c ≡ d) × Within (values m q) (values n q)

  pub grows_by : (m : Marks Firing Answer) (a : Place) (y : Mark Firing Answer) → answer_of (m a) ≡ None → ((d : Firing) → y ≡ Open d → m a ≡ Free) → Grows m (put m a y)
  grows_by m a y none opens = record {
    same = λ q c d o e. ⊎_elim
        (λ t. let no : Free ≡ Open c = sym (opens d (sym t.1 ∙ e)) ∙ (ap m t.0 ∙ o) in absurd (cc))
        (λ t. (one_open m q c d o (sym t.1 ∙ e), λ i b v. grown m a y none q i b v))
        (put_at m a y q);
  }

  module _ (lawful : Lawful (rules key) (rank key.graphs.graphs)) (m n : Marks Firing Answer) (m_nested : Nested (rules key) (top_job key) m) (n_nested : Nested (rules key) (top_job key) n) (h : Grows m n) where
    pub paths_stay : (p : Place) (c d : Firing) → m p ≡ Open c → n p ≡ Open d → steps_to key n p ≡ steps_to key m p
    paths_stay [] c d o o' = refl
    paths_stay (i ∷ p) c d o o' =
        let up = of_open (rules key) (rank key.graphs.graphs) lawful (top_job key) m i p c m_nested o in
        let up' = of_open (rules key) (rank key.graphs.graphs) lawful (top_job key) n i p d n_nested o' in
        let same = h.same p up.job up'.job up.is_open up'.is_open in
        let open_n : n p ≡ Open up.job = up'.is_open ∙ ap Open (sym same.0) in
        let rest = paths_stay p up.job up'.job up.is_open up'.is_open in
        let step = step_stays up.job (values m p) (values n p) same.1 i c up.has_task in
        step_at n i p up.job open_n ∙ ((λ x. rest x ++ step x ∷ []) ∙ sym (step_at m i p up.job up.is_open))
