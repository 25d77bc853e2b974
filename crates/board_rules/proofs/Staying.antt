-- The path of an open job stays while it is open.
use Rattle.std.proofs.Common.{◌≡◌, ◌≢◌, ⊎_elim, ℕ, ◌+◌, Option, Some, None, List, [], ◌∷◌, ◌++◌, refl, sym, ap, ◌∙◌, subst}
use Rattle.pisdf_model.specs.declared.graph.Graph.{Graph}
use Rattle.level_schedule.specs.declared.scheduling.LevelSchedule.{LevelSchedule}
use Rattle.pisdf_meaning.specs.Configuring.{Configuration, configurations}
use Rattle.pisdf_meaning.specs.declared.firing.Configured.{Configured}
use Rattle.pisdf_meaning.specs.declared.firing.Firing.{Firing}
use Rattle.nested_jobs.specs.Rules.{Call, Place, Values}
use Rattle.nested_jobs.specs.Marks.{Busy, Done, Free, Mark, Marks, Open, answer_of, put, values}
use Rattle.nested_jobs.specs.Journals as steps
use Rattle.nested_jobs.specs.Journals.{after, finish_of, start}
use Rattle.nested_jobs.specs.Meanings.{Within}
use Rattle.nested_jobs.proofs.Appending.{state-snoc}
use Rattle.nested_jobs.proofs.Nesting.{grown, of_open}
use Rattle.nested_jobs.proofs.Places.{one_open, put_at}
use Rattle.nested_jobs.proofs.Turns.{claimed_keeps, finished_keeps}
use Rattle.job_rules.proofs.Parts.{both_are, prepared_is}
use Rattle.job_rules.specs.Items.{Prepared, compile_number, graph_of, leaves, left_from, left_in, prepared_in, rule, schedule_of}
use Rattle.job_rules.specs.Meant.{rank}
use Rattle.job_rules.specs.Words.{Answer}
use Rattle.board_rules.specs.Keys.{IsKey, Key, rules, top_job}
use Rattle.board_rules.specs.Entries.{BoardState, Step}
use Rattle.board_rules.specs.Legal.{AreLegal, state_after}
use Rattle.board_rules.specs.Picks.{step_of_item, steps_to}
use Rattle.board_rules.proofs.Known.{BoardLaws, Known, known}
use Rattle.board_rules.proofs.Steps.{config_step, steps_are, which}

-- ---- what is known of a job stays

module _ (v w : Values Answer) (within : Within v w) where
  leaves_stays : (i : ℕ) (one : Configured) → leaves (v i) ≡ Some one → leaves (w i) ≡ Some one
  leaves_stays i one is = go (v i) refl is
    where
      go : (o : Option Answer) → v i ≡ o → leaves o ≡ Some one → leaves (w i) ≡ Some one
      go None e is = absurd (cc)
      go (Some a) e is = ap leaves (within i a e) ∙ is

  left_stays : (i : ℕ) (cs : List Configuration) (left : List Configured) → left_from v i cs ≡ Some left → left_from w i cs ≡ Some left
  left_stays i [] left is = is
  left_stays i (c ∷ cs) left is =
      let parts = both_are (leaves (v i)) (left_from v (i + 1) cs) left is in
      let first = leaves_stays i parts.first parts.first_is in
      let rest = left_stays (i + 1) cs parts.rest parts.rest_is in
      rw (first, rest) (ap (λ (l : List Configured). Some l) (sym parts.all_are))

  schedule_stays : (i : ℕ) (s : LevelSchedule) → schedule_of (v i) ≡ Some s → schedule_of (w i) ≡ Some s
  schedule_stays i s is = go (v i) refl is
    where
      go : (o : Option Answer) → v i ≡ o → schedule_of o ≡ Some s → schedule_of (w i) ≡ Some s
      go None e is = absurd (cc)
      go (Some a) e is = ap schedule_of (within i a e) ∙ is

  pub prepared_stays : (g : Graph) (p : Prepared) → prepared_in g v ≡ Some p → prepared_in g w ≡ Some p
  prepared_stays g p is =
      let parts = prepared_is (left_in g v) (schedule_of (v (compile_number g))) p is in
      let left = left_stays 0 (configurations g) p.left parts.left_is in
      let schedule = schedule_stays (compile_number g) p.schedule parts.schedule_is in
      rw (left, schedule) refl

module _ (key : Key) (is : IsKey key) (laws : BoardLaws key) where
  abbrev ranks : Firing → ℕ
  ranks = rank key.graphs.graphs

  -- ---- answers add up

  module _ (m : Marks Firing Answer) where
    record Grown (n : Marks Firing Answer) : Type 0 where
      used : (q : Place) (c : Firing) → m q ≡ Open c → n q ≢ Free
      same : (q : Place) (c d : Firing) → m q ≡ Open c → n q ≡ Open d → (c ≡ d) × Within (values m q) (values n q)

    written : (n : Marks Firing Answer) (a : Place) (y : Mark Firing Answer) → Grown n → answer_of (n a) ≡ None → y ≢ Free → ((d : Firing) → y ≡ Open d → n a ≡ Free) → Grown (put n a y)
    written n a y h none used opens = record {
      used = λ q c o e. ⊎_elim (λ t. used (sym t.1 ∙ e)) (λ t. h.used q c o (sym t.1 ∙ e)) (put_at n a y q);
      same = λ q c d o e. ⊎_elim
          (λ t. absurd (h.used q c o (ap n (sym t.0) ∙ opens d (sym t.1 ∙ e))))
          (λ t. let before = h.same q c d o (sym t.1 ∙ e) in (before.0, λ i b v. grown n a y none q i b (before.1 i b v)))
          (put_at n a y q);
    }

    grown_start : Grown m
    grown_start = record { used = λ q c o e. let no : Free ≡ Open c = sym e ∙ o in cc; same = λ q c d o e. (one_open m q c d o e, λ i b v. v) }

  after_grown : (s : BoardState) (e : Step) → Grown s.marks (after (rules key) s e).marks
  after_grown s (steps.Claim w a) = claimed_keeps (rules key) (Grown s.marks)
      (λ n i p d h free job. written s.marks n (i ∷ p) (Open d) h (ap answer_of free) (λ u. cc) (λ c e. free))
      (λ n i p work h free job. written s.marks n (i ∷ p) Busy h (ap answer_of free) (λ u. cc) (λ c e. absurd (cc)))
      s.marks a (grown_start s.marks)
  after_grown s (steps.Finish w v) = go (s.running w)
    where
      go : (r : Option Place) → Grown s.marks (finish_of (rules key) s w v r).marks
      go None = grown_start s.marks
      go (Some []) = grown_start s.marks
      go (Some (i ∷ p)) = finished_keeps (rules key) (Grown s.marks)
          (λ n q j h o quiet. written s.marks n q (Done ((rules key).outcome j (values n q))) h (ap answer_of o) (λ u. cc) (λ c e. absurd (cc)))
          s.marks i p v (grown_start s.marks)
          (λ busy. written s.marks s.marks (i ∷ p) (Done v) (grown_start s.marks) (ap answer_of busy) (λ u. cc) (λ c e. absurd (cc)))

  -- ---- paths

  module _ (m n : Marks Firing Answer) (m_known : Known key m) (n_known : Known key n) (h : Grown m n) where
    step_same : (q : Place) (c : Firing) → m q ≡ Open c → Within (values m q) (values n q) → (k : ℕ) (d : Firing) → rule key.graphs.graphs c (values m q) k ≡ Some (Call d)
        → step_of_item key (graph_of key.graphs.graphs c) c k (prepared_in (graph_of key.graphs.graphs c) (values n q)) ≡ step_of_item key (graph_of key.graphs.graphs c) c k (prepared_in (graph_of key.graphs.graphs c) (values m q))
    step_same q c o within k d task =
        let g : Graph = graph_of key.graphs.graphs c in
        ⊎_elim
        (λ low. config_step key g c k low (prepared_in g (values n q)) ∙ sym (config_step key g c k low (prepared_in g (values m q))))
        (λ calls. ap (step_of_item key g c k) (prepared_stays (values m q) (values n q) within g calls.p calls.prepared_so ∙ sym calls.prepared_so))
        (which key is laws m m_known q c o k d task)

    steps_same : (p : Place) (c d : Firing) → m p ≡ Open c → n p ≡ Open d → steps_to key n p ≡ steps_to key m p
    steps_same [] c d o o' = refl
    steps_same (i ∷ p) c d o o' =
        let up = of_open (rules key) ranks laws.lawful (top_job key) m i p c m_known.nested o in
        let up' = of_open (rules key) ranks laws.lawful (top_job key) n i p d n_known.nested o' in
        let same = h.same p up.job up'.job up.is_open up'.is_open in
        let open_n : n p ≡ Open up.job = up'.is_open ∙ ap Open (sym same.0) in
        let rest = steps_same p up.job up'.job up.is_open up'.is_open in
        let step = step_same p up.job up.is_open same.1 i c up.has_task in
        steps_are key is laws n n_known i p up.job open_n
        ∙ ((λ x. rest x ++ step x ∷ []) ∙ sym (steps_are key is laws m m_known i p up.job up.is_open))

  pub paths_stay : (taken : List Step) (e : Step) (p : Place) (c d : Firing) → AreLegal key taken → AreLegal key (taken ++ e ∷ []) → (state_after key taken).marks p ≡ Open c → (state_after key (taken ++ e ∷ [])).marks p ≡ Open d
      → steps_to key (state_after key (taken ++ e ∷ [])).marks p ≡ steps_to key (state_after key taken).marks p
  paths_stay taken e p c d legal more o o' =
      let next : state_after key (taken ++ e ∷ []) ≡ after (rules key) (state_after key taken) e = state-snoc (rules key) (start (top_job key)) taken e in
      let grown_so : Grown (state_after key taken).marks (state_after key (taken ++ e ∷ [])).marks = subst (λ (s : BoardState). Grown (state_after key taken).marks s.marks) (sym next) (after_grown (state_after key taken) e) in
      steps_same (state_after key taken).marks (state_after key (taken ++ e ∷ [])).marks (known key is laws taken legal) (known key is laws (taken ++ e ∷ []) more) grown_so p c d o o'
