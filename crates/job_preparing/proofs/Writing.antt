-- What a write to one configuration actor keeps.
use Rattle.std.proofs.Common.{◌≡◌, ℕ, ◌+◌, ◌<◌, List, [], length, map, set, get_or, slice_get, Option, Some, None, refl, sym, ap, ◌∙◌, subst, arith, ⊎_elim}
use Rattle.std.proofs.lemmas.List.{length-set, get_or-set_same, get_or-set_other, set-get_or}
use Rattle.std.proofs.lemmas.Option.{slice_get_within}
use Rattle.kernel_gate.specs.Value.{FrameView}
use Rattle.nested_jobs.specs.Rules.{Task}
use Rattle.param_resolver.specs.EarlyView.{EarlyView}
use Rattle.pisdf_model.specs.declared.graph.Graphs.{Graphs}
use Rattle.pisdf_meaning.specs.Configuring.{configurations, config_rates}
use Rattle.pisdf_meaning.specs.declared.firing.Configured.{Configured}
use Rattle.pisdf_meaning.specs.declared.firing.Firing.{Firing}
use Rattle.pisdf_meaning.specs.declared.outcome.TraceRow.{TraceRow}
use Rattle.job_rules.specs.Items.{graph_of}
use Rattle.job_rules.specs.Words as words
use Rattle.job_preparing.specs.Standing.{IsOwn, Keeps, StandsRight, nothing}
use Rattle.job_preparing.specs.View.{task_of}
use Rattle.job_preparing.specs.declared.stage.Stage.{Stage}
use Rattle.job_preparing.proofs.Reading.{all_set, read_set}

module _ (graphs : Graphs) (firing : Firing) (early : EarlyView) (places : List ℕ) (stages : List Stage) (frames : List (Option FrameView)) (left : List Configured) (traces : List (List TraceRow)) (kept : Keeps graphs firing early places stages frames left traces) where
  abbrev pub due : ℕ → Option (Task Firing words.Work)
  due c = task_of graphs.graphs (graph_of graphs.graphs firing) firing (slice_get (configurations (graph_of graphs.graphs firing)) c)

  module _ (n : ℕ) (inside : n < length stages) (stage : Stage) (frame : Option FrameView) (one : Configured) (trace : List TraceRow) (own : IsOwn frame)
      (stands : StandsRight graphs.graphs (due n) (config_rates graphs.graphs firing n) stage frame one trace) where
    here : StandsRight graphs.graphs (due n) (config_rates graphs.graphs firing n) stage (get_or (set frames n frame) n None) (get_or (set left n one) n nothing) (get_or (set traces n trace) n [])
    here =
        let F : Option FrameView → Type 0 = λ f. StandsRight graphs.graphs (due n) (config_rates graphs.graphs firing n) stage f one trace in
        let L : Configured → Type 0 = λ l. StandsRight graphs.graphs (due n) (config_rates graphs.graphs firing n) stage (get_or (set frames n frame) n None) l trace in
        let T : List TraceRow → Type 0 = λ r. StandsRight graphs.graphs (due n) (config_rates graphs.graphs firing n) stage (get_or (set frames n frame) n None) (get_or (set left n one) n nothing) r in
        let s = kept.one_stage in
        let f = kept.one_frame in
        let l = kept.one_left in
        let t = kept.one_trace in
        subst T (sym (get_or-set_same traces n trace [] (omega arith))) (subst L (sym (get_or-set_same left n one nothing (omega arith))) (subst F (sym (get_or-set_same frames n frame None (omega arith))) stands))

    at_one : (c : ℕ) (s : Stage) → c ≡ n → s ≡ stage → StandsRight graphs.graphs (due c) (config_rates graphs.graphs firing c) s (get_or (set frames n frame) c None) (get_or (set left n one) c nothing) (get_or (set traces n trace) c [])
    at_one c s same is =
        let P : Stage → Type 0 = λ x. StandsRight graphs.graphs (due n) (config_rates graphs.graphs firing n) x (get_or (set frames n frame) n None) (get_or (set left n one) n nothing) (get_or (set traces n trace) n []) in
        let Q : ℕ → Type 0 = λ m. StandsRight graphs.graphs (due m) (config_rates graphs.graphs firing m) s (get_or (set frames n frame) m None) (get_or (set left n one) m nothing) (get_or (set traces n trace) m []) in
        subst Q (sym same) (subst P (sym is) here)

    at_other : (c : ℕ) (s : Stage) → (c ≡ n → ⊥) → slice_get stages c ≡ Some s → StandsRight graphs.graphs (due c) (config_rates graphs.graphs firing c) s (get_or (set frames n frame) c None) (get_or (set left n one) c nothing) (get_or (set traces n trace) c [])
    at_other c s other is =
        let F : Option FrameView → Type 0 = λ f. StandsRight graphs.graphs (due c) (config_rates graphs.graphs firing c) s f (get_or left c nothing) (get_or traces c []) in
        let L : Configured → Type 0 = λ l. StandsRight graphs.graphs (due c) (config_rates graphs.graphs firing c) s (get_or (set frames n frame) c None) l (get_or traces c []) in
        let T : List TraceRow → Type 0 = λ r. StandsRight graphs.graphs (due c) (config_rates graphs.graphs firing c) s (get_or (set frames n frame) c None) (get_or (set left n one) c nothing) r in
        subst T (sym (get_or-set_other traces n c trace [] other)) (subst L (sym (get_or-set_other left n c one nothing other)) (subst F (sym (get_or-set_other frames n c frame None other)) (kept.right c s is)))

    pub put : Keeps graphs firing early places (set stages n stage) (set frames n frame) (set left n one) (set traces n trace)
    put = record {
      valid = kept.valid;
      fit = kept.fit;
      inherited = kept.inherited;
      early_is = kept.early_is;
      places_are = kept.places_are;
      one_stage = length-set stages n stage ∙ kept.one_stage;
      one_frame = length-set frames n frame ∙ kept.one_frame;
      one_left = length-set left n one ∙ kept.one_left;
      one_trace = length-set traces n trace ∙ kept.one_trace;
      own = all_set IsOwn frames n frame kept.own own;
      right = λ c s is. ⊎_elim
          (λ (h : (c ≡ n) × (s ≡ stage)). at_one c s h.0 h.1)
          (λ (h : (c ≡ n → ⊥) × (slice_get stages c ≡ Some s)). at_other c s h.0 h.1)
          (read_set stages n stage c s is);
    }

  -- a write that leaves alone what the actor left
  pub put_stage : (n : ℕ) → n < length stages → (stage : Stage) (frame : Option FrameView) → IsOwn frame → StandsRight graphs.graphs (due n) (config_rates graphs.graphs firing n) stage frame (get_or left n nothing) (get_or traces n []) →
      Keeps graphs firing early places (set stages n stage) (set frames n frame) left traces
  put_stage n inside stage frame own stands =
      let P : List Configured → Type 0 = λ l. Keeps graphs firing early places (set stages n stage) (set frames n frame) l (set traces n (get_or traces n [])) in
      let Q : List (List TraceRow) → Type 0 = λ t. Keeps graphs firing early places (set stages n stage) (set frames n frame) left t in
      subst Q (set-get_or traces n []) (subst P (set-get_or left n nothing) (put n inside stage frame (get_or left n nothing) (get_or traces n []) own stands))

  frame_own : (n : ℕ) → n < length stages → IsOwn (get_or frames n None)
  frame_own n inside = kept.own n None (let s = kept.one_stage in let f = kept.one_frame in omega arith)

  -- a write of the stage alone
  pub put_alone : (n : ℕ) → n < length stages → (stage : Stage) → StandsRight graphs.graphs (due n) (config_rates graphs.graphs firing n) stage (get_or frames n None) (get_or left n nothing) (get_or traces n []) →
      Keeps graphs firing early places (set stages n stage) frames left traces
  put_alone n inside stage stands =
      let P : List (Option FrameView) → Type 0 = λ f. Keeps graphs firing early places (set stages n stage) f left traces in
      subst P (set-get_or frames n None) (put_stage n inside stage (get_or frames n None) (frame_own n inside) stands)

  -- a write that leaves alone the frame that waits
  pub put_left : (n : ℕ) → n < length stages → (stage : Stage) (one : Configured) (trace : List TraceRow) → StandsRight graphs.graphs (due n) (config_rates graphs.graphs firing n) stage (get_or frames n None) one trace →
      Keeps graphs firing early places (set stages n stage) frames (set left n one) (set traces n trace)
  put_left n inside stage one trace stands =
      let P : List (Option FrameView) → Type 0 = λ f. Keeps graphs firing early places (set stages n stage) f (set left n one) (set traces n trace) in
      subst P (set-get_or frames n None) (put n inside stage (get_or frames n None) one trace (frame_own n inside) stands)
