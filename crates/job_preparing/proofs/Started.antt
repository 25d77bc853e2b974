-- Configuration actors at their start.
use Rattle.std.proofs.Common.{◌≡◌, ℕ, List, [], length, map, replicate, get_or, slice_get, Option, None, refl, sym, ap, ◌∙◌, subst}
use Rattle.std.proofs.lemmas.List.{length-replicate}
use Rattle.kernel_gate.specs.Value.{FrameView}
use Rattle.nested_jobs.specs.Marks.{Free}
use Rattle.param_resolver.specs.EarlyView.{EarlyView}
use Rattle.pisdf_model.specs.Valid.{AreValid}
use Rattle.pisdf_model.specs.declared.graph.Graph.{Graph}
use Rattle.pisdf_model.specs.declared.graph.Graphs.{Graphs}
use Rattle.pisdf_meaning.specs.Configuring.{configurations, early_in}
use Rattle.pisdf_meaning.specs.declared.firing.Configured.{Configured}
use Rattle.pisdf_meaning.specs.declared.firing.Firing.{Firing}
use Rattle.pisdf_meaning.specs.declared.outcome.TraceRow.{TraceRow}
use Rattle.job_rules.specs.Items.{compile_number, graph_of}
use Rattle.job_rules.specs.Meant.{IsFit}
use Rattle.job_preparing.specs.Unclaimed.{AreUnclaimed}
use Rattle.job_preparing.specs.Stages.{lent_of, mark_of}
use Rattle.job_preparing.specs.Standing.{ArePlaces, Keeps, nothing}
use Rattle.job_preparing.specs.View.{HasInherited}
use Rattle.job_preparing.specs.declared.stage.Stage.{Stage}

module _ (graphs : Graphs) (firing : Firing) (places : List ℕ) (stages : List Stage) (frames : List (Option FrameView)) (h : Graph) (g_is : h ≡ graph_of graphs.graphs firing) (placed : ArePlaces h places) (unclaimed : AreUnclaimed graphs.graphs h firing (length places) stages frames) where
  own_places : ArePlaces (graph_of graphs.graphs firing) places
  own_places = subst (λ (x : Graph). ArePlaces x places) g_is placed

  own_unclaimed : AreUnclaimed graphs.graphs (graph_of graphs.graphs firing) firing (length places) stages frames
  own_unclaimed = subst (λ (x : Graph). AreUnclaimed graphs.graphs x firing (length places) stages frames) g_is unclaimed

  pub start_keeps : (early : EarlyView) (left : List Configured) (traces : List (List TraceRow)) → AreValid graphs → IsFit graphs.graphs firing → HasInherited graphs.graphs firing → early ≡ early_in graphs.graphs firing →
      left ≡ replicate (length places) nothing → traces ≡ replicate (length places) [] → Keeps graphs firing early places stages frames left traces
  start_keeps early left traces valid fit inherited early_is left_is traces_are = record {
    valid = valid;
    fit = fit;
    inherited = inherited;
    early_is = early_is;
    places_are = own_places;
    one_stage = own_unclaimed.one_stage;
    one_frame = own_unclaimed.one_frame;
    one_left = ap (λ (l : List Configured). length l) left_is ∙ length-replicate (length places) nothing;
    one_trace = ap (λ (l : List (List TraceRow)). length l) traces_are ∙ length-replicate (length places) [];
    own = own_unclaimed.own;
    right = λ c s is. own_unclaimed.right c s is (get_or left c nothing) (get_or traces c []);
  }

  pub all_free : map mark_of stages ≡ replicate (compile_number (graph_of graphs.graphs firing)) Free
  all_free = own_unclaimed.free ∙ ap (λ n. replicate n Free) own_places.one_each

  pub none_lent : map lent_of stages ≡ replicate (compile_number (graph_of graphs.graphs firing)) None
  none_lent = own_unclaimed.lent ∙ ap (λ n. replicate n None) own_places.one_each
