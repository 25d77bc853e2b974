-- A job at its start.
use Rattle.std.proofs.Common.{◌≡◌, ℕ, ◌≤◌, length, replicate, None, sym, ap, ◌∙◌, subst}
use Rattle.std.proofs.lemmas.List.{length-replicate}
use Rattle.nested_jobs.specs.Marks.{Free, Done}
use Rattle.pisdf_model.specs.Valid.{AreValid}
use Rattle.pisdf_model.specs.declared.graph.Graphs.{Graphs}
use Rattle.pisdf_meaning.specs.declared.firing.Firing.{Firing}
use Rattle.job_rules.specs.Items.{compile_number, graph_of}
use Rattle.job_rules.specs.Meant.{IsFit}
use Rattle.job_rules.specs.Words.{Schedules}
use Rattle.job_preparing.specs.Handing.{ItemMarks, mark_at}
use Rattle.job_preparing.specs.View as preparing
use Rattle.job_preparing.specs.View.{ConfiguringView}
use Rattle.graph_firing.specs.Invariants.{KeepsWith}
use Rattle.graph_firing.specs.declared.stage.Stage.TheVariants.{Waiting}
use Rattle.graph_firing.proofs.CompileSteps.{read_copies}

module _ (graphs : Graphs) (workers : ℕ) (firing : Firing) (c : ConfiguringView) (graphs_are : c.graphs ≡ graphs) (firing_is : c.firing ≡ firing) where
  abbrev k : ℕ
  k = compile_number (graph_of graphs.graphs firing)

  same : k ≡ compile_number (preparing.graph_in c)
  same = λ t. compile_number (graph_of (sym graphs_are t).graphs (sym firing_is t))

  pub keeps_start : AreValid graphs → IsFit graphs.graphs firing → 1 ≤ workers → c.marks ≡ replicate k Free → c.lent ≡ replicate k None → KeepsWith c workers Waiting
  keeps_start valid fit some free unlent =
      let F : Firing → Type 0 = λ d. IsFit graphs.graphs d in
      let G : Graphs → Type 0 = λ all. IsFit all.graphs c.firing in
      let at : (i : ℕ) → mark_at c.marks i ≡ Free = λ i. ap (λ (marks : ItemMarks). mark_at marks i) free ∙ read_copies k i Free in
      record {
        valid = subst (λ (x : Graphs). AreValid x) (sym graphs_are) valid;
        fit = subst G (sym graphs_are) (subst F (sym firing_is) fit);
        some = some;
        marks_many = ap length free ∙ length-replicate k Free ∙ same;
        lent_many = ap length unlent ∙ length-replicate k None ∙ same;
        gave = λ i s is. let e : Free ≡ Done (Schedules s) = sym (at i) ∙ is in cc;
        stage_fits = tt;
      }
