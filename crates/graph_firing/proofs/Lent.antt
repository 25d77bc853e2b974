-- What is lent of the nodes of a job, stage by stage.
use Rattle.std.proofs.Common.{◌≡◌, ℕ, suc, ◌+◌, ◌<◌, List, [], ◌∷◌, ◌++◌, length, Option, Some, None, refl, sym, ap, ◌∙◌, subst, arith}
use Rattle.std.specs.Prelude.{drop}
use Rattle.kernel_gate.specs.Leased.{AreWhole}
use Rattle.kernel_gate.specs.Value.{Places}
use Rattle.one_job.specs.Leased.{LendsBuffers}
use Rattle.pisdf_model.specs.declared.graph.Graphs.{Graphs}
use Rattle.pisdf_meaning.specs.declared.firing.Firing.{Firing}
use Rattle.pisdf_meaning.specs.declared.refusal.Refusal.{Refusal}
use Rattle.sdf_level.specs.declared.node.Node.{Node}
use Rattle.sdf_level.specs.declared.single_rate.Edge.{Edge}
use Rattle.job_rules.specs.Items.{compile_number, edges_in, graph_of, nodes_in, prepared_in}
use Rattle.job_preparing.specs.Handing.{AreOwnBlocks, ItemMarks, lent_at}
use Rattle.job_preparing.specs.View as preparing
use Rattle.job_preparing.specs.View.{ConfiguringView}
use Rattle.graph_firing.specs.Nodes.Leases.{LendsNodes, as_nodes}
use Rattle.graph_firing.specs.Nodes.View.{RunningView}
use Rattle.graph_firing.specs.Invariants.{KeepsWith, compile_mark, node_lent as stage_lent, node_marks as stage_marks, stage_cells, view_with}
use Rattle.graph_firing.specs.Leases.{IsCompilationOf, LendsAs, LendsItems, node_lent, node_marks}
use Rattle.graph_firing.specs.View.{OpenView, answered, graph_in}
use Rattle.graph_firing.specs.declared.stage.Stage.{Stage}
use Rattle.graph_firing.specs.declared.stage.Stage.TheVariants.{Waiting, Compiling, Refused, Nodes}
use Rattle.graph_firing.proofs.Cut.{read_after, read_before, read_seam, same_function}
use Rattle.graph_firing.proofs.NodeRules as rules

drop_cut : {T : Type 0} (before : List T) (x : T) (after : List T) → drop (length before + 1) (before ++ x ∷ after) ≡ after
drop_cut [] x after = refl
drop_cut (y ∷ before) x after =
    let e : length (y ∷ before) + 1 ≡ suc (length before + 1) = omega arith in
    ap (λ n. drop n (y ∷ (before ++ x ∷ after))) e ∙ drop_cut before x after

the_same : {X : Type 0} (o : Option X) (x y : X) → o ≡ Some x → o ≡ Some y → x ≡ y
the_same o x y one two = cc

module _ (c : ConfiguringView) (workers : ℕ) (stage : Stage) (keeps : KeepsWith c workers stage) where
  marks_are : node_marks (view_with c workers stage) ≡ stage_marks stage
  marks_are = ap (λ (k : ℕ). drop (k + 1) (c.marks ++ compile_mark stage ∷ stage_marks stage)) (sym keeps.marks_many) ∙ drop_cut c.marks (compile_mark stage) (stage_marks stage)

  lent_are : node_lent (view_with c workers stage) ≡ lent_at (stage_lent stage)
  lent_are = same_function (node_lent (view_with c workers stage)) (lent_at (stage_lent stage))
      (λ n. read_after c.lent None (stage_lent stage) None (compile_number (preparing.graph_in c) + 1) n (let long = keeps.lent_many in omega arith))

  actors_own : AreOwnBlocks c.lent → (i : ℕ) (places : Places) → i < compile_number (preparing.graph_in c) → lent_at (view_with c workers stage).lent i ≡ Some places → AreWhole places
  actors_own own i places below is = own i places (sym (read_before c.lent None (stage_lent stage) None i (let long = keeps.lent_many in omega arith)) ∙ is)

  seam : lent_at (view_with c workers stage).lent (compile_number (preparing.graph_in c)) ≡ None
  seam = read_seam c.lent None (stage_lent stage) None (compile_number (preparing.graph_in c)) keeps.lent_many

  pub none_lent : AreOwnBlocks c.lent → stage_lent stage ≡ [] → stage_cells stage ≡ None → LendsItems (view_with c workers stage)
  none_lent own none unplaced = record {
    actors = actors_own own;
    compilation = seam;
    nodes = subst (LendsAs (view_with c workers stage)) (sym unplaced) (λ n. ap (λ (l : ℕ → Option Places). l n) lent_are ∙ ap (λ l. lent_at l n) none);
  }

module _ (c : ConfiguringView) (workers : ℕ) (r : RunningView) (keeps : KeepsWith c workers (Nodes r)) (own : AreOwnBlocks c.lent) (lends : LendsNodes r) where
  abbrev v : OpenView
  v = view_with c workers (Nodes r)

  abbrev G : Graphs → Firing → List Node
  G graphs firing = nodes_in graphs.graphs (graph_of graphs.graphs firing) firing r.prepared

  abbrev E : Graphs → Firing → List Edge
  E graphs firing = edges_in graphs.graphs (graph_of graphs.graphs firing) firing r.prepared

  compiled_from : IsCompilationOf v r.cells r.prepared
  compiled_from = record {
    nodes_are = lends.nodes_are ∙ (λ t. G (keeps.stage_fits.graphs_are t) (keeps.stage_fits.firing_is t));
    edges_are = lends.edges_are ∙ (λ t. E (keeps.stage_fits.graphs_are t) (keeps.stage_fits.firing_is t));
  }

  pub nodes_lent : LendsItems v
  nodes_lent = record {
    actors = actors_own c workers (Nodes r) keeps own;
    compilation = seam c workers (Nodes r) keeps;
    nodes = record {
      of_job = λ p is. subst (IsCompilationOf v r.cells) (the_same (prepared_in (graph_in v) (answered v)) r.prepared p (rules.prepared_is c workers r keeps.marks_many keeps.stage_fits) is) compiled_from;
      lends = subst (λ (l : ℕ → Option Places). LendsBuffers r.cells (as_nodes (node_marks v)) l) (sym (lent_are c workers (Nodes r) keeps))
          (subst (λ (m : ItemMarks). LendsBuffers r.cells (as_nodes m) (lent_at r.lent)) (sym (marks_are c workers (Nodes r) keeps)) lends.lends);
    };
  }

module _ (c : ConfiguringView) (workers : ℕ) (stage : Stage) (keeps : KeepsWith c workers stage) (v : OpenView) (is : view_with c workers stage ≡ v) (own : AreOwnBlocks c.lent) where
  at_stage : (other : Stage) → stage ≡ other → LendsItems (view_with c workers other) → LendsItems v
  at_stage other same lends = subst LendsItems (ap (view_with c workers) (sym same) ∙ is) lends

  keeps_at : (other : Stage) → stage ≡ other → KeepsWith c workers other
  keeps_at other same = subst (KeepsWith c workers) same keeps

  pub lends_waiting : stage ≡ Waiting → LendsItems v
  lends_waiting same = at_stage Waiting same (none_lent c workers Waiting (keeps_at Waiting same) own refl refl)

  pub lends_compiling : stage ≡ Compiling → LendsItems v
  lends_compiling same = at_stage Compiling same (none_lent c workers Compiling (keeps_at Compiling same) own refl refl)

  pub lends_refused : (refusal : Refusal) → stage ≡ Refused refusal → LendsItems v
  lends_refused refusal same = at_stage (Refused refusal) same (none_lent c workers (Refused refusal) (keeps_at (Refused refusal) same) own refl refl)

  pub lends_nodes : (r : RunningView) → stage ≡ Nodes r → LendsNodes r → LendsItems v
  lends_nodes r same lends = at_stage (Nodes r) same (nodes_lent c workers r (keeps_at (Nodes r) same) own lends)

  pub cells_are : (other : Stage) → stage ≡ other → v.cells ≡ stage_cells other
  cells_are other same = ap (λ (x : OpenView). x.cells) (sym is) ∙ ap stage_cells same
