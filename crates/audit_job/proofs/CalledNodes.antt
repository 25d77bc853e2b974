-- The firings that nodes call give the inherited parameters of their graphs values.
use Rattle.std.proofs.Common.{◌≡◌, ℕ, ℤ, true, List, [], length, get_or, slice_get, Some, sym, ap, ◌∙◌, subst}
use Rattle.std.specs.Prelude.{slice_index}
use Rattle.std.proofs.lemmas.Bool.{eqb-true}
use Rattle.std.proofs.lemmas.List.{length-map}
use Rattle.std.proofs.lemmas.Option.{get_or_from_slice_get, slice_get-get_or, slice_get_within}
use Rattle.job_preparing.specs.View.{HasInherited}
use Rattle.job_rules.specs.Items.{graph_of, no_graph, node_task}
use Rattle.job_rules.specs.Meant.{IsFit}
use Rattle.nested_jobs.specs.Rules.{Call}
use Rattle.param_expr.specs.Tree.{Tree}
use Rattle.param_resolver.specs.LevelOf.{args_of, level_args}
use Rattle.param_resolver.specs.Numbering.{acting, acting_places, has_state}
use Rattle.param_resolver.specs.Rates.{arg_values}
use Rattle.pisdf_meaning.specs.Running.{child_firing}
use Rattle.pisdf_meaning.specs.Sound.{no_actor}
use Rattle.pisdf_meaning.specs.States.{tokens_at}
use Rattle.pisdf_meaning.specs.declared.firing.Firing.{Firing}
use Rattle.pisdf_meaning.proofs.Fitting.{actor_fits}
use Rattle.pisdf_model.specs.Parts.{input_count}
use Rattle.pisdf_model.specs.Ports.{body_fits, inherited_count}
use Rattle.pisdf_model.specs.Range.{InRange}
use Rattle.pisdf_model.specs.WellFormed.{WellFormed}
use Rattle.pisdf_model.specs.declared.actor.Actor.{Actor}
use Rattle.pisdf_model.specs.declared.actor.Body.{Body}
use Rattle.pisdf_model.specs.declared.actor.Body.TheVariants.{Child}
use Rattle.pisdf_model.specs.declared.graph.Graph.{Graph}
use Rattle.pisdf_model.specs.declared.graph.Graphs.{Graphs}
use Rattle.sdf_level.specs.declared.node.Node.{Node}
use Rattle.sdf_level.specs.declared.node.Node.TheVariants as node
use Rattle.job_preparing.proofs.ActingPlaces.{EachPlaced}
use Rattle.audit_job.proofs.ConfigItems.{graph_inside}
use Rattle.audit_job.proofs.NodeWork.{actor_there, called, calls_fire, is_child}

module _ (each : EachPlaced) (graphs : Graphs) (range : InRange graphs) (well : WellFormed graphs) (firing : Firing) (fit : IsFit graphs.graphs firing) (values : List ℤ) (which : Node) (read : List (List ℤ)) (lens : List ℕ) (d : Firing) where
  abbrev G : List Graph
  G = graphs.graphs

  abbrev g : Graph
  g = graph_of G firing

  -- the firing that the actor of a node calls
  module _ (a k : ℕ) (is : which ≡ node.Firing a k) (actor : Actor) (there : slice_get (acting g) a ≡ Some actor) (place : ℕ) (exprs : List Tree) (body : actor.body ≡ Child place exprs) (task : node_task G g firing values which read lens ≡ Some (Call d)) where
    abbrev child : Firing
    child = child_firing G firing actor.name k (tokens_at (level_args g values) a) (has_state G actor) place (input_count G actor.body) read

    child_is : child ≡ d
    child_is = let e = sym (called G g firing values which read lens a k is actor there place exprs body) ∙ task in cc

    args_are : tokens_at (level_args g values) a ≡ arg_values values exprs
    args_are = get_or_from_slice_get (level_args g values) a (args_of values actor.body) [] (each G g values a actor there).args ∙ ap (args_of values) body

    many : length exprs ≡ inherited_count (slice_get G place)
    many =
        let at = slice_index (acting_places g) a in
        let found = (each [] g [] a actor there).place in
        let fits = actor_fits graphs range well firing.graph no_graph (graph_inside G firing fit) at no_actor (slice_get_within g.actors at actor found) in
        let same : get_or g.actors at no_actor ≡ actor = get_or_from_slice_get g.actors at actor no_actor found in
        let P : Body → Type 0 = λ b. body_fits (λ x. true) G b ≡ true in
        eqb-true (length exprs) (inherited_count (slice_get G place)) (subst P (ap (λ (x : Actor). x.body) same ∙ body) fits)

    child_inherits : HasInherited G child
    child_inherits = record { one_each = ap (λ (l : List ℤ). length l) args_are ∙ length-map exprs _ ∙ many }

    inherits_so : HasInherited G d
    inherits_so = subst (λ (x : Firing). HasInherited G x) child_is child_inherits

  pub call_inherits : node_task G g firing values which read lens ≡ Some (Call d) → HasInherited G d
  call_inherits task =
      let fires = calls_fire G g firing values read lens which d task in
      let inside = actor_there G g firing values which read lens fires.0 fires.1 fires.2 (Call d) task in
      let actor = get_or (acting g) fires.0 no_actor in
      let there = slice_get-get_or (acting g) fires.0 no_actor inside in
      let child = is_child G g firing values which read lens fires.0 fires.1 fires.2 actor there d task in
      inherits_so fires.0 fires.1 fires.2 actor there child.0 child.1 child.2 task
