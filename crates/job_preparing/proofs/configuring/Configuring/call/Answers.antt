use Rattle.std.proofs.Common.{◌≡◌, ◌<◌, ℕ, List, [], length, map, set, get_or, slice_get, Option, Some, None, refl, sym, ap, ◌∙◌, subst, arith}
use Rattle.std.specs.Arc.{arc_value}
use Rattle.std.proofs.lemmas.Option.{slice_get_within}
use Rattle.kernel_gate.specs.Value.{lengths}
use Rattle.nested_jobs.specs.Marks as mark
use Rattle.nested_jobs.specs.Rules.{Call}
use Rattle.param_resolver.specs.EarlyCheck.{early_of}
use Rattle.pisdf_model.specs.Hold.{in_line, initial}
use Rattle.pisdf_model.specs.declared.graph.Graph.{Graph}
use Rattle.pisdf_model.specs.declared.graph.Graphs.{Graphs}
use Rattle.pisdf_meaning.specs.Configuring.{Configuration, config_rates, configurations}
use Rattle.pisdf_meaning.specs.Nested.{configuration_at}
use Rattle.pisdf_meaning.specs.Sound.{IsConfiguration}
use Rattle.pisdf_meaning.specs.declared.firing.Firing.{Firing}
use Rattle.job_rules.specs.Items.{graph_of}
use Rattle.job_preparing.specs.Invariants.{IsConfiguring, view_of}
use Rattle.job_preparing.specs.Stages.{lent_of}
use Rattle.job_preparing.specs.Standing.{IsCall}
use Rattle.job_preparing.specs.View.{ConfiguringView, IsOfferedCall, graph_in, task, task_of}
use Rattle.job_preparing.specs.declared.configuring.Configuring.TheInside.{Inside}
use Rattle.job_preparing.specs.declared.stage.Stage.{Stage}
use Rattle.job_preparing.specs.declared.stage.Stage.TheVariants.{Calls, Open}
use Rattle.job_preparing.proofs.Asked.{graph_at}
use Rattle.job_preparing.proofs.Events.{call_keeps, opened_only}
use Rattle.job_preparing.proofs.Offered.{calling_at, stage_there}
use Rattle.job_preparing.proofs.Reading.{element}
use Rattle.job_preparing.proofs.configuring.Configuring.call.Goals as goal

module _ (i : Inside) (kept : IsConfiguring i) (n : ℕ) (old : ConfiguringView) (was : view_of i ≡ old) (requires : IsOfferedCall old n) where
  abbrev g : Graph
  g = graph_of (arc_value i.graphs).graphs i.firing

  offered : IsOfferedCall (view_of i) n
  offered = subst (λ (v : ConfiguringView). IsOfferedCall v n) (sym was) requires

  at : (s : Stage) × (slice_get i.stages.items n ≡ Some s)
  at = stage_there (arc_value i.graphs) i.firing i.early i.places.items i.stages.items i.frames.items i.left.items i.traces.items kept n (Call offered.job) offered.task_is

  inside : n < length i.stages.items
  inside = slice_get_within i.stages.items n at.0 at.1

  places_inside : n < length i.places.items
  places_inside = let s = inside in let a = kept.one_stage in omega arith

  lends_nothing : lent_of at.0 ≡ None
  lends_nothing = ap lent_of (calling_at (arc_value i.graphs) i.firing i.early i.places.items i.stages.items i.frames.items i.left.items i.traces.items kept n at.0 at.1 offered)

  module _ (a : ℕ) (read : a ≡ get_or i.places.items n a) where
    each : (slice_get (configurations g) n ≡ Some (configuration_at g n a)) × IsConfiguration g n a
    each = kept.places_are.each n a (element i.places.items n a places_inside read)

    own_task : task_of (arc_value i.graphs).graphs g i.firing (Some (configuration_at g n a)) ≡ task (view_of i) n
    own_task = ap (λ (o : Option Configuration). task_of (arc_value i.graphs).graphs g i.firing o) (sym each.0)

    module _ (x : Graph) (x_is : x ≡ g) (gs : List Graph) (gs_are : gs ≡ (arc_value i.graphs).graphs) where
      is_there : IsConfiguration x n a
      is_there = subst (λ (y : Graph). IsConfiguration y n a) (sym x_is) each.1

      is_call : IsCall (task_of gs x i.firing (Some (configuration_at x n a)))
      is_call =
          let first : IsCall (task_of (arc_value i.graphs).graphs g i.firing (Some (configuration_at g n a))) = record { job = offered.job; task_is = own_task ∙ offered.task_is } in
          let P : Graph → Type 0 = λ y. IsCall (task_of gs y i.firing (Some (configuration_at y n a))) in
          let Q : List Graph → Type 0 = λ l. IsCall (task_of l g i.firing (Some (configuration_at g n a))) in
          subst P (sym x_is) (subst Q (sym gs_are) first)

      called_task : (d : Firing) → task_of gs x i.firing (Some (configuration_at x n a)) ≡ Some (Call d) → task (view_of i) n ≡ Some (Call d)
      called_task d e =
          let P : Graph → Type 0 = λ y. task_of (arc_value i.graphs).graphs y i.firing (Some (configuration_at y n a)) ≡ Some (Call d) in
          let Q : List Graph → Type 0 = λ l. task_of l x i.firing (Some (configuration_at x n a)) ≡ Some (Call d) in
          sym own_task ∙ subst P x_is (subst Q gs_are e)

      called_rates : (d : Firing) → (early_of gs d.graph d.inherited).outputs ≡ config_rates gs i.firing n → (early_of (arc_value i.graphs).graphs d.graph d.inherited).outputs ≡ config_rates (arc_value i.graphs).graphs i.firing n
      called_rates d e = subst (λ (l : List Graph). (early_of l d.graph d.inherited).outputs ≡ config_rates l i.firing n) gs_are e

      called_state : (d : Firing) → lengths d.state ≡ lengths (initial gs d.graph) → lengths d.state ≡ lengths (initial (arc_value i.graphs).graphs d.graph)
      called_state d e = subst (λ (l : List Graph). lengths d.state ≡ lengths (initial l d.graph)) gs_are e

pub config_call-requires-clause-is : goal.config_call-requires-clause-is
config_call-requires-clause-is c = is_there c.self.inside c.self.invariant c.args.c c.args.self.now c.self.view_is c.requires c.index.result.now c.index.ensures c.index-items-self.result (c.index-items-self.is ∙ graph_at (arc_value c.self.inside.graphs).graphs c.self.inside.firing c.self.invariant.fit c.items.result.now c.index-items-self.result (c.items.ensures ∙ ap (λ (x : Graphs). x.graphs) c.deref.ensures)) _ (ap (λ (x : Graphs). x.graphs) c.deref-2.ensures)

pub config_call-requires-clause-call : goal.config_call-requires-clause-call
config_call-requires-clause-call c = is_call c.self.inside c.self.invariant c.args.c c.args.self.now c.self.view_is c.requires c.index.result.now c.index.ensures c.index-items-self.result (c.index-items-self.is ∙ graph_at (arc_value c.self.inside.graphs).graphs c.self.inside.firing c.self.invariant.fit c.items.result.now c.index-items-self.result (c.items.ensures ∙ ap (λ (x : Graphs). x.graphs) c.deref.ensures)) c.deref-2.result.now.graphs (ap (λ (x : Graphs). x.graphs) c.deref-2.ensures)

pub index_mut-requires : goal.index_mut-requires
index_mut-requires c = let s = inside c.self.inside c.self.invariant c.args.c c.args.self.now c.self.view_is c.requires in omega (arith, c.self.inside.stages.ok.0)

task_now : (c : goal.Joined-index_mut) → task (view_of c.self.inside) c.args.c ≡ Some (Call c.in_ok-firing.firing)
task_now c = called_task c.self.inside c.self.invariant c.args.c c.args.self.now c.self.view_is c.requires c.index.result.now c.index.ensures c.index-items-self.result (c.index-items-self.is ∙ graph_at (arc_value c.self.inside.graphs).graphs c.self.inside.firing c.self.invariant.fit c.items.result.now c.index-items-self.result (c.items.ensures ∙ ap (λ (x : Graphs). x.graphs) c.deref.ensures)) c.deref-2.result.now.graphs (ap (λ (x : Graphs). x.graphs) c.deref-2.ensures) c.in_ok-firing.firing c.in_ok-firing.ensures.task

pub invariant_of-self : goal.invariant_of-self
invariant_of-self c =
    let s = at c.self.inside c.self.invariant c.args.c c.args.self.now c.self.view_is c.requires in
    let told : c.in_ok-firing.firing ≡ c.of.result.value = sym c.of.ensures in
    let P : Firing → Type 0 = λ d. task (view_of c.self.inside) c.args.c ≡ Some (Call d) in
    let Q : Firing → Type 0 = λ d. (early_of (arc_value c.self.inside.graphs).graphs d.graph d.inherited).outputs ≡ config_rates (arc_value c.self.inside.graphs).graphs c.self.inside.firing c.args.c in
    let R : Firing → Type 0 = λ d. lengths d.state ≡ lengths (initial (arc_value c.self.inside.graphs).graphs d.graph) in
    call_keeps (arc_value c.self.inside.graphs) c.self.inside.firing c.self.inside.early c.self.inside.places.items c.self.inside.stages.items c.self.inside.frames.items c.self.inside.left.items c.self.inside.traces.items c.self.invariant c.args.c s.0 s.1 Calls (offered c.self.inside c.self.invariant c.args.c c.args.self.now c.self.view_is c.requires) c.of.result c.in_ok-line.line (subst P told (task_now c))
    (subst Q told (called_rates c.self.inside c.self.invariant c.args.c c.args.self.now c.self.view_is c.requires c.index.result.now c.index.ensures c.index-items-self.result (c.index-items-self.is ∙ graph_at (arc_value c.self.inside.graphs).graphs c.self.inside.firing c.self.invariant.fit c.items.result.now c.index-items-self.result (c.items.ensures ∙ ap (λ (x : Graphs). x.graphs) c.deref.ensures)) c.deref-2.result.now.graphs (ap (λ (x : Graphs). x.graphs) c.deref-2.ensures) c.in_ok-firing.firing c.in_ok-firing.ensures.rates))
    c.in_ok-line.ensures.empty
    (subst R told (called_state c.self.inside c.self.invariant c.args.c c.args.self.now c.self.view_is c.requires c.index.result.now c.index.ensures c.index-items-self.result (c.index-items-self.is ∙ graph_at (arc_value c.self.inside.graphs).graphs c.self.inside.firing c.self.invariant.fit c.items.result.now c.index-items-self.result (c.items.ensures ∙ ap (λ (x : Graphs). x.graphs) c.deref.ensures)) c.deref-2.result.now.graphs (ap (λ (x : Graphs). x.graphs) c.deref-2.ensures) c.in_ok-firing.firing c.in_ok-firing.ensures.state))
    (c.in_ok-line.ensures.room ∙ ap (λ l. length (in_line l)) c.items-2.ensures ∙ ap (λ (d : Firing). length (in_line d.state)) told)

pub returns-clause-called : goal.returns-clause-called
returns-clause-called c = ap (λ (v : ConfiguringView). task v c.args.c) (sym c.self.view_is) ∙ task_now c

pub returns-clause-opened : goal.returns-clause-opened
returns-clause-opened c =
    let s = at c.self.inside c.self.invariant c.args.c c.args.self.now c.self.view_is c.requires in
    opened_only (arc_value c.self.inside.graphs) c.self.inside.firing c.self.inside.early c.self.inside.places.items c.self.inside.stages.items c.self.inside.frames.items c.self.inside.left.items c.self.inside.traces.items c.self.invariant c.args.c s.0 s.1 Calls c.args.self.now c.self.view_is (lends_nothing c.self.inside c.self.invariant c.args.c c.args.self.now c.self.view_is c.requires) (Open c.of.result c.in_ok-line.line) (mark.Open c.in_ok-firing.firing) (ap mark.Open c.of.ensures) refl
