use Rattle.std.proofs.Common.{◌≡◌, ◌<◌, ◌≤◌, ℕ, ℤ, [], List, Ok, Err, Vec, Global, inl, inr, length, get_or, slice_get, refl, ap, sym, ◌∙◌, subst, arith}
use Rattle.std.specs.List.{All}
use Rattle.std.proofs.lemmas.List.{length-map}
use Rattle.param_resolver.specs.EarlyCheck.{early_of}
use Rattle.param_resolver.specs.EarlyView.{EarlyView, trees_of}
use Rattle.pisdf_model.specs.InterfaceWires.{is_configuration}
use Rattle.pisdf_model.specs.declared.actor.Actor.{Actor}
use Rattle.pisdf_model.specs.declared.graph.Graph.{Graph}
use Rattle.sdf_level.specs.Firings.{actors_of, turns_of}
use Rattle.sdf_level.specs.Lists.{lists_of}
use Rattle.sdf_level.specs.Run.{inputs}
use Rattle.sdf_level.specs.View.{LevelView}
use Rattle.sdf_level.specs.declared.turn.Turn.{Turn}
use Rattle.pisdf_meaning.specs.Configuring.{Configures, Leaves}
use Rattle.pisdf_meaning.specs.Meaning.{FiresGraph, MeansWithin}
use Rattle.pisdf_meaning.specs.Nested.{actor_fires, configuration_at}
use Rattle.pisdf_meaning.specs.Running.{link_starts}
use Rattle.pisdf_meaning.specs.Sound.{actor_at}
use Rattle.pisdf_meaning.specs.States.{tokens_at}
use Rattle.pisdf_meaning.specs.Turns.{HasCome}
use Rattle.pisdf_meaning.specs.declared.firing.Configured.{Configured}
use Rattle.pisdf_meaning.specs.declared.outcome.TraceRow.{TraceRow}
use Rattle.pisdf_meaning.specs.declared.parts.Prepared.{Prepared}
use Rattle.pisdf_meaning.proofs.AtActors.{at_place, child_fires_so, child_inputs, child_is, child_made_so, child_nests, child_refused_so, child_sound, config_child, config_fits, config_inputs, config_leaves_so, config_nests, element_of, few, inner_early, inner_nests, inner_outs, inner_sound, kernel_fires_so, kernel_fits, nests_below, nests_some, nests_there, no_config, no_config_child, reads_so, same_known, trees_of-forest_of}
use Rattle.pisdf_meaning.proofs.OneByOne.{left_all, left_skip}
use Rattle.pisdf_meaning.proofs.Passing.{answers-map, answers_of, err-map, none_refused, ok-map, ok-map2, on-map2, passed_answer, passed_on, refused-map}
use Rattle.pisdf_meaning.proofs.Recursion.{holds_here, known_each, left_here, length-inputs, means_here, plan_stops, refused_here, run_ends, run_fills, run_stops, starts_long, turns_inside}
use Rattle.pisdf_meaning.proofs.TurnByTurn.{come_next, come_start, come_stops, come_through}
use Rattle.pisdf_meaning.proofs.graph.+firing.Goals as goal

pub configure-returns-clause-configures : goal.configure-returns-clause-configures
configure-returns-clause-configures g t c =
    let same = ap length c.items-place-end.ensures in
    let over : length c.args.graph.now.actors ≤ c.loop-place.place = let far = c.loop-place-test.false in omega arith in
    left_all c.args.graphs.now.graphs (MeansWithin c.args.levels c.args.graphs.now.graphs) c.args.graph.now c.args.firing.now c.args.early.now c.loop-place.place c.loop-place.configured.items over c.loop-place.invariant

pub fire_actor-fire_kernel_actor-requires : goal.fire_actor-fire_kernel_actor-requires
fire_actor-fire_kernel_actor-requires g t c =
    kernel_fits _ c.args.levels c.args.graphs.now c.args.graph.now c.args.firing.now c.args.prepared.now c.requires.holds c.requires.prepared c.args.turn.actor c.requires.actor c.items.result.now c.items-2.result.now c.index-items-items.result c.items.ensures c.items-2.ensures c.index-items-items.is c.in-Kernel.kernel c.in-Kernel.args c.in-Kernel.ins c.in-Kernel.outs c.in-Kernel.is c.tokens_at-args.result.now c.rates_at.result.now (c.tokens_at-args.ensures ∙ ap (λ l. tokens_at l c.args.turn.actor) c.items-3.ensures) (c.rates_at.ensures ∙ ap (λ l. get_or l c.args.turn.actor []) c.items-in-Kernel.ensures) c.args.read c.requires.read

pub fire_actor-child_known-early-requires : goal.fire_actor-child_known-early-requires
fire_actor-child_known-early-requires g t c =
    (_, child_is _ c.args.levels c.args.graphs.now c.args.graph.now c.args.firing.now c.args.prepared.now c.requires.holds c.requires.prepared c.args.turn.actor c.requires.actor c.items.result.now c.items-2.result.now c.index-items-items.result c.items.ensures c.items-2.ensures c.index-items-items.is c.in-Child.child c.in-Child.args c.in-Child.is c.tokens_at-args.result.now (c.tokens_at-args.ensures ∙ ap (λ l. tokens_at l c.args.turn.actor) c.items-3.ensures) c.items-in-Child.result.now c.items-in-Child.ensures)

pub fire_actor-fire_child-requires : goal.fire_actor-fire_child-requires
fire_actor-fire_child-requires g t c κs within =
    let is = child_is _ c.args.levels c.args.graphs.now c.args.graph.now c.args.firing.now c.args.prepared.now c.requires.holds c.requires.prepared c.args.turn.actor c.requires.actor c.items.result.now c.items-2.result.now c.index-items-items.result c.items.ensures c.items-2.ensures c.index-items-items.is c.in-Child.child c.in-Child.args c.in-Child.is c.tokens_at-args.result.now (c.tokens_at-args.ensures ∙ ap (λ l. tokens_at l c.args.turn.actor) c.items-3.ensures) c.items-in-Child.result.now c.items-in-Child.ensures in
    let early = same_known (slice_get c.items-in-Child.result.now c.args.turn.actor) c.child_known-early.result.now (early_of c.args.graphs.now.graphs c.in-Child.child c.tokens_at-args.result.now) c.child_known-early.ensures is in
    (omega arith, (within, (c.requires.holds.can, (child_nests _ c.args.levels c.args.graphs.now c.args.graph.now c.args.firing.now c.args.prepared.now c.requires.holds c.requires.prepared c.args.turn.actor c.requires.actor c.items.result.now c.items-2.result.now c.index-items-items.result c.items.ensures c.items-2.ensures c.index-items-items.is c.in-Child.child c.in-Child.args c.in-Child.is, (child_inputs _ c.args.levels c.args.graphs.now c.args.graph.now c.args.firing.now c.args.prepared.now c.requires.holds c.requires.prepared c.args.turn.actor c.requires.actor c.items.result.now c.items-2.result.now c.index-items-items.result c.items.ensures c.items-2.ensures c.index-items-items.is c.in-Child.child c.in-Child.args c.in-Child.is, (early, (child_sound _ c.args.levels c.args.graphs.now c.args.graph.now c.args.firing.now c.args.prepared.now c.requires.holds c.requires.prepared c.args.turn.actor c.requires.actor c.items.result.now c.items-2.result.now c.index-items-items.result c.items.ensures c.items-2.ensures c.index-items-items.is c.in-Child.child c.in-Child.args c.in-Child.is c.tokens_at-args.result.now (c.tokens_at-args.ensures ∙ ap (λ l. tokens_at l c.args.turn.actor) c.items-3.ensures), reads_so _ c.args.levels c.args.graphs.now c.args.graph.now c.args.firing.now c.args.prepared.now c.requires.holds c.requires.prepared c.args.turn.actor c.requires.actor c.items.result.now c.items-2.result.now c.index-items-items.result c.items.ensures c.items-2.ensures c.index-items-items.is c.args.read c.requires.read)))))))

pub fire_actor-unreachable-requires : goal.fire_actor-unreachable-requires
fire_actor-unreachable-requires g t c =
    elim c.in-Config.is [
      | inl w ↦ no_config _ c.args.levels c.args.graphs.now c.args.graph.now c.args.firing.now c.args.prepared.now c.requires.holds c.requires.prepared c.args.turn.actor c.requires.actor c.items.result.now c.items-2.result.now c.index-items-items.result c.items.ensures c.items-2.ensures c.index-items-items.is w.0 w.1 w.2 w.3 w.4 w.5
      | inr w ↦ no_config_child _ c.args.levels c.args.graphs.now c.args.graph.now c.args.firing.now c.args.prepared.now c.requires.holds c.requires.prepared c.args.turn.actor c.requires.actor c.items.result.now c.items-2.result.now c.index-items-items.result c.items.ensures c.items-2.ensures c.index-items-items.is w.0 w.1 w.2 w.3
    ]

pub fire_actor-returns-in-Kernel-clause-fires : goal.fire_actor-returns-in-Kernel-clause-fires
fire_actor-returns-in-Kernel-clause-fires g t c =
    ok-map2 _ _ _
    (λ made gives nothing. kernel_fires_so _ c.args.levels c.args.graphs.now c.args.graph.now c.args.firing.now c.args.prepared.now c.requires.holds c.requires.prepared c.args.turn.actor c.requires.actor c.items.result.now c.items-2.result.now c.index-items-items.result c.items.ensures c.items-2.ensures c.index-items-items.is c.in-Kernel.kernel c.in-Kernel.args c.in-Kernel.ins c.in-Kernel.outs c.in-Kernel.is c.tokens_at-args.result.now c.rates_at.result.now (c.tokens_at-args.ensures ∙ ap (λ l. tokens_at l c.args.turn.actor) c.items-3.ensures) (c.rates_at.ensures ∙ ap (λ l. get_or l c.args.turn.actor []) c.items-in-Kernel.ensures) c.args.read c.requires.read (MeansWithin c.args.levels c.args.graphs.now.graphs) c.args.turn.turn made.trace (Ok made.outs) nothing gives)
    c.fire_kernel_actor.result c.fire_kernel_actor.ensures.gives c.fire_kernel_actor.ensures.nothing

pub fire_actor-returns-in-Kernel-clause-refused : goal.fire_actor-returns-in-Kernel-clause-refused
fire_actor-returns-in-Kernel-clause-refused g t c =
    err-map _ _
    (λ refusal gives trace. kernel_fires_so _ c.args.levels c.args.graphs.now c.args.graph.now c.args.firing.now c.args.prepared.now c.requires.holds c.requires.prepared c.args.turn.actor c.requires.actor c.items.result.now c.items-2.result.now c.index-items-items.result c.items.ensures c.items-2.ensures c.index-items-items.is c.in-Kernel.kernel c.in-Kernel.args c.in-Kernel.ins c.in-Kernel.outs c.in-Kernel.is c.tokens_at-args.result.now c.rates_at.result.now (c.tokens_at-args.ensures ∙ ap (λ l. tokens_at l c.args.turn.actor) c.items-3.ensures) (c.rates_at.ensures ∙ ap (λ l. get_or l c.args.turn.actor []) c.items-in-Kernel.ensures) c.args.read c.requires.read (MeansWithin c.args.levels c.args.graphs.now.graphs) c.args.turn.turn trace (Err refusal) tt gives)
    c.fire_kernel_actor.result c.fire_kernel_actor.ensures.refused

pub fire_actor-returns-in-Child-clause-fires : goal.fire_actor-returns-in-Child-clause-fires
fire_actor-returns-in-Child-clause-fires g t c =
    ok-map _ _
    (λ made fires. child_fires_so _ c.args.levels c.args.graphs.now c.args.graph.now c.args.firing.now c.args.prepared.now c.requires.holds c.requires.prepared c.args.turn.actor c.requires.actor c.items.result.now c.items-2.result.now c.index-items-items.result c.items.ensures c.items-2.ensures c.index-items-items.is c.in-Child.child c.in-Child.args c.in-Child.is c.tokens_at-args.result.now (c.tokens_at-args.ensures ∙ ap (λ l. tokens_at l c.args.turn.actor) c.items-3.ensures) (MeansWithin c.args.levels c.args.graphs.now.graphs) c.args.turn.turn made.trace c.args.read (Ok made.outs) fires)
    c.fire_child.result c.fire_child.ensures.fires

pub fire_actor-returns-in-Child-clause-refused : goal.fire_actor-returns-in-Child-clause-refused
fire_actor-returns-in-Child-clause-refused g t c =
    err-map _ _
    (λ refusal fires trace. child_fires_so _ c.args.levels c.args.graphs.now c.args.graph.now c.args.firing.now c.args.prepared.now c.requires.holds c.requires.prepared c.args.turn.actor c.requires.actor c.items.result.now c.items-2.result.now c.index-items-items.result c.items.ensures c.items-2.ensures c.index-items-items.is c.in-Child.child c.in-Child.args c.in-Child.is c.tokens_at-args.result.now (c.tokens_at-args.ensures ∙ ap (λ l. tokens_at l c.args.turn.actor) c.items-3.ensures) (MeansWithin c.args.levels c.args.graphs.now.graphs) c.args.turn.turn trace c.args.read (Err refusal) (fires trace))
    c.fire_child.result c.fire_child.ensures.refused

pub fire_graph-fire_here-requires : goal.fire_graph-fire_here-requires
fire_graph-fire_here-requires g t c κs within =
    let some = nests_some c.args.levels c.args.graphs.now.graphs c.args.firing.now.graph c.requires.nested in
    let here = (element_of c.items.result.now c.args.graphs.now.graphs c.args.firing.now.graph c.index-items-firing.result c.items.ensures (nests_there c.args.levels c.args.graphs.now.graphs c.args.firing.now.graph c.requires.nested) c.index-items-firing.is) in (
      omega arith,
      (
        within,
        record {
          can = c.requires.can;
          here = here;
          nests = nests_below c.args.levels c.args.graphs.now.graphs c.args.firing.now.graph c.index-items-firing.result here c.requires.nested;
          early_is = c.requires.early;
          sound = c.requires.sound;
        },
      ),
    )

pub fire_graph-returns-clause-means : goal.fire_graph-returns-clause-means
fire_graph-returns-clause-means g t c =
    let some = nests_some c.args.levels c.args.graphs.now.graphs c.args.firing.now.graph c.requires.nested in
    answers-map _ (MeansWithin c.args.levels c.args.graphs.now.graphs c.args.firing.now)
    (λ end fires. means_here c.args.levels c.args.graphs.now.graphs c.index-items-firing.result c.args.firing.now end some (element_of c.items.result.now c.args.graphs.now.graphs c.args.firing.now.graph c.index-items-firing.result c.items.ensures (nests_there c.args.levels c.args.graphs.now.graphs c.args.firing.now.graph c.requires.nested) c.index-items-firing.is) fires)
    c.fire_here.result c.fire_here.ensures.fires

pub leave-leave_config-requires : goal.leave-leave_config-requires
leave-leave_config-requires g t c =
    let sets : length c.items-in-Config.result.now ≡ length c.in-Config.sets = ap (λ (l : List ℕ). length l) c.items-in-Config.ensures in
    let ports : length c.items.result.now ≡ length c.in-Config.ins = ap (λ (l : List (List ℕ)). length l) c.items.ensures in
    rw (sets, ports) (config_fits _ c.args.levels c.args.graphs.now c.args.graph.now c.args.firing.now c.args.early.now c.requires.underway c.args.number c.args.place c.requires.is c.args.actor.now c.requires.actor c.in-Config.kernel c.in-Config.args c.in-Config.ins c.in-Config.outs c.in-Config.sets c.in-Config.is)

pub leave-child_known-known-requires : goal.leave-child_known-known-requires
leave-child_known-known-requires g t c =
    (_, (ap (λ l. slice_get l c.args.number) (c.deref.ensures.value ∙ sym (trees_of-forest_of c.early.inside.children.items)) ∙ ap (λ (e : EarlyView). slice_get (trees_of e.children) c.args.number) c.early.view_is) ∙ config_child _ c.args.levels c.args.graphs.now c.args.graph.now c.args.firing.now c.args.early.now c.requires.underway c.args.number c.args.place c.requires.is c.args.actor.now c.requires.actor c.in-ConfigChild.child c.in-ConfigChild.args c.in-ConfigChild.sets c.in-ConfigChild.is)

pub leave-fire_graph-requires : goal.leave-fire_graph-requires
leave-fire_graph-requires g t c κs within =
    let early = inner_early _ c.args.levels c.args.graphs.now c.args.graph.now c.args.firing.now c.args.early.now c.requires.underway c.args.number c.args.place c.requires.is c.args.actor.now c.requires.actor c.in-ConfigChild.child c.in-ConfigChild.args c.in-ConfigChild.sets c.in-ConfigChild.is c.in_ok-inner-in-ConfigChild.inner c.in_ok-inner-in-ConfigChild.ensures c.child_known-known.result.now (slice_get c.deref.result.now c.args.number) (ap (λ l. slice_get l c.args.number) (c.deref.ensures.value ∙ sym (trees_of-forest_of c.early.inside.children.items)) ∙ ap (λ (e : EarlyView). slice_get (trees_of e.children) c.args.number) c.early.view_is) c.child_known-known.ensures in
    (omega arith, (within, (c.requires.underway.can, (inner_nests _ c.args.levels c.args.graphs.now c.args.graph.now c.args.firing.now c.args.early.now c.requires.underway c.args.number c.args.place c.requires.is c.args.actor.now c.requires.actor c.in-ConfigChild.child c.in-ConfigChild.args c.in-ConfigChild.sets c.in-ConfigChild.is c.in_ok-inner-in-ConfigChild.inner c.in_ok-inner-in-ConfigChild.ensures, (early, inner_sound _ c.args.levels c.args.graphs.now c.args.graph.now c.args.firing.now c.args.early.now c.requires.underway c.args.number c.args.place c.requires.is c.args.actor.now c.requires.actor c.in-ConfigChild.child c.in-ConfigChild.args c.in-ConfigChild.sets c.in-ConfigChild.is c.in_ok-inner-in-ConfigChild.inner c.in_ok-inner-in-ConfigChild.ensures)))))

pub leave-returns-in_ok-given-in-ConfigChild-clause-leaves : goal.leave-returns-in_ok-given-in-ConfigChild-clause-leaves
leave-returns-in_ok-given-in-ConfigChild-clause-leaves g t c =
    answers_of (Leaves c.args.graphs.now.graphs (MeansWithin c.args.levels c.args.graphs.now.graphs) c.args.graph.now c.args.firing.now (configuration_at c.args.graph.now c.args.number c.args.place) c.args.actor.now.body) c.child_left.result
    (ok-map _ _ (λ one leaves. config_leaves_so _ c.args.levels c.args.graphs.now c.args.graph.now c.args.firing.now c.args.early.now c.requires.underway c.args.number c.args.place c.requires.is c.args.actor.now c.requires.actor c.in-ConfigChild.child c.in-ConfigChild.args c.in-ConfigChild.sets c.in-ConfigChild.is c.in_ok-inner-in-ConfigChild.inner c.in_ok-inner-in-ConfigChild.ensures c.in_ok-given-in-ConfigChild.given c.in_ok-given-in-ConfigChild.ensures.means one leaves) c.child_left.result c.child_left.ensures.leaves)
    (none_refused _ c.child_left.result c.child_left.ensures.never_refused)

pub leave-returns-in_ok-given-in-ConfigChild-clause-outs : goal.leave-returns-in_ok-given-in-ConfigChild-clause-outs
leave-returns-in_ok-given-in-ConfigChild-clause-outs g t c =
    let outs = inner_outs _ c.args.levels c.args.graphs.now c.args.graph.now c.args.firing.now c.args.early.now c.requires.underway c.args.number c.args.place c.requires.is c.args.actor.now c.requires.actor c.in-ConfigChild.child c.in-ConfigChild.args c.in-ConfigChild.sets c.in-ConfigChild.is c.in_ok-inner-in-ConfigChild.inner c.in_ok-inner-in-ConfigChild.ensures c.child_known-known.result.now (slice_get c.deref.result.now c.args.number) (ap (λ l. slice_get l c.args.number) (c.deref.ensures.value ∙ sym (trees_of-forest_of c.early.inside.children.items)) ∙ ap (λ (e : EarlyView). slice_get (trees_of e.children) c.args.number) c.early.view_is) c.child_known-known.ensures in
    ok-map _ _ (λ one same. ap (λ (l : List (List ℤ)). length l) same ∙ c.in_ok-given-in-ConfigChild.ensures.outs ∙ ap (λ (l : List ℕ). length l) outs) c.child_left.result c.child_left.ensures.outs

pub leave_next-returns-then-not-is_configuration-clause-left : goal.leave_next-returns-then-not-is_configuration-clause-left
leave_next-returns-then-not-is_configuration-clause-left g t c =
    left_skip c.args.graphs.now.graphs (MeansWithin c.args.levels c.args.graphs.now.graphs) c.args.graph.now c.args.firing.now c.args.early.now c.args.place c.args.configured.now.items c.requires.there c.requires.before (ap (λ (y : Actor). is_configuration y.body) (sym (at_place c.args.graph.now c.items.result.now c.args.place c.index-items-place.result c.items.ensures c.requires.there c.index-items-place.is)) ∙ sym c.if-not-is_configuration.ensures)

pub leave_next-returns-in_err-one-clause-refused : goal.leave_next-returns-in_err-one-clause-refused
leave_next-returns-in_err-one-clause-refused g t c =
    let ok = c.args.configured.now.ok.0 in
    let number : c.len-number.result ≡ length c.args.configured.now.items = omega (arith, c.len-number.ensures) in
    passed_on _ c.from_residual.result c.in_err-one.field-0.0 c.from_residual.ensures.1
    (refused-map _ _ (λ refusal leaves. refused_here c.args.graphs.now.graphs (MeansWithin c.args.levels c.args.graphs.now.graphs) c.args.graph.now c.args.firing.now c.args.early.now c.args.place c.args.configured.now.items c.requires.there c.requires.before c.index-items-place.result (at_place c.args.graph.now c.items.result.now c.args.place c.index-items-place.result c.items.ensures c.requires.there c.index-items-place.is) (sym c.if-not-is_configuration.ensures) c.len-number.result number refusal leaves) c.in_err-one.field-0.0 c.in_err-one.ensures.leaves)

pub leave_next-returns-clause-left : goal.leave_next-returns-clause-left
leave_next-returns-clause-left g t c =
    let ok = c.args.configured.now.ok.0 in
    let number : c.len-number.result ≡ length c.args.configured.now.items = omega (arith, c.len-number.ensures) in
    left_here c.args.graphs.now.graphs (MeansWithin c.args.levels c.args.graphs.now.graphs) c.args.graph.now c.args.firing.now c.args.early.now c.args.place c.args.configured.now.items c.requires.there c.requires.before c.index-items-place.result (at_place c.args.graph.now c.items.result.now c.args.place c.index-items-place.result c.items.ensures c.requires.there c.index-items-place.is) (sym c.if-not-is_configuration.ensures) c.len-number.result number c.in_ok-one.one c.push.new.self.items (known_each _ c.args.levels c.args.graphs.now c.args.graph.now c.args.firing.now c.args.early.now c.requires.underway) c.in_ok-one.ensures.leaves c.in_ok-one.ensures.outs c.in_ok-push.ensures.items

pub run_turns-loop-turn-init : goal.run_turns-loop-turn-init
run_turns-loop-turn-init g t c =
    let starts = c.in_ok-state.ensures.lines ∙ ap (λ (l : List Graph). link_starts l c.args.graph.now c.args.firing.now) c.items.ensures in
    let P : List (List ℤ) → Type 0 = λ l. HasCome c.args.prepared.now.parts.level (actor_fires c.args.graphs.now.graphs (MeansWithin c.args.levels c.args.graphs.now.graphs) c.args.graph.now c.args.firing.now c.args.prepared.now.values) c.args.prepared.now.sources (link_starts c.args.graphs.now.graphs c.args.graph.now c.args.firing.now) (actors_of c.args.order.now) [] (actors_of c.args.order.now) l (lists_of c.in_ok-state.state.rows.items) in
    record {
      lines = sym (length-map c.in_ok-state.state.lines.items (λ (v : Vec ℤ Global). v.items)) ∙ ap (λ (l : List (List ℤ)). length l) starts ∙ starts_long c.args.graphs.now.graphs c.args.graph.now c.args.firing.now c.args.prepared.now.values
          ∙ ap (λ (l : LevelView). length l.links) (sym c.requires.prepared.parts.level);
      rows = c.in_ok-state.ensures.one_each ∙ ap (λ (q : Prepared). q.parts.level.actors) c.prepared.view_is;
      come = subst P (sym starts) (come_start c.args.prepared.now.parts.level (actor_fires c.args.graphs.now.graphs (MeansWithin c.args.levels c.args.graphs.now.graphs) c.args.graph.now c.args.firing.now c.args.prepared.now.values) c.args.prepared.now.sources (link_starts c.args.graphs.now.graphs c.args.graph.now c.args.firing.now) (actors_of c.args.order.now) (lists_of c.in_ok-state.state.rows.items) c.in_ok-state.ensures.rows);
    }

pub run_turns-returns-in_err-take_turn-clause-refused : goal.run_turns-returns-in_err-take_turn-clause-refused
run_turns-returns-in_err-take_turn-clause-refused g t c =
    passed_on _ c.from_residual-in_err-take_turn.result c.in_err-take_turn.field-0.0 c.from_residual-in_err-take_turn.ensures.1
    (refused-map _ _ (λ refusal refused. come_stops c.args.prepared.now.parts.level (actor_fires c.args.graphs.now.graphs (MeansWithin c.args.levels c.args.graphs.now.graphs) c.args.graph.now c.args.firing.now c.args.prepared.now.values) c.args.prepared.now.sources (link_starts c.args.graphs.now.graphs c.args.graph.now c.args.firing.now) c.args.order.now c.requires.numbered c.loop-turn.turn-index record { actor = 0; turn = 0 } c.loop-turn-test.true (lists_of c.loop-turn.state.lines.items) (lists_of c.loop-turn.state.lines.items) (lists_of c.loop-turn.state.rows.items) (lists_of c.loop-turn.state.rows.items) c.loop-turn.invariant.come refusal refused) c.in_err-take_turn.field-0.0 c.in_err-take_turn.ensures.refused)

pub run_turns-loop-turn-preserved : goal.run_turns-loop-turn-preserved
run_turns-loop-turn-preserved g t c =
    let rows = length-map c.loop-turn.state.rows.items (λ (v : Vec TraceRow Global). v.items) in
    let all = c.loop-turn.invariant.rows in
    let inside = c.requires.inside c.loop-turn.turn-index record { actor = 0; turn = 0 } c.loop-turn-test.true in
    record {
      lines = c.in_ok-take_turn.ensures.lines ∙ c.loop-turn.invariant.lines;
      rows = c.in_ok-take_turn.ensures.rows ∙ c.loop-turn.invariant.rows;
      come = come_next c.args.prepared.now.parts.level (actor_fires c.args.graphs.now.graphs (MeansWithin c.args.levels c.args.graphs.now.graphs) c.args.graph.now c.args.firing.now c.args.prepared.now.values) c.args.prepared.now.sources (link_starts c.args.graphs.now.graphs c.args.graph.now c.args.firing.now) c.args.order.now c.requires.numbered c.loop-turn.turn-index record { actor = 0; turn = 0 } c.loop-turn-test.true (lists_of c.loop-turn.state.lines.items) (lists_of c.take_turn.new.state.lines.items) (lists_of c.loop-turn.state.rows.items) (lists_of c.take_turn.new.state.rows.items) c.loop-turn.invariant.come (omega arith) c.in_ok-take_turn.ensures.fires;
    }

pub run_turns-returns-clause-run : goal.run_turns-returns-clause-run
run_turns-returns-clause-run g t c =
    come_through c.args.prepared.now.parts.level (actor_fires c.args.graphs.now.graphs (MeansWithin c.args.levels c.args.graphs.now.graphs) c.args.graph.now c.args.firing.now c.args.prepared.now.values) c.args.prepared.now.sources (link_starts c.args.graphs.now.graphs c.args.graph.now c.args.firing.now) c.args.order.now c.loop-turn.turn-index (lists_of c.loop-turn.state.lines.items) (lists_of c.loop-turn.state.rows.items) c.loop-turn-test.false c.loop-turn.invariant.come

pub take_turn-fire_actor-requires : goal.take_turn-fire_actor-requires
take_turn-fire_actor-requires g t c κs within =
    let count = ap (λ (l : List (List ℤ)). length l) c.in_ok-tokens.ensures ∙ length-inputs c.items.result.now c.args.turn.actor c.args.turn.turn c.args.prepared.now.parts.level.links (lists_of c.deref.result.now) in
    (omega arith, (within, (c.requires.holds, (c.requires.prepared, (c.requires.actor, count)))))

pub take_turn-returns-in_err-made-clause-refused : goal.take_turn-returns-in_err-made-clause-refused
take_turn-returns-in_err-made-clause-refused g t c =
    let read = c.in_ok-tokens.ensures ∙ ap (λ (l : List (List ℤ)). inputs l c.args.turn.actor c.args.turn.turn c.args.prepared.now.parts.level.links (lists_of c.deref.result.now)) c.items.ensures
    ∙ ap (λ (l : List (Vec ℤ Global)). inputs c.args.prepared.now.sources c.args.turn.actor c.args.turn.turn c.args.prepared.now.parts.level.links (lists_of l)) c.deref.ensures.value in
    passed_on _ c.from_residual-in_err-made.result c.in_err-made.field-0.0 c.from_residual-in_err-made.ensures.1
    (refused-map _ _
    (λ refusal refused trace.
    let P : List (List ℤ) → Type 0 = λ l. actor_fires c.args.graphs.now.graphs (MeansWithin c.args.levels c.args.graphs.now.graphs) c.args.graph.now c.args.firing.now c.args.prepared.now.values c.args.turn.actor c.args.turn.turn trace l (Err refusal) in
    subst P read (refused trace))
    c.in_err-made.field-0.0 c.in_err-made.ensures.refused)

pub fire_here-returns-in_err-plan-clause-fires : goal.fire_here-returns-in_err-plan-clause-fires
fire_here-returns-in_err-plan-clause-fires g t c =
    passed_answer (FiresGraph c.args.graphs.now.graphs (MeansWithin c.args.levels c.args.graphs.now.graphs) c.args.graph.now c.args.firing.now) c.from_residual-in_err-plan.result c.in_err-plan.field-0.0 c.from_residual-in_err-plan.ensures.1
    (refused-map _ _ (λ refusal refused. plan_stops c.args.graphs.now.graphs (MeansWithin c.args.levels c.args.graphs.now.graphs) c.args.graph.now c.args.firing.now c.in_ok-configured.configured.items c.as_slice-left.result.now c.as_slice-left.ensures.value c.in_ok-configured.ensures.configures refusal refused) c.in_err-plan.field-0.0 c.in_err-plan.ensures.refused)

pub fire_child-begin_child-requires-clause-there : goal.fire_child-begin_child-requires-clause-there
fire_child-begin_child-requires-clause-there g t c =
    nests_there c.args.levels c.args.graphs.now.graphs c.args.call.now.place c.requires.nested

pub fire_child-returns-in_err-given-clause-refused : goal.fire_child-returns-in_err-given-clause-refused
fire_child-returns-in_err-given-clause-refused g t c =
    passed_on _ c.from_residual-in_err-given.result c.in_err-given.field-0.0 c.from_residual-in_err-given.ensures.1
    (refused-map _ _ (λ refusal means. child_refused_so c.args.levels c.args.graphs.now.graphs c.args.firing.now c.args.call.now.actor.now c.args.call.now.place c.args.call.now.turn c.args.call.now.args.now c.args.read c.in_ok-begun.begun.inner c.in_ok-begun.ensures.inner refusal means) c.in_err-given.field-0.0 c.in_err-given.ensures.means)

pub fire_child-returns-clause-fires : goal.fire_child-returns-clause-fires
fire_child-returns-clause-fires g t c =
    ok-map2 _ _ _
    (λ made outs trace. child_made_so c.args.levels c.args.graphs.now.graphs c.args.firing.now c.args.call.now.actor.now c.args.call.now.place c.args.call.now.turn c.args.call.now.args.now c.args.read c.in_ok-begun.begun.inner c.in_ok-begun.ensures.inner c.in_ok-begun.begun.keeps c.in_ok-begun.ensures.keeps c.in_ok-given.given c.in_ok-given.ensures.means made trace outs)
    c.child_made.result c.child_made.ensures.outs c.child_made.ensures.trace

pub fire_child-returns-clause-refused : goal.fire_child-returns-clause-refused
fire_child-returns-clause-refused g t c =
    none_refused _ c.child_made.result c.child_made.ensures.never_refused

pub take_turn-returns-clause-fires : goal.take_turn-returns-clause-fires
take_turn-returns-clause-fires g t c =
    let read = c.in_ok-tokens.ensures ∙ ap (λ (l : List (List ℤ)). inputs l c.args.turn.actor c.args.turn.turn c.args.prepared.now.parts.level.links (lists_of c.deref.result.now)) c.items.ensures
    ∙ ap (λ (l : List (Vec ℤ Global)). inputs c.args.prepared.now.sources c.args.turn.actor c.args.turn.turn c.args.prepared.now.parts.level.links (lists_of l)) c.deref.ensures.value in
    on-map2 _ _ _
    (λ puts adds.
    let P : List (List ℤ) → Type 0 = λ l. actor_fires c.args.graphs.now.graphs (MeansWithin c.args.levels c.args.graphs.now.graphs) c.args.graph.now c.args.firing.now c.args.prepared.now.values c.args.turn.actor c.args.turn.turn c.in_ok-made.made.trace l (Ok c.in_ok-made.made.outs) in
    record { outs = c.in_ok-made.made.outs; trace = c.in_ok-made.made.trace; fires_so = subst P read c.in_ok-made.ensures.fires; lines_are = puts; rows_are = adds })
    c.end_turn.result c.end_turn.ensures.puts c.end_turn.ensures.adds

pub take_turn-returns-clause-refused : goal.take_turn-returns-clause-refused
take_turn-returns-clause-refused g t c =
    none_refused _ c.end_turn.result c.end_turn.ensures.never_refused

pub leave-begin_config-requires-clause-there : goal.leave-begin_config-requires-clause-there
leave-begin_config-requires-clause-there g t c =
    nests_there c.args.levels c.args.graphs.now.graphs c.in-ConfigChild.child (config_nests _ c.args.levels c.args.graphs.now c.args.graph.now c.args.firing.now c.args.early.now c.requires.underway c.args.number c.args.place c.requires.is c.args.actor.now c.requires.actor c.in-ConfigChild.child c.in-ConfigChild.args c.in-ConfigChild.sets c.in-ConfigChild.is)

pub leave-begin_config-requires-clause-inputs : goal.leave-begin_config-requires-clause-inputs
leave-begin_config-requires-clause-inputs g t c =
    config_inputs _ c.args.levels c.args.graphs.now c.args.graph.now c.args.firing.now c.args.early.now c.requires.underway c.args.number c.args.place c.requires.is c.args.actor.now c.requires.actor c.in-ConfigChild.child c.in-ConfigChild.args c.in-ConfigChild.sets c.in-ConfigChild.is (actor_at c.args.graph.now c.args.place).body (ap (λ (y : Actor). y.body) (sym c.requires.actor))

pub leave-begin_config-requires-clause-few : goal.leave-begin_config-requires-clause-few
leave-begin_config-requires-clause-few g t c =
    few _ c.args.levels c.args.graphs.now c.args.graph.now c.args.firing.now c.args.early.now c.requires.underway c.args.number c.args.place c.requires.is c.args.actor.now c.requires.actor

pub run-run_turns-requires : goal.run-run_turns-requires
run-run_turns-requires g t c κs within =
    let P : List Turn → Type 0 = λ l. l ≡ turns_of (actors_of l) in
    let Q : List Turn → Type 0 = λ l. All (λ (t : Turn). t.actor < c.args.plan.now.prepared.parts.level.actors) l in
    let plan = c.requires.plan in
    (omega arith, (within, (c.requires.holds, (plan.prepared, (subst P (sym c.items-order.ensures) plan.schedule.order.numbered, subst Q (sym c.items-order.ensures) (turns_inside c.args.plan.now.prepared.parts.level c.args.plan.now.schedule plan.schedule))))))

pub run-returns-in_err-state-clause-fires : goal.run-returns-in_err-state-clause-fires
run-returns-in_err-state-clause-fires g t c =
    passed_answer (FiresGraph c.args.graphs.now.graphs (MeansWithin c.args.levels c.args.graphs.now.graphs) c.args.graph.now c.args.firing.now) c.from_residual.result c.in_err-state.field-0.0 c.from_residual.ensures.1
    (refused-map _ _ (λ refusal refused. run_stops c.args.graphs.now.graphs (MeansWithin c.args.levels c.args.graphs.now.graphs) c.args.graph.now c.args.firing.now c.args.configured.now c.args.configured.now refl c.requires.configures c.args.plan.now c.requires.plan c.items-order.result.now c.items-order.ensures refusal refused) c.in_err-state.field-0.0 c.in_err-state.ensures.refused)

pub run-returns-clause-fires : goal.run-returns-clause-fires
run-returns-clause-fires g t c =
    run_ends c.args.graphs.now.graphs (MeansWithin c.args.levels c.args.graphs.now.graphs) c.args.graph.now c.args.firing.now c.args.configured.now c.args.configured.now refl c.requires.configures c.args.plan.now c.requires.plan c.items-order.result.now c.items-order.ensures (lists_of c.in_ok-state.state.lines.items) (lists_of c.in_ok-state.state.rows.items) c.in_ok-state.ensures.run c.finished.result c.finished.ensures.gives c.finished.ensures.never_refused

pub run-returns-clause-outs : goal.run-returns-clause-outs
run-returns-clause-outs g t c =
    run_fills c.args.graphs.now.graphs (MeansWithin c.args.levels c.args.graphs.now.graphs) c.args.graph.now c.args.firing.now c.args.configured.now c.args.configured.now refl c.requires.configures c.args.plan.now c.requires.plan c.items-order.result.now c.items-order.ensures (lists_of c.in_ok-state.state.lines.items) (lists_of c.in_ok-state.state.rows.items) c.in_ok-state.ensures.run (length c.args.plan.now.prepared.parts.level.sinks) refl c.finished.result c.finished.ensures.gives

pub fire_here-run-given-requires : goal.fire_here-run-given-requires
fire_here-run-given-requires g t c κs within =
    let P : List Configured → Type 0 = λ l. Configures c.args.graphs.now.graphs (MeansWithin c.args.levels c.args.graphs.now.graphs) c.args.graph.now c.args.firing.now (Ok l) in
    (omega arith, (within, (holds_here _ c.args.levels c.args.graphs.now c.args.graph.now c.args.firing.now c.args.early.now c.requires, (subst P (sym c.as_slice-left.ensures.value) c.in_ok-configured.ensures.configures, c.in_ok-plan.ensures.plan))))

pub fire_here-returns-clause-fires : goal.fire_here-returns-clause-fires
fire_here-returns-clause-fires g t c =
    c.run-given.ensures.fires

pub fire_here-returns-clause-outs : goal.fire_here-returns-clause-outs
fire_here-returns-clause-outs g t c =
    ok-map _ _ (λ given outs. outs ∙ c.in_ok-plan.ensures.sinks) c.run-given.result c.run-given.ensures.outs
