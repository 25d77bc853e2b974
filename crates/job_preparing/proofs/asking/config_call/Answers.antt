use Rattle.std.proofs.Common.{◌≡◌, ◌<◌, List, length, get_or, sym, ap, ◌∙◌, subst}
use Rattle.std.proofs.lemmas.List.{get_or_read}
use Rattle.kernel_gate.specs.Value.{lengths}
use Rattle.param_resolver.specs.EarlyCheck.{early_of}
use Rattle.pisdf_model.specs.Hold.{initial}
use Rattle.pisdf_model.specs.declared.actor.Actor.{Actor}
use Rattle.pisdf_model.specs.declared.actor.Body.TheVariants.{ConfigChild}
use Rattle.pisdf_meaning.specs.Configuring.{config_firing, config_rates}
use Rattle.pisdf_meaning.specs.Nested.{configuration_at}
use Rattle.pisdf_meaning.specs.Sound.{actor_at, no_actor}
use Rattle.pisdf_meaning.specs.declared.firing.Firing.{Firing}
use Rattle.job_preparing.specs.View.{HasInherited}
use Rattle.job_preparing.proofs.Asked.{child_inherited, child_rates, child_state, few}
use Rattle.job_preparing.proofs.Reading.{ok_more}
use Rattle.job_preparing.proofs.asking.config_call.Goals as goal

pub config_firing-requires-clause-few : goal.config_firing-requires-clause-few
config_firing-requires-clause-few c = few c.args.graphs.now c.requires.valid.in_range c.requires.valid.well_formed c.args.firing.now c.args.graph.now c.requires.here c.args.number c.args.place c.requires.is

-- the actor's body
body_at : (c : goal.After-config_firing) → (actor_at c.args.graph.now c.args.place).body ≡ ConfigChild c.in-ConfigChild.child c.in-ConfigChild.args c.in-ConfigChild.sets
body_at c =
    let at = get_or_read c.items.result.now c.args.place c.index-items-place.result (subst (λ (l : List Actor). c.args.place < length l) (sym c.items.ensures) c.requires.is.inside) c.index-items-place.is no_actor in
    ap (λ (x : Actor). x.body) (sym (at ∙ ap (λ (l : List Actor). get_or l c.args.place no_actor) c.items.ensures)) ∙ c.in-ConfigChild.is

abbrev called : (c : goal.After-config_firing) → Firing
called c = config_firing c.args.graphs.now.graphs c.args.graph.now c.args.firing.now (configuration_at c.args.graph.now c.args.number c.args.place) c.in-ConfigChild.child

-- the firing that is called
is_called : (c : goal.After-config_firing) (d : Firing) → d ≡ config_firing c.items-in-ConfigChild-2.result.now c.args.graph.now c.args.firing.now (configuration_at c.args.graph.now c.args.number c.args.place) c.in-ConfigChild.child → d ≡ called c
is_called c d e = e ∙ ap (λ gs. config_firing gs c.args.graph.now c.args.firing.now (configuration_at c.args.graph.now c.args.number c.args.place) c.in-ConfigChild.child) c.items-in-ConfigChild-2.ensures

pub returns-clause-rates : goal.returns-clause-rates
returns-clause-rates c =
    let P : Firing → Type 0 = λ d. (early_of c.args.graphs.now.graphs d.graph d.inherited).outputs ≡ config_rates c.args.graphs.now.graphs c.args.firing.now c.args.number in
    ok_more _ P c.config_firing.result
    (λ d e. subst P (sym (is_called c d e)) (child_rates c.args.graphs.now c.requires.valid.in_range c.requires.valid.well_formed c.args.firing.now c.args.graph.now c.requires.here c.args.number c.args.place c.requires.is
    (λ place inherited inside. c.early_unfolds.ensures c.args.graphs.now place inherited c.requires.valid.in_range c.requires.valid.well_formed inside) c.requires.fit c.in-ConfigChild.child c.in-ConfigChild.args c.in-ConfigChild.sets (body_at c)))
    c.config_firing.ensures

pub returns-clause-state : goal.returns-clause-state
returns-clause-state c =
    let P : Firing → Type 0 = λ d. lengths d.state ≡ lengths (initial c.args.graphs.now.graphs d.graph) in
    ok_more _ P c.config_firing.result
    (λ d e. subst P (sym (is_called c d e)) (child_state c.args.graphs.now c.requires.valid.in_range c.requires.valid.well_formed c.args.firing.now c.args.graph.now c.requires.here c.args.number c.args.place c.requires.is
    (λ place inherited inside. c.early_unfolds.ensures c.args.graphs.now place inherited c.requires.valid.in_range c.requires.valid.well_formed inside) c.requires.fit c.in-ConfigChild.child c.in-ConfigChild.args c.in-ConfigChild.sets (body_at c)))
    c.config_firing.ensures

pub returns-clause-inherited : goal.returns-clause-inherited
returns-clause-inherited c =
    let P : Firing → Type 0 = λ d. HasInherited c.args.graphs.now.graphs d in
    ok_more _ P c.config_firing.result
    (λ d e. subst P (sym (is_called c d e)) (record {
      one_each = child_inherited c.args.graphs.now c.requires.valid.in_range c.requires.valid.well_formed c.args.firing.now c.args.graph.now c.requires.here c.args.number c.args.place c.requires.is
          (λ place inherited inside. c.early_unfolds.ensures c.args.graphs.now place inherited c.requires.valid.in_range c.requires.valid.well_formed inside) c.requires.fit c.in-ConfigChild.child c.in-ConfigChild.args c.in-ConfigChild.sets (body_at c);
    }))
    c.config_firing.ensures
