use Rattle.std.proofs.Common.{◌≡◌, length, replicate, sym, ap, ◌∙◌, subst}
use Rattle.std.specs.Arc.{arc_value}
use Rattle.sdf_level.specs.LevelRun.{HaveDelays}
use Rattle.job_compiler.specs.Compilation.{Compilation}
use Rattle.job_preparing.specs.View.{graph_in}
use Rattle.one_job.specs.Marks as one
use Rattle.graph_firing.specs.Nodes.Starting.{AreNoTraces}
use Rattle.graph_firing.specs.declared.nodes.stage.Stage.TheVariants.{Free}
use Rattle.graph_firing.proofs.OfNodes.StartedFiring.{IsStarted, args_fit, kinds_fit, sources_fit, starts, stored_fit}
use Rattle.graph_firing.proofs.nodes.starting.start_parts.Goals as goal

pub set_up-requires-clause-places : goal.set_up-requires-clause-places
set_up-requires-clause-places c = c.requires.compiled.set_is.places

pub start_job-requires-clause-kinds : goal.start_job-requires-clause-kinds
start_job-requires-clause-kinds c =
    kinds_fit c.args.preparing.now (arc_value c.args.compiled.now) c.args.set.now c.args.values.now c.requires.valid c.requires.fit c.left-left.ensures.suits c.requires.compiled c.in_ok-lists.field-0.own c.in_ok-lists.field-0.lists c.in_ok-lists.ensures.lists
    ∙ ap (λ (x : Compilation). x.level.actors) (sym c.in_ok-shared.ensures)

pub start_job-requires-clause-args : goal.start_job-requires-clause-args
start_job-requires-clause-args c =
    args_fit c.args.preparing.now (arc_value c.args.compiled.now) c.args.set.now c.args.values.now c.requires.valid c.requires.fit c.left-left.ensures.suits c.requires.compiled c.in_ok-lists.field-0.own c.in_ok-lists.field-0.lists c.in_ok-lists.ensures.lists
    (c.level_by_actor.ensures.many c.args.preparing.now.graphs.graphs (graph_in c.args.preparing.now))
    ∙ ap (λ (x : Compilation). x.level.actors) (sym c.in_ok-shared.ensures)

pub start_job-requires-clause-sources : goal.start_job-requires-clause-sources
start_job-requires-clause-sources c =
    sources_fit c.args.preparing.now (arc_value c.args.compiled.now) c.args.set.now c.args.values.now c.requires.valid c.requires.fit c.left-left.ensures.suits c.requires.compiled c.in_ok-lists.field-0.own c.in_ok-lists.field-0.lists c.in_ok-lists.ensures.lists
    ∙ ap (λ (x : Compilation). x.level.sources) (sym c.in_ok-shared.ensures)

pub start_job-requires-clause-stored : goal.start_job-requires-clause-stored
start_job-requires-clause-stored c =
    subst (λ (x : Compilation). HaveDelays x.level.links c.in_ok-lists.field-0.lists.stored) (sym c.in_ok-shared.ensures)
    (stored_fit c.args.preparing.now (arc_value c.args.compiled.now) c.args.set.now c.args.values.now c.requires.valid c.requires.fit c.left-left.ensures.suits c.requires.compiled c.in_ok-lists.field-0.own c.in_ok-lists.field-0.lists c.in_ok-lists.ensures.lists)

pub returns : goal.returns
returns c =
    let lists = c.in_ok-lists.field-0.lists in
    let own = c.in_ok-lists.field-0.own in
    let comp : Compilation = arc_value c.args.compiled.now in
    let shared_is : arc_value c.in_ok-shared.shared ≡ comp = c.in_ok-shared.ensures in
    let traces : AreNoTraces lists.kinds comp.counts own.ending.traces.items = subst (λ (x : Compilation). AreNoTraces lists.kinds x.counts own.ending.traces.items) c.deref.ensures c.in_ok-lists.ensures.traces in
    let started : IsStarted comp lists c.in_ok-started.started = record {
      compilation = c.in_ok-started.ensures.compilation ∙ shared_is;
      kinds = c.in_ok-started.ensures.made_of.0;
      args = c.in_ok-started.ensures.made_of.1;
      sources = c.in_ok-started.ensures.made_of.2;
      stored = c.in_ok-started.ensures.made_of.3;
      free = c.in_ok-started.ensures.free ∙ ap (λ (x : Compilation). replicate (length x.graph.nodes) one.Free) shared_is;
      nothing = c.in_ok-started.ensures.nothing;
      few = c.in_ok-started.ensures.few;
      room = c.in_ok-started.ensures.room;
      stages = c.in_ok-started.ensures.stages ∙ ap (λ (x : Compilation). replicate (length x.graph.nodes) Free) shared_is;
    } in
    starts c.args.preparing.now comp c.args.set.now c.args.values.now c.requires.valid c.requires.fit c.left-left.ensures.suits c.requires.compiled own lists c.in_ok-lists.ensures.lists c.in_ok-lists.ensures.own traces c.in_ok-started.started started
