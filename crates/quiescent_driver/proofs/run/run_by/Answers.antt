use Rattle.std.proofs.Common.{ap, sym, subst, ◌∙◌, length, arith}
use Rattle.std.specs.Arc.{arc_value}
use Rattle.pisdf_model.specs.declared.graph.Graph.{Graph}
use Rattle.pisdf_model.specs.declared.graph.Interface.{Interface}
use Rattle.pisdf_meaning.specs.Run.{Done}
use Rattle.quiescent_driver.specs.Runs.{EndsRun, RanTo}
use Rattle.quiescent_driver.specs.Stops.{run_end}
use Rattle.quiescent_driver.proofs.Runs.{nothing_run, top_is, top_there, unchecked}
use Rattle.quiescent_driver.proofs.run.run_by.Goals as goal

pub returns-in-Ok-clause-ends : goal.returns-in-Ok-clause-ends
returns-in-Ok-clause-ends g c =
    let had = g.O.Sink.written c.args.out.now in
    subst (λ n. RanTo (arc_value c.args.graphs.now) c.args.streams.now n had had (Done c.in-Ok.left)) (sym c.if-iterations-eq0.true)
    (nothing_run (arc_value c.args.graphs.now) c.args.streams.now had c.in-Ok.left c.in-Ok.ensures)

pub returns-in-Err-top_needs-clause-ends : goal.returns-in-Err-top_needs-clause-ends
returns-in-Err-top_needs-clause-ends g c =
    let had = g.O.Sink.written c.args.out.now in
    let faults = g.O.Sink.faults c.args.out.now in
    subst (λ e. EndsRun (arc_value c.args.graphs.now) c.args.streams.now c.args.iterations had had faults faults e) (sym (c.from.ensures ∙ ap run_end c.from-stop.ensures))
    (unchecked (arc_value c.args.graphs.now) c.args.streams.now c.args.iterations had faults faults c.in-Err-top_needs.fault (omega (arith, c.if-iterations-eq0.false)) c.requires.valid.in_range.top (rw c.deref.ensures at c.in-Err-top_needs.ensures.refused))

pub run_some-requires-clause-fit : goal.run_some-requires-clause-fit
run_some-requires-clause-fit g c =
    let top = top_there (arc_value c.args.graphs.now) c.requires.valid.in_range.top in
    ap length c.items.ensures ∙ (rw c.deref.ensures at c.in-Ok-top_needs.ensures.fit) top.0 top.1
    ∙ sym (c.requires.fit ∙ ap (λ (t : Graph). length {A = Interface} t.inputs) (top_is (arc_value c.args.graphs.now) top.0 top.1))
