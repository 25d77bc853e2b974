use Rattle.std.proofs.Common.{ap, sym, subst, ◌∙◌, length, Err, arith}
use Rattle.std.specs.Arc.{arc_value}
use Rattle.pisdf_model.specs.declared.graph.Graph.{Graph}
use Rattle.pisdf_model.specs.declared.graph.Interface.{Interface}
use Rattle.pisdf_program.specs.Journals.{EndsBoards}
use Rattle.quiescent_driver.specs.Stops.{run_end}
use Rattle.pisdf_program.proofs.Boards.{no_boards, unchecked_boards}
use Rattle.quiescent_driver.proofs.Runs.{top_is, top_there}
use Rattle.pisdf_program.proofs.journal.run_journals.Goals as goal

pub returns-then-iterations-eq0-clause-ends : goal.returns-then-iterations-eq0-clause-ends
returns-then-iterations-eq0-clause-ends g c =
    no_boards (arc_value c.args.graphs.now) c.args.streams.now c.args.workers c.args.iterations (g.O.Sink.written c.args.out.now) c.if-iterations-eq0.true

pub returns-in-Err-clause-ends : goal.returns-in-Err-clause-ends
returns-in-Err-clause-ends g c =
    let graphs = arc_value c.args.graphs.now in
    let had = g.O.Sink.written c.args.out.now in
    let faults = g.O.Sink.faults c.args.out.now in
    subst (λ e. EndsBoards graphs c.args.streams.now c.args.workers c.args.iterations had had faults faults (Err e)) (sym (c.from.ensures ∙ ap run_end c.from-stop.ensures))
    (unchecked_boards graphs c.args.streams.now c.args.workers c.args.iterations had faults faults c.in-Err.fault (omega (arith, c.if-iterations-eq0.false)) c.requires.good.valid.valid.in_range.top (rw c.deref.ensures at c.in-Err.ensures.refused))

pub run_boards-requires-clause-fit : goal.run_boards-requires-clause-fit
run_boards-requires-clause-fit g c = λ lives within.
    let graphs = arc_value c.args.graphs.now in
    let top = top_there graphs c.requires.good.valid.valid.in_range.top in
    ap length c.items.ensures ∙ (rw c.deref.ensures at c.in-Ok.ensures.fit) top.0 top.1
    ∙ sym (c.requires.fit ∙ ap (λ (t : Graph). length {A = Interface} t.inputs) (top_is graphs top.0 top.1))
