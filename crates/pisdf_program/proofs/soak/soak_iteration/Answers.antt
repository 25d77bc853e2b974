use Rattle.std.proofs.Common.{◌∷◌, [], Err, ap, sym, subst, ◌∙◌}
use Rattle.std.specs.Arc.{arc_value}
use Rattle.kernel_gate.specs.Value.{lengths}
use Rattle.pisdf_meaning.specs.Run.{top_needs}
use Rattle.quiescent_driver.specs.Stepped.{StopsAt}
use Rattle.quiescent_driver.specs.Stops.{workers_stop}
use Rattle.quiescent_driver.specs.Streams.{rest_of}
use Rattle.quiescent_driver.proofs.Making.{stops_by_workers, stops_next}
use Rattle.quiescent_driver.proofs.Runs.{gives}
use Rattle.pisdf_program.specs.Soak.{soak_streams}
use Rattle.pisdf_program.specs.SoakEnd.{LacksNothing}
use Rattle.pisdf_program.proofs.SoakStreams.{none_lacks, part_lengths, part_taken}
use Rattle.pisdf_program.proofs.SoakRuns.{made_lacks}
use Rattle.pisdf_program.proofs.soak.soak_iteration.Goals as goal

pub returns-in-Ok-run_iteration_by-clause-gives : goal.returns-in-Ok-run_iteration_by-clause-gives
returns-in-Ok-run_iteration_by-clause-gives g c =
    gives (arc_value c.args.graphs.now) c.args.delays.now.lists c.run_iteration_by.new.delays.lists (soak_streams c.args.number) c.as_slice.result.now (1 ∷ 64 ∷ []) c.args.iteration c.in-Ok-run_iteration_by.iteration
    (sym c.requires.needs) c.requires.sound (sym (none_lacks c.args.number c.args.iteration c.requires.iteration))
    (c.as_slice.ensures.value ∙ c.in-Ok.ensures ∙ sym (part_taken c.args.number c.args.iteration c.requires.iteration)) c.in-Ok-run_iteration_by.ensures.gives

pub returns-clause-stops : goal.returns-clause-stops
returns-clause-stops g c =
    let graphs = arc_value c.args.graphs.now in
    subst (StopsAt graphs c.args.delays.now.lists (rest_of c.args.iteration (top_needs graphs) (soak_streams c.args.number))) (sym c.from.ensures)
    (stops_next graphs c.args.delays.now.lists c.run_iteration_by.new.delays.lists (soak_streams c.args.number) c.as_slice.result.now (1 ∷ 64 ∷ []) c.args.iteration
    (sym c.requires.needs) c.requires.sound (sym (none_lacks c.args.number c.args.iteration c.requires.iteration))
    (c.as_slice.ensures.value ∙ c.in-Ok.ensures ∙ sym (part_taken c.args.number c.args.iteration c.requires.iteration))
    (Err (workers_stop c.in-Err.fault)) (stops_by_workers _ c.in-Err.fault c.in-Err.ensures.refused))

pub returns-clause-enough : goal.returns-clause-enough
returns-clause-enough g c =
    subst LacksNothing (sym c.from.ensures) (made_lacks _ (Err (workers_stop c.in-Err.fault)) (stops_by_workers _ c.in-Err.fault c.in-Err.ensures.refused))

pub run_iteration_by-requires-clause-inputs : goal.run_iteration_by-requires-clause-inputs
run_iteration_by-requires-clause-inputs g c = λ lives within.
    ap lengths (c.as_slice.ensures.value ∙ c.in-Ok.ensures) ∙ part_lengths c.args.number c.args.iteration ∙ sym c.requires.needs
