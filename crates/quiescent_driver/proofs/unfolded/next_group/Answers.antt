use Rattle.std.proofs.Common.{◌≡◌, ◌∙◌, ap, sym}
use Rattle.std.specs.Arc.{arc_value}
use Rattle.kernel_gate.specs.Signed.{unnamed}
use Rattle.kernel_gate.specs.Value.{lengths}
use Rattle.pisdf_meaning.specs.Run as run
use Rattle.quiescent_driver.proofs.Groups.{group_given, pieces_counted}
use Rattle.quiescent_driver.proofs.Making.{taken_lengths}
use Rattle.quiescent_driver.proofs.unfolded.next_group.Goals as goal

pub run_iteration_by-requires-clause-valid : goal.run_iteration_by-requires-clause-valid
run_iteration_by-requires-clause-valid g c = λ lives within.
    let fits = c.requires.stands.fits in
    record { valid = fits.valid; kernels = fits.kernels (unnamed (g.K.Gate.kernels c.args.gate.now)) c.requires.valid.kernels }

pub run_iteration_by-requires-clause-sound : goal.run_iteration_by-requires-clause-sound
run_iteration_by-requires-clause-sound g c = λ lives within. c.requires.stands.fits.sound

pub run_iteration_by-requires-clause-inputs : goal.run_iteration_by-requires-clause-inputs
run_iteration_by-requires-clause-inputs g c = λ lives within.
    taken_lengths c.args.group c.args.streams.now.needs.now (run.top_needs (arc_value c.args.unfolded.now.graphs)) c.args.streams.now.tokens.now c.as_slice.result.now
    c.requires.fit c.in-None.ensures (c.as_slice.ensures.value ∙ c.in_ok-ins.ensures) c.requires.needs

pub run_iteration_by-requires-clause-state : goal.run_iteration_by-requires-clause-state
run_iteration_by-requires-clause-state g c = λ lives within. c.requires.state ∙ sym (ap lengths c.requires.stands.fits.begins)

pub returns-clause-given : goal.returns-clause-given
returns-clause-given g c =
    let u = c.args.unfolded.now in
    let ins = c.as_slice.ensures.value ∙ c.in_ok-ins.ensures in
    let long = taken_lengths c.args.group c.args.streams.now.needs.now (run.top_needs (arc_value u.graphs)) c.args.streams.now.tokens.now c.as_slice.result.now c.requires.fit c.in-None.ensures ins c.requires.needs in
    group_given (unnamed (g.K.Gate.kernels c.args.gate.now)) (arc_value c.args.graphs.now) u c.requires.stands c.requires.valid.kernels c.signatures-signatures.ensures.lengths
    c.args.group c.args.streams.now.tokens.now c.args.delays.now.lists c.run_iteration_by.new.delays.lists c.as_slice.result.now c.args.streams.now.needs.now c.in-Ok.iteration c.in_ok-pieces.pieces
    c.requires.needs c.in-None.ensures ins long c.requires.state c.in-Ok.ensures.gives c.in_ok-pieces.ensures.pieces

pub returns-clause-all : goal.returns-clause-all
returns-clause-all g c = pieces_counted c.args.unfolded.now c.in-Ok.iteration c.in_ok-pieces.pieces c.in_ok-pieces.ensures.pieces

pub returns-clause-state : goal.returns-clause-state
returns-clause-state g c = c.run_iteration_by.ensures.state ∙ ap lengths c.requires.stands.fits.begins

pub cut-requires-clause-of : goal.cut-requires-clause-of
cut-requires-clause-of g c = (arc_value c.args.graphs.now, c.requires.valid.valid, c.requires.stands.unfolded)

pub cut-requires-clause-done : goal.cut-requires-clause-done
cut-requires-clause-done g c = (c.as_slice.result.now, c.args.delays.now.lists, c.run_iteration_by.new.delays.lists, c.in-Ok.ensures.gives)
