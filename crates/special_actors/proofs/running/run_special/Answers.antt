use Rattle.std.proofs.Common.{◌≤◌, length, sym, ◌∙◌, arith}
use Rattle.kernel_gate.specs.Value.{port}
use Rattle.special_actors.specs.Copying.{joined}
use Rattle.special_actors.proofs.Shapes.{length_joined, one_list, length_only, same_but_output, length_kept, joins_all, repeats_all}
use Rattle.special_actors.proofs.running.run_special.Goals as goal

pub cut-requires-clause-fits : goal.cut-requires-clause-fits
cut-requires-clause-fits c =
    let f = c.args.frame.now in
    let fitting = rw c.in-Fork.is at c.requires.fitting in
    length_joined f.outputs ∙ (fitting.1 ∙ sym (length_only f.inputs fitting.0))

pub keep_last-requires-clause-room : goal.keep_last-requires-clause-room
keep_last-requires-clause-room c =
    let f = c.args.frame.now in
    let fitting = rw c.in-Join.is at c.requires.fitting in
    omega (arith, length_only f.outputs fitting.0, fitting.1, length_joined f.inputs)

pub keep_last-requires-in-Round-clause-room : goal.keep_last-requires-in-Round-clause-room
keep_last-requires-in-Round-clause-room c =
    let f = c.args.frame.now in
    let fitting = rw c.in-Round.is at c.requires.fitting in
    omega (arith, length_only f.outputs fitting.0, fitting.1, length_joined f.inputs)

pub returns-in-Broadcast-clause-copied : goal.returns-in-Broadcast-clause-copied
returns-in-Broadcast-clause-copied c =
    let f = c.args.frame.now in
    let fitting = rw c.in-Broadcast.is at c.requires.fitting in
    rw c.in-Broadcast.is (repeats_all f c.repeat.new.frame fitting.0 c.repeat.ensures.filled c.repeat.ensures.repeated)

pub returns-in-Join-clause-same : goal.returns-in-Join-clause-same
returns-in-Join-clause-same c =
    let f = c.args.frame.now in
    let fitting = rw c.in-Join.is at c.requires.fitting in
    let n = length (port f.outputs 0) in
    let room : n ≤ length (joined f.inputs) = omega (arith, length_only f.outputs fitting.0, fitting.1, length_joined f.inputs) in
    same_but_output f c.keep_last.new.frame _ (one_list f.outputs fitting.0) (length_kept n (joined f.inputs) room) c.keep_last.ensures

pub returns-in-Join-clause-copied : goal.returns-in-Join-clause-copied
returns-in-Join-clause-copied c =
    let f = c.args.frame.now in
    let fitting = rw c.in-Join.is at c.requires.fitting in
    rw c.in-Join.is (joins_all f c.keep_last.new.frame (length (port f.outputs 0)) (length_only f.outputs fitting.0 ∙ (fitting.1 ∙ sym (length_joined f.inputs))) c.keep_last.ensures)

pub returns-in-Round-clause-same : goal.returns-in-Round-clause-same
returns-in-Round-clause-same c =
    let f = c.args.frame.now in
    let fitting = rw c.in-Round.is at c.requires.fitting in
    let n = length (port f.outputs 0) in
    let room : n ≤ length (joined f.inputs) = omega (arith, length_only f.outputs fitting.0, fitting.1, length_joined f.inputs) in
    same_but_output f c.keep_last-in-Round.new.frame _ (one_list f.outputs fitting.0) (length_kept n (joined f.inputs) room) c.keep_last-in-Round.ensures
