use Rattle.std.proofs.Common.{◌≡◌, IfOk, sym, subst}
use Rattle.std.specs.Arc.{arc_value}
use Rattle.kernel_gate.specs.Table.{the_signatures}
use Rattle.pisdf_model.specs.declared.graph.Graphs.{Graphs}
use Rattle.board_rules.specs.Keys.{IsKey}
use Rattle.firing_board.specs.Starts.{key_from}
use Rattle.quiescent_driver.specs.Given.{key_with}
use Rattle.quiescent_driver.proofs.Starting.{is_key, started_idle, started_key}
use Rattle.board_calls.proofs.iterations.start_board.Goals as goal

pub start-requires : goal.start-requires
start-requires c =
    let graphs = arc_value c.args.graphs.now in
    let P : Graphs → Type 0 = λ x. IsKey (key_from x c.signatures.result.now c.args.delays.now c.args.ins.now c.args.workers) in
    let r = c.requires in
    subst P (sym c.in_ok-clone.ensures.cases)
    (is_key graphs c.signatures.result.now the_signatures c.args.delays.now c.args.ins.now c.args.workers c.signatures.ensures.kernels r.sound c.lengths_given.ensures r.early r.inputs r.state r.some r.few)

pub returns-clause-key : goal.returns-clause-key
returns-clause-key c =
    let signatures = c.signatures.result.now in
    let P : Graphs → Type 0 = λ x. IfOk c.start.result (λ b. b.key ≡ key_with x the_signatures c.args.delays.now.lists c.args.ins.now c.args.workers) in
    subst P c.in_ok-clone.ensures.cases (started_key (arc_value c.in_ok-clone.field-0) signatures the_signatures c.args.delays.now c.args.ins.now c.args.workers c.start.result c.signatures.ensures.kernels c.start.ensures)

pub returns-clause-idle : goal.returns-clause-idle
returns-clause-idle c =
    started_idle (key_from (arc_value c.in_ok-clone.field-0) c.signatures.result.now c.args.delays.now c.args.ins.now c.args.workers) c.args.workers c.start.result c.start.ensures
