use Rattle.std.proofs.Common.{true, map}
use Rattle.std.proofs.lemmas.Result.{err_from_is_err_and}
use Rattle.pisdf_model.specs.Count.{count_faults, word_of}
use Rattle.pisdf_model.specs.InterfaceWires.{interface_wire_faults}
use Rattle.pisdf_model.specs.Names.{duplicate_faults}
use Rattle.pisdf_model.specs.Nesting.{depth_faults, graph_cycle_faults}
use Rattle.pisdf_model.specs.ParamOrder.{param_order_faults}
use Rattle.pisdf_model.specs.Ports.{ports_faults}
use Rattle.pisdf_model.specs.WellFormed.{graphs_at}
use Rattle.pisdf_model.specs.Wires.{wire_faults}
use Rattle.pisdf_model.proofs.Numbers.{answers_after, faults_4, faults_7, faults_8, faults_9, faults_10, faults_11, faults_12, faults_13, from_7, from_8, from_9, from_10, from_11, from_12, passes, stops}
use Rattle.pisdf_model.proofs.Referring.{each_refers_to_params, refers_to_graphs}
use Rattle.pisdf_model.proofs.rules.well_formed.Goals as goal

pub param_order-requires : goal.param_order-requires
param_order-requires c = each_refers_to_params c.args.graphs.now c.requires

pub graph_cycle-requires : goal.graph_cycle-requires
graph_cycle-requires c = refers_to_graphs c.args.graphs.now c.requires

pub depth-requires : goal.depth-requires
depth-requires c = refers_to_graphs c.args.graphs.now c.requires

pub returns-in_err-numbered : goal.returns-in_err-numbered
returns-in_err-numbered c =
    let g = c.args.graphs.now in
    let p = err_from_is_err_and c.from_residual.result c.from_residual.ensures.1 in
    let fault = c.in_err-numbered.field-0.0 in
    rw (p.1, p.2) (stops (faults_4 g) (from_7 g) fault (c.in_err-numbered.ensures (duplicate_faults g) c.duplicate.ensures))

pub returns-in_err-numbered-2 : goal.returns-in_err-numbered-2
returns-in_err-numbered-2 c =
    let g = c.args.graphs.now in
    let p = err_from_is_err_and c.from_residual-in_err-numbered-2.result c.from_residual-in_err-numbered-2.ensures.1 in
    let fault = c.in_err-numbered-2.field-0.0 in
    rw (p.1, p.2) (passes (faults_4 g) (from_7 g) fault (c.in_ok-numbered.ensures (duplicate_faults g) c.duplicate.ensures)
    (stops (faults_7 g) (from_8 g) fault (c.in_err-numbered-2.ensures (ports_faults (λ body. true) g) c.ports.ensures)))

pub returns-in_err-numbered-3 : goal.returns-in_err-numbered-3
returns-in_err-numbered-3 c =
    let g = c.args.graphs.now in
    let p = err_from_is_err_and c.from_residual-in_err-numbered-3.result c.from_residual-in_err-numbered-3.ensures.1 in
    let fault = c.in_err-numbered-3.field-0.0 in
    rw (p.1, p.2) (passes (faults_4 g) (from_7 g) fault (c.in_ok-numbered.ensures (duplicate_faults g) c.duplicate.ensures)
    (passes (faults_7 g) (from_8 g) fault (c.in_ok-numbered-2.ensures (ports_faults (λ body. true) g) c.ports.ensures)
    (stops (faults_8 g) (from_9 g) fault (c.in_err-numbered-3.ensures (wire_faults g) c.wire.ensures))))

pub returns-in_err-numbered-4 : goal.returns-in_err-numbered-4
returns-in_err-numbered-4 c =
    let g = c.args.graphs.now in
    let p = err_from_is_err_and c.from_residual-in_err-numbered-4.result c.from_residual-in_err-numbered-4.ensures.1 in
    let fault = c.in_err-numbered-4.field-0.0 in
    rw (p.1, p.2) (passes (faults_4 g) (from_7 g) fault (c.in_ok-numbered.ensures (duplicate_faults g) c.duplicate.ensures)
    (passes (faults_7 g) (from_8 g) fault (c.in_ok-numbered-2.ensures (ports_faults (λ body. true) g) c.ports.ensures)
    (passes (faults_8 g) (from_9 g) fault (c.in_ok-numbered-3.ensures (wire_faults g) c.wire.ensures)
    (stops (faults_9 g) (from_10 g) fault (c.in_err-numbered-4.ensures (graphs_at (interface_wire_faults g)) (c.at_graph.ensures (interface_wire_faults g) c.interface_wire.ensures))))))

pub returns-in_err-numbered-5 : goal.returns-in_err-numbered-5
returns-in_err-numbered-5 c =
    let g = c.args.graphs.now in
    let p = err_from_is_err_and c.from_residual-in_err-numbered-5.result c.from_residual-in_err-numbered-5.ensures.1 in
    let fault = c.in_err-numbered-5.field-0.0 in
    rw (p.1, p.2) (passes (faults_4 g) (from_7 g) fault (c.in_ok-numbered.ensures (duplicate_faults g) c.duplicate.ensures)
    (passes (faults_7 g) (from_8 g) fault (c.in_ok-numbered-2.ensures (ports_faults (λ body. true) g) c.ports.ensures)
    (passes (faults_8 g) (from_9 g) fault (c.in_ok-numbered-3.ensures (wire_faults g) c.wire.ensures)
    (passes (faults_9 g) (from_10 g) fault (c.in_ok-numbered-4.ensures (graphs_at (interface_wire_faults g)) (c.at_graph.ensures (interface_wire_faults g) c.interface_wire.ensures))
    (stops (faults_10 g) (from_11 g) fault (c.in_err-numbered-5.ensures (param_order_faults g) c.param_order.ensures.answer))))))

pub returns-in_err-numbered-6 : goal.returns-in_err-numbered-6
returns-in_err-numbered-6 c =
    let g = c.args.graphs.now in
    let p = err_from_is_err_and c.from_residual-in_err-numbered-6.result c.from_residual-in_err-numbered-6.ensures.1 in
    let fault = c.in_err-numbered-6.field-0.0 in
    rw (p.1, p.2) (passes (faults_4 g) (from_7 g) fault (c.in_ok-numbered.ensures (duplicate_faults g) c.duplicate.ensures)
    (passes (faults_7 g) (from_8 g) fault (c.in_ok-numbered-2.ensures (ports_faults (λ body. true) g) c.ports.ensures)
    (passes (faults_8 g) (from_9 g) fault (c.in_ok-numbered-3.ensures (wire_faults g) c.wire.ensures)
    (passes (faults_9 g) (from_10 g) fault (c.in_ok-numbered-4.ensures (graphs_at (interface_wire_faults g)) (c.at_graph.ensures (interface_wire_faults g) c.interface_wire.ensures))
    (passes (faults_10 g) (from_11 g) fault (c.in_ok-numbered-5.ensures (param_order_faults g) c.param_order.ensures.answer)
    (stops (faults_11 g) (from_12 g) fault (c.in_err-numbered-6.ensures (graph_cycle_faults g) c.graph_cycle.ensures.answer)))))))

pub returns-in_err-numbered-7 : goal.returns-in_err-numbered-7
returns-in_err-numbered-7 c =
    let g = c.args.graphs.now in
    let p = err_from_is_err_and c.from_residual-in_err-numbered-7.result c.from_residual-in_err-numbered-7.ensures.1 in
    let fault = c.in_err-numbered-7.field-0.0 in
    rw (p.1, p.2) (passes (faults_4 g) (from_7 g) fault (c.in_ok-numbered.ensures (duplicate_faults g) c.duplicate.ensures)
    (passes (faults_7 g) (from_8 g) fault (c.in_ok-numbered-2.ensures (ports_faults (λ body. true) g) c.ports.ensures)
    (passes (faults_8 g) (from_9 g) fault (c.in_ok-numbered-3.ensures (wire_faults g) c.wire.ensures)
    (passes (faults_9 g) (from_10 g) fault (c.in_ok-numbered-4.ensures (graphs_at (interface_wire_faults g)) (c.at_graph.ensures (interface_wire_faults g) c.interface_wire.ensures))
    (passes (faults_10 g) (from_11 g) fault (c.in_ok-numbered-5.ensures (param_order_faults g) c.param_order.ensures.answer)
    (passes (faults_11 g) (from_12 g) fault (c.in_ok-numbered-6.ensures (graph_cycle_faults g) c.graph_cycle.ensures.answer)
    (stops (faults_12 g) (faults_13 g) fault (c.in_err-numbered-7.ensures (depth_faults g) c.depth.ensures.answer))))))))

pub returns : goal.returns
returns c =
    let g = c.args.graphs.now in
    let answer = c.numbered-8.result in
    answers_after (faults_4 g) (from_7 g) answer (c.in_ok-numbered.ensures (duplicate_faults g) c.duplicate.ensures)
    (answers_after (faults_7 g) (from_8 g) answer (c.in_ok-numbered-2.ensures (ports_faults (λ body. true) g) c.ports.ensures)
    (answers_after (faults_8 g) (from_9 g) answer (c.in_ok-numbered-3.ensures (wire_faults g) c.wire.ensures)
    (answers_after (faults_9 g) (from_10 g) answer (c.in_ok-numbered-4.ensures (graphs_at (interface_wire_faults g)) (c.at_graph.ensures (interface_wire_faults g) c.interface_wire.ensures))
    (answers_after (faults_10 g) (from_11 g) answer (c.in_ok-numbered-5.ensures (param_order_faults g) c.param_order.ensures.answer)
    (answers_after (faults_11 g) (from_12 g) answer (c.in_ok-numbered-6.ensures (graph_cycle_faults g) c.graph_cycle.ensures.answer)
    (answers_after (faults_12 g) (faults_13 g) answer (c.in_ok-numbered-7.ensures (depth_faults g) c.depth.ensures.answer)
    (c.numbered-8.ensures (map word_of (count_faults g)) (c.at_word.ensures (count_faults g) c.count.ensures))))))))
