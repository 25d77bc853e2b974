use Rattle.std.proofs.Common.{◌++◌, map}
use Rattle.std.proofs.lemmas.Result.{err_from_is_err_and}
use Rattle.kernel_gate.specs.Signed.{signature_view}
use Rattle.pisdf_model.specs.InterfaceWires.{interface_wire_faults}
use Rattle.pisdf_model.specs.Nesting.{depth_faults, graph_cycle_faults}
use Rattle.pisdf_model.specs.ParamOrder.{param_order_faults}
use Rattle.pisdf_model.specs.Ports.{ports_faults}
use Rattle.pisdf_model.specs.Wires.{wire_faults}
use Rattle.pisdf_model.proofs.Referring.{each_refers_to_params, refers_to_graphs}
use Rattle.graph_format.specs.Faults.{at_fifo, fits_kernel}
use Rattle.graph_format.specs.declared.graph_fault.GraphFault.TheVariants.{Depth, GraphCycle, ParamOrder, Ports, Wire}
use Rattle.graph_reader.proofs.Telling.{passes, stops, tells_after}
use Rattle.graph_reader.proofs.checks.follow_rules.Goals as goal

pub param_order-requires : goal.param_order-requires
param_order-requires c = each_refers_to_params c.args.graphs.now c.requires

pub graph_cycle-requires : goal.graph_cycle-requires
graph_cycle-requires c = refers_to_graphs c.args.graphs.now c.requires

pub depth-requires : goal.depth-requires
depth-requires c = refers_to_graphs c.args.graphs.now c.requires

pub returns-in_err-told : goal.returns-in_err-told
returns-in_err-told c =
    let g = c.args.graphs.now in
    let signatures = map signature_view c.args.signatures.now in
    let p = err_from_is_err_and c.from_residual.result c.from_residual.ensures.1 in
    let fault = c.in_err-told.field-0.0 in
    rw (p.1, p.2) (stops (map Ports (ports_faults (fits_kernel signatures) g)) (map Wire (wire_faults g) ++ (map at_fifo (interface_wire_faults g) ++ (map ParamOrder (param_order_faults g) ++ (map GraphCycle (graph_cycle_faults g) ++ (map Depth (depth_faults g)))))) fault (c.in_err-told.ensures (ports_faults (fits_kernel signatures) g) c.ports.ensures))

pub returns-in_err-told-2 : goal.returns-in_err-told-2
returns-in_err-told-2 c =
    let g = c.args.graphs.now in
    let signatures = map signature_view c.args.signatures.now in
    let p = err_from_is_err_and c.from_residual-in_err-told-2.result c.from_residual-in_err-told-2.ensures.1 in
    let fault = c.in_err-told-2.field-0.0 in
    rw (p.1, p.2) (passes (map Ports (ports_faults (fits_kernel signatures) g)) (map Wire (wire_faults g) ++ (map at_fifo (interface_wire_faults g) ++ (map ParamOrder (param_order_faults g) ++ (map GraphCycle (graph_cycle_faults g) ++ (map Depth (depth_faults g)))))) fault (c.in_ok-told.ensures (ports_faults (fits_kernel signatures) g) c.ports.ensures)
    (stops (map Wire (wire_faults g)) (map at_fifo (interface_wire_faults g) ++ (map ParamOrder (param_order_faults g) ++ (map GraphCycle (graph_cycle_faults g) ++ (map Depth (depth_faults g))))) fault (c.in_err-told-2.ensures (wire_faults g) c.wire.ensures)))

pub returns-in_err-told_at_fifo : goal.returns-in_err-told_at_fifo
returns-in_err-told_at_fifo c =
    let g = c.args.graphs.now in
    let signatures = map signature_view c.args.signatures.now in
    let p = err_from_is_err_and c.from_residual-in_err-told_at_fifo.result c.from_residual-in_err-told_at_fifo.ensures.1 in
    let fault = c.in_err-told_at_fifo.field-0.0 in
    rw (p.1, p.2) (passes (map Ports (ports_faults (fits_kernel signatures) g)) (map Wire (wire_faults g) ++ (map at_fifo (interface_wire_faults g) ++ (map ParamOrder (param_order_faults g) ++ (map GraphCycle (graph_cycle_faults g) ++ (map Depth (depth_faults g)))))) fault (c.in_ok-told.ensures (ports_faults (fits_kernel signatures) g) c.ports.ensures)
    (passes (map Wire (wire_faults g)) (map at_fifo (interface_wire_faults g) ++ (map ParamOrder (param_order_faults g) ++ (map GraphCycle (graph_cycle_faults g) ++ (map Depth (depth_faults g))))) fault (c.in_ok-told-2.ensures (wire_faults g) c.wire.ensures)
    (stops (map at_fifo (interface_wire_faults g)) (map ParamOrder (param_order_faults g) ++ (map GraphCycle (graph_cycle_faults g) ++ (map Depth (depth_faults g)))) fault (c.in_err-told_at_fifo.ensures (interface_wire_faults g) c.interface_wire.ensures))))

pub returns-in_err-told-3 : goal.returns-in_err-told-3
returns-in_err-told-3 c =
    let g = c.args.graphs.now in
    let signatures = map signature_view c.args.signatures.now in
    let p = err_from_is_err_and c.from_residual-in_err-told-3.result c.from_residual-in_err-told-3.ensures.1 in
    let fault = c.in_err-told-3.field-0.0 in
    rw (p.1, p.2) (passes (map Ports (ports_faults (fits_kernel signatures) g)) (map Wire (wire_faults g) ++ (map at_fifo (interface_wire_faults g) ++ (map ParamOrder (param_order_faults g) ++ (map GraphCycle (graph_cycle_faults g) ++ (map Depth (depth_faults g)))))) fault (c.in_ok-told.ensures (ports_faults (fits_kernel signatures) g) c.ports.ensures)
    (passes (map Wire (wire_faults g)) (map at_fifo (interface_wire_faults g) ++ (map ParamOrder (param_order_faults g) ++ (map GraphCycle (graph_cycle_faults g) ++ (map Depth (depth_faults g))))) fault (c.in_ok-told-2.ensures (wire_faults g) c.wire.ensures)
    (passes (map at_fifo (interface_wire_faults g)) (map ParamOrder (param_order_faults g) ++ (map GraphCycle (graph_cycle_faults g) ++ (map Depth (depth_faults g)))) fault (c.in_ok-told_at_fifo.ensures (interface_wire_faults g) c.interface_wire.ensures)
    (stops (map ParamOrder (param_order_faults g)) (map GraphCycle (graph_cycle_faults g) ++ (map Depth (depth_faults g))) fault (c.in_err-told-3.ensures (param_order_faults g) c.param_order.ensures.answer)))))

pub returns-in_err-told-4 : goal.returns-in_err-told-4
returns-in_err-told-4 c =
    let g = c.args.graphs.now in
    let signatures = map signature_view c.args.signatures.now in
    let p = err_from_is_err_and c.from_residual-in_err-told-4.result c.from_residual-in_err-told-4.ensures.1 in
    let fault = c.in_err-told-4.field-0.0 in
    rw (p.1, p.2) (passes (map Ports (ports_faults (fits_kernel signatures) g)) (map Wire (wire_faults g) ++ (map at_fifo (interface_wire_faults g) ++ (map ParamOrder (param_order_faults g) ++ (map GraphCycle (graph_cycle_faults g) ++ (map Depth (depth_faults g)))))) fault (c.in_ok-told.ensures (ports_faults (fits_kernel signatures) g) c.ports.ensures)
    (passes (map Wire (wire_faults g)) (map at_fifo (interface_wire_faults g) ++ (map ParamOrder (param_order_faults g) ++ (map GraphCycle (graph_cycle_faults g) ++ (map Depth (depth_faults g))))) fault (c.in_ok-told-2.ensures (wire_faults g) c.wire.ensures)
    (passes (map at_fifo (interface_wire_faults g)) (map ParamOrder (param_order_faults g) ++ (map GraphCycle (graph_cycle_faults g) ++ (map Depth (depth_faults g)))) fault (c.in_ok-told_at_fifo.ensures (interface_wire_faults g) c.interface_wire.ensures)
    (passes (map ParamOrder (param_order_faults g)) (map GraphCycle (graph_cycle_faults g) ++ (map Depth (depth_faults g))) fault (c.in_ok-told-3.ensures (param_order_faults g) c.param_order.ensures.answer)
    (stops (map GraphCycle (graph_cycle_faults g)) (map Depth (depth_faults g)) fault (c.in_err-told-4.ensures (graph_cycle_faults g) c.graph_cycle.ensures.answer))))))

pub returns : goal.returns
returns c =
    let g = c.args.graphs.now in
    let signatures = map signature_view c.args.signatures.now in
    let answer = c.told-5.result in
    tells_after (map Ports (ports_faults (fits_kernel signatures) g)) (map Wire (wire_faults g) ++ (map at_fifo (interface_wire_faults g) ++ (map ParamOrder (param_order_faults g) ++ (map GraphCycle (graph_cycle_faults g) ++ (map Depth (depth_faults g)))))) answer (c.in_ok-told.ensures (ports_faults (fits_kernel signatures) g) c.ports.ensures)
    (tells_after (map Wire (wire_faults g)) (map at_fifo (interface_wire_faults g) ++ (map ParamOrder (param_order_faults g) ++ (map GraphCycle (graph_cycle_faults g) ++ (map Depth (depth_faults g))))) answer (c.in_ok-told-2.ensures (wire_faults g) c.wire.ensures)
    (tells_after (map at_fifo (interface_wire_faults g)) (map ParamOrder (param_order_faults g) ++ (map GraphCycle (graph_cycle_faults g) ++ (map Depth (depth_faults g)))) answer (c.in_ok-told_at_fifo.ensures (interface_wire_faults g) c.interface_wire.ensures)
    (tells_after (map ParamOrder (param_order_faults g)) (map GraphCycle (graph_cycle_faults g) ++ (map Depth (depth_faults g))) answer (c.in_ok-told-3.ensures (param_order_faults g) c.param_order.ensures.answer)
    (tells_after (map GraphCycle (graph_cycle_faults g)) (map Depth (depth_faults g)) answer (c.in_ok-told-4.ensures (graph_cycle_faults g) c.graph_cycle.ensures.answer)
    (c.told-5.ensures (depth_faults g) c.depth.ensures.answer)))))
