-- Graphs may cross threads, and threads may share them.
use denote.Param.Send.{IsSend, IsSync, sendable}
use Rattle.std.proofs.Crossing.{crosses}
use Rattle.param_expr.proofs.expr.Expr.TheLaws.TheKnot as expr
use Rattle.param_expr.proofs.name.Name.TheSendSync as name
use Rattle.pisdf_model.specs.contracts.graph.Graphs as Graphs
use Rattle.sdf_level.proofs.list.List.TheSendSync as list
use Rattle.pisdf_model.proofs.fifo.Fifo.TheSendSync as fifo
use Rattle.param_expr.specs.contracts.expr.Expr as Expr
use Rattle.pisdf_model.specs.contracts.actor.Port as Port
use Rattle.pisdf_model.specs.contracts.actor.Body as Body
use Rattle.pisdf_model.specs.contracts.actor.Actor as Actor
use Rattle.pisdf_model.specs.contracts.param.ParamKind as ParamKind
use Rattle.pisdf_model.specs.contracts.param.Param as Param
use Rattle.pisdf_model.specs.contracts.graph.Interface as Interface
use Rattle.pisdf_model.specs.contracts.graph.Graph as Graph

-- ---- they may cross

expr_send : IsSend Expr.the_row
expr_send = search (expr.crosses, crosses, sendable) depth 20

port_send : IsSend Port.the_row
port_send = search (expr_send, name.the_send, sendable) depth 20

body_send : IsSend Body.the_row
body_send = search (expr_send, port_send, list.the_send, name.the_send, sendable) depth 20

body_field_send : IsSend Body.the_field.row
body_field_send = search (expr_send, port_send, list.the_send, name.the_send, sendable) depth 20

actor_send : IsSend Actor.the_row
actor_send = search (body_field_send, name.the_send, sendable) depth 20

kind_send : IsSend ParamKind.the_row
kind_send = search (expr_send, sendable) depth 20

kind_field_send : IsSend ParamKind.the_field.row
kind_field_send = search (expr_send, sendable) depth 20

param_send : IsSend Param.the_row
param_send = search (kind_field_send, name.the_send, sendable) depth 20

interface_send : IsSend Interface.the_row
interface_send = search (expr_send, name.the_send, sendable) depth 20

graph_send : IsSend Graph.the_row
graph_send = search (interface_send, param_send, actor_send, fifo.the_send, list.the_send, name.the_send, sendable) depth 20

pub graphs_send : IsSend Graphs.the_row
graphs_send = search (graph_send, list.the_send, sendable) depth 20

-- ---- they may be shared

expr_sync : IsSync Expr.the_row
expr_sync = search (expr.crosses, crosses, sendable) depth 20

port_sync : IsSync Port.the_row
port_sync = search (expr_sync, name.the_sync, sendable) depth 20

body_sync : IsSync Body.the_row
body_sync = search (expr_sync, port_sync, list.the_sync, name.the_sync, sendable) depth 20

body_field_sync : IsSync Body.the_field.row
body_field_sync = search (expr_sync, port_sync, list.the_sync, name.the_sync, sendable) depth 20

actor_sync : IsSync Actor.the_row
actor_sync = search (body_field_sync, name.the_sync, sendable) depth 20

kind_sync : IsSync ParamKind.the_row
kind_sync = search (expr_sync, sendable) depth 20

kind_field_sync : IsSync ParamKind.the_field.row
kind_field_sync = search (expr_sync, sendable) depth 20

param_sync : IsSync Param.the_row
param_sync = search (kind_field_sync, name.the_sync, sendable) depth 20

interface_sync : IsSync Interface.the_row
interface_sync = search (expr_sync, name.the_sync, sendable) depth 20

graph_sync : IsSync Graph.the_row
graph_sync = search (interface_sync, param_sync, actor_sync, fifo.the_sync, list.the_sync, name.the_sync, sendable) depth 20

pub graphs_sync : IsSync Graphs.the_row
graphs_sync = search (graph_sync, list.the_sync, sendable) depth 20
