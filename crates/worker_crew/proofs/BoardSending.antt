-- A board may cross threads.
use denote.Param.Send.{IsSend, IsSync, sendable}
use Rattle.std.proofs.Crossing.{crosses}
use Rattle.std.proofs.collections.LinkedList.TheSendSync as linked
use Rattle.std.proofs.option.Option.TheSendSync as option
use Rattle.param_expr.proofs.name.Name.TheSendSync as name
use Rattle.param_resolver.proofs.known.Early.TheLaws.TheKnot as early
use Rattle.cell_pool.proofs.pool.Pool.TheSendSync as pool
use Rattle.kernel_gate.proofs.frame.Frame.TheSendSync as frame
use Rattle.pisdf_meaning.proofs.firing.Configured.TheSendSync as configured
use Rattle.pisdf_meaning.proofs.firing.Firing.TheSendSync as firing
use Rattle.pisdf_meaning.proofs.outcome.TraceRow.TheSendSync as row
use Rattle.pisdf_meaning.proofs.path.Path.TheSendSync as path
use Rattle.pisdf_meaning.proofs.refusal.Refusal.TheSendSync as refusal
use Rattle.job_preparing.proofs.trace.Rows.TheLaws.TheKnot as rows
use Rattle.board_journal.proofs.kept.Entries.TheSendSync as entries
use Rattle.board_journal.proofs.history.Past.TheLaws.TheKnot as past
use Rattle.firing_board.proofs.frame_rooms.FrameRooms.TheSendSync as frame_rooms
use Rattle.firing_board.proofs.run.Run.TheSendSync as run
use Rattle.param_resolver.specs.contracts.known.Early as Early
use Rattle.param_resolver.specs.contracts.level_set.LevelSet as LevelSet
use Rattle.job_preparing.specs.contracts.compiling.Made as Made
use Rattle.job_preparing.specs.contracts.compiling.ReadyLevel as ReadyLevel
use Rattle.job_preparing.specs.contracts.configuring.Configuring as Configuring
use Rattle.job_preparing.specs.contracts.handing.JobGiven as JobGiven
use Rattle.job_preparing.specs.contracts.known.KnownEarly as KnownEarly
use Rattle.job_preparing.specs.contracts.left_told.LeftTold as LeftTold
use Rattle.job_preparing.specs.contracts.levels.KeptLevels as KeptLevels
use Rattle.job_preparing.specs.contracts.trace.Trace as Trace
use Rattle.ready_heap.specs.contracts.groups.GroupedHeaps as GroupedHeaps
use Rattle.ready_heap.specs.contracts.ranking.Ranking as Ranking
use Rattle.job_compiler.proofs.cache.LastUsed.TheSendSync as last_used
use Rattle.job_compiler.specs.contracts.compiled.Compiled as Compiled
use Rattle.job_compiler.specs.contracts.memory.JobMemory as JobMemory
use Rattle.one_job.specs.contracts.job.Job as Job
use Rattle.one_job.specs.contracts.ready.ReadyNodes as ReadyNodes
use Rattle.one_job.specs.contracts.side.ReadySide as ReadySide
use Rattle.graph_firing.specs.contracts.nodes.running.Running as Running
use Rattle.graph_firing.specs.contracts.job.OpenJob as OpenJob
use Rattle.firing_board.specs.contracts.table.JobTable as JobTable
use Rattle.board_journal.specs.contracts.history.History as History
use Rattle.board_journal.specs.contracts.journal.Journal as Journal
use Rattle.firing_board.specs.contracts.board.Board as Board
use Rattle.firing_board.specs.contracts.keeping.Keeping as Keeping
use Rattle.firing_board.specs.contracts.state.Core as Core
use Rattle.sdf_level.proofs.level.Level.TheSendSync as level
use Rattle.sdf_level.proofs.list.List.TheSendSync as list
use Rattle.sdf_level.proofs.turn.Turn.TheSendSync as turn
use Rattle.kernel_gate.specs.contracts.told.Told as Told
use Rattle.one_job.specs.contracts.stage.Stage as JobStage
use Rattle.job_preparing.specs.contracts.stage.Stage as PreparingStage
use Rattle.job_preparing.proofs.stage.Spare.TheSendSync as spare
use Rattle.graph_firing.specs.contracts.nodes.stages.Stages as RunningStages
use Rattle.graph_firing.proofs.nodes.stages.Past.TheLaws.TheKnot as stages_past
use Rattle.graph_firing.specs.contracts.nodes.frames.Held as RunningHeld
use Rattle.worker_crew.proofs.GraphsSending.{graphs_send, graphs_sync}

early_send : IsSend Early.the_row
early_send = search (crosses, early.crosses, sendable) depth 60 fits 20000

early_sync : IsSync Early.the_row
early_sync = search (crosses, early.crosses, sendable) depth 60 fits 20000

level_set_field_send : IsSend LevelSet.the_field.row
level_set_field_send = search (early_send, crosses, sendable) depth 60 fits 20000

told_send : IsSend Told.the_row
told_send = search sendable depth 20

job_stage_send : IsSend JobStage.the_row
job_stage_send = search (told_send, sendable) depth 20

ranking_send : IsSend Ranking.the_row
ranking_send = search (crosses, sendable) depth 30 fits 4000

ranking_sync : IsSync Ranking.the_row
ranking_sync = search (crosses, sendable) depth 30 fits 4000

job_memory_send : IsSend JobMemory.the_row
job_memory_send = search (list.the_send, crosses, sendable) depth 30 fits 4000

compiled_send : IsSend Compiled.the_row
compiled_send = search (job_memory_send, option.the_send, ranking_send, ranking_sync, level.the_send, turn.the_send, list.the_send, crosses, sendable) depth 60 fits 8000

compiled_sync : IsSync Compiled.the_row
compiled_sync = search (job_memory_send, option.the_send, ranking_send, ranking_sync, level.the_sync, turn.the_sync, list.the_sync, crosses, sendable) depth 60 fits 8000

level_set_field_sync : IsSync LevelSet.the_field.row
level_set_field_sync = search (early_sync, crosses, sendable) depth 60 fits 20000

made_field_send : IsSend Made.the_field.row
made_field_send = search (level_set_field_send, compiled_send, compiled_sync, list.the_send, crosses, sendable) depth 60 fits 20000

made_field_sync : IsSync Made.the_field.row
made_field_sync = search (level_set_field_sync, compiled_send, compiled_sync, list.the_sync, crosses, sendable) depth 60 fits 20000

level_field_send : IsSend ReadyLevel.the_field.row
level_field_send = search (made_field_send, crosses, sendable) depth 60 fits 20000

level_field_sync : IsSync ReadyLevel.the_field.row
level_field_sync = search (made_field_sync, crosses, sendable) depth 60 fits 20000

levels_send : IsSend KeptLevels.the_row
levels_send = search (level_field_send, level_field_sync, last_used.the_send, crosses, sendable) depth 60 fits 20000

keeping_field_send : IsSend Keeping.the_field.row
keeping_field_send = search (levels_send, compiled_send, compiled_sync, last_used.the_send, crosses, sendable) depth 60 fits 20000

known_send : IsSend KnownEarly.the_row
known_send = search (early_send, early_sync, level_field_send, level_field_sync, crosses, sendable) depth 60 fits 20000

heaps_send : IsSend GroupedHeaps.the_row
heaps_send = search (ranking_send, ranking_sync, crosses, sendable) depth 30 fits 4000

ready_side_send : IsSend ReadySide.the_row
ready_side_send = search (heaps_send, option.the_send, crosses, sendable) depth 30 fits 4000

ready_field_send : IsSend ReadyNodes.the_field.row
ready_field_send = search (ready_side_send, crosses, sendable) depth 30 fits 4000

job_send : IsSend Job.the_row
job_send = search (job_stage_send, compiled_send, compiled_sync, pool.the_send, ready_field_send, list.the_send, option.the_send, crosses, sendable) depth 30 fits 4000

trace_send : IsSend Trace.the_row
trace_send = search (rows.crosses, linked.the_send, row.the_send, crosses, sendable) depth 60 fits 20000

given_send : IsSend JobGiven.the_row
given_send = search (trace_send, list.the_send, crosses, sendable) depth 60 fits 20000

preparing_stage_send : IsSend PreparingStage.the_row
preparing_stage_send = search (told_send, spare.the_field_send, refusal.the_field_send, crosses, sendable) depth 20

configuring_send : IsSend Configuring.the_row
configuring_send = search (preparing_stage_send, graphs_send, graphs_sync, known_send, firing.the_field_send, configured.the_send, frame.the_send, trace_send, option.the_send, crosses, sendable) depth 30 fits 4000

left_told_send : IsSend LeftTold.the_row
left_told_send = search (crosses, sendable) depth 20

running_stages_send : IsSend RunningStages.the_row
running_stages_send = search (stages_past.crosses, crosses, sendable) depth 60 fits 20000

running_held_send : IsSend RunningHeld.the_row
running_held_send = search (frame.the_send, refusal.the_field_send, crosses, sendable) depth 20

running_send : IsSend Running.the_row
running_send = search (running_stages_send, running_held_send, left_told_send, graphs_send, graphs_sync, level_field_send, level_field_sync, job_send, path.the_send, name.the_send, trace_send, list.the_send, crosses, sendable) depth 60 fits 6000

open_send : IsSend OpenJob.the_row
open_send = search (configuring_send, running_send, crosses, sendable) depth 60 fits 20000

table_send : IsSend JobTable.the_row
table_send = search (open_send, graphs_send, graphs_sync, crosses, sendable) depth 60 fits 20000

history_send : IsSend History.the_row
history_send = search (past.crosses, crosses, sendable) depth 60 fits 20000

journal_send : IsSend Journal.the_row
journal_send = search (history_send, entries.the_send, crosses, sendable) depth 60 fits 20000

core_field_send : IsSend Core.the_field.row
core_field_send = search (table_send, frame_rooms.the_field_send, run.the_send, journal_send, given_send, refusal.the_send, crosses, sendable) depth 60 fits 20000

pub board_send : IsSend Board.the_row
board_send = search (core_field_send, keeping_field_send, crosses, sendable) depth 60 fits 20000
