-- The fields of an open job.
use Rattle.std.specs.Prelude.{◌≡◌, ◌≢◌, ℕ, ◌≤◌, [], ◌∷◌, ◌++◌, length, Option, Some, None}
use Rattle.job_preparing.specs.Handing.{ItemMarks, Lent, mark_at}
use Rattle.level_schedule.specs.declared.scheduling.LevelSchedule.{LevelSchedule}
use Rattle.job_preparing.specs.View as preparing
use Rattle.job_preparing.specs.View.{ConfiguringView}
use Rattle.job_rules.specs.Items.{compile_number}
use Rattle.kernel_gate.specs.declared.room.RoomSize.{RoomSize}
use Rattle.job_rules.specs.Meant.{IsFit}
use Rattle.job_rules.specs.Words.{Answer, Schedules, Refuses}
use Rattle.nested_jobs.specs.Marks.{Mark, Free, Busy, Done}
use Rattle.one_job.specs.Leased.{JobCells}
use Rattle.pisdf_model.specs.Valid.{AreValid}
use Rattle.pisdf_meaning.specs.declared.firing.Firing.{Firing}
use Rattle.graph_firing.specs.Running.{RunsFor}
use Rattle.graph_firing.specs.View.{OpenView}
use Rattle.graph_firing.specs.declared.job.OpenJob.TheInside.{Inside}
use Rattle.graph_firing.specs.declared.stage.Stage.{Stage}
use Rattle.graph_firing.specs.declared.stage.Stage.TheVariants.{Waiting, Compiling, Refused, Nodes}

-- where the compilation stands
abbrev pub compile_mark : Stage → Mark Firing Answer
compile_mark Waiting = Free
compile_mark Compiling = Busy
compile_mark (Refused refusal) = Done (Refuses refusal)
compile_mark (Nodes running) = Done (Schedules running.prepared.schedule)

abbrev pub node_marks : Stage → ItemMarks
node_marks Waiting = []
node_marks Compiling = []
node_marks (Refused refusal) = []
node_marks (Nodes running) = running.marks

abbrev pub node_lent : Stage → Lent
node_lent Waiting = []
node_lent Compiling = []
node_lent (Refused refusal) = []
node_lent (Nodes running) = running.lent

-- where the cells lie
abbrev pub stage_cells : Stage → Option JobCells
stage_cells Waiting = None
stage_cells Compiling = None
stage_cells (Refused refusal) = None
stage_cells (Nodes running) = Some running.cells

-- how much memory the frame of any node takes
abbrev pub stage_room : Stage → Option RoomSize
stage_room Waiting = None
stage_room Compiling = None
stage_room (Refused refusal) = None
stage_room (Nodes running) = Some running.room

-- configuration actors, the compilation, and nodes
abbrev pub marks_with : ConfiguringView → Stage → ItemMarks
marks_with c stage = c.marks ++ compile_mark stage ∷ node_marks stage

abbrev pub lent_with : ConfiguringView → Stage → Lent
lent_with c stage = c.lent ++ None ∷ node_lent stage

abbrev pub view_with : ConfiguringView → ℕ → Stage → OpenView
view_with c workers stage = record { graphs = c.graphs; workers = workers; firing = c.firing; cells = stage_cells stage; room = stage_room stage; marks = marks_with c stage; lent = lent_with c stage }

abbrev pub view_of : Inside → OpenView
view_of i = view_with i.configuring i.workers i.stage

-- what is known in each stage
abbrev pub StageFits : ConfiguringView → ℕ → Stage → Type 0
StageFits c workers Waiting = Unit {0}
StageFits c workers Compiling = preparing.IsReady c
StageFits c workers (Refused refusal) = preparing.IsReady c
StageFits c workers (Nodes running) = RunsFor c workers running

pub record KeepsWith (c : ConfiguringView) (workers : ℕ) (stage : Stage) : Type 0 where
  pub valid : AreValid c.graphs
  pub fit : IsFit c.graphs.graphs c.firing
  pub some : 1 ≤ workers
  pub marks_many : length c.marks ≡ compile_number (preparing.graph_in c)
  pub lent_many : length c.lent ≡ compile_number (preparing.graph_in c)
  -- a configuration actor answers no schedule
  pub gave : (i : ℕ) (s : LevelSchedule) → mark_at c.marks i ≢ Done (Schedules s)
  pub stage_fits : StageFits c workers stage

abbrev pub IsOpenJob : Inside → Type 0
IsOpenJob i = KeepsWith i.configuring i.workers i.stage
