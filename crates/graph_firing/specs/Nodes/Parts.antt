-- What a running firing is set up with, and what it keeps for its end.
use Rattle.std.specs.Prelude.{◌≡◌, ◌≢◌, ℕ, ◌+◌, ◌<◌, ◌≤◌, ℤ, Bool, true, List, [], map, length, slice_index, slice_index_or, is_none, if◌then◌else◌, Option, Some, None, vec_capacity, vec_len, Vec}
use Rattle.std.specs.Global.{Global}
use Rattle.std.specs.List.{flat_map}
use Rattle.sdf_level.specs.Lists.{lists_of}
use Rattle.sdf_level.specs.declared.node.Node.{Node}
use Rattle.sdf_level.specs.declared.node.Node.TheVariants as node
use Rattle.job_compiler.specs.Compilation.{Compilation, IsCompiled}
use Rattle.kernel_gate.specs.Value.{FrameView, Places}
use Rattle.kernel_gate.specs.declared.room.RoomSize.{RoomSize}
use Rattle.split_block.specs.View.{Block}
use Rattle.param_resolver.specs.LevelOf.{level_args, level_faults}
use Rattle.param_resolver.specs.Numbering.{acting, has_state}
use Rattle.param_resolver.specs.declared.level_set.LevelSet.{LevelSet}
use Rattle.pisdf_model.specs.Valid.{AreValid}
use Rattle.pisdf_model.specs.declared.actor.Actor.{Actor}
use Rattle.pisdf_model.specs.declared.actor.Body.{Body}
use Rattle.pisdf_model.specs.declared.actor.Body.TheVariants.{Kernel, Config, Child, ConfigChild}
use Rattle.pisdf_model.specs.declared.graph.Graph.{Graph}
use Rattle.pisdf_model.specs.declared.graph.Graphs.{Graphs}
use Rattle.pisdf_meaning.specs.Running.{Traces, chosen_rows, traces_below, value_at}
use Rattle.pisdf_meaning.specs.TopLevel.{IsLevelSet}
use Rattle.pisdf_meaning.specs.declared.firing.Configured.{Configured}
use Rattle.pisdf_meaning.specs.declared.firing.Firing.{Firing}
use Rattle.pisdf_meaning.specs.declared.outcome.TraceRow.{TraceRow}
use Rattle.pisdf_meaning.specs.declared.refusal.Refusal.{Refusal}
use Rattle.job_flow.specs.Graphs.{IsJobGraph, JobGraph, node_at}
use Rattle.job_flow.specs.Events.{IsReady}
use Rattle.job_flow.specs.Frames.{lens}
use Rattle.job_rules.specs.Items.{Prepared, actor_of, graph_of, job_graph, keeps_state, values_in}
use Rattle.job_rules.specs.Meant.{IsFit}
use Rattle.one_job.specs.Marks as one
use Rattle.one_job.specs.Pick.{is_child_in}
use Rattle.one_job.specs.View as leased
use Rattle.job_preparing.specs.CompileTasks.{schedule_of}
use Rattle.job_preparing.specs.Handing.{LeftSuits}
use Rattle.graph_firing.specs.Nodes.Stages.{FitsLens, FitsSort, job_mark, held_by, stage_at, trace_in}
use Rattle.graph_firing.specs.declared.nodes.frames.Held.{Held}
use Rattle.graph_firing.specs.declared.nodes.frames.Held.TheVariants.{Nothing, Waits, Refuses}
use Rattle.graph_firing.specs.declared.nodes.stage.Stage.{Stage}

-- ---- the start

-- what the job of leases was started with
pub record Start : Type 0 where
  pub compilation : Compilation
  pub kinds : List (Option ℕ)
  pub args : List (List ℤ)
  pub sources : List (List ℤ)
  pub stored : List (List ℤ)
  pub block : Block

abbrev pub start_of : leased.JobView → Start
start_of j = record { compilation = j.compilation; kinds = j.kinds; args = j.args; sources = j.sources; stored = j.stored; block = j.block }

abbrev pub kernel_in : Body → Option ℕ
kernel_in (Kernel kernel args ins outs) = Some kernel
kernel_in (Config kernel args ins outs sets) = None
kernel_in (Child place args) = None
kernel_in (ConfigChild place args sets) = None

abbrev pub kind_of_actor : Actor → Option ℕ
kind_of_actor actor = kernel_in actor.body

abbrev pub prepared_with : List Configured → Compilation → Prepared
prepared_with left c = record { left = left; schedule = schedule_of c }

-- what stays as it is while the firing runs
pub record Fixed : Type 0 where
  pub graphs : Graphs
  pub firing : Firing
  pub left : List Configured
  -- and where its cells lie
  pub compilation : Compilation
  pub block : Block
  -- as much memory as the frame of any node takes
  pub room : RoomSize
  -- its level, and with what its actors fire
  pub set : LevelSet
  pub place : ℕ
  pub path : List ℕ
  -- of each actor of the level whether its state goes on, and its name
  pub keeps : List Bool
  pub names : List (List ℕ)
  -- what is moved at the end
  pub rows : List TraceRow
  pub exports : List ℤ
  pub state : Vec (List ℤ) Global

abbrev pub all_graphs : Fixed → List Graph
all_graphs f = f.graphs.graphs

abbrev pub fired : Fixed → Graph
fired f = graph_of f.graphs.graphs f.firing

abbrev pub prepared_of : Fixed → Prepared
prepared_of f = prepared_with f.left f.compilation

abbrev pub values_of : Fixed → List ℤ
values_of f = values_in (fired f) f.firing (prepared_of f)

abbrev pub job_in : Fixed → JobGraph ℤ
job_in f = job_graph f.graphs.graphs (fired f) f.firing (prepared_of f)

-- the job of leases is that of the firing
pub record IsSetUp (f : Fixed) (s : Start) : Type 0 where
  pub valid : AreValid f.graphs
  pub fit : IsFit f.graphs.graphs f.firing
  pub suits : LeftSuits f.graphs.graphs (fired f) f.firing f.left
  pub rated : level_faults f.graphs.graphs (fired f) (values_of f) ≡ []
  pub compiled : IsCompiled f.compilation
  pub compilation_is : s.compilation ≡ f.compilation
  pub block_is : s.block ≡ f.block
  pub graph_is : leased.job_graph s.compilation s.sources s.stored ≡ job_in f
  pub is_job : IsJobGraph f.compilation.counts f.compilation.order (job_in f)
  pub kinds : s.kinds ≡ map kind_of_actor (acting (fired f))
  pub args : s.args ≡ level_args (fired f) (values_of f)

-- ---- nodes

-- what is so of one node: its stage, its mark in the job of leases and what is held for it tell the same
pub record Stands (graphs : List Graph) (lens_are : List ℕ) (keeps child : Bool) (fires : Type 0) (stage : Stage) (mark : one.Mark) (held_is : Held) : Type 0 where
  pub mark_is : mark ≡ job_mark keeps stage
  pub held : held_is ≡ held_by stage
  pub sort : FitsSort child fires stage
  pub sizes : FitsLens graphs lens_are keeps stage

abbrev pub held_at : List Held → ℕ → Held
held_at held n = slice_index_or held n Nothing

abbrev pub NoneWaits : List Held → Type 0
NoneWaits held = (n : ℕ) (frame : FrameView) → held_at held n ≢ Waits frame

-- the frame that waits
abbrev pub frame_in : Held → Option FrameView
frame_in Nothing = None
frame_in (Waits frame) = Some frame
frame_in (Refuses refusal) = None

-- the refusal that is held
abbrev pub refusal_in : Held → Option Refusal
refusal_in Nothing = None
refusal_in (Waits frame) = None
refusal_in (Refuses refusal) = Some refusal

-- the frames of all claimed nodes wait here, each of a node that is claimed with it
pub record HoldClaimed (marks : List one.Mark) (held : List Held) : Type 0 where
  pub claimed : (n : ℕ) (frame : FrameView) → held_at held n ≡ Waits frame → one.mark_at marks n ≡ one.Claimed frame.places
  pub waits : (n : ℕ) (lent : Places) → one.mark_at marks n ≡ one.Claimed lent → (frame : FrameView) × (held_at held n ≡ Waits frame)

pub record AllStand (graphs : List Graph) (g : Graph) (kinds : List (Option ℕ)) (job : JobGraph ℤ) (stages : List Stage) (marks : List one.Mark) (held : List Held) : Type 0 where
  pub one_stage : length stages ≡ length job.nodes
  pub one_mark : length marks ≡ length job.nodes
  -- there is room for each node that fires a graph, and for no more than all nodes
  pub few_held : length held ≤ length job.nodes
  pub has_room : (n : ℕ) → n < length job.nodes → is_child_in kinds (node_at job.nodes n) ≡ true → n < length held
  pub each : (n : ℕ) → n < length job.nodes → Stands graphs (lens job n) (keeps_state graphs (actor_of g (node_at job.nodes n))) (is_child_in kinds (node_at job.nodes n)) (leased.IsFiring (node_at job.nodes n)) (stage_at stages n) (one.mark_at marks n) (held_at held n)
  -- a node that isn't free was ready when it was claimed
  pub ready : (n : ℕ) → one.mark_at marks n ≢ one.Free → IsReady job (one.values marks) n

-- ---- what is kept for the end

abbrev pub row_at : List (Vec (List TraceRow) Global) → ℕ → List (List TraceRow)
row_at rows a = slice_index_or (lists_of rows) a []

-- how often an actor calls a graph: each time it fires if it has no kernel, else never
abbrev pub call_count : List (Option ℕ) → List ℕ → ℕ → ℕ
call_count kinds counts a = if is_none (slice_index_or kinds a None) then slice_index counts a else 0

-- for each firing of each actor that calls graphs the trace of what it called
pub record AreTraces (nodes : List Node) (kinds : List (Option ℕ)) (counts : List ℕ) (stages : List Stage) (rows : List (Vec (List TraceRow) Global)) : Type 0 where
  pub one_each : length (lists_of rows) ≡ length counts
  pub many : (a : ℕ) → length (row_at rows a) ≡ call_count kinds counts a
  pub each : (n a k : ℕ) → n < length nodes → node_at nodes n ≡ node.Firing a k → slice_index_or (row_at rows a) k [] ≡ trace_in (stage_at stages n)

-- the rows of these lists, one after the other
abbrev pub flat : List (List TraceRow) → List TraceRow
flat lists = flat_map (λ (rows : List TraceRow). rows) lists

-- these are the traces of the first firings of each actor
abbrev pub HaveTraces : List ℕ → Traces → List (Vec (List TraceRow) Global) → Type 0
HaveTraces counts traces rows = (b : ℕ) → flat (row_at rows b) ≡ traces_below (traces b) (slice_index counts b)

-- what is handed out or moved at the end
pub record AreParts (f : Fixed) : Type 0 where
  pub place_is : f.place ≡ f.firing.graph
  pub path_is : f.path ≡ f.firing.path
  pub set_is : IsLevelSet f.graphs.graphs (fired f) f.firing (values_of f) f.set
  pub keeps_are : f.keeps ≡ map (has_state f.graphs.graphs) (acting (fired f))
  pub names_are : f.names ≡ map (λ (a : Actor). a.name) (acting (fired f))
  pub rows_are : f.rows ≡ chosen_rows f.firing.path (values_of f) 0 (fired f).params
  pub exports_are : f.exports ≡ map (value_at (values_of f)) (fired f).exports
  pub empty : f.state.items ≡ []
  pub none : vec_len f.state ≡ 0
  pub room : length (fired f).fifos + length (fired f).actors ≤ vec_capacity f.state

-- ---- all

pub record KeepsAll (f : Fixed) (stages : List Stage) (held : List Held) (rows : List (Vec (List TraceRow) Global)) (job : leased.JobView) : Type 0 where
  pub set_up : IsSetUp f (start_of job)
  pub stand : AllStand f.graphs.graphs (fired f) job.kinds (job_in f) stages job.marks held
  pub traces : AreTraces (job_in f).nodes job.kinds f.compilation.counts stages rows
  pub parts : AreParts f
