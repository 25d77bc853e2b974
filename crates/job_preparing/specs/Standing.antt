-- What is with each configuration actor.
use Rattle.std.specs.Prelude.{◌≡◌, ℕ, ◌<◌, ◌≤◌, true, ℤ, List, [], map, length, slice_get, slice_index_or, Option, Some, None, Vec, vec_capacity}
use Rattle.std.specs.Global.{Global}
use Rattle.std.specs.List.{All}
use Rattle.split_block.specs.View.{LeasePlace}
use Rattle.kernel_gate.specs.Leased.{AreWhole}
use Rattle.kernel_gate.specs.Value.{FrameView, Places, lengths}
use Rattle.nested_jobs.specs.Rules.{Task, Work, Call}
use Rattle.pisdf_model.specs.Hold.{in_line, initial}
use Rattle.pisdf_model.specs.Valid.{AreValid}
use Rattle.pisdf_model.specs.declared.graph.Graph.{Graph}
use Rattle.pisdf_model.specs.declared.graph.Graphs.{Graphs}
use Rattle.param_resolver.specs.EarlyCheck.{early_of}
use Rattle.param_resolver.specs.EarlyView.{EarlyView}
use Rattle.pisdf_meaning.specs.Configuring.{configurations, config_rates, early_in}
use Rattle.pisdf_meaning.specs.Nested.{configuration_at}
use Rattle.pisdf_meaning.specs.Sound.{IsConfiguration}
use Rattle.pisdf_meaning.specs.declared.firing.Configured.{Configured}
use Rattle.pisdf_meaning.specs.declared.firing.Firing.{Firing}
use Rattle.pisdf_meaning.specs.declared.outcome.TraceRow.{TraceRow}
use Rattle.job_rules.specs.Items.{graph_of}
use Rattle.job_rules.specs.Meant.{IsFit}
use Rattle.job_rules.specs.Words as words
use Rattle.job_rules.specs.Words.{Asked, Spot}
use Rattle.job_preparing.specs.Handing.{AsksFor}
use Rattle.job_preparing.specs.View.{HasInherited, task_of}
use Rattle.job_preparing.specs.declared.handing.JobGiven.{JobGiven}
use Rattle.job_preparing.specs.declared.stage.Spare.{Spare}
use Rattle.job_preparing.specs.declared.stage.Stage.{Stage}
use Rattle.job_preparing.specs.declared.stage.Stage.TheVariants.{Fires, Calls, Busy, Open, Gave, Refused}

-- the places of the configuration actors among the actors of the graph, by number
pub record ArePlaces (g : Graph) (places : List ℕ) : Type 0 where
  pub one_each : length places ≡ length (configurations g)
  pub each : (c a : ℕ) → slice_get places c ≡ Some a → (slice_get (configurations g) c ≡ Some (configuration_at g c a)) × IsConfiguration g c a

-- what is ready for the finish of the kernel that the task fires
pub record HasSpare (t : Option (Task Firing words.Work)) (spare : Spare) : Type 0 where
  pub spot : Spot
  pub asked : Asked
  pub task_is : t ≡ Some (Work (words.Fires spot asked))
  pub path_is : spare.path ≡ spot.path
  pub name_is : spare.name ≡ spot.name
  pub turn_is : spot.turn ≡ 0
  pub empty : spare.lists.items ≡ []
  pub room : length asked.lens ≤ vec_capacity spare.lists

-- its frame waits
pub record WaitsFor (t : Option (Task Firing words.Work)) (spare : Spare) (waiting : Option FrameView) : Type 0 where
  pub has : HasSpare t spare
  pub frame : FrameView
  pub frame_is : waiting ≡ Some frame
  pub asks : AsksFor has.asked frame
  pub outputs : map (λ (p : LeasePlace). p.len) frame.places.outputs ≡ has.asked.lens

-- its frame is out
pub record IsOut (t : Option (Task Firing words.Work)) (spare : Spare) (places : Places) : Type 0 where
  pub has : HasSpare t spare
  pub outputs : map (λ (p : LeasePlace). p.len) places.outputs ≡ has.asked.lens
  pub whole : AreWhole places

-- the task is a call
pub record IsCall (t : Option (Task Firing words.Work)) : Type 0 where
  pub job : Firing
  pub task_is : t ≡ Some (Call job)

-- the graph that the task names is fired, which gives tokens at these rates, and there is room for the state that this leaves
pub record IsCalled (graphs : List Graph) (t : Option (Task Firing words.Work)) (rates : List ℕ) (job : Firing) (line : Vec ℤ Global) : Type 0 where
  pub task_is : t ≡ Some (Call job)
  pub rates_are : (early_of graphs job.graph job.inherited).outputs ≡ rates
  pub empty : line.items ≡ []
  pub room : length (in_line (initial graphs job.graph)) ≤ vec_capacity line

-- what was given is kept as what a configuration actor leaves, and has tokens at these rates
pub record IsLeft (rates : List ℕ) (given : JobGiven) (one : Configured) (trace : List TraceRow) : Type 0 where
  pub one_is : one ≡ record { outs = given.outs; sets = given.exports; state = in_line given.state; trace = [] }
  pub trace_is : trace ≡ given.trace
  pub rates_are : lengths given.outs ≡ rates

-- how many tokens go on from the firing that the task calls; none from a kernel's
abbrev pub task_hold : List Graph → Option (Task Firing words.Work) → ℕ
task_hold graphs None = 0
task_hold graphs (Some (Work work)) = 0
task_hold graphs (Some (Call job)) = length (in_line (initial graphs job.graph))

-- so it is kept, and its state is as long as that of the graph which the task fires
pub record HasLeft (graphs : List Graph) (t : Option (Task Firing words.Work)) (rates : List ℕ) (given : JobGiven) (one : Configured) (trace : List TraceRow) : Type 0 where
  pub left : IsLeft rates given one trace
  pub state : length one.state ≡ task_hold graphs t

-- a configuration actor with this task and these output rates is so far; with the frame that waits, and what it left
abbrev pub StandsRight : List Graph → Option (Task Firing words.Work) → List ℕ → Stage → Option FrameView → Configured → List TraceRow → Type 0
StandsRight graphs t rates (Fires spare) waiting one trace = WaitsFor t spare waiting
StandsRight graphs t rates Calls waiting one trace = IsCall t
StandsRight graphs t rates (Busy told spare) waiting one trace = IsOut t spare told.frame.places
StandsRight graphs t rates (Open told line) waiting one trace = IsCalled graphs t rates told.value line
StandsRight graphs t rates (Gave told) waiting one trace = HasLeft graphs t rates told.value one trace
StandsRight graphs t rates (Refused refusal) waiting one trace = Unit {0}

-- a frame that waits has blocks of its own
abbrev pub IsOwn : Option FrameView → Type 0
IsOwn None = Unit {0}
IsOwn (Some frame) = AreWhole frame.places

abbrev pub nothing : Configured
nothing = record { outs = []; sets = []; state = []; trace = [] }

pub record Keeps (graphs : Graphs) (firing : Firing) (early : EarlyView) (places : List ℕ) (stages : List Stage) (frames : List (Option FrameView)) (left : List Configured) (traces : List (List TraceRow)) : Type 0 where
  pub valid : AreValid graphs
  pub fit : IsFit graphs.graphs firing
  pub inherited : HasInherited graphs.graphs firing
  pub early_is : early ≡ early_in graphs.graphs firing
  pub places_are : ArePlaces (graph_of graphs.graphs firing) places
  pub one_stage : length stages ≡ length places
  pub one_frame : length frames ≡ length places
  pub one_left : length left ≡ length places
  pub one_trace : length traces ≡ length places
  pub own : All IsOwn frames
  pub right : (c : ℕ) (stage : Stage) → slice_get stages c ≡ Some stage →
      StandsRight graphs.graphs (task_of graphs.graphs (graph_of graphs.graphs firing) firing (slice_get (configurations (graph_of graphs.graphs firing)) c)) (config_rates graphs.graphs firing c)
      stage (slice_index_or frames c None) (slice_index_or left c nothing) (slice_index_or traces c [])
