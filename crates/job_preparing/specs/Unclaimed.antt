-- Configuration actors that nobody claimed.
use Rattle.std.specs.Prelude.{◌≡◌, ℕ, List, map, length, replicate, slice_get, slice_index_or, Option, Some, None}
use Rattle.std.specs.List.{All}
use Rattle.kernel_gate.specs.Value.{FrameView, Places}
use Rattle.nested_jobs.specs.Marks.{Mark, Free}
use Rattle.pisdf_model.specs.declared.graph.Graph.{Graph}
use Rattle.pisdf_meaning.specs.Configuring.{configurations, config_args, config_rates, fed_to}
use Rattle.pisdf_meaning.specs.declared.firing.Configured.{Configured}
use Rattle.pisdf_meaning.specs.declared.firing.Firing.{Firing}
use Rattle.pisdf_meaning.specs.declared.outcome.TraceRow.{TraceRow}
use Rattle.job_rules.specs.Words as words
use Rattle.job_preparing.specs.Stages.{lent_of, mark_of}
use Rattle.job_preparing.specs.Standing.{IsOwn, StandsRight}
use Rattle.job_preparing.specs.View.{task_of}
use Rattle.job_preparing.specs.declared.stage.Stage.{Stage}

-- the first of them, so many, stand at their start, with the frames of those that fire kernels
pub record AreUnclaimed (graphs : List Graph) (g : Graph) (firing : Firing) (count : ℕ) (stages : List Stage) (frames : List (Option FrameView)) : Type 0 where
  pub one_stage : length stages ≡ count
  pub one_frame : length frames ≡ count
  pub own : All IsOwn frames
  pub free : map mark_of stages ≡ replicate count Free
  pub lent : map lent_of stages ≡ replicate count None
  pub right : (c : ℕ) (stage : Stage) → slice_get stages c ≡ Some stage → (one : Configured) (trace : List TraceRow) →
      StandsRight graphs (task_of graphs g firing (slice_get (configurations g) c)) (config_rates graphs firing c) stage (slice_index_or frames c None) one trace

-- what the kernel configuration actor with this number is to do, which stands at a place, has so many inputs and sets so many
-- parameters
abbrev pub kernel_work : List Graph → Graph → Firing → ℕ → ℕ → List ℕ → ℕ → ℕ → ℕ → words.Work
kernel_work graphs g firing number place name kernel ins sets =
    words.Fires record { path = firing.path; name = name; turn = 0 } record { kind = kernel; args = config_args graphs firing number; inputs = fed_to g firing.inputs place ins; lens = config_rates graphs firing number; sets = sets }
