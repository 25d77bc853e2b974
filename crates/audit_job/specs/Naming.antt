-- Jobs whose items the journal names.
use Rattle.std.specs.Prelude.{ℕ}
use Rattle.pisdf_model.specs.Valid.{AreValid}
use Rattle.pisdf_model.specs.declared.graph.Graphs.{Graphs}
use Rattle.audit_job.specs.Jobs.{IsJob}
use Rattle.audit_job.specs.declared.job.Job.{Job}

-- a job of well-formed graphs
pub record IsValidJob (job : Job) : Type 0 where
  pub graphs : Graphs
  pub workers : ℕ
  pub valid : AreValid graphs
  pub is_job : IsJob graphs.graphs workers job
