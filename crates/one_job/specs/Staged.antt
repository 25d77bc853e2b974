-- Stages of nodes as marks, and how far a node is whose frame came back.
use Rattle.std.specs.Prelude.{Result, Ok, Err}
use Rattle.kernel_gate.specs.declared.fault.KernelFault.{KernelFault}
use Rattle.one_job.specs.Marks.{Mark}
use Rattle.one_job.specs.Marks as mark
use Rattle.kernel_gate.specs.declared.told.Told.{Told}
use Rattle.one_job.specs.declared.stage.Stage.{Stage}
use Rattle.one_job.specs.declared.stage.Stage.TheVariants.{Free, Claimed, Finished, Failed}

abbrev pub mark_of : Stage → Mark
mark_of Free = mark.Free
mark_of (Claimed told) = mark.Claimed told.frame.places
mark_of (Finished told) = mark.Finished told.frame.outputs
mark_of (Failed code) = mark.Failed code

abbrev pub stage_with : Told → Result (Unit {0}) KernelFault → Stage
stage_with told (Ok done) = Finished told
stage_with told (Err fault) = Failed fault.code
