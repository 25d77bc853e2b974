use Rattle.std.proofs.Common.{sym, subst}
use Rattle.pisdf_program.specs.Job.{JobEnd}
use Rattle.pisdf_program.specs.Result.{Outcome, TellsEnd}
use Rattle.pisdf_program.specs.Worked.{Works}
use Rattle.pisdf_program.proofs.Working.{stop_there}
use Rattle.pisdf_program.proofs.job_command.tell_end.Goals as goal

pub returns-in-Ok-clause-works : goal.returns-in-Ok-clause-works
returns-in-Ok-clause-works g c =
    let sink = g.O.Sink in
    subst (λ (e : JobEnd). Works (TellsEnd c.args.what c.args.graphs.now e) (sink.written c.args.out.now) (sink.written c.put_job.new.out) (sink.faults c.args.out.now) (sink.faults c.put_job.new.out) c.put_job.result)
    (sym c.in-Ok.is) c.put_job.ensures.works

pub returns-in-Err-clause-there : goal.returns-in-Err-clause-there
returns-in-Err-clause-there g c =
    λ u answer. subst (λ (e : JobEnd). (o : Outcome) × TellsEnd c.args.what c.args.graphs.now e o) (sym c.in-Err.is) (stop_there c.args.graphs.now c.in-Err.stop c.stop_status.result answer)
