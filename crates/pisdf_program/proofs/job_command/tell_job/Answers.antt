use Rattle.pisdf_program.specs.Result.{TellsJob}
use Rattle.pisdf_program.proofs.Telling.{job_there, job_works}
use Rattle.pisdf_program.proofs.Working.{files_there}
use Rattle.pisdf_program.proofs.job_command.tell_job.Goals as goal

pub returns-in-Err-clause-there : goal.returns-in-Err-clause-there
returns-in-Err-clause-there g c =
    let files = g.S.Shelf.holds c.args.shelf.now in
    files_there (TellsJob c.args.what c.args.workers) (files c.args.graph.now) (files c.args.tokens.now) c.in-Err.status c.in-Err.ensures.settles

pub returns-clause-there : goal.returns-clause-there
returns-clause-there g c =
    let files = g.S.Shelf.holds c.args.shelf.now in
    job_there c.args.what c.args.workers (files c.args.graph.now) (files c.args.tokens.now) c.in-Ok.input c.first_job-end.result c.in-Ok.ensures.settles
    c.tell_end.result c.first_job-end.ensures.ends c.tell_end.ensures.memory c.tell_end.ensures.there

pub returns-clause-works : goal.returns-clause-works
returns-clause-works g c =
    let files = g.S.Shelf.holds c.args.shelf.now in
    job_works c.args.what c.args.workers (files c.args.graph.now) (files c.args.tokens.now) c.in-Ok.input c.first_job-end.result c.in-Ok.ensures.settles
    (g.O.Sink.written c.args.out.now) (g.O.Sink.written c.tell_end.new.out) (g.O.Sink.faults c.args.out.now) (g.O.Sink.faults c.tell_end.new.out) c.tell_end.result
    c.first_job-end.ensures.only c.tell_end.ensures.works
