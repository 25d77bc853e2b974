use Rattle.worker_crew.proofs.Answering.{compiles_back}
use Rattle.worker_crew.proofs.running.compile.Goals as goal

pub give_back_compiled-requires-clause-claimed : goal.give_back_compiled-requires-clause-claimed
give_back_compiled-requires-clause-claimed g c = compiles_back c.args.pass.known c.args.task _ c.compilations_end.ensures c.requires.claimed c.run-end.ensures.end
