use Rattle.board_calls.proofs.Answering.{compiles_back}
use Rattle.board_calls.proofs.giving_back.compile.Goals as goal

pub give_back_compiled-requires : goal.give_back_compiled-requires
give_back_compiled-requires c = compiles_back c.args.board.now c.args.ticket.worker c.args.ticket c.args.task c.run-end.result c.compilations_end.ensures c.journal-journal.ensures.sound c.requires c.run-end.ensures.end
