use Rattle.board_calls.proofs.Answering.{ends_back}
use Rattle.board_calls.proofs.giving_back.give_back_compiled.Goals as goal

pub returns-in-Ok : goal.returns-in-Ok
returns-in-Ok c = ends_back c.board_laws.ensures c.args.board.now c.finish_compile-finished.new.self c.args.ticket.worker c.args.end c.journal-before.ensures.sound c.journal-after.ensures.sound c.requires.runs c.finish_compile-finished.ensures.finishes

pub returns-in-Err : goal.returns-in-Err
returns-in-Err c = ends_back c.board_laws.ensures c.args.board.now c.finish_compile-finished.new.self c.args.ticket.worker c.args.end c.journal-before.ensures.sound c.journal-after.ensures.sound c.requires.runs c.finish_compile-finished.ensures.finishes
