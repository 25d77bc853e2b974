use Rattle.std.proofs.Common.{IsOk}
use Rattle.board_calls.proofs.Answering.{comes_back}
use Rattle.board_calls.proofs.giving_back.give_back_configured.Goals as goal

pub returns : goal.returns
returns c = comes_back c.board_laws.ensures c.args.board.now c.finish_configure.new.self c.args.ticket.worker c.args.frame c.args.answer (IsOk c.args.answer) c.journal-before.ensures.sound c.journal-after.ensures.sound c.requires.runs c.finish_configure.ensures.finishes
