use Rattle.journal_audit.specs.Reading.{HasReadBoards}
use Rattle.journal_audit.proofs.auditing.read_all.Given as goal

-- the boards so far were read
abbrev pub invariant-loop-number : goal.invariant-loop-number
invariant-loop-number g l = HasReadBoards l.graphs (g.K.Gate.kernels l.gate) l.streams.tokens.now l.workers l.journal l.number l.delays.lists l.reading
