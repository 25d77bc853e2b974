use Rattle.journal_laws.proofs.EntryLines.{begins_tell, line_begins}
use Rattle.journal_laws.proofs.lines.lines_begin.Goals as goal

pub returns-clause-begin : goal.returns-clause-begin
returns-clause-begin c = line_begins

pub returns-clause-tell : goal.returns-clause-tell
returns-clause-tell c = λ n m one other x y n_small m_small one_small other_small same. begins_tell n m n_small m_small one other x y one_small other_small same
