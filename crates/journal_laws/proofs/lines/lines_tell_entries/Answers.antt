use Rattle.journal_laws.proofs.EntryLines.{lines_tell}
use Rattle.journal_laws.proofs.lines.lines_tell_entries.Goals as goal

pub returns : goal.returns
returns c = λ n m one other n_small m_small one_small other_small plain other_plain same. lines_tell n m n_small m_small one other one_small other_small plain other_plain same
