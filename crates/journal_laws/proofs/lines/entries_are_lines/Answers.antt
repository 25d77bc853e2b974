use Rattle.journal_laws.proofs.EntryLines.{entries_lines}
use Rattle.journal_laws.proofs.lines.entries_are_lines.Goals as goal

pub returns : goal.returns
returns c = entries_lines
