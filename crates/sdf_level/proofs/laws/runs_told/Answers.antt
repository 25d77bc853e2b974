use Rattle.sdf_level.specs.Laws.{among}
use Rattle.sdf_level.proofs.SameTokens as law
use Rattle.sdf_level.proofs.laws.runs_told.Goals as goal

pub returns-clause-told : goal.returns-clause-told
returns-clause-told g c = λ level firing sources delays list lines. (law.told_lines level (among firing) sources delays list lines, law.lines_told level (among firing) sources delays list lines)

pub returns-clause-faults : goal.returns-clause-faults
returns-clause-faults g c = λ level firing sources delays list fault. (law.told_fault level (among firing) sources delays list fault, law.fault_told level (among firing) sources delays list fault)
