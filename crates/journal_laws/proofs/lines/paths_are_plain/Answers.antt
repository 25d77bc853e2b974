use Rattle.journal_laws.proofs.Plain.{paths_plain}
use Rattle.journal_laws.proofs.lines.paths_are_plain.Goals as goal

pub returns : goal.returns
returns c = λ key taken is legal. paths_plain key is (c.rules_are_lawful.ensures key.graphs is.valid.valid) (c.board_laws.ensures key is) taken legal
