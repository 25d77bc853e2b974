use Rattle.std.proofs.Common.{refl}
use Rattle.firing_board.proofs.OfTable.Keys.{keys_are}
use Rattle.firing_board.proofs.OfTable.Rows.{table_marks, table_opens, table_starts}
use Rattle.firing_board.proofs.OfTable.Suiting.{claim_suits, finish_suits, open_suits, start_suits}
use Rattle.firing_board.proofs.laws.tables_suit.Goals as goal

pub returns-clause-starts_with : goal.returns-clause-starts_with
returns-clause-starts_with c = table_starts

pub returns-clause-marks : goal.returns-clause-marks
returns-clause-marks c = table_marks

pub returns-clause-opens : goal.returns-clause-opens
returns-clause-opens c = table_opens

pub returns-clause-keys : goal.returns-clause-keys
returns-clause-keys c = keys_are

pub returns-clause-start : goal.returns-clause-start
returns-clause-start c = λ key v is s. start_suits key (c.rules_are_lawful.ensures key.graphs is.valid.valid) v is s

pub returns-clause-opening : goal.returns-clause-opening
returns-clause-opening c = λ key m k item l old new o suits. open_suits key (c.rules_are_lawful.ensures key.graphs suits.is_key.valid.valid) m k item l old new o suits

pub returns-clause-claim : goal.returns-clause-claim
returns-clause-claim c = λ key m k item old new o offered suits.
    claim_suits key (c.rules_are_lawful.ensures key.graphs suits.is_key.valid.valid) m k item _ old new o suits offered.work refl offered.free offered.task_is

pub returns-clause-finish : goal.returns-clause-finish
returns-clause-finish c = λ key m k item answer old new o busy suits.
    finish_suits key (c.rules_are_lawful.ensures key.graphs suits.is_key.valid.valid) m k item _ old new o suits answer refl busy
