use Rattle.board_rules.proofs.Picked.{few_open, tells}
use Rattle.board_rules.proofs.laws.journals_tell_one_thread.Goals as goal

pub returns-clause-tell : goal.returns-clause-tell
returns-clause-tell c = λ key taken is legal ended.
    tells key (c.rules_are_lawful.ensures key.graphs is.valid.valid) taken is (c.jobs_mean_firings.ensures key.signatures key.graphs is.valid is.lengths) legal ended

pub returns-clause-few : goal.returns-clause-few
returns-clause-few c = λ key taken is legal. few_open key (c.rules_are_lawful.ensures key.graphs is.valid.valid) taken is legal
