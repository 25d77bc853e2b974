use Rattle.std.proofs.Common.{refl}
use Rattle.nested_jobs.proofs.Tabling.{starts_with}
use Rattle.board_rules.specs.Keys.{top_job}
use Rattle.board_rules.proofs.Keeping.{claims_keep, closings_end, closings_go_on, closings_stop, finishes_begin, held_busy, nothing_opened, one_more_opened}
use Rattle.board_rules.proofs.Known.{board_laws}
use Rattle.board_rules.proofs.laws.boards_keep.Goals as goal

pub returns-clause-start : goal.returns-clause-start
returns-clause-start c = λ key k. record { legal = record { allowed = tt; picked = tt }; stands = starts_with (top_job key) k; runs = λ w lt. refl }

pub returns-clause-nothing_opened : goal.returns-clause-nothing_opened
returns-clause-nothing_opened c = λ key taken table held a is kept. nothing_opened key is (board_laws key (c.job_laws.ensures key is)) taken table held kept a

pub returns-clause-one_more_opened : goal.returns-clause-one_more_opened
returns-clause-one_more_opened c = λ key old m table n k l i j way row d is opened here free_key free task.
    one_more_opened key is (board_laws key (c.job_laws.ensures key is)) old m table n k l i j way row d opened here free_key free task

pub returns-clause-claim : goal.returns-clause-claim
returns-clause-claim c = λ key taken table held w k i row work later n is kept lt idle pick opened here free task.
    claims_keep key is (board_laws key (c.job_laws.ensures key is)) taken table held kept w k i row work later n lt idle pick opened here free task

pub returns-clause-held : goal.returns-clause-held
returns-clause-held c = λ key taken table held w k i row is kept lt holds here. held_busy key is (board_laws key (c.job_laws.ensures key is)) taken table held kept w k i row lt holds here

pub returns-clause-finish : goal.returns-clause-finish
returns-clause-finish c = λ key taken table held w k i row work answer is kept lt holds here task answered.
    finishes_begin key is (board_laws key (c.job_laws.ensures key is)) taken table held kept w k i row lt holds here work answer task answered

pub returns-clause-go_on : goal.returns-clause-go_on
returns-clause-go_on c = λ key taken held w answer table n k l i row upper is closing here above place_is quiet.
    closings_go_on key is (board_laws key (c.job_laws.ensures key is)) taken held w answer table n k row here l i upper closing above place_is quiet

pub returns-clause-stop : goal.returns-clause-stop
returns-clause-stop c = λ key taken held w answer table n k row is closing here unsettled.
    closings_stop key is (board_laws key (c.job_laws.ensures key is)) taken held w answer table n k row here closing unsettled

pub returns-clause-end : goal.returns-clause-end
returns-clause-end c = λ key taken held w answer table n k row is closing here place_is quiet.
    closings_end key is (board_laws key (c.job_laws.ensures key is)) taken held w answer table n k row here closing place_is quiet
