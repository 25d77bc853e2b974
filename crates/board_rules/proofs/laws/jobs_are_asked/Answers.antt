use Rattle.board_rules.specs.Legal.{state_after}
use Rattle.board_rules.proofs.Asking.{child_is_opened, work_is_picked}
use Rattle.board_rules.proofs.Known.{board_laws, known}
use Rattle.board_rules.proofs.Standing.{mapped_so}
use Rattle.board_rules.proofs.laws.jobs_are_asked.Goals as goal

pub returns-clause-work : goal.returns-clause-work
returns-clause-work c = λ key taken w k q s is legal best.
    let laws = board_laws key (c.job_laws.ensures key is) in
    let m = (state_after key taken).marks in
    let so = known key is laws taken legal in
    work_is_picked key is laws m so w (mapped_so key is laws m so) k q s best

pub returns-clause-child : goal.returns-clause-child
returns-clause-child c = λ key taken w k i p q s j way is legal none best zeros at on.
    let laws = board_laws key (c.job_laws.ensures key is) in
    let m = (state_after key taken).marks in
    let so = known key is laws taken legal in
    child_is_opened key is laws m so w (mapped_so key is laws m so) none k i p q s j way best zeros at on
