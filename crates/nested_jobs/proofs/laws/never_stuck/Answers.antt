use Rattle.std.proofs.Common.{◌≡◌, ap, ◌∙◌, arith}
use Rattle.nested_jobs.specs.Meanings.{among}
use Rattle.nested_jobs.proofs.Running.{journal_keeps}
use Rattle.nested_jobs.proofs.Ending.{open_goes_on, open_not_quiet, ended_done, done_ends, not_stuck, none_runs_enabled}
use Rattle.nested_jobs.specs.Journals.{state}
use Rattle.nested_jobs.proofs.laws.never_stuck.Goals as goal

pub returns-clause-open_jobs : goal.returns-clause-open_jobs
returns-clause-open_jobs g c = λ rs rank answered workers top journal p j law legal o.
    open_goes_on rs rank law top workers (state rs top journal) (journal_keeps rs rank law top workers (among answered) journal legal) p j o

pub returns-clause-quiet_jobs : goal.returns-clause-quiet_jobs
returns-clause-quiet_jobs g c = λ rs rank answered workers top journal p j law legal o.
    open_not_quiet rs rank law top workers (state rs top journal) (journal_keeps rs rank law top workers (among answered) journal legal) p j o

pub returns-clause-ended : goal.returns-clause-ended
returns-clause-ended g c = λ rs rank answered workers top journal law legal.
    let h = journal_keeps rs rank law top workers (among answered) journal legal in
    (λ ended. ended_done rs rank law top workers (state rs top journal) h ended, λ t. done_ends rs rank law top workers (state rs top journal) h t.0 t.1)

pub returns-clause-goes_on : goal.returns-clause-goes_on
returns-clause-goes_on g c = λ rs rank answered workers top journal law legal more.
    not_stuck rs rank law top workers (state rs top journal) (journal_keeps rs rank law top workers (among answered) journal legal) more

pub returns-clause-alone : goal.returns-clause-alone
returns-clause-alone g c = λ rs rank answered top journal law legal more rests.
    none_runs_enabled rs rank law top 1 (state rs top journal) (journal_keeps rs rank law top 1 (among answered) journal legal) more
    (λ w lt. let first : w ≡ 0 = omega arith in ap (state rs top journal).running first ∙ rests)
