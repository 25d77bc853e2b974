use Rattle.nested_jobs.specs.Meanings.{among}
use Rattle.nested_jobs.specs.Journals.{state}
use Rattle.nested_jobs.proofs.Running.{journal_keeps}
use Rattle.nested_jobs.proofs.OneStep.{task_stays}
use Rattle.nested_jobs.proofs.laws.tasks_stay.Goals as goal

pub returns : goal.returns
returns g c = λ rs rank answered workers top journal e w a t law legal ok runs still is.
    task_stays rs rank law top workers (among answered) (state rs top journal) e w a t (journal_keeps rs rank law top workers (among answered) journal legal) ok runs still is
