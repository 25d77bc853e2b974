use Rattle.nested_jobs.specs.Meanings.{among}
use Rattle.nested_jobs.specs.Journals.{state}
use Rattle.nested_jobs.proofs.Nesting.{deep, journal_nested}
use Rattle.nested_jobs.proofs.Counting.{journal_few}
use Rattle.nested_jobs.proofs.Depths.{few_in_all}
use Rattle.nested_jobs.proofs.laws.few_jobs_are_open.Goals as goal

pub returns-clause-few : goal.returns-clause-few
returns-clause-few g c = λ rs rank answered workers top journal law lt legal care. journal_few rs rank law top workers (among answered) journal lt legal care

pub returns-clause-shallow : goal.returns-clause-shallow
returns-clause-shallow g c = λ rs rank top journal p j law o. deep rs rank law top (state rs top journal).marks p j (journal_nested rs rank law top journal) o

pub returns-clause-in_all : goal.returns-clause-in_all
returns-clause-in_all g c = λ m most depth ps few low apart o. few_in_all m most depth ps few low apart o
