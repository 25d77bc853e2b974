use Rattle.nested_jobs.specs.Meanings.{told}
use Rattle.nested_jobs.proofs.Telling.{journal_tells}
use Rattle.nested_jobs.proofs.laws.answers_sound.Goals as goal

pub returns : goal.returns
returns g c = λ rs rank t depth top journal p j law meant fit enough answered o.
    (journal_tells rs rank law top (told t) meant fit depth enough journal answered).sound p j o
