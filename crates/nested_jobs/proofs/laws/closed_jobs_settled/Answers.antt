use Rattle.nested_jobs.specs.Journals.{start, state}
use Rattle.nested_jobs.specs.Meanings.{told}
use Rattle.nested_jobs.proofs.Closing.{closed_settled}
use Rattle.nested_jobs.proofs.OneStep.{closed_stops}
use Rattle.nested_jobs.proofs.Telling.{allowed_answered, journal_tells, legal_answered}
use Rattle.nested_jobs.proofs.laws.closed_jobs_settled.Goals as goal

pub returns-clause-settled : goal.returns-clause-settled
returns-clause-settled g c = λ rs rank t depth workers top journal e p j a law meant fit enough legal ok o done.
    let s = state rs top journal in
    let answers = (told t).answers in
    closed_settled rs rank law top (told t) meant fit depth enough s e p j a
    (journal_tells rs rank law top (told t) meant fit depth enough journal (legal_answered rs answers workers (start top) journal legal))
    (allowed_answered rs answers workers s e ok) o done

pub returns-clause-stop : goal.returns-clause-stop
returns-clause-stop g c = λ rs rank top m p j law nested o unsettled. closed_stops rs rank law top m p j nested o unsettled
