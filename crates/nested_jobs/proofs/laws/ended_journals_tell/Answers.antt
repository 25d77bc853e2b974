use Rattle.nested_jobs.specs.Meanings.{told}
use Rattle.nested_jobs.proofs.Telling.{ended_tells}
use Rattle.nested_jobs.proofs.laws.ended_journals_tell.Goals as goal

pub returns : goal.returns
returns g c = λ rs rank t depth workers top journal law meant fit enough legal ended. ended_tells rs rank law top (told t) meant fit depth enough workers journal legal ended
