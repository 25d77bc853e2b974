use Rattle.journal_laws.proofs.Driving.{brought}
use Rattle.journal_laws.proofs.steps.legal_journals_end.Goals as goal

pub returns : goal.returns
returns c = λ key taken is legal.
    brought key record {
      is = is;
      lawful = c.rules_are_lawful.ensures key.graphs is.valid.valid;
      board = c.board_laws.ensures key is;
      shallow = c.few_jobs_are_open.ensures.shallow;
      answered = c.workers_are_answered.ensures.answered;
      compile = c.compilations_end.ensures;
      fits = c.work_fits.ensures;
    }
    taken legal
