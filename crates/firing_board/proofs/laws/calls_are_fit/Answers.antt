use Rattle.std.proofs.Common.{◌≡◌, Some, None, ap, ◌∙◌}
use Rattle.board_rules.proofs.Known.{board_laws, known}
use Rattle.board_rules.specs.Legal.{state_after}
use Rattle.job_rules.specs.Items.{rule}
use Rattle.job_rules.specs.Words.{Answer}
use Rattle.nested_jobs.proofs.Tabling.{answers_are}
use Rattle.nested_jobs.specs.Rules.{Values}
use Rattle.firing_board.proofs.laws.calls_are_fit.Goals as goal

pub returns-clause-kept : goal.returns-clause-kept
returns-clause-kept c = λ key taken table held k item row firing is kept here task.
    let laws = board_laws key (c.job_laws.ensures key is) in
    let m = (state_after key taken).marks in
    let job_open = (kept.stands.rows k row here).is_open in
    let so = known key is laws taken kept.legal in
    laws.meant.calls (so.levels row.place) row.job _ (so.fits row.place row.job job_open) (so.sound row.place row.job job_open) item firing
    (ap (λ (v : Values Answer). rule key.graphs.graphs row.job v item) (answers_are table m kept.stands k row here) ∙ task)

pub returns-clause-first : goal.returns-clause-first
returns-clause-first c = λ key job item firing is fit task.
    let laws = board_laws key (c.job_laws.ensures key is) in
    laws.meant.calls 0 job (λ i. None) fit (λ i a e. let no : None ≡ Some a = e in absurd (cc)) item firing task
