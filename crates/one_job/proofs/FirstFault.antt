-- The first fault of a job, stage by stage.
use Rattle.std.proofs.Common.{◌≡◌, ℕ, suc, ◌+◌, ◌-◌, ◌<◌, List, length, map, get_or, refl, sym, ap, ◌∙◌, arith}
use Rattle.std.specs.Prelude.{Option}
use Rattle.std.proofs.lemmas.List.{get_or-map, get_or_read}
use Rattle.job_flow.specs.Outcomes.{Failure, failure_or, failure_from}
use Rattle.one_job.specs.Marks.{Mark, mark_at, values, value_of}
use Rattle.one_job.specs.Marks as mark
use Rattle.one_job.specs.Staged.{mark_of}
use Rattle.one_job.specs.declared.stage.Stage.{Stage}
use Rattle.one_job.specs.declared.stage.Stage.TheVariants.{Free, Claimed, Finished, Failed}

goes_on : (n : ℕ) (stage : Stage) (later : Option (Failure ℕ)) → ((code : ℕ) → stage ≡ Failed code → ⊥) → failure_or n (value_of (mark_of stage)) later ≡ later
goes_on n Free later sound = refl
goes_on n (Claimed told) later sound = refl
goes_on n (Finished told) later sound = refl
goes_on n (Failed code) later sound = absurd (sound code refl)

pub mark_of_at : (stages : List Stage) (n : ℕ) (stage : Stage) → n < length stages → stage ≡ get_or stages n stage → mark_at (map mark_of stages) n ≡ mark_of stage
mark_of_at stages n stage inside is = get_or-map mark_of stages n Free mark.Free inside ∙ ap mark_of (sym (get_or_read stages n stage inside is Free))

pub failure_step : (stages : List Stage) (n : ℕ) (stage : Stage) → n < length stages → stage ≡ get_or stages n stage → ((code : ℕ) → stage ≡ Failed code → ⊥)
    → failure_from (values (map mark_of stages)) n (length stages - n) ≡ failure_from (values (map mark_of stages)) (n + 1) (length stages - (n + 1))
failure_step stages n stage inside is sound =
    let v = values (map mark_of stages) in
    let more : length stages - n ≡ suc (length stages - (n + 1)) = omega arith in
    ap (failure_from v n) more
    ∙ (ap (λ m. failure_or n (value_of m) (failure_from v (n + 1) (length stages - (n + 1)))) (mark_of_at stages n stage inside is)
    ∙ goes_on n stage (failure_from v (n + 1) (length stages - (n + 1))) sound)
